use Rattle.std.proofs.Common.{ℕ, ◌+◌, ◌<◌, List, [], ◌∷◌, length, get_or, sym, ap, arith}
use Rattle.std.proofs.lemmas.List.{map_more}
use Rattle.marks_lines.specs.Held.{held}
use Rattle.marks_lines.proofs.Appending.{appends_more, appends_same}
use Rattle.marks_lines.proofs.line.Line.word.Goals as goal

pub loop-s-preserved : goal.loop-s-preserved
loop-s-preserved c =
    let i = c.loop-s.s-index in
    let e = c.as_slice-s-items.ensures in
    let h : i < length (held c.args.symbols.now) = omega (arith, ap length e) in
    appends_same (ap (λ (xs : List ℕ). 32 ∷ xs) (sym (map_more (λ x. 48 + x) (held c.args.symbols.now) i 0 h))) (appends_more c.loop-s.invariant (appends_same (ap (λ (xs : List ℕ). (48 + get_or xs i 0) ∷ []) e) c.push-in-loop-s.ensures))
