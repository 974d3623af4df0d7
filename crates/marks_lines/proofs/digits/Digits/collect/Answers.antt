use Rattle.std.proofs.Common.{ℕ, ◌<◌, length, ap, arith, rules}
use Rattle.std.proofs.lemmas.List.{length-drop, length-replicate, take_more_set}
use Rattle.marks_lines.proofs.Appending.{zeros_set}
use Rattle.marks_lines.proofs.Spelling.{taken_more}
use Rattle.marks_lines.proofs.digits.Digits.collect.Goals as goal

pub loop-i-preserved : goal.loop-i-preserved
loop-i-preserved g c =
    let l = c.loop-i in
    let s = c.in_ok-symbols in
    let room : l.i < length l.symbols = omega (arith, length-drop l.i l.symbols, ap length l.invariant.1, length-replicate {A = ℕ}) in
    (rw (take_more_set l.symbols l.i s.field-0 room) (taken_more l.invariant.0 (c.requires.small _ _ (search rules) s.ensures) s.ensures), zeros_set 64 l.i l.symbols l.invariant.1 s.field-0)
