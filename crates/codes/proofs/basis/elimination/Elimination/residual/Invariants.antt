use Rattle.std.proofs.Common.{◌≡◌, List, ℕ}
use Rattle.words.specs.Stored.{word}
use Rattle.words.specs.Words.{Lawful}
use Rattle.codes.specs.Eliminations.{Reduced, pivot_at, word_at}
use Rattle.codes.proofs.BasisSteps.{residual_below}
use Rattle.codes.proofs.basis.elimination.Elimination.residual.Given as goal

abbrev pub invariant-loop-d : goal.invariant-loop-d
invariant-loop-d g l =
    let k = g.F.Field.symbols l.algebra.field in
    let p = g.G.Group.dots l.algebra.group in
    let n = p.order in
    (e : List ℕ) → Reduced k p e (pivot_at l.self) (word_at n l.self) → Lawful k n (word n l.w) → word n l.rest ≡ residual_below k n (pivot_at l.self) (word_at n l.self) (word n l.w) l.d
