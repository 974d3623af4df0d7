use Rattle.words.specs.Stored.{word}
use Rattle.words.specs.Words.{Lawful, Keeps}
use Rattle.codes.specs.Eliminations.{Spans}
use Rattle.codes.proofs.basis.elimination.Elimination.spanning.Given as goal

abbrev pub invariant-loop-j : goal.invariant-loop-j
invariant-loop-j g l =
    let k = g.F.Field.symbols l.algebra.field in
    let p = g.G.Group.dots l.algebra.group in
    let n = p.order in
    Lawful k n (word n l.e) → Keeps k p (word n l.e) (word n l.e) → Spans k p (word n l.e) l.j l.elimination
