use Rattle.words.specs.Stored.{word}
use Rattle.codes.proofs.EliminationSteps.{Clearing}
use Rattle.codes.proofs.basis.elimination.Elimination.extend.Given as goal

abbrev pub invariant-loop-row : goal.invariant-loop-row
invariant-loop-row g l =
    let n = (g.G.Group.dots l.algebra.group).order in
    Clearing (g.F.Field.symbols l.algebra.field) n l.p (word n l.b) (record { rows = l.initial.row-items }) l.row-index (record { rows = l.row-items })
