use Rattle.codes.proofs.EliminationSteps.{ListedBelow}
use Rattle.codes.proofs.basis.elimination.Elimination.listed.Given as goal

abbrev pub invariant-loop-dot : goal.invariant-loop-dot
invariant-loop-dot g l = ListedBelow (g.G.Group.dots l.algebra.group).order l.self l.dot l.rows l.count
