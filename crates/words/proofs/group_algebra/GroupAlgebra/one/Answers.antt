use Rattle.words.specs.Words.{one, unit}
use Rattle.words.proofs.group_algebra.GroupAlgebra.one.Goals as goal

pub returns : goal.returns
unfolding one unit
returns g c = c.unit.ensures
