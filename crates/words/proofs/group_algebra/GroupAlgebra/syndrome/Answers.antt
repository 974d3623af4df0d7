use Rattle.std.proofs.Common.{rules}
use Rattle.words.specs.Words.{syndrome}
use Rattle.words.proofs.group_algebra.GroupAlgebra.syndrome.Goals as goal

pub returns : goal.returns
unfolding syndrome
returns g c = search rules
