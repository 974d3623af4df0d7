use Rattle.std.proofs.Common.{refl}
use Rattle.words.proofs.Chief.{algebra_laws}
use Rattle.words.proofs.group_algebra.GroupAlgebra.new.Goals as goal

pub returns : goal.returns
returns g c = record { made = refl; laws = algebra_laws (g.met.F.Field.lawful c.args.field) (g.met.G.Group.lawful c.args.group) }
