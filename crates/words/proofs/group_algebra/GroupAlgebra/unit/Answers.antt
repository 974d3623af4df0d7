use Rattle.std.proofs.Common.{refl, arith}
use Rattle.words.proofs.Stored.{marked_stores, unmarked_stores}
use Rattle.words.proofs.group_algebra.GroupAlgebra.unit.Goals as goal

pub returns-then-d-order : goal.returns-then-d-order
returns-then-d-order g c = marked_stores _ _ _ (omega arith) (g.met.G.Group.lawful c.args.self.now.group).most refl

pub returns-else-d-order : goal.returns-else-d-order
returns-else-d-order g c = unmarked_stores _ _ _ (omega arith) refl
