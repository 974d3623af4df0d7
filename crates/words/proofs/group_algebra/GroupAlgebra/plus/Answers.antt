use Rattle.std.proofs.Common.{rules}
use Rattle.words.specs.Words.{plus}
use Rattle.words.proofs.Stored.{paired_stores}
use Rattle.words.proofs.group_algebra.GroupAlgebra.plus.Goals as goal

pub returns : goal.returns
unfolding plus
returns g c =
    paired_stores (g.F.Field.symbols c.args.self.now.field).sum _ c.args.u.now c.args.v.now _ (λ d l. let given = c.tabulated.ensures.below d l in search rules) c.tabulated.ensures.rest
