use Rattle.std.proofs.Common.{rules}
use Rattle.words.specs.Words.{less}
use Rattle.words.proofs.Stored.{paired_stores}
use Rattle.words.proofs.group_algebra.GroupAlgebra.less.Goals as goal

pub returns : goal.returns
unfolding less
returns g c =
    let k = g.F.Field.symbols c.args.self.now.field in
    paired_stores (λ a b. k.sum a (k.opposite b)) _ c.args.u.now c.args.v.now _ (λ d l. let given = c.tabulated.ensures.below d l in search rules) c.tabulated.ensures.rest
