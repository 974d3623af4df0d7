use Rattle.std.proofs.Common.{rules}
use Rattle.words.specs.Words.{scaled}
use Rattle.words.proofs.Stored.{paired_stores}
use Rattle.words.proofs.group_algebra.GroupAlgebra.scaled.Goals as goal

pub returns : goal.returns
unfolding scaled
returns g c =
    let k = g.F.Field.symbols c.args.self.now.field in
    paired_stores (λ x y. k.product c.args.a x) _ c.args.w.now c.args.w.now _ (λ d l. let given = c.tabulated.ensures.below d l in search rules) c.tabulated.ensures.rest
