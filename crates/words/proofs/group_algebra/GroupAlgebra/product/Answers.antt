use Rattle.std.proofs.Common.{rules}
use Rattle.words.specs.Words.{times}
use Rattle.words.proofs.Stored.{given_stores}
use Rattle.words.proofs.group_algebra.GroupAlgebra.product.Goals as goal

pub returns : goal.returns
unfolding times
returns g c = given_stores _ _ _ (λ d l. let given = c.tabulated.ensures.below d l in search rules) c.tabulated.ensures.rest
