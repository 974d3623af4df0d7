use Rattle.std.proofs.Common.{◌≡◌, ◌∙◌, rules}
use Rattle.words.specs.Words.{at, turned}
use Rattle.words.proofs.Stored.{at_word, given_stores}
use Rattle.words.proofs.group_algebra.GroupAlgebra.turned.Goals as goal

pub returns : goal.returns
unfolding turned
returns g c =
    let p = g.G.Group.dots c.args.self.now.group in
    given_stores _ _ _
    (λ d l.
    let given = c.tabulated.ensures.below d l in
    let here : at c.tabulated.result.symbols d ≡ at c.args.w.now.symbols (p.product (p.inverse c.args.j) d) = search rules in
    here ∙ at_word _ c.args.w.now _ ((g.met.G.Group.lawful c.args.self.now.group).product_below _ _))
    c.tabulated.ensures.rest
