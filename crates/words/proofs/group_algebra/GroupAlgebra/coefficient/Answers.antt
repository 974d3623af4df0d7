use Rattle.std.proofs.Common.{ℕ, ap, ◌∙◌, ap₂, rules}
use Rattle.words.specs.Words.{at, total}
use Rattle.words.proofs.Stored.{at_word}
use Rattle.words.proofs.Totals.{total_cong, total_folded}
use Rattle.words.proofs.group_algebra.GroupAlgebra.coefficient.Goals as goal

pub returns : goal.returns
returns g c =
    let k = g.F.Field.symbols c.args.self.now.field in
    let p = g.G.Group.dots c.args.self.now.group in
    let term : ℕ → ℕ = λ h. k.product (at c.args.u.now.symbols h) (at c.args.v.now.symbols (p.product (p.inverse h) c.args.x)) in
    total_folded _ k term c.order.result c.fold.result _ (λ a d b q call. search rules) c.fold.ensures.ran
    ∙ ap (total k term) c.order.ensures
    ∙ total_cong k term _ p.order (λ h l. ap₂ k.product (at_word _ c.args.u.now h l) (at_word _ c.args.v.now _ ((g.met.G.Group.lawful c.args.self.now.group).product_below _ _)))
