use Rattle.std.proofs.Common.{◌≡◌, ◌≢◌, rules}
use Rattle.std.proofs.lemmas.Iterator.{first_from_Range}
use borrow.Author.Tests.{tests}
use Rattle.algebra.proofs.FieldInverses.{search_is_inverse}
use Rattle.algebra.proofs.field.Field.inverse.Goals as goal

pub returns : goal.returns
returns g c =
    let k = g.Self.Field.symbols c.args.self.now in
    search_is_inverse (g.met.Self.Field.lawful c.args.self.now) c.args.a _ c.find.result c.order.ensures
    (first_from_Range _ _ _ _ (λ b. k.product c.args.a b ≡ 1) (λ b. k.product c.args.a b ≢ 1) c.find.ensures.ran (λ x q h. search (rules, tests)) (λ x q h. search (rules, tests)))
