use Rattle.std.proofs.Common.{◌≡◌, ◌≢◌, rules, tests}
use Rattle.std.proofs.lemmas.Iterator.{first_from_Range}
use Rattle.words.specs.Words.{at}
use Rattle.words.proofs.Stored.{first_difference}
use Rattle.words.proofs.group_algebra.GroupAlgebra.first_difference.Goals as goal

pub returns : goal.returns
returns g c =
    let u = c.args.u.now.symbols in
    let v = c.args.v.now.symbols in
    first_difference _ _ c.args.u.now c.args.v.now c.find.result c.order.ensures (
    first_from_Range _ _ _ _ (λ d. at u d ≢ at v d) (λ d. at u d ≡ at v d) c.find.ensures.ran (λ x q k. search (rules, tests)) (λ x q k. search (rules, tests)))
