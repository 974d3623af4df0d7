use Rattle.std.proofs.Common.{rules, tests}
use Rattle.std.proofs.lemmas.Iterator.{first_from_Range}
use Rattle.words.specs.Turns.{Turned}
use Rattle.words.proofs.LeastTurns.{least_turn}
use Rattle.words.proofs.likeness.alike.Goals as goal

pub returns : goal.returns
returns g c =
    let p = g.G.Group.dots c.args.group.now in
    let u = c.args.first.now in
    let v = c.args.second.now in (
      rw c.order-n.ensures at c.in_ok-check_lengths.ensures.0,
      least_turn p u v c.order-n.result c.find.result c.order-n.ensures (
          first_from_Range _ _ _ _ (λ j. Turned p j u v) (λ j. Turned p j u v → ⊥) c.find.ensures.ran (λ x q k. search (rules, tests)) (λ x q k. search (rules, tests))),
    )
