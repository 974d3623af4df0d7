use Rattle.std.proofs.Common.{◌<◌, refl, arith, Some, None, rules, inl}
use borrow.Author.Tests.{tests}
use Rattle.std.proofs.lemmas.Iterator.{first_from_Range}
use Rattle.words.specs.Stored.{word}
use Rattle.reader.specs.Loads.{Commutes}
use Rattle.reader.proofs.code.judge.check_central.Goals as goal

pub returns-in-Some : goal.returns-in-Some
returns-in-Some g c =
    let k = g.F.Field.symbols c.args.algebra.now.field in
    let dots = g.G.Group.dots c.args.algebra.now.group in
    let commutes = Commutes k dots (word dots.order c.args.e.now) in
    let first = first_from_Range _ _ _ (Some c.in-Some.d) (λ d. d < dots.order → commutes d → ⊥) (λ d. d < dots.order → commutes d) c.in-Some.ensures.ran (λ x q call. search (rules, tests)) (λ x q call. search (rules, tests)) in
    let below = rw c.dots.ensures at first.1 in
    rw c.refuses.ensures (inl (c.in-Some.d, below, (first.2 below, λ j h. first.3 j (omega arith) h (omega arith)), refl))

pub returns-in-None : goal.returns-in-None
returns-in-None g c =
    let k = g.F.Field.symbols c.args.algebra.now.field in
    let dots = g.G.Group.dots c.args.algebra.now.group in
    let commutes = Commutes k dots (word dots.order c.args.e.now) in
    let none = first_from_Range _ _ _ None (λ d. d < dots.order → commutes d → ⊥) (λ d. d < dots.order → commutes d) c.in-None.ensures.ran (λ x q call. search (rules, tests)) (λ x q call. search (rules, tests)) in
    ((λ d h. none d (omega arith) (omega (arith, c.dots.ensures)) h, tt), tt)
