use Rattle.std.proofs.Common.{ℕ, inl, rules, arith}
use Rattle.std.proofs.lemmas.Iterator.{first_from_Range}
use borrow.Author.Tests.{tests}
use Rattle.tables.specs.Tables.{Kept}
use Rattle.tables.proofs.products.Products.check_identity.Goals as goal

pub returns-in-Some : goal.returns-in-Some
returns-in-Some c =
    let kept : ℕ → Type 0 = Kept c.args.self.now.order c.args.self.now.rows.now in
    let found = rw c.in-Some.is at (first_from_Range _ _ _ _ (λ a. kept a → ⊥) kept c.find.ensures.ran (λ x q h. search (rules, tests)) (λ x q h. search (rules, tests))) in
    inl (_, found.1, (found.2, λ j h. found.3 j (omega arith) h), c.refuses.ensures)

pub returns-in-None : goal.returns-in-None
returns-in-None c =
    let kept : ℕ → Type 0 = Kept c.args.self.now.order c.args.self.now.rows.now in
    let none = rw c.in-None.is at (first_from_Range _ _ _ _ (λ a. kept a → ⊥) kept c.find.ensures.ran (λ x q h. search (rules, tests)) (λ x q h. search (rules, tests))) in
    ((λ i h. none i (omega arith) h, tt), tt)
