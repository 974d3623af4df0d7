use Rattle.std.proofs.Common.{ℕ, rules, arith}
use Rattle.std.proofs.iter.runs.Sources.{ranges}
use Rattle.std.proofs.lemmas.Iterator.{first_from_Range}
use borrow.Author.Tests.{tests}
use Rattle.tables.specs.Tables.{Cancels}
use Rattle.tables.proofs.products.Products.inverse.Goals as goal

pub overflow_cast-result : goal.overflow_cast-result
overflow_cast-result c = search (rules, ranges)

pub returns-in-None : goal.returns-in-None
returns-in-None c =
    let cancels : ℕ → Type 0 = Cancels c.args.self.now.order c.args.self.now.rows.now c.args.a in
    let none = rw c.in-None.is at (first_from_Range _ _ _ _ cancels (λ b. cancels b → ⊥) c.find.ensures.ran (λ x q h. search (rules, tests)) (λ x q h. search (rules, tests))) in
    (c.refuses.ensures, λ found. none found.0 (omega arith) found.1 found.2)
