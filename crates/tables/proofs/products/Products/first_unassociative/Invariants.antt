use Rattle.std.proofs.Common.{ℕ, ◌<◌}
use Rattle.tables.specs.Tables.{Associates}
use Rattle.tables.proofs.products.Products.first_unassociative.Given as goal

abbrev pub invariant-loop-a : goal.invariant-loop-a
invariant-loop-a l = (a b c : ℕ) → a < l.a → b < l.self.order → c < l.self.order → Associates l.self.order l.self.rows.now a b c

abbrev pub invariant-loop-b : goal.invariant-loop-b
invariant-loop-b l = (b c : ℕ) → b < l.b → c < l.self.order → Associates l.self.order l.self.rows.now l.a b c

abbrev pub invariant-loop-c : goal.invariant-loop-c
invariant-loop-c l = (c : ℕ) → c < l.c → Associates l.self.order l.self.rows.now l.a l.b c
