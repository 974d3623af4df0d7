use Rattle.std.proofs.Common.{◌≡◌, ℕ, ◌<◌, length, get_or}
use Rattle.tables.specs.Tables.{Cancels}
use Rattle.tables.proofs.products.Products.inverses.Given as goal

abbrev pub invariant-loop-a : goal.invariant-loop-a
invariant-loop-a l =
    (length l.inverse-items ≡ l.self.order) × ((k : ℕ) → k < l.a → (get_or l.inverse-items k 0 < l.self.order) × Cancels l.self.order l.self.rows.now k (get_or l.inverse-items k 0))
