use Rattle.std.proofs.Common.{◌≤◌}
use Rattle.books.specs.Books.{Chained}
use Rattle.books.proofs.Chains.{Walked}
use Rattle.books.proofs.book.Book.find.Given as goal

abbrev pub invariant-loop-next : goal.invariant-loop-next
invariant-loop-next l = (l.bound ≤ l.self.count) × (Chained l.self → Walked l.self l.syndrome l.bound l.next)

abbrev pub decreases-loop-next : goal.decreases-loop-next
decreases-loop-next l = l.bound
