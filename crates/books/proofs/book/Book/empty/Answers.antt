use Rattle.std.proofs.Common.{refl}
use Rattle.books.proofs.Chains.{empty_chained}
use Rattle.books.proofs.book.Book.empty.Goals as goal

pub returns-clause-chained : goal.returns-clause-chained
returns-clause-chained c = empty_chained _ refl refl
