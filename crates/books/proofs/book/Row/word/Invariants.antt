use Rattle.std.proofs.Common.{◌≡◌, ℕ, ◌<◌}
use Rattle.words.specs.Words.{at}
use Rattle.books.specs.Rows.{row_symbol}
use Rattle.books.proofs.book.Row.word.Given as goal

abbrev pub invariant-loop-d : goal.invariant-loop-d
invariant-loop-d l = (k : ℕ) → k < l.d → at l.symbol-items k ≡ row_symbol l.self k
