use Rattle.std.proofs.Common.{suc, ◌-◌, ◌*◌}
use Rattle.words.specs.Stored.{word}
use Rattle.books.specs.Adding.{Adds, LastDots}
use Rattle.books.proofs.AddedRows.{LastSymbols}
use Rattle.books.proofs.book.Book.add_seconds.Given as goal

abbrev pub invariant-loop-dot : goal.invariant-loop-dot
invariant-loop-dot g l =
    let k = g.F.Field.symbols l.algebra.field in
    let dots = g.G.Group.dots l.algebra.group in
    Adds k dots (word dots.order l.e) ((l.dot - suc l.first.dot) * (k.order - 1)) (LastDots l.first l.dot k.order) l.initial.self l.self

abbrev pub invariant-loop-symbol : goal.invariant-loop-symbol
invariant-loop-symbol g l =
    let k = g.F.Field.symbols l.algebra.field in
    let dots = g.G.Group.dots l.algebra.group in
    Adds k dots (word dots.order l.e) (l.symbol - 1) (LastSymbols l.first l.dot l.symbol) l.initial.self l.self
