use Rattle.std.proofs.Common.{◌≡◌, ℕ, suc, ◌+◌, ◌-◌, ◌*◌}
use Rattle.words.specs.Stored.{word}
use Rattle.books.specs.Adding.{Adds, FirstDots}
use Rattle.codes.specs.GroupCodes.{choose}
use Rattle.books.proofs.AddedRows.{FirstSymbols}
use Rattle.books.proofs.book.Book.add_pairs.Given as goal

abbrev pub invariant-loop-dot : goal.invariant-loop-dot
invariant-loop-dot g l =
    let k = g.F.Field.symbols l.algebra.field in
    let dots = g.G.Group.dots l.algebra.group in
    (m : ℕ) × (m + choose (dots.order - l.dot) 2 * ((k.order - 1) * (k.order - 1)) ≡ choose (dots.order - 1) 2 * ((k.order - 1) * (k.order - 1))) × Adds k dots (word dots.order l.e) m (FirstDots l.dot dots.order k.order) l.initial.self l.self

abbrev pub invariant-loop-symbol : goal.invariant-loop-symbol
invariant-loop-symbol g l =
    let k = g.F.Field.symbols l.algebra.field in
    let dots = g.G.Group.dots l.algebra.group in
    Adds k dots (word dots.order l.e) ((l.symbol - 1) * ((dots.order - suc l.dot) * (k.order - 1))) (FirstSymbols l.dot l.symbol dots.order k.order) l.initial.self l.self
