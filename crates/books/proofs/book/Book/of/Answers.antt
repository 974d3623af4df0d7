use Rattle.std.proofs.Common.{inl, inr, refl, arith}
use Rattle.books.proofs.AddedRows.{adds_to, book_made}
use Rattle.books.proofs.book.Book.of.Goals.{then-t-ge1, else-t-ge1, then-t-ge2, else-t-ge2}
use Rattle.books.proofs.book.Book.of.Goals as goal

pub returns-then-t-ge3 : goal.returns-then-t-ge3
returns-then-t-ge3 g c few room =
    book_made (g.met.F.Field.lawful c.args.algebra.now.field).sums _ (g.met.G.Group.lawful c.args.algebra.now.group).least _ _ few room _ c.empty-book.ensures.none c.empty-book.ensures.chained c.if-t-ge1.book c.if-t-ge2.book c.add_pairs.new.self
    (elim c.if-t-ge1.branch [
      | else-t-ge1 w ↦ inr (omega (arith, w.if-t-ge1.false), w.book-is)
      | then-t-ge1 w ↦ inl (omega (arith, w.if-t-ge1.true), adds_to w.book-is w.add.ensures)
    ])
    (elim c.if-t-ge2.branch [
      | else-t-ge2 w ↦ inr (omega (arith, w.if-t-ge2.false), w.book-is)
      | then-t-ge2 w ↦ inl (omega (arith, w.if-t-ge2.true), adds_to w.book-is w.add_seconds.ensures)
    ])
    (inl (omega (arith, c.if-t-ge3.true), c.add_pairs.ensures))

pub returns-else-t-ge3 : goal.returns-else-t-ge3
returns-else-t-ge3 g c few room =
    book_made (g.met.F.Field.lawful c.args.algebra.now.field).sums _ (g.met.G.Group.lawful c.args.algebra.now.group).least _ _ few room _ c.empty-book.ensures.none c.empty-book.ensures.chained c.if-t-ge1.book c.if-t-ge2.book c.if-t-ge2.book
    (elim c.if-t-ge1.branch [
      | else-t-ge1 w ↦ inr (omega (arith, w.if-t-ge1.false), w.book-is)
      | then-t-ge1 w ↦ inl (omega (arith, w.if-t-ge1.true), adds_to w.book-is w.add.ensures)
    ])
    (elim c.if-t-ge2.branch [
      | else-t-ge2 w ↦ inr (omega (arith, w.if-t-ge2.false), w.book-is)
      | then-t-ge2 w ↦ inl (omega (arith, w.if-t-ge2.true), adds_to w.book-is w.add_seconds.ensures)
    ])
    (inr (omega (arith, c.if-t-ge3.false), refl))
