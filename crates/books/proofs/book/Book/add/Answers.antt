use Rattle.std.proofs.Common.{arith}
use Rattle.books.proofs.BookRows.{adds_one}
use Rattle.books.proofs.book.Book.add.Goals as goal

pub returns : goal.returns
returns g c =
    let word_stored = rw c.dots.ensures at (c.word.ensures (omega (arith, (g.met.G.Group.lawful c.args.algebra.now.group).most))) in
    adds_one _ _ _ _ _ _ (rw word_stored.value at c.syndrome-syndrome.ensures) c.push.ensures
