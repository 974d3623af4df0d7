use Rattle.std.proofs.Common.{◌≡◌, arith}
use Rattle.books.proofs.AddedRows.{last_dots_more, last_symbols_more}
use Rattle.books.proofs.book.Book.add_seconds.Goals as goal

pub loop-symbol-preserved : goal.loop-symbol-preserved
loop-symbol-preserved g c = last_symbols_more _ _ _ _ _ _ _ _ _ (omega arith) c.loop-symbol.invariant c.add.ensures

pub loop-dot-preserved : goal.loop-dot-preserved
loop-dot-preserved g c =
    let end : c.loop-symbol.symbol ≡ (g.F.Field.symbols c.args.algebra.now.field).order = omega (arith, (g.met.F.Field.lawful c.args.algebra.now.field).sums.least) in
    last_dots_more _ _ _ _ _ _ _ _ _ (omega arith) c.loop-dot.invariant (rw end at c.loop-symbol.invariant)

pub returns : goal.returns
returns g c =
    let end : c.loop-dot.dot ≡ (g.G.Group.dots c.args.algebra.now.group).order = omega arith in
    rw end at c.loop-dot.invariant
