use Rattle.std.proofs.Common.{◌≡◌, arith}
use Rattle.books.proofs.AddedRows.{first_dots_more, first_symbols_more, second_dots}
use Rattle.books.proofs.book.Book.add_pairs.Goals as goal

pub loop-symbol-preserved : goal.loop-symbol-preserved
loop-symbol-preserved g c = first_symbols_more _ _ _ _ _ _ _ _ _ _ _ (omega arith) c.loop-symbol.invariant c.add_seconds.ensures

pub loop-dot-preserved : goal.loop-dot-preserved
loop-dot-preserved g c =
    let end : c.loop-symbol.symbol ≡ (g.F.Field.symbols c.args.algebra.now.field).order = omega (arith, (g.met.F.Field.lawful c.args.algebra.now.field).sums.least) in
    let (m, sum, adds) = c.loop-dot.invariant in
    (_, second_dots _ _ _ m _ (omega arith) sum, first_dots_more _ _ _ _ _ _ _ _ _ m _ (omega arith) adds (rw end at c.loop-symbol.invariant))
