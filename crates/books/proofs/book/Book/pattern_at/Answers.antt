use Rattle.std.proofs.Common.{ℕ, List, sym, ap, ◌∙◌, subst, arith}
use Rattle.words.specs.Stored.{Stores}
use Rattle.words.specs.Words.{scaled, turned}
use Rattle.books.specs.Fitting.{NoFit}
use Rattle.books.proofs.FoundPatterns.{turn_lawful}
use Rattle.books.proofs.book.Book.pattern_at.Goals as goal

pub returns-in_err-fit : goal.returns-in_err-fit
returns-in_err-fit g c = record {
  of_book = λ e t book ly.
      let d = g.G.Group.dots c.args.algebra.now.group in
      let lawful = turn_lawful (g.met.F.Field.lawful c.args.algebra.now.field).sums d c.args.j c.args.syndrome.now c.turned.result c.turned.ensures ly in
      rw c.from_residual.ensures (subst (NoFit (g.F.Field.symbols c.args.algebra.now.field) d e c.args.self.now) c.turned.ensures.value (c.in_err-fit.ensures.of_book e t book lawful));
}

pub returns : goal.returns
returns g c = record {
  of_book = λ e t book ly.
      let k = g.F.Field.symbols c.args.algebra.now.field in
      let d = g.G.Group.dots c.args.algebra.now.group in
      let f = c.in_ok-fit.fit in
      let lawful = turn_lawful (g.met.F.Field.lawful c.args.algebra.now.field).sums d c.args.j c.args.syndrome.now c.turned.result c.turned.ensures ly in
      let found = c.in_ok-fit.ensures.of_book e t book lawful in
      let word = c.scaled.ensures.value ∙ ap (scaled k d.order f.scale) (c.row_word-row.ensures (omega (arith, found.2.0, c.args.self.now.most))).value in (
        f.scale,
        found.0,
        found.1,
        (f.row, (found.2.0, sym c.turned.ensures.value ∙ found.2.1), subst (λ (x : List ℕ). Stores d.order c.turned_back.result (turned d (d.inverse c.args.j) x)) word c.turned_back.ensures),
      );
}
