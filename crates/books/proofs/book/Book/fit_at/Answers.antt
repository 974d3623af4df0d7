use Rattle.std.proofs.Common.{sym, ◌∙◌}
use Rattle.books.proofs.FitRows.{has_inverse, inverse_cancels_at, last_fit}
use Rattle.books.proofs.book.Book.fit_at.Goals as goal

pub returns-in_err-inverse : goal.returns-in_err-inverse
returns-in_err-inverse g c = record {
  of_book = λ e t book ly ne ls. absurd (has_inverse (g.met.F.Field.lawful c.args.algebra.now.field) c.args.scale ne ls (sym c.inverse.ensures ∙ c.in_err-inverse.was));
}

pub returns : goal.returns
returns g c = record {
  of_book = λ e t book ly ne ls.
      let field = g.met.F.Field.lawful c.args.algebra.now.field in
      let (la, one_at) = inverse_cancels_at field c.args.scale ne ls c.in_ok-inverse.inverse (sym c.inverse.ensures ∙ c.in_ok-inverse.was) in
      last_fit field _ (g.met.G.Group.lawful c.args.algebra.now.group).most e t c.args.self.now book _ _ _ _ ly ls la one_at c.scaled.ensures c.find.result (c.find.ensures book.chained);
}
