use Rattle.std.proofs.Common.{◌≡◌, ◌<◌, Bool, not, ◌≢◌, MatchBool, ap, ◌∙◌, subst, rules, arith}
use Rattle.words.specs.Stored.{Stores, word}
use Rattle.words.specs.Words.{scaled}
use Rattle.words.specs.declared.word.Word.{Word}
use Rattle.books.specs.Books.{row_at}
use Rattle.books.specs.Rows.{row_word}
use Rattle.books.proofs.Clashes.{clash_at_last}
use Rattle.books.proofs.book.Book.clashes.Goals as goal

pub returns : goal.returns
returns g c =
    let k = g.F.Field.symbols c.args.algebra.now.field in
    let d = g.G.Group.dots c.args.algebra.now.group in
    let n = d.order in
    let b = c.args.self.now in
    let w = word n c.args.word.now in
    let s = c.args.scale in record {
      of_book = λ e t book ly ne ls.
          clash_at_last k d e b w _ s c.fit_at.result c.is_some_and.result _ (c.fit_at.ensures.of_book e t book ly ne ls) c.is_some_and.ensures (λ i call li.
          let below : i < 4096 = omega (arith, b.most) in
          let (a, v, same, row, times, told, is) : (a : Word) × (v : Word) × (same : Bool) × (i < 4096 → Stores n a (row_word n (row_at b i))) × Stores n v (scaled k n s (word n a)) × MatchBool same (w ≡ word n v) (w ≢ word n v) × (c.is_some_and.result ≡ not same) = search rules in
          (same, is, subst (λ x. MatchBool same (w ≡ x) (w ≢ x)) (times.value ∙ ap (scaled k n s) (row below).value) told));
    }
