use Rattle.std.proofs.Common.{◌≡◌, ℕ, ◌<◌, Bool, true, false, length, take, rules}
use Rattle.std.proofs.lemmas.Iterator.{YieldsList-from_slice, cases_from_any}
use Rattle.books.specs.Books.{row_at}
use Rattle.books.specs.Fitting.{RowClash, SaysRowClash}
use Rattle.books.specs.declared.book.Row.{Row}
use Rattle.books.proofs.Clashes.{close_decided}
use Rattle.books.proofs.book.Book.too_close.Goals as goal

pub returns : goal.returns
returns g c e t le book =
    let k = g.F.Field.symbols c.args.algebra.now.field in
    let d = g.G.Group.dots c.args.algebra.now.group in
    let b = c.args.self.now in
    let size : length b.rows ≡ 4096 = search rules in
    let Decided : Row → Bool → Type 0 = SaysRowClash k d b in
    close_decided (g.met.F.Field.lawful c.args.algebra.now.field) (g.met.G.Group.lawful c.args.algebra.now.group) e t b book le size c.any.result
    (cases_from_any _ _ _ (λ row. (i : ℕ) → i < b.count → row ≡ row_at b i → RowClash k d e b i) (λ row. (i : ℕ) → i < b.count → row ≡ row_at b i → RowClash k d e b i → ⊥) c.any.ensures.ran (YieldsList-from_slice (take b.count b.rows) (search rules))
    (λ row q call. let (v, told, is) : (v : Bool) × Decided row.now v × (v ≡ true) = search rules in (rw is at told).of_book e t book)
    (λ row q call. let (v, told, is) : (v : Bool) × Decided row.now v × (v ≡ false) = search rules in (search rules, (rw is at told).of_book e t book)))
