-- The book of a code as it is stored, over a field k and a group g of n dots.
--     row_at b i            the i-th row of the book b
--     RowWord k n t a       a is a word of weight at most t with 1 at dot 0
--     Chained b             the rows of b can be looked up by their syndromes
--     BookOf k g e t b      b lists the words of weight at most t with 1 at dot 0, with their syndromes
use Rattle.std.specs.Prelude.{◌≡◌, ℕ, ◌<◌, ◌≤◌, List, None, slice_index_or}
use Rattle.algebra.specs.Fields.{Symbols}
use Rattle.algebra.specs.Groups.{Dots}
use Rattle.words.specs.Stored.{Stores}
use Rattle.words.specs.Words.{at, Lawful, syndrome, weight}
use Rattle.codes.specs.GroupCodes.{rows}
use Rattle.books.specs.Rows.{LastBefore, bucket, row_of, row_word}
use Rattle.books.specs.declared.book.Book.{Book}
use Rattle.books.specs.declared.book.Row.{Row}

abbrev pub row_at : Book → ℕ → Row
row_at b i = row_of b.rows i

-- a word of weight at most t with 1 at dot 0
abbrev pub RowWord : Symbols → ℕ → ℕ → List ℕ → Type 0
RowWord k n t a = Lawful k n a × (at a 0 ≡ 1) × (weight a ≤ t)

pub record Chained (b : Book) : Type 0 where
  pub heads : (h : ℕ) → h < 1024 → LastBefore b.rows b.count h (slice_index_or b.heads h None)
  pub earlier : (i : ℕ) → i < b.count → LastBefore b.rows i (bucket (row_at b i).syndrome) (row_at b i).earlier

pub record BookOf (k : Symbols) (g : Dots) (e : List ℕ) (t : ℕ) (b : Book) : Type 0 where
  pub count : b.count ≡ rows g.order k.order t
  pub row_words : (i : ℕ) → i < b.count → RowWord k g.order t (row_word g.order (row_at b i))
  pub syndromes : (i : ℕ) → i < b.count → Stores g.order (row_at b i).syndrome (syndrome k g e (row_word g.order (row_at b i)))
  pub complete : (a : List ℕ) → RowWord k g.order t a → (i : ℕ) × (i < b.count) × (row_word g.order (row_at b i) ≡ a)
  pub chained : Chained b
