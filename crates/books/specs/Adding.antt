-- Adding rows to a book, over a field k and a group g, for the code of e.
--     Pushed r b c          c is b with one more row, r but for its place in the chain
--     Grown k g e m P b c   c is b with m more rows: those with P, with their syndromes
--     Adds k g e m P b c    that, where b has room for m rows
--     Exactly p s r         r is the row with the first symbol p and the second symbol s
--     LastDots p n q r      r has the first symbol p, and any symbol but 0 at a later dot below n
--     FirstDots m n q r     r has any symbol but 0 at a dot below m but 0, and one at a later dot
use Rattle.std.specs.Prelude.{◌≡◌, ℕ, ◌+◌, ◌<◌, ◌≤◌, List}
use Rattle.algebra.specs.Fields.{Symbols}
use Rattle.algebra.specs.Groups.{Dots}
use Rattle.words.specs.Stored.{Stores}
use Rattle.words.specs.Words.{syndrome}
use Rattle.books.specs.Books.{Chained, row_at}
use Rattle.books.specs.Rows.{row_word}
use Rattle.books.specs.declared.book.Book.{Book}
use Rattle.books.specs.declared.book.Placed.{Placed}
use Rattle.books.specs.declared.book.Row.{Row}

abbrev pub Exactly : (p s : Placed) → Row → Type 0
Exactly p s r =
    (r.first.dot ≡ p.dot) × (r.first.symbol ≡ p.symbol) × (r.second.dot ≡ s.dot) × (r.second.symbol ≡ s.symbol)

pub record Pushed (r : Row) (b c : Book) : Type 0 where
  pub count : c.count ≡ b.count + 1
  pub kept : (i : ℕ) → i < b.count → row_at c i ≡ row_at b i
  pub symbols : Exactly r.first r.second (row_at c b.count)
  pub syndrome : (row_at c b.count).syndrome ≡ r.syndrome
  pub chained : Chained b → Chained c

pub record Grown (k : Symbols) (g : Dots) (e : List ℕ) (m : ℕ) (P : Row → Type 0) (b c : Book) : Type 0 where
  pub count : c.count ≡ b.count + m
  pub kept : (i : ℕ) → i < b.count → row_at c i ≡ row_at b i
  pub only : (i : ℕ) → b.count ≤ i → i < c.count → P (row_at c i)
  pub all : (r : Row) → P r → (i : ℕ) × (i < c.count) × (row_word g.order (row_at c i) ≡ row_word g.order r)
  pub syndromes : (i : ℕ) → b.count ≤ i → i < c.count → Stores g.order (row_at c i).syndrome (syndrome k g e (row_word g.order (row_at c i)))
  pub chained : Chained b → Chained c

abbrev pub Adds : Symbols → Dots → List ℕ → ℕ → (Row → Type 0) → Book → Book → Type 0
Adds k g e m P b c = b.count + m ≤ 4096 → Grown k g e m P b c

abbrev pub LastDots : Placed → (n q : ℕ) → Row → Type 0
LastDots p n q r =
    (r.first.dot ≡ p.dot) × (r.first.symbol ≡ p.symbol) × (p.dot < r.second.dot) × (r.second.dot < n) × (1 ≤ r.second.symbol) × (r.second.symbol < q)

abbrev pub FirstDots : (m n q : ℕ) → Row → Type 0
FirstDots m n q r =
    (1 ≤ r.first.dot) × (r.first.dot < m) × (1 ≤ r.first.symbol) × (r.first.symbol < q) × (r.first.dot < r.second.dot) × (r.second.dot < n) × (1 ≤ r.second.symbol) × (r.second.symbol < q)
