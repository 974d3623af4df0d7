-- Which rows of a book b fit a word y, over a field k, a group g of n dots and the word e of a code.
--     Fits k g e b y s i        s times the syndrome of the row i is y
--     NoFit k g e b y           no row fits y at a scale other than 0
--     LastFit k g e b y s o     o is the last row that fits y at the scale s, or none if there is none
--     Clash k g e b w y s       w is not s times the last row that fits y at the scale s
--     TurnClash k g e b w y     so at some scale other than 0
--     RowClash k g e b i        the row i is a code word, or at some turn clashes with the rows that fit its syndrome
-- What a search answers, whatever code b is the book of.
--     SaysFit k g b y s o         o is the last row that fits y at the scale s
--     SaysFits k g b y o          o is a row that fits y, with its scale
--     SaysClash k g b w y s c     c says whether w and y clash at the scale s
--     SaysTurnClash k g b w y c   c says whether they clash at some scale
--     SaysRowClash k g b r c      c says whether the row r of b clashes
--     SaysPattern k g b j y o     o is the multiple of a row that fits y turned by j, turned back
use Rattle.std.specs.Prelude.{◌≡◌, ℕ, ◌<◌, Bool, ◌≢◌, ◌⊎◌, List, Some, None, Option, MatchBool, MatchOption}
use Rattle.algebra.specs.Fields.{Symbols}
use Rattle.algebra.specs.Groups.{Dots}
use Rattle.words.specs.Stored.{Stores}
use Rattle.words.specs.Words.{Lawful, nought, scaled, syndrome, turned}
use Rattle.words.specs.declared.word.Word.{Word}
use Rattle.books.specs.Books.{BookOf, row_at}
use Rattle.books.specs.Rows.{row_word}
use Rattle.books.specs.declared.book.Book.{Book}
use Rattle.books.specs.declared.book.Row.{Row}
use Rattle.books.specs.declared.fits.Fit.{Fit}

module _ (k : Symbols) (g : Dots) (e : List ℕ) (b : Book) where
  abbrev pub Fits : List ℕ → ℕ → ℕ → Type 0
  Fits y s i = (i < b.count) × (y ≡ scaled k g.order s (syndrome k g e (row_word g.order (row_at b i))))

  abbrev pub NoFit : List ℕ → Type 0
  NoFit y = (s : ℕ) → s < k.order → s ≢ 0 → (i : ℕ) → Fits y s i → ⊥

  abbrev pub LastFit : List ℕ → ℕ → Option ℕ → Type 0
  LastFit y s None = (i : ℕ) → Fits y s i → ⊥
  LastFit y s (Some i) = Fits y s i × ((j : ℕ) → i < j → Fits y s j → ⊥)

  abbrev pub Clash : List ℕ → List ℕ → ℕ → Type 0
  Clash w y s = (i : ℕ) × LastFit y s (Some i) × (w ≢ scaled k g.order s (row_word g.order (row_at b i)))

  abbrev pub TurnClash : List ℕ → List ℕ → Type 0
  TurnClash w y = (s : ℕ) × (s < k.order) × (s ≢ 0) × Clash w y s

  abbrev pub RowClash : ℕ → Type 0
  RowClash i =
      (syndrome k g e (row_word g.order (row_at b i)) ≡ nought g.order)
      ⊎ ((j : ℕ) × (j < g.order) × TurnClash (turned g j (row_word g.order (row_at b i))) (turned g j (syndrome k g e (row_word g.order (row_at b i)))))

pub record SaysFit (k : Symbols) (g : Dots) (b : Book) (y : List ℕ) (s : ℕ) (o : Option ℕ) : Type 0 where
  pub of_book : (e : List ℕ) (t : ℕ) → BookOf k g e t b → Lawful k g.order y → s ≢ 0 → s < k.order → LastFit k g e b y s o

pub record SaysFits (k : Symbols) (g : Dots) (b : Book) (y : List ℕ) (o : Option Fit) : Type 0 where
  pub of_book : (e : List ℕ) (t : ℕ) → BookOf k g e t b → Lawful k g.order y → MatchOption o (NoFit k g e b y) (λ f. (f.scale < k.order) × (f.scale ≢ 0) × Fits k g e b y f.scale f.row)

pub record SaysClash (k : Symbols) (g : Dots) (b : Book) (w y : List ℕ) (s : ℕ) (c : Bool) : Type 0 where
  pub of_book : (e : List ℕ) (t : ℕ) → BookOf k g e t b → Lawful k g.order y → s ≢ 0 → s < k.order → MatchBool c (Clash k g e b w y s) (Clash k g e b w y s → ⊥)

pub record SaysTurnClash (k : Symbols) (g : Dots) (b : Book) (w y : List ℕ) (c : Bool) : Type 0 where
  pub of_book : (e : List ℕ) (t : ℕ) → BookOf k g e t b → Lawful k g.order y → MatchBool c (TurnClash k g e b w y) (TurnClash k g e b w y → ⊥)

pub record SaysRowClash (k : Symbols) (g : Dots) (b : Book) (r : Row) (c : Bool) : Type 0 where
  pub of_book : (e : List ℕ) (t : ℕ) → BookOf k g e t b → (i : ℕ) → i < b.count → r ≡ row_at b i → MatchBool c (RowClash k g e b i) (RowClash k g e b i → ⊥)

pub record SaysPattern (k : Symbols) (g : Dots) (b : Book) (j : ℕ) (y : List ℕ) (o : Option Word) : Type 0 where
  pub of_book : (e : List ℕ) (t : ℕ) → BookOf k g e t b → Lawful k g.order y → MatchOption o (NoFit k g e b (turned g j y)) (λ p. (s : ℕ) × (s < k.order) × (s ≢ 0) × ((i : ℕ) × Fits k g e b (turned g j y) s i × Stores g.order p (turned g (g.inverse j) (scaled k g.order s (row_word g.order (row_at b i))))))
