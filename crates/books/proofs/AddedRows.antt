-- The loops that add rows to a book: one turn more of each, and the whole book.
use Rattle.std.proofs.Common.{◌≡◌, ℕ, suc, ◌+◌, ◌-◌, ◌*◌, ◌<◌, ◌≤◌, List, sym, ap, ◌∙◌, subst, ◌⊎◌, inl, inr, suc-mul, add-mul, mul_left_comm, arith}
use Rattle.std.proofs.lemmas.Bool.{cases_lt}
use Rattle.algebra.specs.Fields.{Symbols, SumProductLaws}
use Rattle.algebra.specs.Groups.{Dots}
use Rattle.books.specs.Adding.{Adds, Exactly, FirstDots, Grown, LastDots}
use Rattle.codes.specs.GroupCodes.{choose, rows}
use Rattle.books.specs.Books.{BookOf, Chained, row_at}
use Rattle.books.specs.declared.book.Book.{Book}
use Rattle.books.specs.declared.book.Placed.{Placed}
use Rattle.books.specs.declared.book.Row.{Row}
use Rattle.books.proofs.BookRows.{adds_none, adds_then}
use Rattle.books.proofs.FewSymbols.{Listed, listed_row_word, row_word_listed, unplaced}
use Rattle.books.proofs.RowCounts.{choose_two, rows_one, rows_two, rows_three}

one_more : (a b m : ℕ) → b ≤ a → (a + 1 - b) * m ≡ (a - b) * m + m
one_more a b m h = let e : a + 1 - b ≡ suc (a - b) = omega arith in ap (λ x. x * m) e ∙ suc-mul (a - b) m

-- the rows with the first symbol p, and a symbol below q but 0 at the dot c
abbrev pub LastSymbols : Placed → (c q : ℕ) → Row → Type 0
LastSymbols p c q r =
    (r.first.dot ≡ p.dot) × (r.first.symbol ≡ p.symbol) × (r.second.dot ≡ c) × (1 ≤ r.second.symbol) × (r.second.symbol < q)

-- the rows with a symbol below s but 0 at the dot d, and any but 0 at a later dot below n
abbrev pub FirstSymbols : (d s n q : ℕ) → Row → Type 0
FirstSymbols d s n q r =
    (r.first.dot ≡ d) × (1 ≤ r.first.symbol) × (r.first.symbol < s) × (d < r.second.dot) × (r.second.dot < n) × (1 ≤ r.second.symbol) × (r.second.symbol < q)

module _ (k : Symbols) (g : Dots) (e : List ℕ) (b x y : Book) where
  pub last_symbols_more : (p : Placed) (c s : ℕ) → 1 ≤ s → Adds k g e (s - 1) (LastSymbols p c s) b x → Adds k g e 1 (Exactly p (record { dot = c; symbol = s })) x y → Adds k g e (s + 1 - 1) (LastSymbols p c (s + 1)) b y
  last_symbols_more p c s h = adds_then k g e (s - 1) 1 (s + 1 - 1) (LastSymbols p c s) (Exactly p (record { dot = c; symbol = s })) (LastSymbols p c (s + 1)) b x y (omega arith)
      (λ r a. omega arith) (λ r a. omega arith) (λ r a. elim (cases_lt r.second.symbol s) [ inl lt ↦ inl (omega arith) | inr le ↦ inr (omega arith) ])

  pub last_dots_more : (p : Placed) (c q : ℕ) → suc p.dot ≤ c → Adds k g e ((c - suc p.dot) * (q - 1)) (LastDots p c q) b x → Adds k g e (q - 1) (LastSymbols p c q) x y → Adds k g e ((c + 1 - suc p.dot) * (q - 1)) (LastDots p (c + 1) q) b y
  last_dots_more p c q h = adds_then k g e ((c - suc p.dot) * (q - 1)) (q - 1) ((c + 1 - suc p.dot) * (q - 1)) (LastDots p c q) (LastSymbols p c q) (LastDots p (c + 1) q) b x y (one_more c (suc p.dot) (q - 1) h)
      (λ r a. omega arith) (λ r a. omega arith) (λ r a. elim (cases_lt r.second.dot c) [ inl lt ↦ inl (omega arith) | inr le ↦ inr (omega arith) ])

  pub first_symbols_more : (d s n q m : ℕ) → 1 ≤ s → Adds k g e ((s - 1) * m) (FirstSymbols d s n q) b x → Adds k g e m (LastDots (record { dot = d; symbol = s }) n q) x y → Adds k g e ((s + 1 - 1) * m) (FirstSymbols d (s + 1) n q) b y
  first_symbols_more d s n q m h = adds_then k g e ((s - 1) * m) m ((s + 1 - 1) * m) (FirstSymbols d s n q) (LastDots (record { dot = d; symbol = s }) n q) (FirstSymbols d (s + 1) n q) b x y (one_more s 1 m h)
      (λ r a. omega arith) (λ r a. omega arith) (λ r a. elim (cases_lt r.first.symbol s) [ inl lt ↦ inl (omega arith) | inr le ↦ inr (omega arith) ])

  pub first_dots_more : (d n q m l : ℕ) → 1 ≤ d → Adds k g e m (FirstDots d n q) b x → Adds k g e l (FirstSymbols d q n q) x y → Adds k g e (m + l) (FirstDots (d + 1) n q) b y
  first_dots_more d n q m l h = adds_then k g e m l (m + l) (FirstDots d n q) (FirstSymbols d q n q) (FirstDots (d + 1) n q) b x y (omega arith)
      (λ r a. omega arith) (λ r a. omega arith) (λ r a. elim (cases_lt r.first.dot d) [ inl lt ↦ inl (omega arith) | inr le ↦ inr (omega arith) ])

pub adds_to : {k : Symbols} {g : Dots} {e : List ℕ} {m : ℕ} {P : Row → Type 0} {b x y : Book} → y ≡ x → Adds k g e m P b x → Adds k g e m P b y
adds_to {k} {g} {e} {m} {P} {b} same = subst (Adds k g e m P b) (sym same)

-- the choices of a second dot after d
pub second_dots : (n d p m t : ℕ) → d < n → m + choose (n - d) 2 * (p * p) ≡ t → m + p * ((n - suc d) * p) + choose (n - (d + 1)) 2 * (p * p) ≡ t
second_dots n d p m t h e =
    let i = n - suc d in
    let here : n - d ≡ suc i = omega arith in
    let next : n - (d + 1) ≡ i = omega arith in
    let split : choose (n - d) 2 * (p * p) ≡ i * (p * p) + choose i 2 * (p * p) = ap (λ j. choose j 2 * (p * p)) here ∙ ap (λ j. j * (p * p)) (choose_two i) ∙ add-mul i (choose i 2) (p * p) in
    omega (arith, mul_left_comm p i p, ap (λ j. choose j 2 * (p * p)) next)

-- c has the rows of weight at most s more than b
abbrev Lists : Symbols → Dots → List ℕ → ℕ → Book → Book → Type 0
Lists k g e s b c = Adds k g e (rows g.order k.order s) (Listed g.order k.order s) b c

-- the rows of weight 1, then of weight 2, then of weight 3
module _ {k : Symbols} (laws : SumProductLaws k) (g : Dots) (least : 1 ≤ g.order) (e : List ℕ) (t : ℕ) (few : t ≤ 3) (room : rows g.order k.order t ≤ 4096) (b : Book) (none : b.count ≡ 0) (chain : Chained b) where
  book_of : (s : ℕ) (c : Book) → t ≡ s → Lists k g e s b c → BookOf k g e t c
  book_of s c is adds =
      let grown : Grown k g e (rows g.order k.order t) (Listed g.order k.order t) b c = subst (λ x. Lists k g e x b c) (sym is) adds (omega arith) in
      record {
        count = omega (arith, grown.count);
        row_words = λ i l. listed_row_word laws g.order least t (row_at c i) (grown.only i (omega arith) l);
        syndromes = λ i l. grown.syndromes i (omega arith) l;
        complete = λ a row.
            let (r, listed, same) = row_word_listed k g.order t few a row in
            let (i, l, at) = grown.all r listed in
            (i, l, at ∙ same);
        chained = grown.chained chain;
      }

  lists_one : (x : Book) → Adds k g e 1 (Exactly unplaced unplaced) b x → Lists k g e 1 b x
  lists_one x adds = rw (rows_one g.order k.order) adds

  lists_two : (x y : Book) → Lists k g e 1 b x → Adds k g e ((g.order - 1) * (k.order - 1)) (LastDots unplaced g.order k.order) x y → Lists k g e 2 b y
  lists_two x y = adds_then k g e (rows g.order k.order 1) ((g.order - 1) * (k.order - 1)) (rows g.order k.order 2) (Listed g.order k.order 1) (LastDots unplaced g.order k.order) (Listed g.order k.order 2) b x y
      (rows_two g.order k.order ∙ omega (arith, rows_one g.order k.order)) (λ r. inl) (λ r. inr) (λ r p. p)

  lists_three : (y z : Book) → Lists k g e 2 b y → Adds k g e (choose (g.order - 1) 2 * ((k.order - 1) * (k.order - 1))) (FirstDots g.order g.order k.order) y z → Lists k g e 3 b z
  lists_three y z = adds_then k g e (rows g.order k.order 2) (choose (g.order - 1) 2 * ((k.order - 1) * (k.order - 1))) (rows g.order k.order 3) (Listed g.order k.order 2) (FirstDots g.order g.order k.order) (Listed g.order k.order 3) b y z
      (rows_three g.order k.order ∙ omega (arith, rows_two g.order k.order)) (λ r. inl) (λ r. inr) (λ r p. p)

  -- from x to y, the m rows of P are added if t is at least s, and else none
  abbrev Step : (s m : ℕ) → (Row → Type 0) → Book → Book → Type 0
  Step s m P x y = ((s ≤ t) × Adds k g e m P x y) ⊎ ((t < s) × (y ≡ x))

  pub book_made : (x y z : Book) → Step 1 1 (Exactly unplaced unplaced) b x → Step 2 ((g.order - 1) * (k.order - 1)) (LastDots unplaced g.order k.order) x y
      → Step 3 (choose (g.order - 1) 2 * ((k.order - 1) * (k.order - 1))) (FirstDots g.order g.order k.order) y z → BookOf k g e t z
  book_made x y z (inl one) (inl two) (inl three) = book_of 3 z (omega (arith, three.0)) (lists_three y z (lists_two x y (lists_one x one.1) two.1) three.1)
  book_made x y z (inl one) (inl two) (inr three) = book_of 2 z (omega (arith, two.0, three.0)) (adds_to three.1 (lists_two x y (lists_one x one.1) two.1))
  book_made x y z (inl one) (inr two) (inr three) = book_of 1 z (omega (arith, one.0, two.0)) (adds_to (three.1 ∙ two.1) (lists_one x one.1))
  book_made x y z (inr one) (inr two) (inr three) = book_of 0 z (omega (arith, one.0)) (adds_to (three.1 ∙ two.1 ∙ one.1) (adds_none k g e (Listed g.order k.order 0) b (λ r p. p)))
  book_made x y z (inr one) (inl two) three = absurd (omega (arith, one.0, two.0))
  book_made x y z one (inr two) (inl three) = absurd (omega (arith, two.0, three.0))
