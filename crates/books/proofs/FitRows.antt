-- Rows that fit a word: one is looked up by the word divided by the scale.
use Rattle.std.proofs.Common.{◌≡◌, ℕ, ◌<◌, ◌≤◌, ◌≢◌, List, Some, None, Option, sym, ap, ◌∙◌, arith, MatchOption}
use Rattle.algebra.specs.Fields.{Symbols, FieldLaws}
use Rattle.algebra.specs.Groups.{Dots}
use Rattle.words.specs.Stored.{Stores, word}
use Rattle.words.specs.Words.{Lawful, scaled, syndrome}
use Rattle.words.specs.declared.word.Word.{Word}
use Rattle.words.proofs.Linear.{syndrome_lawful}
use Rattle.words.proofs.Stored.{same_front, stored_same}
use Rattle.words.proofs.Weights.{scaled_back}
use Rattle.books.specs.Fitting.{Fits, LastFit, NoFit}
use Rattle.books.specs.Books.{BookOf, row_at}
use Rattle.books.specs.Rows.{row_word}
use Rattle.books.specs.declared.book.Book.{Book}
use Rattle.books.specs.declared.fits.Fit.{Fit}

module _ {k : Symbols} (field : FieldLaws k) (s : ℕ) (ne : s ≢ 0) (ls : s < k.order) where
  pub has_inverse : k.inverse s ≡ None → ⊥
  has_inverse none =
      let (a, some, _, _) = field.inverse_cancels s ls ne in
      let z : ◌≡◌ {A = ℕ} 0 1 = cc in
      omega arith

  pub inverse_cancels_at : (a : ℕ) → k.inverse s ≡ Some a → (a < k.order) × (k.product s a ≡ 1)
  inverse_cancels_at a is =
      let (a', some, la, one_at) = field.inverse_cancels s ls ne in
      let same : a' ≡ a = cc in
      (rw (← same) la, rw (← same) one_at)

module _ {k : Symbols} (field : FieldLaws k) (g : Dots) (most : g.order ≤ 64) (e : List ℕ) (t : ℕ) (b : Book) (book : BookOf k g e t b) (y : List ℕ) (s a : ℕ) (query : Word) (ly : Lawful k g.order y) (ls : s < k.order) (la : a < k.order) (one_at : k.product s a ≡ 1) (stored : Stores g.order query (scaled k g.order a y)) where
  row_fits : (i : ℕ) → i < b.count → word 64 (row_at b i).syndrome ≡ word 64 query → Fits k g e b y s i
  row_fits i li same = (
    li,
    sym (scaled_back field.sums g.order a s y la ls (field.sums.product_commutative a s la ls ∙ one_at) ly)
        ∙ ap (scaled k g.order s) (sym stored.value ∙ sym (same_front g.order (row_at b i).syndrome query most same) ∙ (book.syndromes i li).value),
  )

  fit_is_row : (i : ℕ) → Fits k g e b y s i → word 64 (row_at b i).syndrome ≡ word 64 query
  fit_is_row i (li, fit) =
      let own = syndrome k g e (row_word g.order (row_at b i)) in
      let divided : scaled k g.order a y ≡ own =
      ap (scaled k g.order a) fit ∙ scaled_back field.sums g.order s a own ls la one_at (syndrome_lawful field.sums g e (row_word g.order (row_at b i))) in
      stored_same g.order (row_at b i).syndrome query own (book.syndromes i li) (rw divided at stored)

  pub last_fit : (o : Option ℕ) → MatchOption o ((i : ℕ) → i < b.count → word 64 (row_at b i).syndrome ≢ word 64 query) (λ i. (i < b.count) × (word 64 (row_at b i).syndrome ≡ word 64 query) × ((j : ℕ) → i < j → j < b.count → word 64 (row_at b j).syndrome ≢ word 64 query)) → LastFit k g e b y s o
  last_fit None none = λ i fit. none i fit.0 (fit_is_row i fit)
  last_fit (Some i) found = (row_fits i found.0 found.1, λ j lt fit. found.2 j lt fit.0 (fit_is_row j fit))

-- what a search over the scales 1, 2, .. below q says
pub fit_found : (k : Symbols) (g : Dots) (e : List ℕ) (b : Book) (y : List ℕ) (o : Option Fit) (q : ℕ) → q ≡ k.order
    → MatchOption o ((s : ℕ) → 1 ≤ s → s < q → s ≢ 0 → s < k.order → (i : ℕ) → Fits k g e b y s i → ⊥) (λ f. (s : ℕ) × (1 ≤ s) × (s < q) × ((f.scale ≡ s) × (s ≢ 0 → s < k.order → Fits k g e b y s f.row)) × ((m : ℕ) → 1 ≤ m → m < s → m ≢ 0 → m < k.order → (i : ℕ) → Fits k g e b y m i → ⊥))
    → MatchOption o (NoFit k g e b y) (λ f. (f.scale < k.order) × (f.scale ≢ 0) × Fits k g e b y f.scale f.row)
fit_found k g e b y None q end none = λ s ls ne. none s (omega arith) (omega arith) ne ls
fit_found k g e b y (Some f) q end (s, lo, hi, (same, fits), _) =
    let ls : s < k.order = omega arith in
    let ne : s ≢ 0 = omega arith in
    (omega arith, omega arith, rw same (fits ne ls))
