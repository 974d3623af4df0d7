-- The elimination that finds the basis of a code. P says which dots are pivots, and B d is the word of the pivot d.
--     combination k n P B c     the sum, over the pivots d, of c d times B d
--     residual k n P B w        w less the combination that has w's symbols at the pivots
--     Reduced k g e P B         each B d is a code word with 1 at d, and 0 before d and at the other pivots
--     cleared k n p b u         u less b scaled by u at p
--     Extended k n P B p b Q A  Q has the pivot p besides those of P; A has b at p, and at each other pivot d the word B d cleared
--     pivots n P                the numbers below n that P calls pivots, rising
--     pivot_at s d, word_at n s d   whether d is a pivot of the elimination s, and its word
--     Within k n s w            w is a combination of the words of s
--     Absorbs k g e s w s'      s' is reduced, and what is within s is within s', as w is
--     Spans k g e m s           s is reduced, and the turns of e by the dots below m are within s
--     Listed n s b              b lists the pivots of s, rising, with their words
use Rattle.std.specs.Prelude.{◌≡◌, ℕ, zero, suc, ◌<◌, Bool, true, cond, ◌≢◌, List, [], ◌∷◌, ◌++◌, length, slice_index, slice_index_or, None, is_some, unwrap_or}
use Rattle.algebra.specs.Fields.{Symbols}
use Rattle.algebra.specs.Groups.{Dots}
use Rattle.words.specs.Stored.{word}
use Rattle.words.specs.Words.{at, tabulate, total, Lawful, nought, less, scaled, turned, Keeps}
use Rattle.codes.specs.Bases.{no_word, basis_dots, basis_word}
use Rattle.codes.specs.declared.basis.Basis.{Basis}
use Rattle.codes.specs.declared.basis.elimination.Elimination.{Elimination}

unfoldable pub combination : Symbols → ℕ → (ℕ → Bool) → (ℕ → List ℕ) → (ℕ → ℕ) → List ℕ
combination k n P B c = tabulate n (λ x. total k (λ d. cond (P d) (k.product (c d) (at (B d) x)) 0) n)

unfoldable pub residual : Symbols → ℕ → (ℕ → Bool) → (ℕ → List ℕ) → List ℕ → List ℕ
residual k n P B w = less k n w (combination k n P B (at w))

pub record Reduced (k : Symbols) (g : Dots) (e : List ℕ) (P : ℕ → Bool) (B : ℕ → List ℕ) : Type 0 where
  pub keeps : (d : ℕ) → d < g.order → P d ≡ true → Keeps k g e (B d)
  pub one_here : (d : ℕ) → d < g.order → P d ≡ true → at (B d) d ≡ 1
  pub zero_before : (d : ℕ) → d < g.order → P d ≡ true → (x : ℕ) → x < d → at (B d) x ≡ 0
  pub zero_at_pivots : (d : ℕ) → d < g.order → P d ≡ true → (x : ℕ) → x < g.order → P x ≡ true → x ≢ d → at (B d) x ≡ 0

abbrev pub cleared : Symbols → ℕ → ℕ → List ℕ → List ℕ → List ℕ
cleared k n p b u = less k n u (scaled k n (at u p) b)

pub record Extended (k : Symbols) (n : ℕ) (P : ℕ → Bool) (B : ℕ → List ℕ) (p : ℕ) (b : List ℕ) (Q : ℕ → Bool) (A : ℕ → List ℕ) : Type 0 where
  pub pivot_here : Q p ≡ true
  pub pivots_other : (d : ℕ) → d < n → d ≢ p → Q d ≡ P d
  pub word_here : A p ≡ b
  pub words_other : (d : ℕ) → d < n → P d ≡ true → d ≢ p → A d ≡ cleared k n p b (B d)

unfoldable pub pivots : ℕ → (ℕ → Bool) → List ℕ
pivots zero P = []
pivots (suc n) P = pivots n P ++ cond (P n) (n ∷ []) []

abbrev pub pivot_at : Elimination → ℕ → Bool
pivot_at s d = is_some (slice_index_or s.rows d None)

abbrev pub word_at : ℕ → Elimination → ℕ → List ℕ
word_at n s d = word n (unwrap_or (slice_index_or s.rows d None) no_word)

abbrev pub Within : Symbols → ℕ → Elimination → List ℕ → Type 0
Within k n s w = residual k n (pivot_at s) (word_at n s) w ≡ nought n

pub record Absorbs (k : Symbols) (g : Dots) (e : List ℕ) (s : Elimination) (w : List ℕ) (s' : Elimination) : Type 0 where
  pub reduced : Reduced k g e (pivot_at s') (word_at g.order s')
  pub absorbed : Within k g.order s' w
  pub still : (v : List ℕ) → Lawful k g.order v → Within k g.order s v → Within k g.order s' v

pub record Spans (k : Symbols) (g : Dots) (e : List ℕ) (m : ℕ) (s : Elimination) : Type 0 where
  pub reduced : Reduced k g e (pivot_at s) (word_at g.order s)
  pub turns : (j : ℕ) → j < m → Within k g.order s (turned g j e)

pub record Listed (n : ℕ) (s : Elimination) (b : Basis) : Type 0 where
  pub dots : basis_dots b ≡ pivots n (pivot_at s)
  pub count : b.count ≡ length (pivots n (pivot_at s))
  pub words : (i : ℕ) → i < b.count → basis_word n b i ≡ word_at n s (slice_index (basis_dots b) i)
