-- Combinations and residuals made pivot by pivot.
--     combination_below k n P B c m   the sum, over the pivots d below m, of c d times B d
--     residual_below k n P B w m      w less the sum, over the pivots d below m, of w's symbol at d times B d
use Rattle.std.proofs.Common.{◌≡◌, ℕ, ◌+◌, ◌<◌, Bool, true, false, cond, List, sym, refl, ap, ◌∙◌, ap₂, add-one, arith}
use Rattle.std.proofs.lemmas.Bool.{cond-true, cond-false, cond_both}
use Rattle.algebra.specs.Fields.{Symbols, SumProductLaws}
use Rattle.algebra.specs.Groups.{Dots}
use Rattle.words.specs.Words.{at, tabulate, total, Lawful, nought, plus, less, scaled}
use Rattle.algebra.proofs.SumProducts.{zero_below, sum_opposite_cancels, product_zero}
use Rattle.words.proofs.Tabulate.{at_tabulate, tabulate_ext}
use Rattle.words.proofs.Totals.{total_zero, field_adds, total_below}
use Rattle.words.proofs.Linear.{at_less, at_scaled, tabulate_lawful, scaled_lawful}
use Rattle.words.proofs.Differences.{less_nought}
use Rattle.words.proofs.Spans.{less_of_plus}
use Rattle.codes.specs.Eliminations.{combination, residual, Reduced, cleared}

unfoldable pub combination_below : Symbols → ℕ → (ℕ → Bool) → (ℕ → List ℕ) → (ℕ → ℕ) → ℕ → List ℕ
combination_below k n P B c m = tabulate n (λ x. total k (λ d. cond (P d) (k.product (c d) (at (B d) x)) 0) m)

unfoldable pub residual_below : Symbols → ℕ → (ℕ → Bool) → (ℕ → List ℕ) → List ℕ → ℕ → List ℕ
residual_below k n P B w m = less k n w (combination_below k n P B (at w) m)

module _ (k : Symbols) (n : ℕ) (P : ℕ → Bool) (B : ℕ → List ℕ) where
  pub combination_below_none : (c : ℕ → ℕ) → combination_below k n P B c 0 ≡ nought n
  unfolding combination_below total nought
  combination_below_none c = refl

  pub combination_below_all : (c : ℕ → ℕ) → combination_below k n P B c n ≡ combination k n P B c
  unfolding combination_below combination
  combination_below_all c = refl

  pub residual_below_all : (w : List ℕ) → residual_below k n P B w n ≡ residual k n P B w
  unfolding residual_below residual
  residual_below_all w = ap (less k n w) (combination_below_all (at w))

  at_combination_below : (c : ℕ → ℕ) (m x : ℕ) → x < n → at (combination_below k n P B c m) x ≡ total k (λ d. cond (P d) (k.product (c d) (at (B d) x)) 0) m
  unfolding combination_below
  at_combination_below c m x h = at_tabulate n (λ x. total k (λ d. cond (P d) (k.product (c d) (at (B d) x)) 0) m) x h

  pub combination_below_more : (c : ℕ → ℕ) (m : ℕ) → P m ≡ true → combination_below k n P B c (m + 1) ≡ plus k n (combination_below k n P B c m) (scaled k n (c m) (B m))
  unfolding combination_below total plus
  combination_below_more c m p = rw add-one (tabulate_ext n _ _ (λ x h.
      ap₂ k.sum (sym (at_combination_below c m x h)) (cond-true (P m) (k.product (c m) (at (B m) x)) 0 p ∙ sym (at_scaled k n (c m) (B m) x h))))

module _ {k : Symbols} (laws : SumProductLaws k) (n : ℕ) (P : ℕ → Bool) (B : ℕ → List ℕ) where
  pub combination_below_skip : (c : ℕ → ℕ) (m : ℕ) → P m ≡ false → combination_below k n P B c (m + 1) ≡ combination_below k n P B c m
  unfolding combination_below total
  combination_below_skip c m p = rw add-one (tabulate_ext n _ _ (λ x h.
      ap (k.sum (total k (λ d. cond (P d) (k.product (c d) (at (B d) x)) 0) m)) (cond-false (P m) (k.product (c m) (at (B m) x)) 0 p)
      ∙ laws.sum_zero (total k (λ d. cond (P d) (k.product (c d) (at (B d) x)) 0) m) (total_below laws (λ d. cond (P d) (k.product (c d) (at (B d) x)) 0) m)))

  pub combination_below_lawful : (c : ℕ → ℕ) (m : ℕ) → Lawful k n (combination_below k n P B c m)
  unfolding combination_below
  combination_below_lawful c m = tabulate_lawful k n _ (λ x h. total_below laws (λ d. cond (P d) (k.product (c d) (at (B d) x)) 0) m)

  pub residual_below_none : (w : List ℕ) → Lawful k n w → residual_below k n P B w 0 ≡ w
  unfolding residual_below
  residual_below_none w lw = ap (less k n w) (combination_below_none k n P B (at w)) ∙ less_nought laws n w lw

  pub residual_below_skip : (w : List ℕ) (m : ℕ) → P m ≡ false → residual_below k n P B w (m + 1) ≡ residual_below k n P B w m
  unfolding residual_below
  residual_below_skip w m p = ap (less k n w) (combination_below_skip (at w) m p)

-- the symbol at a pivot stays until that pivot's turn
module _ {k : Symbols} (laws : SumProductLaws k) {g : Dots} {e : List ℕ} {P : ℕ → Bool} {B : ℕ → List ℕ} (reduced : Reduced k g e P B) (w : List ℕ) (lw : Lawful k g.order w) (m : ℕ) (h : m < g.order) (p : P m ≡ true) where
  at_residual_below : at (residual_below k g.order P B w m) m ≡ at w m
  unfolding residual_below
  at_residual_below =
      at_less k g.order w (combination_below k g.order P B (at w) m) m h
      ∙ ap₂ (λ y z. k.sum y (k.opposite z)) (sym (laws.sum_zero (at w m) (lw.1 m h))) zero_here
      ∙ sum_opposite_cancels laws (at w m) 0 (lw.1 m h) (zero_below laws)
    where
      zero_here : at (combination_below k g.order P B (at w) m) m ≡ 0
      zero_here = at_combination_below k g.order P B (at w) m m h ∙ total_zero (field_adds laws) _ m (λ d l.
          cond_both (P d) (k.product (at w d) (at (B d) m)) 0 (λ y. y ≡ 0) (λ q. ap (k.product (at w d)) (reduced.zero_at_pivots d (omega arith) q m h p (omega arith)) ∙ product_zero laws (at w d) (lw.1 d (omega arith))) (λ _. refl))

  pub residual_below_more : residual_below k g.order P B w (m + 1) ≡ cleared k g.order m (B m) (residual_below k g.order P B w m)
  unfolding residual_below
  residual_below_more =
      ap (less k g.order w) (combination_below_more k g.order P B (at w) m p)
      ∙ less_of_plus laws g.order w (combination_below k g.order P B (at w) m) (scaled k g.order (at w m) (B m)) lw (combination_below_lawful laws g.order P B (at w) m) (scaled_lawful laws g.order (at w m) (B m))
      ∙ ap (λ a. less k g.order (residual_below k g.order P B w m) (scaled k g.order a (B m))) (sym at_residual_below)
