-- Weights: what keeps them, what bounds them, and the one word of weight 0.
use Rattle.std.proofs.Common.{◌≡◌, ℕ, zero, suc, ◌+◌, ◌<◌, ◌≤◌, ◌≢◌, List, length, sym, ap, ◌∙◌, ap₂, inl, inr, arith}
use Rattle.std.proofs.lemmas.Bool.{cases_eq}
use Rattle.algebra.specs.Fields.{Symbols, SumProductLaws, FieldLaws}
use Rattle.algebra.specs.Groups.{Dots, GroupLaws}
use Rattle.words.specs.Words.{at, total, nought, plus, less, scaled, turned, weight, Lawful}
use Rattle.algebra.proofs.SumProducts.{zero_below, product_zero, one_product}
use Rattle.words.proofs.Groups.{product_back, product_forth}
use Rattle.words.proofs.Counting.{mark, mark_other, mark_zero, numbers, numbers_add, weight_is_total}
use Rattle.words.proofs.Tabulate.{length_tabulate, tabulate_is}
use Rattle.words.proofs.Totals.{total_cong, total_zero, total_renumbered}
use Rattle.words.proofs.Linear.{back, at_nought, at_plus, at_less, at_scaled, at_turned, nought_lawful, plus_lawful, less_lawful, scaled_lawful}
use Rattle.words.proofs.Turning.{length_turned}

mark_below : (x a : ℕ) → (a ≡ 0 → x ≡ 0) → mark x ≤ a
mark_below x a z = elim (cases_eq a 0) [
  | inl e ↦ omega (arith, mark_zero x (z e))
  | inr ne ↦ elim (cases_eq x 0) [
    | inl e ↦ omega (arith, mark_zero x e)
    | inr nx ↦ omega (arith, mark_other x nx)
  ]
]

zero_from_mark : (x : ℕ) → mark x ≡ 0 → x ≡ 0
zero_from_mark x e = elim (cases_eq x 0) [ inl z ↦ z | inr ne ↦ absurd (omega (arith, mark_other x ne)) ]

total_le : (f a b : ℕ → ℕ) (n : ℕ) → ((d : ℕ) → d < n → f d ≤ a d + b d) → total numbers f n ≤ total numbers a n + total numbers b n
unfolding total
total_le f a b zero below = omega arith
total_le f a b (suc n) below = omega (arith, total_le f a b n (λ d h. below d (omega arith)), below n (omega arith))

terms_zero : (f : ℕ → ℕ) (n : ℕ) → total numbers f n ≡ 0 → (d : ℕ) → d < n → f d ≡ 0
unfolding total
terms_zero f zero e d h = absurd (omega arith)
terms_zero f (suc n) e d h = elim (cases_eq d n) [
  | inl s ↦ ap f s ∙ omega arith
  | inr ne ↦ terms_zero f n (omega arith) d (omega arith)
]

-- a word that is 0 where u and v are
pub weight_below : (n : ℕ) (u v w : List ℕ) → length u ≡ n → length v ≡ n → length w ≡ n → ((d : ℕ) → d < n → at u d ≡ 0 → at v d ≡ 0 → at w d ≡ 0) → weight w ≤ weight u + weight v
weight_below n u v w lu lv lw zeros =
    let below = total_le (λ d. mark (at w d)) (λ d. mark (at u d)) (λ d. mark (at v d)) n (λ d h.
    mark_below (at w d) (mark (at u d) + mark (at v d)) (λ e. zeros d h (zero_from_mark (at u d) (omega arith)) (zero_from_mark (at v d) (omega arith)))) in
    omega (arith, weight_is_total n u lu, weight_is_total n v lv, weight_is_total n w lw)

pub weight_nought : (n : ℕ) → weight (nought n) ≡ 0
unfolding nought
weight_nought n =
    weight_is_total n (nought n) (length_tabulate n (λ d. 0))
    ∙ total_zero numbers_add (λ d. mark (at (nought n) d)) n (λ d h. mark_zero (at (nought n) d) (at_nought n d h))

pub nought_from_weight : (n : ℕ) (w : List ℕ) → length w ≡ n → weight w ≡ 0 → w ≡ nought n
unfolding nought
nought_from_weight n w l e = tabulate_is n _ w l (λ d h.
    zero_from_mark (at w d) (terms_zero (λ d. mark (at w d)) n (sym (weight_is_total n w l) ∙ e) d h))

pub weight_turned : {g : Dots} → GroupLaws g → (j : ℕ) (w : List ℕ) → j < g.order → length w ≡ g.order → weight (turned g j w) ≡ weight w
weight_turned {g} group j w lj l =
    weight_is_total g.order (turned g j w) (length_turned g j w)
    ∙ total_cong numbers _ _ g.order (λ d h. ap mark (at_turned g j w d h))
    ∙ total_renumbered numbers_add (λ d. mark (at w d)) (back g j) (g.product j) g.order
    (λ d. tt) (λ h _. group.product_below (g.inverse j) h) (λ h _. group.product_below j h) (λ h. product_forth group j h lj) (λ h. product_back group j h lj)
    ∙ sym (weight_is_total g.order w l)

module _ {k : Symbols} (laws : SumProductLaws k) (n : ℕ) where
  pub weight_plus : (u v : List ℕ) → length u ≡ n → length v ≡ n → weight (plus k n u v) ≤ weight u + weight v
  weight_plus u v lu lv = weight_below n u v (plus k n u v) lu lv (plus_lawful laws n u v).0 (λ d h eu ev.
      at_plus k n u v d h ∙ ap₂ k.sum eu ev ∙ laws.sum_zero 0 (zero_below laws))

  pub weight_less : (u v : List ℕ) → length u ≡ n → length v ≡ n → weight (less k n u v) ≤ weight u + weight v
  weight_less u v lu lv = weight_below n u v (less k n u v) lu lv (less_lawful laws n u v).0 (λ d h eu ev.
      at_less k n u v d h ∙ ap₂ (λ x y. k.sum x (k.opposite y)) eu ev ∙ laws.sum_opposite 0 (zero_below laws))

  pub weight_scaled_le : (a : ℕ) (w : List ℕ) → a < k.order → length w ≡ n → weight (scaled k n a w) ≤ weight w
  weight_scaled_le a w la l =
      let below = weight_below n w (nought n) (scaled k n a w) l (nought_lawful laws n).0 (scaled_lawful laws n a w).0 (λ d h e _.
      at_scaled k n a w d h ∙ ap (k.product a) e ∙ product_zero laws a la) in
      omega (arith, weight_nought n)

  pub scaled_back : (a b : ℕ) (w : List ℕ) → a < k.order → b < k.order → k.product a b ≡ 1 → Lawful k n w → scaled k n b (scaled k n a w) ≡ w
  unfolding scaled
  scaled_back a b w la lb e lw = sym (tabulate_is n _ w lw.0 (λ d h. sym (
      ap (k.product b) (at_scaled k n a w d h)
      ∙ sym (laws.product_associative b a (at w d) lb la (lw.1 d h))
      ∙ ap (λ x. k.product x (at w d)) (laws.product_commutative b a lb la ∙ e)
      ∙ one_product laws (at w d) (lw.1 d h))))

  pub scaled_one : (w : List ℕ) → Lawful k n w → scaled k n 1 w ≡ w
  unfolding scaled
  scaled_one w lw = sym (tabulate_is n _ w lw.0 (λ d h. sym (one_product laws (at w d) (lw.1 d h))))

pub weight_scaled : {k : Symbols} → FieldLaws k → (n a : ℕ) (w : List ℕ) → a < k.order → a ≢ 0 → Lawful k n w → weight (scaled k n a w) ≡ weight w
weight_scaled {k} field n a w la ne lw =
    let (b, _, lb, e) = field.inverse_cancels a la ne in
    let laws = field.sums in
    let up : weight w ≤ weight (scaled k n a w) =
    rw (scaled_back laws n a b w la lb e lw) at (weight_scaled_le laws n b (scaled k n a w) lb (scaled_lawful laws n a w).0) in
    omega (arith, weight_scaled_le laws n a w la lw.0)
