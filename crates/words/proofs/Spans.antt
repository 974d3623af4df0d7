-- Sums of multiples of words, and what holds of them all.
--     spanned k n c W m     the sum, over the numbers d below m, of c d times W d
use Rattle.std.proofs.Common.{◌≡◌, ℕ, zero, suc, ◌<◌, List, sym, ap, ◌∙◌, subst, ap₂, arith}
use Rattle.algebra.specs.Fields.{Symbols, SumProductLaws}
use Rattle.algebra.specs.Groups.{Dots}
use Rattle.words.specs.Words.{at, tabulate, total, Lawful, nought, plus, less, scaled, turned, Keeps}
use Rattle.algebra.proofs.SumProducts.{sum_product}
use Rattle.words.proofs.Tabulate.{at_tabulate, tabulate_is, tabulate_ext}
use Rattle.words.proofs.Totals.{total_cong, total_sum, sum_exchange, field_adds, product_total}
use Rattle.words.proofs.Linear.{at_plus, at_scaled, plus_lawful, less_lawful, plus_commutative, plus_associative, less_plus, plus_less}
use Rattle.words.proofs.Spanning.{keeps_spanned}

unfoldable pub spanned : Symbols → ℕ → (ℕ → ℕ) → (ℕ → List ℕ) → ℕ → List ℕ
spanned k n c W m = tabulate n (λ x. total k (λ d. k.product (c d) (at (W d) x)) m)

pub at_spanned : (k : Symbols) (n : ℕ) (c : ℕ → ℕ) (W : ℕ → List ℕ) (m x : ℕ) → x < n → at (spanned k n c W m) x ≡ total k (λ d. k.product (c d) (at (W d) x)) m
unfolding spanned
at_spanned k n c W m x h = at_tabulate n (λ x. total k (λ d. k.product (c d) (at (W d) x)) m) x h

spanned_more : (k : Symbols) (n : ℕ) (c : ℕ → ℕ) (W : ℕ → List ℕ) (m : ℕ) → spanned k n c W (suc m) ≡ plus k n (spanned k n c W m) (scaled k n (c m) (W m))
unfolding spanned total plus
spanned_more k n c W m = tabulate_ext n _ _ (λ x h. sym (ap₂ k.sum (at_spanned k n c W m x h) (at_scaled k n (c m) (W m) x h)))

pub keeps_is_spanned : (k : Symbols) (g : Dots) (e w : List ℕ) → Keeps k g e w → w ≡ spanned k g.order (at w) (λ h. turned g h e) g.order
unfolding spanned
keeps_is_spanned k g e w c = tabulate_is g.order _ w c.0.0 (keeps_spanned k g e w c)

module _ {k : Symbols} (laws : SumProductLaws k) (n : ℕ) where
  pub plus_exchange : (s t u v : List ℕ) → Lawful k n s → Lawful k n t → Lawful k n u → Lawful k n v → plus k n (plus k n s t) (plus k n u v) ≡ plus k n (plus k n s u) (plus k n t v)
  unfolding plus
  plus_exchange s t u v ls lt lu lv = tabulate_ext n _ _ (λ d h.
      ap₂ k.sum (at_plus k n s t d h) (at_plus k n u v d h)
      ∙ sum_exchange (field_adds laws) (at s d) (at t d) (at u d) (at v d) (ls.1 d h) (lt.1 d h) (lu.1 d h) (lv.1 d h)
      ∙ sym (ap₂ k.sum (at_plus k n s u d h) (at_plus k n t v d h)))

  pub less_of_plus : (u v w : List ℕ) → Lawful k n u → Lawful k n v → Lawful k n w → less k n u (plus k n v w) ≡ less k n (less k n u v) w
  less_of_plus u v w lu lv lw =
      ap (λ x. less k n x (plus k n v w)) (sym (
      ap (plus k n r) (plus_commutative laws n v w lv lw)
      ∙ sym (plus_associative laws n r w v (less_lawful laws n (less k n u v) w) lw lv)
      ∙ ap (λ x. plus k n x v) (plus_less laws n (less k n u v) w (less_lawful laws n u v) lw)
      ∙ plus_less laws n u v lu lv))
      ∙ less_plus laws n r (plus k n v w) (less_lawful laws n (less k n u v) w) (plus_lawful laws n v w)
    where
      r : List ℕ
      r = less k n (less k n u v) w

  pub scaled_plus : (a : ℕ) (u v : List ℕ) → a < k.order → Lawful k n u → Lawful k n v → scaled k n a (plus k n u v) ≡ plus k n (scaled k n a u) (scaled k n a v)
  unfolding scaled plus
  scaled_plus a u v la lu lv = tabulate_ext n _ _ (λ d h.
      ap (k.product a) (at_plus k n u v d h)
      ∙ laws.distributive a (at u d) (at v d) la (lu.1 d h) (lv.1 d h)
      ∙ sym (ap₂ k.sum (at_scaled k n a u d h) (at_scaled k n a v d h)))

  module _ (W : ℕ → List ℕ) (m : ℕ) (lawful : (d : ℕ) → d < m → Lawful k n (W d)) where
    pub spanned_sum : (a b : ℕ → ℕ) → ((d : ℕ) → d < m → a d < k.order) → ((d : ℕ) → d < m → b d < k.order) → spanned k n (λ d. k.sum (a d) (b d)) W m ≡ plus k n (spanned k n a W m) (spanned k n b W m)
    unfolding spanned plus
    spanned_sum a b la lb = tabulate_ext n _ _ (λ x h.
        total_cong k _ _ m (λ d l. sum_product laws (a d) (b d) (at (W d) x) (la d l) (lb d l) ((lawful d l).1 x h))
        ∙ total_sum (field_adds laws) (λ d. k.product (a d) (at (W d) x)) (λ d. k.product (b d) (at (W d) x)) m (λ d. laws.product_below (a d) (at (W d) x)) (λ d. laws.product_below (b d) (at (W d) x))
        ∙ sym (ap₂ k.sum (at_spanned k n a W m x h) (at_spanned k n b W m x h)))

    pub spanned_product : (a : ℕ) (c : ℕ → ℕ) → a < k.order → ((d : ℕ) → d < m → c d < k.order) → spanned k n (λ d. k.product a (c d)) W m ≡ scaled k n a (spanned k n c W m)
    unfolding spanned scaled
    spanned_product a c la lc = tabulate_ext n _ _ (λ x h.
        total_cong k _ _ m (λ d l. laws.product_associative a (c d) (at (W d) x) la (lc d l) ((lawful d l).1 x h))
        ∙ sym (product_total laws a (λ d. k.product (c d) (at (W d) x)) m la (λ d. laws.product_below (c d) (at (W d) x)))
        ∙ ap (k.product a) (sym (at_spanned k n c W m x h)))

  -- what holds of nought, of sums and of multiples holds of sums of multiples
  pub spanned_closed : (C : List ℕ → Type 0) → C (nought n) → ((u v : List ℕ) → C u → C v → C (plus k n u v)) → ((a : ℕ) (u : List ℕ) → a < k.order → C u → C (scaled k n a u)) → (c : ℕ → ℕ) (W : ℕ → List ℕ) (m : ℕ) → ((d : ℕ) → d < m → c d < k.order) → ((d : ℕ) → d < m → C (W d)) → C (spanned k n c W m)
  unfolding spanned total nought
  spanned_closed C none sums multiples c W zero below each = none
  spanned_closed C none sums multiples c W (suc m) below each =
      subst C (sym (spanned_more k n c W m)) (sums (spanned k n c W m) (scaled k n (c m) (W m))
      (spanned_closed C none sums multiples c W m (λ d h. below d (omega arith)) (λ d h. each d (omega arith)))
      (multiples (c m) (W m) (below m (omega arith)) (each m (omega arith))))
