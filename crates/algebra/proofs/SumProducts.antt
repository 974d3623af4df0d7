-- What follows from the laws of a field's sums and products.
use Rattle.std.proofs.Common.{◌≡◌, ℕ, ◌<◌, sym, ap, ◌∙◌, ap₂, arith}
use Rattle.algebra.specs.Fields.{Symbols, SumProductLaws}

module _ {k : Symbols} (laws : SumProductLaws k) where
  pub zero_below : 0 < k.order
  zero_below = omega (arith, laws.least)

  pub one_below : 1 < k.order
  one_below = laws.least

  pub zero_sum : (a : ℕ) → a < k.order → k.sum 0 a ≡ a
  zero_sum a la = laws.sum_commutative 0 a zero_below la ∙ laws.sum_zero a la

  pub sum_opposite_cancels : (a b : ℕ) → a < k.order → b < k.order → k.sum (k.sum a b) (k.opposite b) ≡ a
  sum_opposite_cancels a b la lb =
      laws.sum_associative a b (k.opposite b) la lb (laws.opposite_below b) ∙ ap (k.sum a) (laws.sum_opposite b lb) ∙ laws.sum_zero a la

  pub opposite_sum_cancels : (a b : ℕ) → a < k.order → b < k.order → k.sum (k.sum a (k.opposite b)) b ≡ a
  opposite_sum_cancels a b la lb =
      laws.sum_associative a (k.opposite b) b la (laws.opposite_below b) lb
      ∙ ap (k.sum a) (laws.sum_commutative (k.opposite b) b (laws.opposite_below b) lb ∙ laws.sum_opposite b lb)
      ∙ laws.sum_zero a la

  pub product_zero : (a : ℕ) → a < k.order → k.product a 0 ≡ 0
  product_zero a la =
      sym (sum_opposite_cancels (k.product a 0) (k.product a 0) z z)
      ∙ ap (λ x. k.sum x (k.opposite (k.product a 0))) (sym (laws.distributive a 0 0 la zero_below zero_below) ∙ ap (k.product a) (laws.sum_zero 0 zero_below))
      ∙ laws.sum_opposite (k.product a 0) z
    where
      z : k.product a 0 < k.order
      z = laws.product_below a 0

  pub zero_product : (a : ℕ) → a < k.order → k.product 0 a ≡ 0
  zero_product a la = laws.product_commutative 0 a zero_below la ∙ product_zero a la

  pub one_product : (a : ℕ) → a < k.order → k.product 1 a ≡ a
  one_product a la = laws.product_commutative 1 a one_below la ∙ laws.product_one a la

  pub sum_product : (a b c : ℕ) → a < k.order → b < k.order → c < k.order → k.product (k.sum a b) c ≡ k.sum (k.product a c) (k.product b c)
  sum_product a b c la lb lc =
      laws.product_commutative (k.sum a b) c (laws.sum_below a b) lc
      ∙ laws.distributive c a b lc la lb
      ∙ ap₂ k.sum (laws.product_commutative c a lc la) (laws.product_commutative c b lc lb)

  pub product_exchange : (a b c : ℕ) → a < k.order → b < k.order → c < k.order → k.product a (k.product b c) ≡ k.product b (k.product a c)
  product_exchange a b c la lb lc =
      sym (laws.product_associative a b c la lb lc)
      ∙ ap (λ x. k.product x c) (laws.product_commutative a b la lb)
      ∙ laws.product_associative b a c lb la lc

  pub opposite_product : (a : ℕ) → a < k.order → k.opposite a ≡ k.product (k.opposite 1) a
  opposite_product a la =
      sym (zero_sum (k.opposite a) (laws.opposite_below a))
      ∙ ap (λ x. k.sum x (k.opposite a)) (sym minus_plus)
      ∙ sum_opposite_cancels (k.product m a) a (laws.product_below m a) la
    where
      m : ℕ
      m = k.opposite 1

      minus_plus : k.sum (k.product m a) a ≡ 0
      minus_plus =
          ap₂ k.sum (laws.product_commutative m a (laws.opposite_below 1) la) (sym (laws.product_one a la))
          ∙ laws.sum_commutative (k.product a m) (k.product a 1) (laws.product_below a m) (laws.product_below a 1)
          ∙ sym (laws.distributive a 1 m la one_below (laws.opposite_below 1))
          ∙ ap (k.product a) (laws.sum_opposite 1 one_below)
          ∙ product_zero a la
