-- What a search through the codes finds is the inverse. Assumes nothing.
use Rattle.std.proofs.Common.{◌≡◌, ℕ, ◌<◌, ◌≤◌, ◌≢◌, Some, None, Option, sym, ap, ◌∙◌, ⊎_elim, arith}
use Rattle.std.specs.Option.{MatchOption}
use Rattle.std.proofs.lemmas.Bool.{cases_lt, cases_eq}
use Rattle.algebra.specs.Fields.{Symbols, FieldLaws}
use Rattle.algebra.proofs.SumProducts.{zero_product}

module _ {k : Symbols} (laws : FieldLaws k) where
  only_inverse : (a b c : ℕ) → a < k.order → b < k.order → c < k.order → k.product a b ≡ 1 → k.product a c ≡ 1 → b ≡ c
  only_inverse a b c la lb lc e f =
      sym (laws.sums.product_one b lb)
      ∙ ap (k.product b) (sym f)
      ∙ sym (laws.sums.product_associative b a c lb la lc)
      ∙ ap (λ x. k.product x c) (laws.sums.product_commutative b a lb la ∙ e)
      ∙ laws.sums.product_commutative 1 c laws.sums.least lc
      ∙ laws.sums.product_one c lc

  none_found : (a : ℕ) → ((b : ℕ) → b < k.order → k.product a b ≢ 1) → k.inverse a ≡ None
  none_found a none =
      ⊎_elim
      (λ (la : a < k.order). ⊎_elim (λ (e : a ≡ 0). rw e laws.inverse_zero)
      (λ (ne : a ≢ 0). let found = laws.inverse_cancels a la ne in absurd (none found.0 found.2 found.3))
      (cases_eq a 0))
      (λ (past : k.order ≤ a). laws.inverse_outside a past)
      (cases_lt a k.order)

  found_inverse : (a b : ℕ) → b < k.order → k.product a b ≡ 1 → k.inverse a ≡ Some b
  found_inverse a b lb e =
      ⊎_elim
      (λ (la : a < k.order).
      let ne : a ≢ 0 = λ (z : a ≡ 0). let nought : k.product 0 b ≡ 0 = zero_product laws.sums b lb in absurd (omega (arith, sym nought ∙ ap (λ x. k.product x b) (sym z) ∙ e)) in
      let found = laws.inverse_cancels a la ne in
      found.1 ∙ ap Some (only_inverse a found.0 b la found.2 lb found.3 e))
      (λ (past : k.order ≤ a). absurd (omega (arith, sym (laws.sums.product_outside_left a b past) ∙ e)))
      (cases_lt a k.order)

  -- r is the first code below n whose product with a is 1
  pub search_is_inverse : (a n : ℕ) (r : Option ℕ) → n ≡ k.order → MatchOption r ((b : ℕ) → 0 ≤ b → b < n → k.product a b ≢ 1) (λ b. (0 ≤ b) × (b < n) × (k.product a b ≡ 1) × ((j : ℕ) → 0 ≤ j → j < b → k.product a j ≢ 1)) → r ≡ k.inverse a
  search_is_inverse a n None e none = sym (none_found a (λ b lb. none b (omega arith) (omega arith)))
  search_is_inverse a n (Some b) e found = sym (found_inverse a b (omega arith) found.2)
