-- What follows from the laws of a group.
use Rattle.std.proofs.Common.{◌≡◌, ℕ, ◌<◌, sym, ap, ◌∙◌}
use Rattle.algebra.specs.Groups.{Dots, GroupLaws}

module _ {g : Dots} (laws : GroupLaws g) where
  pub identity_below : 0 < g.order
  identity_below = laws.least

  pub product_back : (a b : ℕ) → a < g.order → b < g.order → g.product (g.inverse a) (g.product a b) ≡ b
  product_back a b la lb =
      sym (laws.associative (g.inverse a) a b (laws.inverse_below a) la lb)
      ∙ ap (λ x. g.product x b) (laws.left_inverse a la)
      ∙ laws.left_identity b lb

  pub product_forth : (a b : ℕ) → a < g.order → b < g.order → g.product a (g.product (g.inverse a) b) ≡ b
  product_forth a b la lb =
      sym (laws.associative a (g.inverse a) b la (laws.inverse_below a) lb)
      ∙ ap (λ x. g.product x b) (laws.right_inverse a la)
      ∙ laws.left_identity b lb

  pub inverse_unique : (a b : ℕ) → a < g.order → b < g.order → g.product a b ≡ 0 → g.inverse a ≡ b
  inverse_unique a b la lb e =
      sym (laws.right_identity (g.inverse a) (laws.inverse_below a)) ∙ ap (g.product (g.inverse a)) (sym e) ∙ product_back a b la lb

  pub inverse_identity : g.inverse 0 ≡ 0
  inverse_identity = inverse_unique 0 0 identity_below identity_below (laws.left_identity 0 identity_below)

  pub inverse_product : (a b : ℕ) → a < g.order → b < g.order → g.inverse (g.product a b) ≡ g.product (g.inverse b) (g.inverse a)
  inverse_product a b la lb =
      inverse_unique (g.product a b) (g.product (g.inverse b) (g.inverse a)) (laws.product_below a b) (laws.product_below (g.inverse b) (g.inverse a)) (
      laws.associative a b (g.product (g.inverse b) (g.inverse a)) la lb (laws.product_below (g.inverse b) (g.inverse a))
      ∙ ap (g.product a) (product_forth b (g.inverse a) lb (laws.inverse_below a))
      ∙ laws.right_inverse a la)

  pub inverse_product_times : (a b c : ℕ) → a < g.order → b < g.order → c < g.order → g.product (g.inverse (g.product a b)) c ≡ g.product (g.inverse b) (g.product (g.inverse a) c)
  inverse_product_times a b c la lb lc =
      ap (λ x. g.product x c) (inverse_product a b la lb)
      ∙ laws.associative (g.inverse b) (g.inverse a) c (laws.inverse_below b) (laws.inverse_below a) lc

  pub product_cancel : (a b c : ℕ) → a < g.order → b < g.order → c < g.order → g.product a b ≡ g.product a c → b ≡ c
  product_cancel a b c ha hb hc e = sym (product_back a b ha hb) ∙ ap (g.product (g.inverse a)) e ∙ product_back a c ha hc
