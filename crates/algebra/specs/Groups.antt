-- What a group of dots means, and which laws it keeps.
--     Dots                      a group as one value: its order with its products and inverses
--     GroupLaws g               g is a group of 1 to 64 dots, whose identity is dot 0
--     group_of n p i            the order n with products p and inverses i, and the answer 0 outside the dots
use Rattle.std.specs.Prelude.{◌≡◌, ℕ, ◌<◌, ◌≤◌}
use Rattle.algebra.specs.Codes.{at_code, at_codes}

pub record Dots : Type 0 where
  pub order : ℕ
  pub product : ℕ → ℕ → ℕ
  pub inverse : ℕ → ℕ

pub record GroupLaws (g : Dots) : Type 0 where
  pub least : 1 ≤ g.order
  pub most : g.order ≤ 64
  pub product_below : (a b : ℕ) → g.product a b < g.order
  pub inverse_below : (a : ℕ) → g.inverse a < g.order
  pub product_outside_left : (a b : ℕ) → g.order ≤ a → g.product a b ≡ 0
  pub product_outside_right : (a b : ℕ) → g.order ≤ b → g.product a b ≡ 0
  pub inverse_outside : (a : ℕ) → g.order ≤ a → g.inverse a ≡ 0
  pub associative : (a b c : ℕ) → a < g.order → b < g.order → c < g.order → g.product (g.product a b) c ≡ g.product a (g.product b c)
  pub left_identity : (a : ℕ) → a < g.order → g.product 0 a ≡ a
  pub right_identity : (a : ℕ) → a < g.order → g.product a 0 ≡ a
  pub left_inverse : (a : ℕ) → a < g.order → g.product (g.inverse a) a ≡ 0
  pub right_inverse : (a : ℕ) → a < g.order → g.product a (g.inverse a) ≡ 0

abbrev pub group_of : ℕ → (ℕ → ℕ → ℕ) → (ℕ → ℕ) → Dots
group_of n p i = record { order = n; product = at_codes n p; inverse = at_code n i }
