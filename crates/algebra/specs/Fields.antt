-- What a field of symbols means, and which laws it keeps.
--     Symbols               a field as one value: its order with its sums, opposites, products and inverses
--     SumProductLaws k      the laws of sum, opposite and product, for an order from 2 to 16
--     FieldLaws k           these, and each code but 0 has an inverse
--     field_of q s o p      the order q with sums s, opposites o and products p, and the answer 0 outside the codes;
--                           the inverse of a code is the first code that makes 1 with it
use Rattle.std.specs.Prelude.{◌≡◌, ℕ, ◌<◌, ◌≤◌, ◌≢◌, Some, None, Option, nat_eq}
use Rattle.algebra.specs.Codes.{at_code, at_codes, first_code}

pub record Symbols : Type 0 where
  pub order : ℕ
  pub sum : ℕ → ℕ → ℕ
  pub opposite : ℕ → ℕ
  pub product : ℕ → ℕ → ℕ
  pub inverse : ℕ → Option ℕ

pub record SumProductLaws (k : Symbols) : Type 0 where
  pub least : 2 ≤ k.order
  pub most : k.order ≤ 16
  pub sum_below : (a b : ℕ) → k.sum a b < k.order
  pub opposite_below : (a : ℕ) → k.opposite a < k.order
  pub product_below : (a b : ℕ) → k.product a b < k.order
  pub sum_outside_left : (a b : ℕ) → k.order ≤ a → k.sum a b ≡ 0
  pub sum_outside_right : (a b : ℕ) → k.order ≤ b → k.sum a b ≡ 0
  pub opposite_outside : (a : ℕ) → k.order ≤ a → k.opposite a ≡ 0
  pub product_outside_left : (a b : ℕ) → k.order ≤ a → k.product a b ≡ 0
  pub product_outside_right : (a b : ℕ) → k.order ≤ b → k.product a b ≡ 0
  pub sum_associative : (a b c : ℕ) → a < k.order → b < k.order → c < k.order → k.sum (k.sum a b) c ≡ k.sum a (k.sum b c)
  pub sum_commutative : (a b : ℕ) → a < k.order → b < k.order → k.sum a b ≡ k.sum b a
  pub sum_zero : (a : ℕ) → a < k.order → k.sum a 0 ≡ a
  pub sum_opposite : (a : ℕ) → a < k.order → k.sum a (k.opposite a) ≡ 0
  pub product_associative : (a b c : ℕ) → a < k.order → b < k.order → c < k.order → k.product (k.product a b) c ≡ k.product a (k.product b c)
  pub product_commutative : (a b : ℕ) → a < k.order → b < k.order → k.product a b ≡ k.product b a
  pub product_one : (a : ℕ) → a < k.order → k.product a 1 ≡ a
  pub distributive : (a b c : ℕ) → a < k.order → b < k.order → c < k.order → k.product a (k.sum b c) ≡ k.sum (k.product a b) (k.product a c)

pub record FieldLaws (k : Symbols) : Type 0 where
  pub sums : SumProductLaws k
  pub inverse_zero : k.inverse 0 ≡ None
  pub inverse_outside : (a : ℕ) → k.order ≤ a → k.inverse a ≡ None
  pub inverse_cancels : (a : ℕ) → a < k.order → a ≢ 0 → (b : ℕ) × (k.inverse a ≡ Some b) × (b < k.order) × (k.product a b ≡ 1)

abbrev pub field_of : ℕ → (ℕ → ℕ → ℕ) → (ℕ → ℕ) → (ℕ → ℕ → ℕ) → Symbols
field_of q s o p = record {
  order = q;
  sum = at_codes q s;
  opposite = at_code q o;
  product = at_codes q p;
  inverse = λ a. first_code q (λ b. nat_eq (at_codes q p a b) 1);
}
