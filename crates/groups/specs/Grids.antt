-- A grid of two groups keeps the laws of a group, since its parts do.
use Rattle.std.specs.Prelude.{◌≡◌, ℕ, ◌*◌, ◌/◌, ◌%◌, ◌<◌, ◌≤◌, nat_le}
use Rattle.std.proofs.Common.{◌∙◌, sym, ap, ap₂, zero-mul, div-add-mod', arith}
use Rattle.std.proofs.Math.Nat.{zero-div, zero-mod}
use Rattle.std.proofs.Math.Arith.{lt-one, digits_lt, digits_div, digits_mod}
use Rattle.std.proofs.lemmas.Nat.{mul-le, div_below, mod_below}
use Rattle.std.proofs.lemmas.Bool.{leb-true, cond_both}
use Rattle.groups.specs.GroupKinds.{ring_dots, pair_dot, grid_product, grid_inverse, grid_dots}
use Rattle.algebra.specs.Groups.{Dots, GroupLaws, group_of}
use Rattle.algebra.proofs.Coded.{at_code_inside, at_codes_inside}
use Rattle.algebra.proofs.GroupLaws.{group_laws}
use Rattle.groups.specs.Rings.{ring_laws}

inverse_zero : (g : Dots) → GroupLaws g → g.inverse 0 ≡ 0
inverse_zero g laws = sym (laws.right_identity (g.inverse 0) (laws.inverse_below 0)) ∙ laws.left_inverse 0 laws.least

module _ (g h : Dots) (first : GroupLaws g) (second : GroupLaws h) where
  abbrev size : ℕ
  size = g.order * h.order

  abbrev pair : ℕ → ℕ → ℕ
  pair = pair_dot h.order

  abbrev times : ℕ → ℕ → ℕ
  times = grid_product g h

  row_below : (a : ℕ) → a < size → a / h.order < g.order
  row_below a k = div_below a h.order g.order second.least k

  column_below : (a : ℕ) → a % h.order < h.order
  column_below a = mod_below a h.order second.least

  parts_of : (a : ℕ) → pair (a / h.order) (a % h.order) ≡ a
  parts_of a = div-add-mod' a h.order

  size_least : 1 ≤ size
  size_least = mul-le 1 1 g.order h.order first.least second.least

  -- the product of a pair with a dot, and of a dot with a pair
  pair_times : (x y b : ℕ) → y < h.order → times (pair x y) b ≡ pair (g.product x (b / h.order)) (h.product y (b % h.order))
  pair_times x y b k =
      ap₂ (λ r s. pair (g.product r (b / h.order)) (h.product s (b % h.order))) (digits_div x k) (digits_mod x k)

  times_pair : (a x y : ℕ) → y < h.order → times a (pair x y) ≡ pair (g.product (a / h.order) x) (h.product (a % h.order) y)
  times_pair a x y k =
      ap₂ (λ r s. pair (g.product (a / h.order) r) (h.product (a % h.order) s)) (digits_div x k) (digits_mod x k)

  -- dot 0 is the pair of 0 and 0
  nothing : pair 0 0 ≡ 0
  nothing = rw zero-mul

  left_identity : (a : ℕ) → a < size → times 0 a ≡ a
  left_identity a k =
      ap₂ (λ r s. pair (g.product r (a / h.order)) (h.product s (a % h.order))) (zero-div h.order) (zero-mod h.order)
      ∙ ap₂ pair (first.left_identity (a / h.order) (row_below a k)) (second.left_identity (a % h.order) (column_below a))
      ∙ parts_of a

  right_identity : (a : ℕ) → a < size → times a 0 ≡ a
  right_identity a k =
      ap₂ (λ r s. pair (g.product (a / h.order) r) (h.product (a % h.order) s)) (zero-div h.order) (zero-mod h.order)
      ∙ ap₂ pair (first.right_identity (a / h.order) (row_below a k)) (second.right_identity (a % h.order) (column_below a))
      ∙ parts_of a

  small_laws : size ≤ 64 → GroupLaws (group_of size times (grid_inverse g h))
  small_laws small =
      group_laws
      size
      times
      (grid_inverse g h)
      (record {
        least = size_least;
        most = small;
        product_below = λ a b _ _. digits_lt (first.product_below (a / h.order) (b / h.order)) (second.product_below (a % h.order) (b % h.order));
        inverse_below = λ a _. digits_lt (first.inverse_below (a / h.order)) (second.inverse_below (a % h.order));
        associative = λ a b c ha hb hc.
            pair_times _ _ c (second.product_below (a % h.order) (b % h.order))
            ∙ ap₂ pair
            (first.associative (a / h.order) (b / h.order) (c / h.order) (row_below a ha) (row_below b hb) (row_below c hc))
            (second.associative (a % h.order) (b % h.order) (c % h.order) (column_below a) (column_below b) (column_below c))
            ∙ sym (times_pair a _ _ (second.product_below (b % h.order) (c % h.order)));
        left_identity = left_identity;
        right_identity = right_identity;
        left_inverse = λ a k.
            pair_times _ _ a (second.inverse_below (a % h.order))
            ∙ ap₂ pair (first.left_inverse (a / h.order) (row_below a k)) (second.left_inverse (a % h.order) (column_below a))
            ∙ nothing;
        right_inverse = λ a k.
            times_pair a _ _ (second.inverse_below (a % h.order))
            ∙ ap₂ pair (first.right_inverse (a / h.order) (row_below a k)) (second.right_inverse (a % h.order) (column_below a))
            ∙ nothing;
      })

  one_dot : GroupLaws (ring_dots 1)
  one_dot = ring_laws 1 (omega arith) (omega arith)

  -- what holds of a grid, whether its dots are pairs or it is the group of one dot
  by_size : (P : Dots → Type 0) → (size ≤ 64 → P (group_of size times (grid_inverse g h))) → P (ring_dots 1) → P (grid_dots g h)
  by_size P pairs one =
      cond_both (nat_le size 64) (group_of size times (grid_inverse g h)) (ring_dots 1) P (λ e. pairs (leb-true size 64 e)) (λ _. one)

  pub grid_laws : GroupLaws (grid_dots g h)
  grid_laws = by_size GroupLaws small_laws one_dot

  pub product_inside : (a b : ℕ) → a < (grid_dots g h).order → b < (grid_dots g h).order → grid_product g h a b ≡ (grid_dots g h).product a b
  product_inside a b =
      by_size
      (λ d. a < d.order → b < d.order → times a b ≡ d.product a b)
      (λ _ ha hb. sym (at_codes_inside size times a b ha hb))
      (λ ha hb.
      let only : (ring_dots 1).product a b ≡ 0 = omega (arith, one_dot.product_below a b) in
      ap₂ times (lt-one ha) (lt-one hb) ∙ left_identity 0 size_least ∙ sym only)

  pub inverse_inside : (a : ℕ) → a < (grid_dots g h).order → grid_inverse g h a ≡ (grid_dots g h).inverse a
  inverse_inside a =
      by_size
      (λ d. a < d.order → grid_inverse g h a ≡ d.inverse a)
      (λ _ k. sym (at_code_inside size (grid_inverse g h) a k))
      (λ k.
      let only : (ring_dots 1).inverse a ≡ 0 = omega (arith, one_dot.inverse_below a) in
      ap (grid_inverse g h) (lt-one k)
      ∙ ap₂ (λ r s. pair (g.inverse r) (h.inverse s)) (zero-div h.order) (zero-mod h.order)
      ∙ ap₂ pair (inverse_zero g first) (inverse_zero h second)
      ∙ nothing
      ∙ sym only)
