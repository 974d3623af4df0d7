-- The kinds of groups that are made from numbers and from other groups.
--     order_checks k n          the one check of a number n of dots: it is from 1 to k
--     ring_dots n               the ring of n dots
--     double_ring_dots m        the double ring of the 2m dots i and m + i, for i below m
--     pair_dot n a b            the dot that stands for the pair (a, b), where b is below n
--     grid_dots g h             the grid of g and h, or one dot if it had more than 64
use Rattle.std.specs.Prelude.{ℕ, ◌+◌, ◌-◌, ◌*◌, ◌/◌, ◌%◌, ◌≤◌, cond, List, [], ◌∷◌, nat_le, nat_lt}
use Rattle.algebra.specs.Checks.{Check, asked}
use Rattle.algebra.specs.Groups.{Dots, group_of}
use Rattle.algebra.specs.Refusals.{order_refused}
use Rattle.algebra.specs.declared.fault.Part.TheVariants.{Dots as dots_part}

abbrev pub order_checks : ℕ → ℕ → List Check
order_checks k n = asked ((1 ≤ n) × (n ≤ k)) (order_refused dots_part) ∷ []

abbrev pub ring_dots : ℕ → Dots
ring_dots n = group_of n (λ a b. (a + b) % n) (λ a. (n - a) % n)

module _ (m : ℕ) where
  -- i − j modulo m
  abbrev pub difference : ℕ → ℕ → ℕ
  difference i j = (i + (m - j)) % m

  -- i times j, i times m + j, m + i times j, and m + i times m + j
  abbrev pub double_ring_product : ℕ → ℕ → ℕ
  double_ring_product a b =
      cond
      (nat_lt a m)
      (cond (nat_lt b m) ((a + b) % m) (m + (a + (b - m)) % m))
      (cond (nat_lt b m) (m + difference (a - m) b) (difference (a - m) (b - m)))

  abbrev pub double_ring_inverse : ℕ → ℕ
  double_ring_inverse a = cond (nat_lt a m) ((m - a) % m) a

  abbrev pub double_ring_dots : Dots
  double_ring_dots = group_of (2 * m) double_ring_product double_ring_inverse

abbrev pub pair_dot : ℕ → ℕ → ℕ → ℕ
pair_dot n a b = a * n + b

module _ (g h : Dots) where
  abbrev pub grid_product : ℕ → ℕ → ℕ
  grid_product a b = pair_dot h.order (g.product (a / h.order) (b / h.order)) (h.product (a % h.order) (b % h.order))

  abbrev pub grid_inverse : ℕ → ℕ
  grid_inverse a = pair_dot h.order (g.inverse (a / h.order)) (h.inverse (a % h.order))

  abbrev pub grid_dots : Dots
  grid_dots = cond (nat_le (g.order * h.order) 64) (group_of (g.order * h.order) grid_product grid_inverse) (ring_dots 1)
