-- A double ring keeps the laws of a group: each of its dots is a side with a number below m.
use Rattle.std.specs.Prelude.{◌≡◌, ℕ, ◌+◌, ◌-◌, ◌*◌, ◌%◌, ◌<◌, ◌≤◌, Bool, true, false, not, refl}
use Rattle.std.proofs.Common.{◌∙◌, sym, ap, ap₂, subst, ⊎_elim, add-zero, zero-add, add_assoc, mod-lt, mod-eq_of_lt, arith}
use Rattle.std.proofs.Math.Nat.{sub-zero, add-sub_cancel_left, add-mod_right, mod_self, mod-add-mod}
use Rattle.std.proofs.lemmas.Bool.{cases_lt}
use Rattle.std.proofs.lemmas.Bool.Decides.{nat_tests}
use Rattle.groups.specs.GroupKinds.{double_ring_product, double_ring_inverse, double_ring_dots}
use Rattle.algebra.specs.Groups.{GroupLaws}
use Rattle.algebra.proofs.GroupLaws.{group_laws}
use Rattle.groups.specs.Remainders.{sum_associative, sum_whole, sum_opposite, opposite_sum, remainder_opposite, cancelling_same}

-- the side of a product
abbrev turned : Bool → Bool → Bool
turned false t = t
turned true t = not t

turned_associative : (s t u : Bool) → turned (turned s t) u ≡ turned s (turned t u)
turned_associative false t u = refl
turned_associative true false u = refl
turned_associative true true false = refl
turned_associative true true true = refl

module _ (m : ℕ) (one : 1 ≤ m) where
  abbrev dot : Bool → ℕ → ℕ
  dot false i = i
  dot true i = m + i

  -- j or its opposite, as a side adds it
  abbrev signed : Bool → ℕ → ℕ
  signed false j = j
  signed true j = m - j

  abbrev times : ℕ → ℕ → ℕ
  times = double_ring_product m

  product_of_dots : (s t : Bool) (i j : ℕ) → i < m → j < m → times (dot s i) (dot t j) ≡ dot (turned s t) ((i + signed s j) % m)
  product_of_dots false false i j h k = grind (arith, nat_tests)
  product_of_dots false true i j h k = rw add-sub_cancel_left (grind (arith, nat_tests))
  product_of_dots true false i j h k = rw add-sub_cancel_left (grind (arith, nat_tests))
  product_of_dots true true i j h k = rw (add-sub_cancel_left m i, add-sub_cancel_left m j) (grind (arith, nat_tests))

  opposites_cancel : (t : Bool) (j k : ℕ) → j < m → k < m → ((j + signed t k) + ((m - j) + signed (not t) k)) % m ≡ 0
  opposites_cancel t j k h o = ap (λ x. x % m) (twice t) ∙ add-mod_right m m ∙ mod_self m
    where
      twice : (t : Bool) → (j + signed t k) + ((m - j) + signed (not t) k) ≡ m + m
      twice false = omega arith
      twice true = omega arith

  numbers_associative :
      (s t : Bool) (i j k : ℕ) → j < m → k < m
      → ((i + signed s j) % m + signed (turned s t) k) % m ≡ (i + signed s ((j + signed t k) % m)) % m
  numbers_associative false t i j k h o = sum_associative m i j (signed t k)
  numbers_associative true t i j k h o =
      mod-add-mod (i + (m - j)) m (signed (not t) k)
      ∙ ap (λ x. x % m) (add_assoc i (m - j) (signed (not t) k))
      ∙ sym (cancelling_same m i (j + signed t k) (m - (j + signed t k) % m) ((m - j) + signed (not t) k) (remainder_opposite m (j + signed t k) one) (opposites_cancel t j k h o))

  dots_associative :
      (s t u : Bool) (i j k : ℕ) → i < m → j < m → k < m
      → times (times (dot s i) (dot t j)) (dot u k) ≡ times (dot s i) (times (dot t j) (dot u k))
  dots_associative s t u i j k h o l =
      ap (λ x. times x (dot u k)) (product_of_dots s t i j h o)
      ∙ product_of_dots (turned s t) u ((i + signed s j) % m) k (mod-lt (i + signed s j) one) l
      ∙ ap₂ dot (turned_associative s t u) (numbers_associative s t i j k o l)
      ∙ sym (product_of_dots s (turned t u) i ((j + signed t k) % m) h (mod-lt (j + signed t k) one))
      ∙ ap (times (dot s i)) (sym (product_of_dots t u j k o l))

  -- what holds of each dot, on each side
  by_sides : (P : ℕ → Type 0) → ((s : Bool) (i : ℕ) → i < m → P (dot s i)) → (a : ℕ) → a < 2 * m → P a
  by_sides P each a h =
      ⊎_elim
      (each false a)
      (λ k. let same : m + (a - m) ≡ a = omega arith in subst P same (each true (a - m) (omega arith)))
      (cases_lt a m)

  dot_below : (s : Bool) (i : ℕ) → i < m → dot s i < 2 * m
  dot_below false i h = omega arith
  dot_below true i h = omega arith

  abbrev opposed : Bool → ℕ → ℕ
  opposed false i = (m - i) % m
  opposed true i = i

  opposed_below : (s : Bool) (i : ℕ) → i < m → opposed s i < m
  opposed_below false i h = mod-lt (m - i) one
  opposed_below true i h = h

  inverse_of_dot : (s : Bool) (i : ℕ) → i < m → double_ring_inverse m (dot s i) ≡ dot s (opposed s i)
  inverse_of_dot false i h = grind (arith, nat_tests)
  inverse_of_dot true i h = grind (arith, nat_tests)

  opposed_right : (s : Bool) (i : ℕ) → i < m → dot (turned s s) ((i + signed s (opposed s i)) % m) ≡ 0
  opposed_right false i h = sum_opposite m i (omega arith)
  opposed_right true i h = sum_whole m i (omega arith)

  opposed_left : (s : Bool) (i : ℕ) → i < m → dot (turned s s) ((opposed s i + signed s i) % m) ≡ 0
  opposed_left false i h = opposite_sum m i (omega arith)
  opposed_left true i h = sum_whole m i (omega arith)

  identity_right : (s : Bool) (i : ℕ) → i < m → dot (turned s false) ((i + signed s 0) % m) ≡ dot s i
  identity_right false i h = rw add-zero (mod-eq_of_lt h)
  identity_right true i h = ap (λ x. m + x) (rw sub-zero (add-mod_right i m ∙ mod-eq_of_lt h))

  pub double_ring_laws : m ≤ 32 → GroupLaws (double_ring_dots m)
  double_ring_laws small =
      group_laws
      (2 * m)
      times
      (double_ring_inverse m)
      (record {
        least = omega arith;
        most = omega arith;
        product_below = λ a b ha hb.
            by_sides
            (λ a. times a b < 2 * m)
            (λ s i h.
            by_sides
            (λ b. times (dot s i) b < 2 * m)
            (λ t j k.
            subst (λ x. x < 2 * m) (sym (product_of_dots s t i j h k)) (dot_below (turned s t) _ (mod-lt (i + signed s j) one)))
            b
            hb)
            a
            ha;
        inverse_below =
            by_sides
            (λ a. double_ring_inverse m a < 2 * m)
            (λ s i h. subst (λ x. x < 2 * m) (sym (inverse_of_dot s i h)) (dot_below s _ (opposed_below s i h)));
        associative = λ a b c ha hb hc.
            by_sides
            (λ a. times (times a b) c ≡ times a (times b c))
            (λ s i h.
            by_sides
            (λ b. times (times (dot s i) b) c ≡ times (dot s i) (times b c))
            (λ t j o.
            by_sides
            (λ c. times (times (dot s i) (dot t j)) c ≡ times (dot s i) (times (dot t j) c))
            (λ u k l. dots_associative s t u i j k h o l)
            c
            hc)
            b
            hb)
            a
            ha;
        left_identity =
            by_sides (λ a. times 0 a ≡ a) (λ s i h. product_of_dots false s 0 i one h ∙ ap (dot s) (rw zero-add (mod-eq_of_lt h)));
        right_identity =
            by_sides (λ a. times a 0 ≡ a) (λ s i h. product_of_dots s false i 0 h one ∙ identity_right s i h);
        left_inverse =
            by_sides
            (λ a. times (double_ring_inverse m a) a ≡ 0)
            (λ s i h.
            ap (λ x. times x (dot s i)) (inverse_of_dot s i h)
            ∙ product_of_dots s s (opposed s i) i (opposed_below s i h) h
            ∙ opposed_left s i h);
        right_inverse =
            by_sides
            (λ a. times a (double_ring_inverse m a) ≡ 0)
            (λ s i h.
            ap (times (dot s i)) (inverse_of_dot s i h)
            ∙ product_of_dots s s i (opposed s i) h (opposed_below s i h)
            ∙ opposed_right s i h);
      })
