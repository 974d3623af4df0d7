-- A ring of dots keeps the laws of a group.
use Rattle.std.specs.Prelude.{ℕ, ◌+◌, ◌-◌, ◌%◌, ◌≤◌}
use Rattle.std.proofs.Common.{add-zero, zero-add, mod-lt, mod-eq_of_lt, arith}
use Rattle.groups.specs.GroupKinds.{ring_dots}
use Rattle.algebra.specs.Groups.{GroupLaws}
use Rattle.algebra.proofs.GroupLaws.{group_laws}
use Rattle.groups.specs.Remainders.{sum_associative, sum_opposite, opposite_sum}

pub ring_laws : (n : ℕ) → 1 ≤ n → n ≤ 64 → GroupLaws (ring_dots n)
ring_laws n one small =
    group_laws
    n
    (λ a b. (a + b) % n)
    (λ a. (n - a) % n)
    (record {
      least = one;
      most = small;
      product_below = λ a b _ _. mod-lt (a + b) one;
      inverse_below = λ a _. mod-lt (n - a) one;
      associative = λ a b c _ _ _. sum_associative n a b c;
      left_identity = λ a h. rw zero-add (mod-eq_of_lt h);
      right_identity = λ a h. rw add-zero (mod-eq_of_lt h);
      left_inverse = λ a h. opposite_sum n a (omega arith);
      right_inverse = λ a h. sum_opposite n a (omega arith);
    })
