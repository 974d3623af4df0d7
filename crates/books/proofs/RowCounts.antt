-- How many rows there are: choices of one and of two dots.
use Rattle.std.proofs.Common.{◌≡◌, ℕ, zero, suc, ◌+◌, ◌-◌, ◌*◌, ◌/◌, ◌^◌, refl, ap, ◌∙◌, ap₂, suc-mul, one-mul, pow-suc, mul-suc, arith}
use native.Mathlib.Nat.{pow-zero}
use Rattle.codes.specs.GroupCodes.{choose, rows}

pub choose_one : (m : ℕ) → choose m 1 ≡ m
choose_one zero = refl
choose_one (suc m) = omega (arith, choose_one m)

pub choose_two : (m : ℕ) → choose (suc m) 2 ≡ m + choose m 2
choose_two m = omega (arith, choose_one m)

twice_choose : (m : ℕ) → suc m * m ≡ 2 * choose (suc m) 2
twice_choose zero = refl
twice_choose (suc m) = omega (arith, twice_choose m, choose_two (suc m), suc-mul (suc m) (suc m), mul-suc (suc m) m)

pub pair_choices : (m : ℕ) → m * (m - 1) / 2 ≡ choose m 2
pair_choices zero = refl
pair_choices (suc m) = let e : suc m - 1 ≡ m = omega arith in omega (arith, ap (λ x. suc m * x) e, twice_choose m)

pow_one : (q : ℕ) → q ^ 1 ≡ q
pow_one q = pow-suc q 0 ∙ ap (λ x. x * q) (pow-zero q) ∙ one-mul q

pub pow_two : (q : ℕ) → q ^ 2 ≡ q * q
pow_two q = pow-suc q 1 ∙ ap (λ x. x * q) (pow_one q)

pub rows_one : (n q : ℕ) → rows n q 1 ≡ 1
rows_one n q = omega (arith, pow-zero (q - 1))

pub rows_two : (n q : ℕ) → rows n q 2 ≡ 1 + (n - 1) * (q - 1)
rows_two n q = ap₂ ◌+◌ (rows_one n q) (ap₂ ◌*◌ (choose_one (n - 1)) (pow_one (q - 1)))

pub rows_three : (n q : ℕ) → rows n q 3 ≡ 1 + (n - 1) * (q - 1) + choose (n - 1) 2 * ((q - 1) * (q - 1))
rows_three n q = ap₂ ◌+◌ (rows_two n q) (ap (λ x. choose (n - 1) 2 * x) (pow_two (q - 1)))
