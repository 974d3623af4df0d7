-- The two kinds of fields that are built in.
--     listed ns n           n is one of ns
--     order_checks ns n     the check that n is one of ns
--     prime_symbols p       the numbers below p, which add and multiply modulo p, for one of the prime_orders
--     binary_symbols q      the polynomials with coefficients 0 and 1, modulo the modulus of q, for one of the binary_orders
--     bit b i               bit i of the code b is set: the coefficient of zⁱ is 1
--     modulus q             z² + z + 1 for 4, z³ + z + 1 for 8 and z⁴ + z + 1 for 16, as a code
--     times_z q a           a times z, less the modulus where that is q or more
--     times_power q a i     a times zⁱ
--     times_bits q a b n    a times the lowest n bits of b: the sum of a times zⁱ over the bits i that are set
use Rattle.std.specs.Prelude.{◌≡◌, ℕ, zero, suc, ◌+◌, ◌-◌, ◌*◌, ◌/◌, ◌%◌, ◌^◌, Bool, true, false, cond, ◌||◌, List, [], ◌∷◌, ◌==◌, bit_xor, nat_lt}
use Rattle.algebra.specs.Checks.{Check, asked}
use Rattle.algebra.specs.Fields.{Symbols, field_of}
use Rattle.algebra.specs.Refusals.{order_refused}
use Rattle.algebra.specs.declared.fault.Part.TheVariants.{Symbols as symbols_part}

abbrev pub listed : List ℕ → ℕ → Bool
listed [] n = false
listed (m ∷ ns) n = n == m || listed ns n

abbrev pub order_checks : List ℕ → ℕ → List Check
order_checks ns n = asked (listed ns n ≡ true) (order_refused symbols_part) ∷ []

abbrev pub prime_orders : List ℕ
prime_orders = 2 ∷ 3 ∷ 5 ∷ 7 ∷ 11 ∷ 13 ∷ []

abbrev pub prime_symbols : ℕ → Symbols
prime_symbols p = field_of p (λ a b. (a + b) % p) (λ a. (p - a) % p) (λ a b. (a * b) % p)

abbrev pub binary_orders : List ℕ
binary_orders = 4 ∷ 8 ∷ 16 ∷ []

abbrev pub modulus : ℕ → ℕ
modulus q = q + 3

abbrev pub times_z : ℕ → ℕ → ℕ
times_z q a = cond (nat_lt (2 * a) q) (2 * a) (bit_xor (2 * a) (modulus q))

unfoldable pub times_power : ℕ → ℕ → ℕ → ℕ
times_power q a zero = a
times_power q a (suc i) = times_z q (times_power q a i)

abbrev pub bit : ℕ → ℕ → Bool
bit b i = b / 2 ^ i % 2 == 1

unfoldable pub times_bits : ℕ → ℕ → ℕ → ℕ → ℕ
times_bits q a b zero = 0
times_bits q a b (suc i) = bit_xor (times_bits q a b i) (cond (bit b i) (times_power q a i) 0)

abbrev pub binary_symbols : ℕ → Symbols
binary_symbols q = field_of q bit_xor (λ a. a) (λ a b. times_bits q a b 4)
