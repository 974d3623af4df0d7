-- Products of polynomials bit by bit. Assumes nothing.
use Rattle.std.proofs.Common.{◌≡◌, ℕ, ◌+◌, ◌/◌, ◌%◌, ◌^◌, ◌<◌, true, false, ltb, ◌≢◌, refl, add-one}
use lib.Bits.{bit_xor, xor_zero_r}
use Rattle.std.proofs.lemmas.Bool.{eq-eqb, ne_eqb, ltb-true}
use Rattle.fields.specs.FieldKinds.{listed, binary_orders, bit, times_z, times_power, times_bits}
use Rattle.fields.specs.SmallFields.{every, every_at, listed_at}

pub times_power_more : (q a i : ℕ) → times_power q a (i + 1) ≡ times_z q (times_power q a i)
unfolding times_power
times_power_more q a i = rw add-one

pub times_bits_with : (q a b i : ℕ) → b / 2 ^ i % 2 ≡ 1 → times_bits q a b (i + 1) ≡ bit_xor (times_bits q a b i) (times_power q a i)
unfolding times_bits
times_bits_with q a b i h = let set : bit b i ≡ true = eq-eqb (b / 2 ^ i % 2) 1 h in rw (add-one, set)

pub times_bits_without : (q a b i : ℕ) → b / 2 ^ i % 2 ≢ 1 → times_bits q a b (i + 1) ≡ times_bits q a b i
unfolding times_bits
times_bits_without q a b i h = let clear : bit b i ≡ false = ne_eqb (b / 2 ^ i % 2) 1 h in rw (add-one, clear) (xor_zero_r (times_bits q a b i))

pub times_z_below : (q a : ℕ) → listed binary_orders q ≡ true → a < q → times_z q a < q
times_z_below q a h below =
    ltb-true _ _ (every_at (λ x. ltb (times_z q x) q) q a (listed_at (λ n. every n (λ x. ltb (times_z n x) n)) binary_orders q refl h) below)
