-- The laws of a field of few elements, by a test over all its codes. Assumes nothing.
use Rattle.std.specs.Prelude.{◌≡◌, ℕ, zero, suc, ◌<◌, ◌≤◌, Bool, true, false, not, ◌&&◌, ◌≢◌, List, [], ◌∷◌, Some, None, Option, ◌==◌, nat_eq, nat_le, nat_lt, refl}
use Rattle.std.proofs.Common.{⊎_elim, arith}
use Rattle.std.proofs.lemmas.Bool.{and_parts, or_cases, eqb-true, leb-true, ltb-true, both_ways}
use Rattle.std.proofs.lemmas.Bool.Decides.{Decides-below_and}
use Rattle.fields.specs.FieldKinds.{listed, prime_orders, prime_symbols, binary_orders, binary_symbols, times_power, times_bits}
use Rattle.algebra.specs.Fields.{Symbols, SumProductLaws, FieldLaws, field_of}
use Rattle.algebra.proofs.Coded.{at_code_outside, at_codes_outside_left, at_codes_outside_right, at_code_below, at_codes_below, first_code_none}

-- p passes at each number below n
abbrev pub every : ℕ → (ℕ → Bool) → Bool
every zero p = true
every (suc n) p = p n && every n p

pub every_at : (p : ℕ → Bool) (n k : ℕ) → every n p ≡ true → k < n → p k ≡ true
every_at p n k passed = (Decides-below_and p (λ x. p x ≡ true) (λ m. every m p) (λ x. (λ e. e, λ e. e)) refl (λ _. refl) n).0 passed k

-- p passes at each number of a list
abbrev pub each_listed : List ℕ → (ℕ → Bool) → Bool
each_listed [] p = true
each_listed (m ∷ ns) p = p m && each_listed ns p

pub listed_at : (p : ℕ → Bool) (ns : List ℕ) (n : ℕ) → each_listed ns p ≡ true → listed ns n ≡ true → p n ≡ true
listed_at p [] n passed h = absurd (both_ways false refl h)
listed_at p (m ∷ ns) n passed h =
    let parts = and_parts (p m) (each_listed ns p) passed in
    ⊎_elim (λ (e : nat_eq n m ≡ true). rw (eqb-true n m e) parts.0) (listed_at p ns n parts.1) (or_cases (n == m) (listed ns n) h)

abbrev pub all : List Bool → Bool
all [] = true
all (b ∷ bs) = b && all bs

abbrev pub AllTrue : List Bool → Type 0
AllTrue [] = Unit {0}
AllTrue (b ∷ bs) = (b ≡ true) × AllTrue bs

pub all_true : (bs : List Bool) → all bs ≡ true → AllTrue bs
all_true [] passed = tt
all_true (b ∷ bs) passed = let parts = and_parts b (all bs) passed in (parts.0, all_true bs parts.1)

module _ (k : Symbols) where
  abbrev cancels : ℕ → Option ℕ → Bool
  cancels a None = a == 0
  cancels a (Some b) = all (not (a == 0) ∷ nat_lt b k.order ∷ (k.product a b == 1) ∷ [])

  none_at_zero : (x : Option ℕ) → cancels 0 x ≡ true → x ≡ None
  none_at_zero None t = refl
  none_at_zero (Some b) t = absurd (both_ways false refl t)

  some_elsewhere : (a : ℕ) (x : Option ℕ) → a ≢ 0 → cancels a x ≡ true → (b : ℕ) × (x ≡ Some b) × (b < k.order) × (k.product a b ≡ 1)
  some_elsewhere a None ne t = absurd (ne (eqb-true a 0 t))
  some_elsewhere a (Some b) ne t =
      let parts = all_true (not (a == 0) ∷ nat_lt b k.order ∷ (k.product a b == 1) ∷ []) t in
      (b, refl, ltb-true _ _ parts.1.0, eqb-true _ _ parts.1.1.0)

  abbrev one_tests : ℕ → List Bool
  one_tests a =
      nat_lt (k.opposite a) k.order ∷ (k.sum a 0 == a) ∷ (k.sum a (k.opposite a) == 0) ∷ (k.product a 1 == a) ∷ cancels a (k.inverse a) ∷ []

  abbrev two_tests : ℕ → ℕ → List Bool
  two_tests a b =
      nat_lt (k.sum a b) k.order ∷ nat_lt (k.product a b) k.order ∷ (k.sum a b == k.sum b a) ∷ (k.product a b == k.product b a) ∷ []

  abbrev three_tests : ℕ → ℕ → ℕ → List Bool
  three_tests a b c =
      (k.sum (k.sum a b) c == k.sum a (k.sum b c))
      ∷ (k.product (k.product a b) c == k.product a (k.product b c))
      ∷ (k.product a (k.sum b c) == k.sum (k.product a b) (k.product a c)) ∷ []

  abbrev every_code : (ℕ → Bool) → Bool
  every_code = every k.order

  abbrev field_tests : List Bool
  field_tests =
      nat_le 2 k.order ∷ nat_le k.order 16 ∷ every_code (λ a. all (one_tests a))
      ∷ every_code (λ a. every_code (λ b. all (two_tests a b)))
      ∷ every_code (λ a. every_code (λ b. every_code (λ c. all (three_tests a b c)))) ∷ []

module _ (q : ℕ) (s : ℕ → ℕ → ℕ) (o : ℕ → ℕ) (p : ℕ → ℕ → ℕ) where
  abbrev k : Symbols
  k = field_of q s o p

  module _ (passed : all (field_tests k) ≡ true) where
    tests : AllTrue (field_tests k)
    tests = all_true (field_tests k) passed

    one : (a : ℕ) → a < q → AllTrue (one_tests k a)
    one a h = all_true (one_tests k a) (every_at (λ x. all (one_tests k x)) q a tests.1.1.0 h)

    two : (a b : ℕ) → a < q → b < q → AllTrue (two_tests k a b)
    two a b h i = all_true (two_tests k a b) (every_at _ q b (every_at _ q a tests.1.1.1.0 h) i)

    three : (a b c : ℕ) → a < q → b < q → c < q → AllTrue (three_tests k a b c)
    three a b c h i j = all_true (three_tests k a b c) (every_at _ q c (every_at _ q b (every_at _ q a tests.1.1.1.1.0 h) i) j)

    some_code : 1 ≤ q
    some_code = omega (arith, leb-true 2 q tests.0)

    sum_product_laws : SumProductLaws k
    sum_product_laws = record {
      least = leb-true _ _ tests.0;
      most = leb-true _ _ tests.1.0;
      sum_below = at_codes_below q some_code s (λ a b h i. ltb-true _ _ (two a b h i).0);
      opposite_below = at_code_below q some_code o (λ a h. ltb-true _ _ (one a h).0);
      product_below = at_codes_below q some_code p (λ a b h i. ltb-true _ _ (two a b h i).1.0);
      sum_outside_left = at_codes_outside_left q s;
      sum_outside_right = at_codes_outside_right q s;
      opposite_outside = at_code_outside q o;
      product_outside_left = at_codes_outside_left q p;
      product_outside_right = at_codes_outside_right q p;
      sum_associative = λ a b c h i j. eqb-true _ _ (three a b c h i j).0;
      sum_commutative = λ a b h i. eqb-true _ _ (two a b h i).1.1.0;
      sum_zero = λ a h. eqb-true _ _ (one a h).1.0;
      sum_opposite = λ a h. eqb-true _ _ (one a h).1.1.0;
      product_associative = λ a b c h i j. eqb-true _ _ (three a b c h i j).1.0;
      product_commutative = λ a b h i. eqb-true _ _ (two a b h i).1.1.1.0;
      product_one = λ a h. eqb-true _ _ (one a h).1.1.1.0;
      distributive = λ a b c h i j. eqb-true _ _ (three a b c h i j).1.1.0;
    }

    pub field_laws : FieldLaws k
    field_laws = record {
      sums = sum_product_laws;
      inverse_zero = none_at_zero k (k.inverse 0) (one 0 some_code).1.1.1.1.0;
      inverse_outside = λ a h. first_code_none _ 1 q (λ b. rw (at_codes_outside_left q p a b h) (omega arith));
      inverse_cancels = λ a h ne. some_elsewhere k a (k.inverse a) ne (one a h).1.1.1.1.0;
    }

primes_pass : each_listed prime_orders (λ p. all (field_tests (prime_symbols p))) ≡ true
primes_pass = refl

binaries_pass : each_listed binary_orders (λ q. all (field_tests (binary_symbols q))) ≡ true
unfolding times_power times_bits
binaries_pass = refl

pub prime_laws : (n : ℕ) → listed prime_orders n ≡ true → FieldLaws (prime_symbols n)
prime_laws n h = field_laws n _ _ _ (listed_at (λ p. all (field_tests (prime_symbols p))) prime_orders n primes_pass h)

pub binary_laws : (n : ℕ) → listed binary_orders n ≡ true → FieldLaws (binary_symbols n)
binary_laws n h = field_laws n _ _ _ (listed_at (λ q. all (field_tests (binary_symbols q))) binary_orders n binaries_pass h)
