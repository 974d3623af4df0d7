-- Totals of numbers: the weight of a word, counted dot by dot, and a word split in two.
--     numbers               the sum of numbers, for totals of numbers
--     mark x                1 for a nonzero symbol
use Rattle.std.proofs.Common.{◌≡◌, ℕ, zero, suc, ◌+◌, ◌*◌, ◌<◌, ◌≤◌, cond, eqb, ltb, ◌≢◌, List, [], ◌∷◌, length, None, sym, refl, ap, ◌∙◌, ap₂, inl, inr, arith}
use Rattle.std.proofs.lemmas.Bool.{cases_eq, cases_lt, eq-eqb, ne_eqb, lt-ltb, le-ltb, cond-true, cond-false, cond_both}
use Rattle.algebra.specs.Fields.{Symbols, SumProductLaws}
use Rattle.words.specs.Words.{at, tabulate, total, less, weight, Lawful}
use Rattle.algebra.proofs.SumProducts.{zero_below, zero_sum, opposite_sum_cancels}
use Rattle.words.proofs.Tabulate.{length_tabulate, at_tabulate}
use Rattle.words.proofs.Totals.{Adds, total_cong, total_zero, total_sum}
use Rattle.words.proofs.Linear.{at_less, tabulate_lawful, less_lawful}

abbrev pub numbers : Symbols
numbers = record { order = 0; sum = ◌+◌; opposite = λ a. 0; product = ◌*◌; inverse = λ a. None }

pub numbers_add : Adds numbers (λ a. Unit {0})
numbers_add = record {
  zero_code = tt;
  sum_code = λ a b _ _. tt;
  associative = λ a b c _ _ _. omega arith;
  commutative = λ a b _ _. omega arith;
  zero_neutral = λ a _. omega arith;
}

abbrev pub mark : ℕ → ℕ
mark x = cond (eqb x 0) 0 1

pub mark_zero : (x : ℕ) → x ≡ 0 → mark x ≡ 0
mark_zero x e = cond-true (eqb x 0) 0 1 (eq-eqb x 0 e)

pub mark_other : (x : ℕ) → x ≢ 0 → mark x ≡ 1
mark_other x ne = cond-false (eqb x 0) 0 1 (ne_eqb x 0 ne)

pub mark_most : (x : ℕ) → mark x ≤ 1
mark_most x = cond_both (eqb x 0) 0 1 (λ y. y ≤ 1) (λ _. omega arith) (λ _. omega arith)

total_front : (f : ℕ → ℕ) (n : ℕ) → total numbers f (suc n) ≡ f 0 + total numbers (λ d. f (suc d)) n
unfolding total
total_front f zero = omega arith
total_front f (suc n) = ap (λ x. x + f (suc n)) (total_front f n) ∙ omega arith

weight_total : (w : List ℕ) → weight w ≡ total numbers (λ d. mark (at w d)) (length w)
unfolding weight total
weight_total [] = refl
weight_total (x ∷ w) = ap (λ y. mark x + y) (weight_total w) ∙ sym (total_front (λ d. mark (at (x ∷ w) d)) (length w))

pub weight_is_total : (n : ℕ) (w : List ℕ) → length w ≡ n → weight w ≡ total numbers (λ d. mark (at w d)) n
weight_is_total n w l = weight_total w ∙ ap (total numbers (λ d. mark (at w d))) l

-- terms of at most 1, of which the first j are 0
pub total_few : (f : ℕ → ℕ) (j n : ℕ) → j ≤ n → ((d : ℕ) → f d ≤ 1) → ((d : ℕ) → d < j → f d ≡ 0) → total numbers f n + j ≤ n
unfolding total
total_few f j zero lj most none = omega arith
total_few f j (suc n) lj most none = elim (cases_lt n j) [
  | inl h ↦ omega (arith, total_zero numbers_add f n (λ d l. none d (omega arith)), none n h)
  | inr h ↦ omega (arith, total_few f j n h most none, most n)
]

-- a total of terms of at most 1 passes each number on its way up
total_passes : (f : ℕ → ℕ) (c n : ℕ) → ((d : ℕ) → f d ≤ 1) → c ≤ total numbers f n → (d : ℕ) × (d ≤ n) × (total numbers f d ≡ c)
unfolding total
total_passes f c zero most h = (0, omega arith, omega arith)
total_passes f c (suc n) most h = elim (cases_lt (total numbers f n) c) [
  | inl l ↦ (suc n, omega arith, omega (arith, most n))
  | inr l ↦ let (d, ld, e) = total_passes f c n most l in (d, omega arith, e)
]

-- the terms before d
total_before : (f : ℕ → ℕ) (d n : ℕ) → d ≤ n → total numbers (λ i. cond (ltb i d) (f i) 0) n ≡ total numbers f d
unfolding total
total_before f d zero h = let e : 0 ≡ d = omega arith in ap (total numbers f) e
total_before f d (suc n) h = elim (cases_lt n d) [
  | inl l ↦
      let e : suc n ≡ d = omega arith in
      total_cong numbers (λ i. cond (ltb i d) (f i) 0) f (suc n) (λ i li. cond-true (ltb i d) (f i) 0 (lt-ltb i d (omega arith)))
      ∙ ap (total numbers f) e
  | inr l ↦ ap₂ (λ x y. x + y) (total_before f d n l) (cond-false (ltb n d) (f n) 0 (le-ltb n d l)) ∙ omega arith
]

-- the mark of a difference from 0
mark_from_zero : (a x : ℕ) → a ≡ 0 → cond (eqb a x) 0 1 ≡ mark x
mark_from_zero a x z = elim (cases_eq x 0) [
  | inl e ↦ cond-true (eqb a x) 0 1 (eq-eqb a x (z ∙ sym e)) ∙ sym (mark_zero x e)
  | inr ne ↦ cond-false (eqb a x) 0 1 (ne_eqb a x (λ e. ne (sym e ∙ z))) ∙ sym (mark_other x ne)
]

-- the word w up to dot d, and 0 from there on
abbrev front : ℕ → ℕ → List ℕ → List ℕ
front n d w = tabulate n (λ i. cond (ltb i d) (at w i) 0)

front_before : (n d : ℕ) (w : List ℕ) (i : ℕ) → i < n → i < d → at (front n d w) i ≡ at w i
front_before n d w i li h = at_tabulate n (λ i. cond (ltb i d) (at w i) 0) i li ∙ cond-true (ltb i d) (at w i) 0 (lt-ltb i d h)

front_after : (n d : ℕ) (w : List ℕ) (i : ℕ) → i < n → d ≤ i → at (front n d w) i ≡ 0
front_after n d w i li h = at_tabulate n (λ i. cond (ltb i d) (at w i) 0) i li ∙ cond-false (ltb i d) (at w i) 0 (le-ltb i d h)

weight_front : (n d : ℕ) (w : List ℕ) → d ≤ n → weight (front n d w) ≡ total numbers (λ i. mark (at w i)) d
weight_front n d w ld =
    weight_is_total n (front n d w) (length_tabulate n (λ i. cond (ltb i d) (at w i) 0))
    ∙ total_cong numbers (λ i. mark (at (front n d w) i)) (λ i. cond (ltb i d) (mark (at w i)) 0) n (λ i li. elim (cases_lt i d) [
      | inl h ↦ ap mark (front_before n d w i li h) ∙ sym (cond-true (ltb i d) (mark (at w i)) 0 (lt-ltb i d h))
      | inr h ↦ ap mark (front_after n d w i li h) ∙ sym (cond-false (ltb i d) (mark (at w i)) 0 (le-ltb i d h))
    ])
    ∙ total_before (λ i. mark (at w i)) d n ld

module _ {k : Symbols} (laws : SumProductLaws k) where
  pub mark_difference : (a b : ℕ) → a < k.order → b < k.order → mark (k.sum a (k.opposite b)) ≡ cond (eqb a b) 0 1
  mark_difference a b la lb = elim (cases_eq a b) [
    | inl e ↦
        mark_zero (k.sum a (k.opposite b)) (ap (λ x. k.sum x (k.opposite b)) e ∙ laws.sum_opposite b lb) ∙ sym (cond-true (eqb a b) 0 1 (eq-eqb a b e))
    | inr ne ↦
        mark_other (k.sum a (k.opposite b)) (λ z. ne (
        sym (opposite_sum_cancels laws a b la lb) ∙ ap (λ x. k.sum x b) z ∙ zero_sum laws b lb))
        ∙ sym (cond-false (eqb a b) 0 1 (ne_eqb a b ne))
  ]

  front_lawful : (n d : ℕ) (w : List ℕ) → Lawful k n w → Lawful k n (front n d w)
  front_lawful n d w lw = tabulate_lawful k n (λ i. cond (ltb i d) (at w i) 0) (λ i li.
      cond_both (ltb i d) (at w i) 0 (λ x. x < k.order) (λ _. lw.1 i li) (λ _. zero_below laws))

  mark_parts : (n d : ℕ) (w : List ℕ) → Lawful k n w → (i : ℕ) → i < n → mark (at (front n d w) i) + mark (at (less k n (front n d w) w) i) ≡ mark (at w i)
  mark_parts n d w lw i li =
      ap (λ x. mark (at (front n d w) i) + x) (
      ap mark (at_less k n (front n d w) w i li) ∙ mark_difference (at (front n d w) i) (at w i) ((front_lawful n d w lw).1 i li) (lw.1 i li))
      ∙ parts
    where
      parts : mark (at (front n d w) i) + cond (eqb (at (front n d w) i) (at w i)) 0 1 ≡ mark (at w i)
      parts = elim (cases_lt i d) [
        | inl h ↦
            let e = front_before n d w i li h in
            omega (arith, ap mark e, cond-true {A = ℕ} (eqb (at (front n d w) i) (at w i)) 0 1 (eq-eqb _ _ e))
        | inr h ↦
            let z = front_after n d w i li h in
            omega (arith, mark_zero (at (front n d w) i) z, mark_from_zero (at (front n d w) i) (at w i) z)
      ]

  -- the first nonzero symbols, c of them, and what is left
  pub weight_split : (n c : ℕ) (w : List ℕ) → Lawful k n w → c ≤ weight w → (a : List ℕ) × Lawful k n a × (weight a ≡ c) × (weight a + weight (less k n a w) ≡ weight w) × (c ≢ 0 → at a 0 ≡ at w 0)
  unfolding total
  weight_split n c w lw lc =
      let (d, ld, passes) = total_passes (λ i. mark (at w i)) c n (λ i. mark_most (at w i)) (rw (weight_is_total n w lw.0) at lc) in
      (front n d w, front_lawful n d w lw, weight_front n d w ld ∙ passes, sums d, first d ld passes)
    where
      sums : (d : ℕ) → weight (front n d w) + weight (less k n (front n d w) w) ≡ weight w
      sums d =
          ap₂ ◌+◌ (weight_is_total n (front n d w) (front_lawful n d w lw).0) (weight_is_total n (less k n (front n d w) w) (less_lawful laws n (front n d w) w).0)
          ∙ sym (total_sum numbers_add (λ i. mark (at (front n d w) i)) (λ i. mark (at (less k n (front n d w) w) i)) n (λ _. tt) (λ _. tt))
          ∙ total_cong numbers _ _ n (mark_parts n d w lw)
          ∙ sym (weight_is_total n w lw.0)

      first : (d : ℕ) → d ≤ n → total numbers (λ i. mark (at w i)) d ≡ c → c ≢ 0 → at (front n d w) 0 ≡ at w 0
      first zero ld passes ne = absurd (ne (sym passes))
      first (suc d) ld passes ne = front_before n (suc d) w 0 (omega arith) (omega arith)
