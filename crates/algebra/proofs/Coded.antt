-- A function at codes: itself inside them, 0 outside; and the first code that passes a test.
use Rattle.std.proofs.Common.{◌≡◌, ℕ, zero, suc, ◌+◌, ◌<◌, ◌≤◌, true, false, ◌&&◌, eqb, ltb, ◌≢◌, Some, None, Option, sym, refl, ◌∙◌, ⊎_elim, add-one, arith}
use Rattle.std.proofs.lemmas.Bool.{lt-ltb, le-ltb, eq-eqb, ne_eqb, and_from, and_left, and_right, cond-true, cond-false, cases_lt, cases_eq}
use Rattle.algebra.specs.Codes.{at_code, at_codes, first_code}

module _ (n : ℕ) (f : ℕ → ℕ) where
  pub at_code_inside : (a : ℕ) → a < n → at_code n f a ≡ f a
  at_code_inside a h = cond-true (ltb a n) (f a) 0 (lt-ltb a n h)

  pub at_code_outside : (a : ℕ) → n ≤ a → at_code n f a ≡ 0
  at_code_outside a h = cond-false (ltb a n) (f a) 0 (le-ltb a n h)

module _ (n : ℕ) (f : ℕ → ℕ → ℕ) where
  pub at_codes_inside : (a b : ℕ) → a < n → b < n → at_codes n f a b ≡ f a b
  at_codes_inside a b h k =
      cond-true (ltb a n && ltb b n) (f a b) 0 (and_from (ltb a n) (ltb b n) (lt-ltb a n h) (lt-ltb b n k))

  pub at_codes_outside_left : (a b : ℕ) → n ≤ a → at_codes n f a b ≡ 0
  at_codes_outside_left a b h = cond-false (ltb a n && ltb b n) (f a b) 0 (and_left (ltb a n) (ltb b n) (le-ltb a n h))

  pub at_codes_outside_right : (a b : ℕ) → n ≤ b → at_codes n f a b ≡ 0
  at_codes_outside_right a b h = cond-false (ltb a n && ltb b n) (f a b) 0 (and_right (ltb a n) (ltb b n) (le-ltb b n h))

module _ (n : ℕ) (some_code : 1 ≤ n) where
  pub at_code_below : (f : ℕ → ℕ) → ((a : ℕ) → a < n → at_code n f a < n) → (a : ℕ) → at_code n f a < n
  at_code_below f below a = ⊎_elim (below a) (λ (h : n ≤ a). rw (at_code_outside n f a h) some_code) (cases_lt a n)

  pub at_codes_below : (f : ℕ → ℕ → ℕ) → ((a b : ℕ) → a < n → b < n → at_codes n f a b < n) → (a b : ℕ) → at_codes n f a b < n
  at_codes_below f below a b =
      ⊎_elim
      (λ (h : a < n). ⊎_elim (below a b h) (λ (k : n ≤ b). rw (at_codes_outside_right n f a b k) some_code) (cases_lt b n))
      (λ (h : n ≤ a). rw (at_codes_outside_left n f a b h) some_code)
      (cases_lt a n)

pub at_codes_cong : (n : ℕ) (f f' : ℕ → ℕ → ℕ) → ((a b : ℕ) → a < n → b < n → f a b ≡ f' a b) → (a b : ℕ) → at_codes n f a b ≡ at_codes n f' a b
at_codes_cong n f f' same a b =
    ⊎_elim
    (λ h. ⊎_elim (λ k. at_codes_inside n f a b h k ∙ same a b h k ∙ sym (at_codes_inside n f' a b h k))
    (λ k. at_codes_outside_right n f a b k ∙ sym (at_codes_outside_right n f' a b k))
    (cases_lt b n))
    (λ h. at_codes_outside_left n f a b h ∙ sym (at_codes_outside_left n f' a b h))
    (cases_lt a n)

-- a search for the first code at which f is v
module _ (f : ℕ → ℕ) (v : ℕ) where
  abbrev first_at : ℕ → Option ℕ
  first_at n = first_code n (λ b. eqb (f b) v)

  pub first_code_more : (n x : ℕ) → first_at n ≡ None → x ≡ f n → x ≢ v → first_at (n + 1) ≡ None
  first_code_more n x none e ne = let fails : eqb (f n) v ≡ false = ne_eqb (f n) v (λ (w : f n ≡ v). ne (e ∙ w)) in rw (add-one, none, fails)

  pub first_code_none : (n : ℕ) → ((b : ℕ) → f b ≢ v) → first_at n ≡ None
  first_code_none zero ne = refl
  first_code_none (suc n) ne = rw add-one at (first_code_more n (f n) (first_code_none n ne) refl (ne n))

  pub first_code_found : (n b x : ℕ) → b < n → first_at b ≡ None → x ≡ f b → x ≡ v → Some b ≡ first_at n
  first_code_found zero b x h none e w = absurd (omega arith)
  first_code_found (suc n) b x h none e w =
      ⊎_elim
      (λ (same : b ≡ n). let passes : eqb (f b) v ≡ true = eq-eqb (f b) v (sym e ∙ w) in rw (← same, none, passes))
      (λ (ne : b ≡ n → ⊥). let below : b < n = omega arith in rw (← first_code_found n b x below none e w))
      (cases_eq b n)
