-- Sums modulo n.
use Rattle.std.specs.Prelude.{◌≡◌, ℕ, ◌+◌, ◌-◌, ◌%◌, ◌≤◌}
use Rattle.std.proofs.Common.{◌∙◌, sym, ap, add_assoc, add_comm, add-zero, mod-lt, arith}
use Rattle.std.proofs.Math.Nat.{mod_self, mod-add-mod, add-mod-mod}

module _ (n : ℕ) where
  pub sum_associative : (a b c : ℕ) → ((a + b) % n + c) % n ≡ (a + (b + c) % n) % n
  sum_associative a b c = mod-add-mod (a + b) n c ∙ ap (λ x. x % n) (add_assoc a b c) ∙ sym (add-mod-mod a (b + c) n)

  pub sum_whole : (a : ℕ) → a ≤ n → (a + (n - a)) % n ≡ 0
  sum_whole a h =
      let whole : a + (n - a) ≡ n = omega arith in
      ap (λ x. x % n) whole ∙ mod_self n

  pub sum_opposite : (a : ℕ) → a ≤ n → (a + (n - a) % n) % n ≡ 0
  sum_opposite a h = add-mod-mod a (n - a) n ∙ sum_whole a h

  pub opposite_sum : (a : ℕ) → a ≤ n → ((n - a) % n + a) % n ≡ 0
  opposite_sum a h = ap (λ x. x % n) (add_comm ((n - a) % n) a) ∙ sum_opposite a h

  pub remainder_opposite : (a : ℕ) → 1 ≤ n → (a + (n - a % n)) % n ≡ 0
  remainder_opposite a one =
      let below = mod-lt a one in
      sym (mod-add-mod a n (n - a % n)) ∙ sum_whole (a % n) (omega arith)

  add_cancelled : (a b : ℕ) → b % n ≡ 0 → (a + b) % n ≡ a % n
  add_cancelled a b e = sym (add-mod-mod a b n) ∙ ap (λ x. (a + x) % n) e ∙ ap (λ x. x % n) (add-zero a)

  -- two numbers that cancel the same number are the same modulo n
  pub cancelling_same : (a b c d : ℕ) → (b + c) % n ≡ 0 → (b + d) % n ≡ 0 → (a + c) % n ≡ (a + d) % n
  cancelling_same a b c d p q =
      let regrouped : (a + c) + (b + d) ≡ (a + d) + (b + c) = omega arith in
      sym (add_cancelled (a + c) (b + d) q) ∙ ap (λ x. x % n) regrouped ∙ add_cancelled (a + d) (b + c) p
