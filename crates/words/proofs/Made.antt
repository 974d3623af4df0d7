-- What `array::from_fn` makes with a closure that stays as it is.
use Rattle.std.proofs.Common.{◌≡◌, ℕ, zero, suc, ◌+◌, ◌<◌, ◌≤◌, List, get_or, subst, ⊎_elim, arith}
use Rattle.std.proofs.lemmas.Bool.{cases_eq}
use Rattle.std.specs.Array.{IsFromFnResult, IsFromFnResultFrom}
use Rattle.std.specs.Fn.{Called}
use denote.Param.Members.{Mut}

module _ {F B : Type 0} (g : Mut F (ℕ × Unit {0}) B) (P : ℕ → B → Type 0) (f : F) (same : (i : ℕ) (y : B) (q : F) → Called g f (i, tt) y q → (q ≡ f) × P i y) where
  made_from : (ys : List B) (i n : ℕ) → IsFromFnResultFrom g f ys i n → (k : ℕ) (d : B) → i ≤ k → k < i + n → P k (get_or ys k d)
  made_from ys i zero made k d low high = absurd (omega arith)
  made_from ys i (suc n) (q, y, here, call, rest) k d low high =
      let (kept, holds) = same i y q call in
      ⊎_elim
      (λ (e : k ≡ i). rw (e, here.1 d) holds)
      (λ (ne : k ≡ i → ⊥). made_from ys (i + 1) n (subst (λ p. IsFromFnResultFrom g p ys (i + 1) n) kept rest) k d (omega arith) (omega arith))
      (cases_eq k i)

  pub made_at : (ys : List B) (n : ℕ) → IsFromFnResult g f ys n → (k : ℕ) (d : B) → k < n → P k (get_or ys k d)
  made_at ys n made k d h = made_from ys 0 n made.each k d (omega arith) (omega arith)
