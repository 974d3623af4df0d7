-- What the checks of a call's buffers say together.
use Rattle.std.proofs.Common.{◌≡◌, ℕ, zero, suc, ◌+◌, ◌<◌, List, [], ◌∷◌, length, ap, subst, inl, inr, arith}
use Rattle.std.specs.List.{AllWithin, HoldsAt}
use Rattle.algebra.specs.Checks.{Passed, Refused}
use Rattle.algebra.specs.Refusals.{length_refused}
use Rattle.words.specs.Buffers.{length_checks}

abbrev pub Fits : ℕ × ℕ → Type 0
Fits l = l.0 ≡ l.1

abbrev pub Misfits : ℕ × ℕ → Type 0
Misfits l = l.0 ≡ l.1 → ⊥

pub lengths_fit : (ls : List (ℕ × ℕ)) (i : ℕ) → AllWithin Fits ls 0 (length ls) → Passed (length_checks i ls)
lengths_fit [] i all = tt
lengths_fit (l ∷ ls) i all =
    (all 0 l (omega arith) (omega arith), lengths_fit ls (i + 1) (λ k d low high. all (suc k) d (omega arith) (omega arith)))

misfit_from : (ls : List (ℕ × ℕ)) (i j : ℕ) → j < length ls → HoldsAt Misfits ls j → AllWithin Fits ls 0 j → Refused (length_checks i ls) (length_refused (i + j))
misfit_from [] i j below here before = absurd (omega arith)
misfit_from (l ∷ ls) i zero below here before = inl (here l, ap length_refused (omega arith))
misfit_from (l ∷ ls) i (suc j) below here before =
    inr (
      before 0 l (omega arith) (omega arith),
      subst (λ x. Refused (length_checks (i + 1) ls) (length_refused x)) (omega arith)
          (misfit_from ls (i + 1) j (omega arith) here (λ k d low high. before (suc k) d (omega arith) (omega arith))),
    )

pub first_misfit : (ls : List (ℕ × ℕ)) (j : ℕ) → j < length ls → HoldsAt Misfits ls j → AllWithin Fits ls 0 j → Refused (length_checks 0 ls) (length_refused j)
first_misfit ls j below here before = subst (λ x. Refused (length_checks 0 ls) (length_refused x)) (omega arith) (misfit_from ls 0 j below here before)
