-- How a call judges what it was handed: checks in a fixed order, of which the first that fails refuses the call.
--     Check                what a check asks, and the faults that it refuses with where that fails
--     asked P f            asks P, and refuses with f
--     each n P f           asks P of each number below n, and refuses with f at the first that fails
--     Passed cs            each check of cs has what it asks
--     Refused cs f         some check of cs refuses with f, and those before it have what they ask
--     Judged cs r Q        r is a value with Q if all checks pass, and else the fault of the first that fails
use Rattle.std.specs.Prelude.{◌≡◌, ℕ, ◌<◌, ◌⊎◌, List, [], ◌∷◌, Result, MatchResult}
use Rattle.algebra.specs.declared.fault.Fault.{Fault}

pub record Check : Type 1 where
  pub asks : Type 0
  pub refuses : Fault → Type 0

abbrev pub asked : Type 0 → Fault → Check
asked P f = record { asks = P; refuses = λ x. (P → ⊥) × (x ≡ f) }

-- i is the first number at which P fails
abbrev pub FirstWithout : (ℕ → Type 0) → ℕ → Type 0
FirstWithout P i = (P i → ⊥) × ((j : ℕ) → j < i → P j)

abbrev pub each : ℕ → (ℕ → Type 0) → (ℕ → Fault) → Check
each n P f = record {
  asks = (i : ℕ) → i < n → P i;
  refuses = λ x. (i : ℕ) × (i < n) × FirstWithout P i × (x ≡ f i);
}

abbrev pub Passed : List Check → Type 0
Passed [] = Unit {0}
Passed (c ∷ cs) = c.asks × Passed cs

abbrev pub Refused : List Check → Fault → Type 0
Refused [] f = ⊥
Refused (c ∷ cs) f = c.refuses f ⊎ (c.asks × Refused cs f)

abbrev pub Judged : {X : Type 0} → List Check → Result X Fault → (X → Type 0) → Type 0
Judged cs r Q = MatchResult r (λ x. Passed cs × Q x) (λ f. Refused cs f)
