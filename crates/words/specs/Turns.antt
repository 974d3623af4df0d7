-- Turning what hangs on the dots of a group g, and the checks of the calls that turn.
--     Turned g j s t        t is s turned by j: what hangs on dot h of s hangs on dot j times h of t
--     LeastTurn g u v o     o is the least dot by which u turns into v, or none if there is none
--     turn_checks, alike_checks      the checks of a turn and of a comparison, in their order
use Rattle.std.specs.Prelude.{◌≡◌, ℕ, ◌<◌, List, [], ◌∷◌, Some, None, Option, slice_index_or}
use Rattle.algebra.specs.Checks.{Check, asked}
use Rattle.algebra.specs.Groups.{Dots}
use Rattle.words.specs.Buffers.{length_check}
use Rattle.algebra.specs.Refusals.{dot_refused}

abbrev pub Turned : {X : Type 0} → Dots → ℕ → List X → List X → Type 0
Turned {X} g j s t = (h : ℕ) (d : X) → h < g.order → slice_index_or t (g.product j h) d ≡ slice_index_or s h d

abbrev pub LeastTurn : Dots → List ℕ → List ℕ → Option ℕ → Type 0
LeastTurn g u v None = (j : ℕ) → j < g.order → Turned g j u v → ⊥
LeastTurn g u v (Some j) = (j < g.order) × Turned g j u v × ((i : ℕ) → i < j → Turned g i u v → ⊥)

abbrev pub turn_checks : (n j source target : ℕ) → List Check
turn_checks n j source target = length_check source n 0 ∷ length_check target n 1 ∷ asked (j < n) dot_refused ∷ []

abbrev pub alike_checks : (n first second : ℕ) → List Check
alike_checks n first second = length_check first n 0 ∷ length_check second n 1 ∷ []
