-- The least dot by which one mark turns into another.
use Rattle.std.proofs.Common.{◌≡◌, ℕ, ◌<◌, ◌≤◌, List, Option, Some, None, MatchOption, arith}
use Rattle.algebra.specs.Groups.{Dots}
use Rattle.words.specs.Turns.{LeastTurn, Turned}

pub least_turn : (g : Dots) (u v : List ℕ) (n : ℕ) (o : Option ℕ) → n ≡ g.order → MatchOption o ((j : ℕ) → 0 ≤ j → j < n → Turned g j u v → ⊥) (λ j. (0 ≤ j) × (j < n) × Turned g j u v × ((i : ℕ) → 0 ≤ i → i < j → Turned g i u v → ⊥))
    → LeastTurn g u v o
least_turn g u v n None e none = λ j l. none j (omega arith) (omega arith)
least_turn g u v n (Some j) e (_, l, turns, least) = (omega arith, turns, λ i. least i (omega arith))
