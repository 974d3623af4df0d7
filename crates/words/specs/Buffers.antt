-- The checks of the buffers that a call is handed.
--     length_check l n i      the call's buffer i, of length l, has to have n elements
--     length_checks i ls      the buffers from the i-th on have the lengths of ls, each with the one that it has to be
--     range_check q w         each symbol of w has to be below q
use Rattle.std.specs.Prelude.{◌≡◌, ℕ, ◌+◌, ◌<◌, List, [], ◌∷◌, length}
use Rattle.algebra.specs.Checks.{Check, asked, each}
use Rattle.algebra.specs.Refusals.{length_refused, symbol_refused}
use Rattle.words.specs.Words.{at}

abbrev pub length_check : ℕ → ℕ → ℕ → Check
length_check l n i = asked (l ≡ n) (length_refused i)

abbrev pub length_checks : ℕ → List (ℕ × ℕ) → List Check
length_checks i [] = []
length_checks i (l ∷ ls) = length_check l.0 l.1 i ∷ length_checks (i + 1) ls

abbrev pub range_check : ℕ → List ℕ → Check
range_check q w = each (length w) (λ i. at w i < q) symbol_refused
