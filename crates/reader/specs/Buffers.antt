-- The checks of a call's buffers, in their order.
--     buffer_checks ls q w     the buffers have the lengths of ls, each with the one that it has to be, and then each symbol of w has to be below q
use Rattle.std.specs.Prelude.{ℕ, List, [], ◌∷◌, ◌++◌}
use Rattle.algebra.specs.Checks.{Check}
use Rattle.words.specs.Buffers.{length_checks, range_check}

abbrev pub buffer_checks : List (ℕ × ℕ) → ℕ → List ℕ → List Check
buffer_checks ls q w = length_checks 0 ls ++ range_check q w ∷ []
