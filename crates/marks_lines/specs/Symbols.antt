-- Symbols written as digits, whose codes are 48 to 57.
--     Symbols s             s has at most 64 symbols, each below 10
--     digits s              the codes of the digits of s
--     Stand gives bytes s   the bytes stand for the symbols s, one for one, as gives tells
--     Stray gives bytes     there are more than 64 bytes, or gives tells that one stands for no symbol
use Rattle.std.specs.Prelude.{◌≡◌, ℕ, ◌+◌, ◌<◌, ◌≤◌, ◌⊎◌, List, map, length, slice_index, Some, None, Option}
use Rattle.std.specs.List.{AllByRecursion}

abbrev pub Symbols : List ℕ → Type 0
Symbols s = (length s ≤ 64) × AllByRecursion (λ x. x < 10) s

abbrev pub digits : List ℕ → List ℕ
digits s = map (λ x. 48 + x) s

abbrev pub Stand : (ℕ → Option ℕ → Type 0) → List ℕ → List ℕ → Type 0
Stand gives bytes s =
    (length s ≡ length bytes) × ((i : ℕ) → i < length bytes → gives (slice_index bytes i) (Some (slice_index s i)))

abbrev pub Stray : (ℕ → Option ℕ → Type 0) → List ℕ → Type 0
Stray gives bytes = (64 < length bytes) ⊎ (i : ℕ) × (i < length bytes) × gives (slice_index bytes i) None
