-- Lines by their first bytes and what follows these.
--     after k line          what follows the first k bytes, as the program cuts it
use Rattle.std.proofs.Common.{◌≡◌, ℕ, ◌+◌, ◌-◌, ◌<◌, List, ◌∷◌, length, get_or, take, drop, None, ap, ◌∙◌, arith}
use Rattle.std.proofs.lemmas.List.{take_rest}
use Rattle.marks_lines.specs.Lines.{Means, load, write, read, clear}
use Rattle.marks_lines.specs.Symbols.{Symbols, digits}

abbrev after : ℕ → List ℕ → List ℕ
after k line = take (length line - k) (drop k line)

module _ (line : List ℕ) (letter : get_or line 0 0 ≡ 76) where
  no_load : ((t : ℕ) (s : List ℕ) → t < 10 → Symbols s → line ≡ 76 ∷ 32 ∷ (48 + t) ∷ 32 ∷ digits s → ⊥) → Means line None
  no_load none (load t s) lawful e = none t s lawful.0 lawful.1 e
  no_load none (write s) lawful e = omega (arith, letter, ap (λ (l : List ℕ). get_or l 0 0) e)
  no_load none (read s) lawful e = omega (arith, letter, ap (λ (l : List ℕ). get_or l 0 0) e)
  no_load none clear lawful e = omega (arith, letter, ap (λ (l : List ℕ). get_or l 0 0) e)

  pub no_radius : ((t : ℕ) → t < 10 → get_or line 2 0 ≡ 48 + t → ⊥) → Means line None
  no_radius none = no_load (λ t s small lawful e. none t small (ap (λ (l : List ℕ). get_or l 2 0) e))

  pub no_symbols : ((s : List ℕ) → Symbols s → after 4 line ≡ digits s → ⊥) → Means line None
  no_symbols none = no_load (λ t s small lawful e. none s lawful (take_rest line 4 ∙ ap (λ (l : List ℕ). drop 4 l) e))
