-- When a word e with a radius t is a code that can be loaded, over a field k and a group g.
--     Commutes k g e d      the word with 1 at dot d commutes with e
--     load_checks k g e t   the checks of a load, in their order
--     Passes k g e t        none of them refuses
use Rattle.std.specs.Prelude.{◌≡◌, ℕ, ◌≤◌, List, [], ◌∷◌, length}
use Rattle.algebra.specs.Checks.{Check, Passed, asked, each}
use Rattle.algebra.specs.Fields.{Symbols}
use Rattle.algebra.specs.Groups.{Dots}
use Rattle.algebra.specs.Refusals.{book_refused, central_refused, close_refused, idempotent_refused, radius_refused}
use Rattle.words.specs.Buffers.{length_check, range_check}
use Rattle.words.specs.Words.{at, times, unit}
use Rattle.codes.specs.GroupCodes.{TooClose, rows}

module _ (k : Symbols) (g : Dots) where
  abbrev pub Commutes : List ℕ → ℕ → Type 0
  Commutes e d = times k g (unit g.order d) e ≡ times k g e (unit g.order d)

  abbrev pub idempotent_check : List ℕ → Check
  idempotent_check e = each g.order (λ d. at (times k g e e) d ≡ at e d) idempotent_refused

  abbrev pub central_check : List ℕ → Check
  central_check e = each g.order (Commutes e) central_refused

  abbrev pub load_checks : List ℕ → ℕ → List Check
  load_checks e t =
      length_check (length e) g.order 0 ∷ range_check k.order e ∷ asked (t ≤ 3) radius_refused
      ∷ asked (rows g.order k.order t ≤ 4096) book_refused
      ∷ idempotent_check e ∷ central_check e
      ∷ asked (TooClose k g e t → ⊥) close_refused ∷ []

  abbrev pub Passes : List ℕ → ℕ → Type 0
  Passes e t = Passed (load_checks e t)
