-- The lines that ask something, as bytes without their last byte 10. A space is 32.
--     Asked                 what can be asked: a load with a radius, a write, a read, a clear
--     Lawful a              the radius is one digit, and the symbols are at most 64 digits
--     spelling a            the line that asks a
--     asked r               what the request r asks, and none if there is no request
--     Means line o          o is what the line asks, and none exactly if the line spells nothing lawful
use Rattle.std.specs.Prelude.{◌≡◌, ℕ, ◌+◌, ◌<◌, List, ◌∷◌, ◌++◌, Some, None, codes, Option, ◌≢◌}
use Rattle.marks_lines.specs.Held.{held}
use Rattle.marks_lines.specs.Symbols.{Symbols, digits}
use Rattle.marks_lines.specs.declared.request.Request.{Request}
use Rattle.marks_lines.specs.declared.request.Request.TheVariants.{Load, Write, Read, Clear}

pub data Asked : Type 0 where
  load : ℕ → List ℕ → Asked
  write : List ℕ → Asked
  read : List ℕ → Asked
  clear : Asked

abbrev pub Lawful : Asked → Type 0
Lawful (load t s) = (t < 10) × Symbols s
Lawful (write s) = Symbols s
Lawful (read s) = Symbols s
Lawful clear = Unit {0}

abbrev pub spelling : Asked → List ℕ
spelling (load t s) = codes "L " ++ (48 + t) ∷ 32 ∷ digits s
spelling (write s) = codes "W " ++ digits s
spelling (read s) = codes "R " ++ digits s
spelling clear = codes "C"

abbrev pub asked : Option Request → Option Asked
asked (Some (Load t d)) = Some (load t (held d))
asked (Some (Write d)) = Some (write (held d))
asked (Some (Read d)) = Some (read (held d))
asked (Some Clear) = Some clear
asked None = None

abbrev pub Means : List ℕ → Option Asked → Type 0
Means line (Some a) = Lawful a × (line ≡ spelling a)
Means line None = (a : Asked) → Lawful a → line ≢ spelling a
