-- What the program's buffers hold.
--     text l                the bytes of l
--     held d                the symbols of d
--     Appends l bs m        m has the bytes of l and then bs, as far as there is room
--     Holds p line          p holds the first 69 bytes of the line
use Rattle.std.specs.Prelude.{◌≡◌, ℕ, List, ◌++◌, take}
use Rattle.marks_lines.specs.declared.digits.Digits.{Digits}
use Rattle.marks_lines.specs.declared.held.Held.{Held}
use Rattle.marks_lines.specs.declared.pending.Pending.{Pending}

abbrev pub text : {n : ℕ} → Held n → List ℕ
text l = take l.len l.bytes

abbrev pub held : Digits → List ℕ
held d = text d.symbols

pub record Appends {n : ℕ} (l : Held n) (bs : List ℕ) (m : Held n) : Type 0 where
  pub all : text m ≡ take n (text l ++ bs)

abbrev pub Holds : Pending → List ℕ → Type 0
Holds p line = text p.start ≡ take 69 line
