-- The basis of a code as it is stored, over a field k and a group g of n dots.
--     basis_dots b, basis_word n b i   the message dots of the basis b, and the word of the i-th
--     BasisOf k g e b       b is the basis of the code of e
use Rattle.std.specs.Prelude.{◌≡◌, ℕ, ◌<◌, cond, List, [], length, map, take, ◌==◌, slice_index, slice_index_or}
use Rattle.algebra.specs.Fields.{Symbols}
use Rattle.algebra.specs.Groups.{Dots}
use Rattle.words.specs.Stored.{word}
use Rattle.words.specs.Words.{at, Keeps}
use Rattle.words.specs.declared.word.Word.{Word}
use Rattle.codes.specs.GroupCodes.{MessageDots}
use Rattle.codes.specs.declared.basis.Basis.{Basis}
use Rattle.codes.specs.declared.basis.BasisRow.{BasisRow}

abbrev pub no_word : Word
no_word = record { symbols = [] }

abbrev pub no_row : BasisRow
no_row = record { dot = 0; word = no_word }

-- the message dots of a basis, rising, and the word of the i-th
abbrev pub basis_dots : Basis → List ℕ
basis_dots b = map (λ (r : BasisRow). r.dot) (take b.count b.rows)

abbrev pub basis_word : ℕ → Basis → ℕ → List ℕ
basis_word n b i = word n (slice_index_or b.rows i no_row).word

-- each word of the basis is the code word with 1 at its own message dot and 0 at the others
pub record BasisOf (k : Symbols) (g : Dots) (e : List ℕ) (b : Basis) : Type 0 where
  pub dots : MessageDots k g e (basis_dots b)
  pub many : length (basis_dots b) ≡ b.count
  pub keeps : (i : ℕ) → i < b.count → Keeps k g e (basis_word g.order b i)
  pub units : (i j : ℕ) → i < b.count → j < b.count → at (basis_word g.order b i) (slice_index (basis_dots b) j) ≡ cond (i == j) 1 0
