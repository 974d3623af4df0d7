-- Group codes. Here k is a field, g a group of n dots, e the word of the code and t the radius.
--     Leads w d             w has its first nonzero symbol at dot d
--     MessageDot k g e d    some code word has its first nonzero symbol at dot d
--     MessageDots k g e ds  ds lists exactly the message dots, rising
--     chosen ds w           the symbols of w at the dots ds
--     WrittenAs k g e ds m w     w is the only code word with the symbols m at the dots ds
--     distance n u v        the number of dots at which u and v differ
--     TooClose k g e t      some code word that is not zero has weight 2t or less
--     Pattern k g e t r p   p is a word of weight at most t with the syndrome of r
--     TurnCount g p c       0 for the zero word, else one more than the least turn with a nonzero symbol at dot 0
--     choose m i            the binomial coefficient
--     rows n q t            the number of words of weight at most t with symbol 1 at dot 0
use Rattle.std.specs.Prelude.{◌≡◌, ℕ, zero, suc, ◌+◌, ◌-◌, ◌*◌, ◌^◌, ◌<◌, ◌≤◌, cond, ◌≢◌, List, map, length, ◌==◌, slice_index}
use Rattle.algebra.specs.Fields.{Symbols}
use Rattle.algebra.specs.Groups.{Dots}
use Rattle.words.specs.Words.{at, Lawful, Keeps, nought, syndrome, turned, weight}

abbrev pub Leads : List ℕ → ℕ → Type 0
Leads w d = (at w d ≢ 0) × ((i : ℕ) → i < d → at w i ≡ 0)

abbrev pub Rising : List ℕ → Type 0
Rising ds = (i j : ℕ) → i < j → j < length ds → slice_index ds i < slice_index ds j

abbrev pub chosen : List ℕ → List ℕ → List ℕ
chosen ds w = map (at w) ds

unfoldable pub distance : ℕ → List ℕ → List ℕ → ℕ
distance zero u v = 0
distance (suc n) u v = distance n u v + cond (at u n == at v n) 0 1

module _ (k : Symbols) (g : Dots) where
  abbrev pub MessageDot : List ℕ → ℕ → Type 0
  MessageDot e d = (d < g.order) × ((w : List ℕ) × Keeps k g e w × Leads w d)

  abbrev pub MessageDots : List ℕ → List ℕ → Type 0
  MessageDots e ds =
      Rising ds × ((i : ℕ) → i < length ds → MessageDot e (slice_index ds i)) × ((d : ℕ) → MessageDot e d → (i : ℕ) × (i < length ds) × (slice_index ds i ≡ d))

  abbrev pub WrittenAs : List ℕ → List ℕ → List ℕ → List ℕ → Type 0
  WrittenAs e ds m w = Keeps k g e w × (chosen ds w ≡ m) × ((v : List ℕ) → Keeps k g e v → chosen ds v ≡ m → v ≡ w)

  abbrev pub TooClose : List ℕ → ℕ → Type 0
  TooClose e t = (w : List ℕ) × Keeps k g e w × (w ≢ nought g.order) × (weight w ≤ 2 * t)

  abbrev pub Pattern : List ℕ → ℕ → List ℕ → List ℕ → Type 0
  Pattern e t r p = Lawful k g.order p × (weight p ≤ t) × (syndrome k g e p ≡ syndrome k g e r)

abbrev pub TurnCount : Dots → List ℕ → ℕ → Type 0
TurnCount g p zero = p ≡ nought g.order
TurnCount g p (suc j) = (j < g.order) × (at (turned g j p) 0 ≢ 0) × ((i : ℕ) → i < j → at (turned g i p) 0 ≡ 0)

abbrev pub choose : ℕ → ℕ → ℕ
choose m zero = 1
choose zero (suc i) = 0
choose (suc m) (suc i) = choose m i + choose m (suc i)

abbrev pub rows : ℕ → ℕ → ℕ → ℕ
rows n q zero = 0
rows n q (suc w) = rows n q w + choose (n - 1) w * (q - 1) ^ w
