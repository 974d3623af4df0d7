-- Words: lists of symbols, one for each dot. Here k is a field, g a group, and n the number of dots.
--     at w d                the symbol of w at dot d
--     tabulate n f          the word of n symbols f 0, f 1, ..
--     total k f n           the field's sum of f over the numbers below n
--     Lawful k n w          w has n symbols, each below the field's order
--     nought n, one n       the word of zeros; the word with 1 at dot 0 and 0 elsewhere
--     unit n d              the word with 1 at dot d and 0 elsewhere
--     plus, less k n u v    the sum and the difference, symbol by symbol
--     scaled k n a w        each symbol of w times a
--     times k g u v         the product: at x the sum, over all dots h, of u at h times v at (inverse of h) times x
--     turned g j w          w turned by j: what hung on dot h hangs on j times h
--     weight w              the number of nonzero symbols
--     Keeps k g e w         w is a code word of e: w times e is w
--     syndrome k g e w      w times (one less e)
use Rattle.std.specs.Prelude.{◌≡◌, ℕ, zero, suc, ◌+◌, ◌<◌, cond, List, [], ◌∷◌, map, length, ◌==◌, slice_index}
use Rattle.std.specs.List.{range_with_len}
use Rattle.algebra.specs.Fields.{Symbols}
use Rattle.algebra.specs.Groups.{Dots}

abbrev pub at : List ℕ → ℕ → ℕ
at w d = slice_index w d

unfoldable pub tabulate : ℕ → (ℕ → ℕ) → List ℕ
tabulate n f = map f (range_with_len 0 n)

unfoldable pub total : Symbols → (ℕ → ℕ) → ℕ → ℕ
total k f zero = 0
total k f (suc n) = k.sum (total k f n) (f n)

abbrev pub Lawful : Symbols → ℕ → List ℕ → Type 0
Lawful k n w = (length w ≡ n) × ((d : ℕ) → d < n → at w d < k.order)

unfoldable pub nought : ℕ → List ℕ
nought n = tabulate n (λ d. 0)

unfoldable pub one : ℕ → List ℕ
one n = tabulate n (λ d. cond (d == 0) 1 0)

unfoldable pub unit : ℕ → ℕ → List ℕ
unit n d = tabulate n (λ x. cond (x == d) 1 0)

unfoldable pub plus : Symbols → ℕ → List ℕ → List ℕ → List ℕ
plus k n u v = tabulate n (λ d. k.sum (at u d) (at v d))

unfoldable pub less : Symbols → ℕ → List ℕ → List ℕ → List ℕ
less k n u v = tabulate n (λ d. k.sum (at u d) (k.opposite (at v d)))

unfoldable pub scaled : Symbols → ℕ → ℕ → List ℕ → List ℕ
scaled k n a w = tabulate n (λ d. k.product a (at w d))

unfoldable pub times : Symbols → Dots → List ℕ → List ℕ → List ℕ
times k g u v = tabulate g.order (λ x. total k (λ h. k.product (at u h) (at v (g.product (g.inverse h) x))) g.order)

unfoldable pub turned : Dots → ℕ → List ℕ → List ℕ
turned g j w = tabulate g.order (λ d. at w (g.product (g.inverse j) d))

unfoldable pub weight : List ℕ → ℕ
weight [] = 0
weight (x ∷ w) = cond (x == 0) 0 1 + weight w

abbrev pub Keeps : Symbols → Dots → List ℕ → List ℕ → Type 0
Keeps k g e w = Lawful k g.order w × (times k g w e ≡ w)

unfoldable pub syndrome : Symbols → Dots → List ℕ → List ℕ → List ℕ
syndrome k g e w = times k g w (less k g.order (one g.order) e)
