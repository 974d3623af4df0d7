-- When n × n bytes are the table of a group, and what that group means.
--     entry n t a b         what stands in row a, column b of t: a times b
--     table_checks n t      the checks that a table has to pass, in their order
--     table_dots n t v      the group with the products t and the inverses v
--     Adopted n t g         g is the group of order n whose products are those of t
use Rattle.std.specs.Prelude.{◌≡◌, ℕ, ◌+◌, ◌*◌, ◌<◌, ◌≤◌, List, [], ◌∷◌, length, slice_index}
use Rattle.algebra.specs.Checks.{Check, FirstWithout, asked, each}
use Rattle.algebra.specs.Codes.{at_codes}
use Rattle.algebra.specs.Groups.{Dots, group_of}
use Rattle.algebra.specs.Refusals.{size_refused, entry_refused, identity_refused, inverse_refused, association_refused}

abbrev pub entry : ℕ → List ℕ → ℕ → ℕ → ℕ
entry n t a b = slice_index t (a * n + b)

module _ (n : ℕ) (t : List ℕ) where
  abbrev pub Sized : Type 0
  Sized = (1 ≤ n) × (n ≤ 64) × (length t ≡ n * n)

  abbrev pub Kept : ℕ → Type 0
  Kept a = (entry n t 0 a ≡ a) × (entry n t a 0 ≡ a)

  abbrev pub Cancels : ℕ → ℕ → Type 0
  Cancels a b = (entry n t a b ≡ 0) × (entry n t b a ≡ 0)

  abbrev pub Invertible : ℕ → Type 0
  Invertible a = (b : ℕ) × (b < n) × Cancels a b

  abbrev pub Associates : ℕ → ℕ → ℕ → Type 0
  Associates a b c = entry n t (entry n t a b) c ≡ entry n t a (entry n t b c)

  abbrev pub Associative : Type 0
  Associative = (a b c : ℕ) → a < n → b < n → c < n → Associates a b c

  -- the triples in their order are numbered a × n² + b × n + c
  abbrev pub AssociatesAt : ℕ → Type 0
  AssociatesAt i = (a b c : ℕ) → a < n → b < n → c < n → a * (n * n) + b * n + c ≡ i → Associates a b c

  -- a, b, c is the first triple that does not associate
  abbrev pub FirstUnassociative : ℕ → ℕ → ℕ → Type 0
  FirstUnassociative a b c = (a < n) × (b < n) × (c < n) × FirstWithout AssociatesAt (a * (n * n) + b * n + c)

  abbrev pub size_check : Check
  size_check = asked Sized size_refused

  abbrev pub entry_check : Check
  entry_check = each (n * n) (λ i. slice_index t i < n) entry_refused

  abbrev pub identity_check : Check
  identity_check = each n Kept identity_refused

  abbrev pub inverse_check : Check
  inverse_check = each n Invertible inverse_refused

  abbrev pub association_check : Check
  association_check = each (n * (n * n)) AssociatesAt association_refused

  abbrev pub table_checks : List Check
  table_checks = size_check ∷ entry_check ∷ identity_check ∷ inverse_check ∷ association_check ∷ []

abbrev pub table_dots : ℕ → List ℕ → List ℕ → Dots
table_dots n t v = group_of n (entry n t) (λ a. slice_index v a)

-- g has the order n, and its products are those of t
abbrev pub Adopted : ℕ → List ℕ → Dots → Type 0
Adopted n t g = (g.order ≡ n) × ((a b : ℕ) → g.product a b ≡ at_codes n (entry n t) a b)
