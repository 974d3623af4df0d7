-- Places in a table: row a and column b of n rows of n stand at a × n + b, and triples in their order at a × n² + b × n + c.
use Rattle.std.specs.Prelude.{◌≡◌, ℕ, ◌+◌, ◌*◌, ◌<◌, ◌≤◌, ◌⊎◌}
use Rattle.std.proofs.Common.{ap, inl, inr, ⊎_elim, mul-le-mul, mul-le-mul_right, suc-mul, arith}
use Rattle.std.proofs.Math.Arith.{digits_lt}
use Rattle.std.proofs.lemmas.Bool.{cases_lt}

pub square_most : {n : ℕ} → n ≤ 64 → n * n ≤ 4096
square_most h = mul-le-mul h h

pub place_below : {n : ℕ} (a b : ℕ) → a < n → b < n → a * n + b < n * n
place_below {n} a b h k = digits_lt {q = a} {m = n} {r = b} {c = n} h k

pub triple_below : {n : ℕ} (a b c : ℕ) → a < n → b < n → c < n → a * (n * n) + b * n + c < n * (n * n)
triple_below {n} a b c h k l = omega (arith, digits_lt {q = a} {m = n} {r = b * n + c} {c = n * n} h (place_below b c k l))

-- the order of two numbers by their digits
digits_order : (q r q' r' m : ℕ) → r < m → r' < m → q * m + r < q' * m + r' → (q < q') ⊎ ((q ≡ q') × (r < r'))
digits_order q r q' r' m h k l =
    ⊎_elim inl
    (λ (le : q' ≤ q). ⊎_elim (λ (lt : q' < q). absurd (omega (arith, suc-mul q' m, mul-le-mul_right m lt)))
    (λ (ge : q ≤ q'). let e : q ≡ q' = omega arith in inr (e, omega (arith, ap (λ (x : ℕ). x * m) e)))
    (cases_lt q' q))
    (cases_lt q q')

pub triple_order : {n : ℕ} (a b c a' b' c' : ℕ) → b < n → c < n → b' < n → c' < n → a * (n * n) + b * n + c < a' * (n * n) + b' * n + c' →
    (a < a') ⊎ ((a ≡ a') × ((b < b') ⊎ ((b ≡ b') × (c < c'))))
triple_order {n} a b c a' b' c' h k h' k' l =
    ⊎_elim inl
    (λ (e : (a ≡ a') × (b * n + c < b' * n + c')). inr (e.0, digits_order b c b' c' n k k' e.1))
    (digits_order a (b * n + c) a' (b' * n + c') (n * n) (place_below b c h k) (place_below b' c' h' k') (omega arith))
