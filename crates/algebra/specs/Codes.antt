-- Numbers below an order stand for the elements of a field or a group; any other number gets the answer 0.
--     at_code n f a         f a for a number below n, and 0 for any other
--     at_codes n f a b      f a b for two numbers below n, and 0 where one is not
--     first_code n p        the least number below n that passes the test p, if there is one
use Rattle.std.specs.Prelude.{ℕ, zero, suc, Bool, cond, ◌&&◌, Some, None, Option, nat_lt}

abbrev pub at_code : ℕ → (ℕ → ℕ) → ℕ → ℕ
at_code n f a = cond (nat_lt a n) (f a) 0

abbrev pub at_codes : ℕ → (ℕ → ℕ → ℕ) → ℕ → ℕ → ℕ
at_codes n f a b = cond (nat_lt a n && nat_lt b n) (f a b) 0

abbrev pub or_else : Option ℕ → Option ℕ → Option ℕ
or_else (Some a) b = Some a
or_else None b = b

abbrev pub first_code : ℕ → (ℕ → Bool) → Option ℕ
first_code zero p = None
first_code (suc n) p = or_else (first_code n p) (cond (p n) (Some n) None)
