-- What a `?` hands on: the result is the fault that the call left.
use Rattle.std.proofs.Common.{◌≡◌, IsErrAnd, Ok, Err, Result, ap}

pub handed : {T E : Type 0} {f : E} (r : Result T E) → IsErrAnd r (λ y. y ≡ f) → r ≡ Err f
handed (Ok x) left = absurd left
handed (Err y) left = ap Err left
