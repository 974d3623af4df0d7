use Rattle.std.proofs.Common.{ℕ, ◌<◌, get_or, inl, rules, arith}
use Rattle.std.proofs.lemmas.List.{get_or_append_left}
use Rattle.algebra.proofs.Handed.{handed}
use Rattle.tables.proofs.products.Products.inverses.Goals as goal

pub returns-in_err-inverse : goal.returns-in_err-inverse
returns-in_err-inverse c =
    let fault = c.in_err-inverse.ensures in
    rw (handed _ c.from_residual.ensures.1)
    (let below : c.loop-a.a < c.args.self.now.order = search rules in inl (c.loop-a.a, below, (fault.1, λ k h. (get_or c.loop-a.inverse-items k 0, (c.loop-a.invariant.1 k h).0, (c.loop-a.invariant.1 k h).1)), fault.0))

pub returns : goal.returns
returns c =
    let held = λ (k : ℕ) (h : k < c.args.self.now.order). c.loop-a.invariant.1 k (search rules) in
    ((((λ k h. (get_or c.loop-a.inverse-items k 0, (held k h).0, (held k h).1)), tt)), (λ k h. rw (get_or_append_left c.loop-a.inverse-items _ 0 k (omega (arith, c.loop-a.invariant.0))) (held k h)))
