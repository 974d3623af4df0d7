use Rattle.std.proofs.Common.{ℕ, ◌<◌, false, refl, arith, below_more}
use Rattle.std.proofs.lemmas.Bool.{both_ways}
use Rattle.tables.specs.Tables.{Associates}
use Rattle.tables.specs.TablesLemmas.{first_unassociative}
use Rattle.tables.proofs.products.Products.first_unassociative.Goals as goal

pub loop-b-preserved : goal.loop-b-preserved
loop-b-preserved c y z hy hz =
    below_more (λ (v : ℕ). (w : ℕ) → w < c.args.self.now.order → Associates c.args.self.now.order c.args.self.now.rows.now c.loop-a.a v w) _
    (λ v h w k. c.loop-b.invariant v w h k) (λ w k. c.loop-c.invariant w (omega arith)) y hy z hz

pub returns-then-not-associates : goal.returns-then-not-associates
returns-then-not-associates c = (
  c.loop-a-test.true,
  c.loop-b-test.true,
  c.loop-c-test.true,
  first_unassociative _ _ _ _ _ c.loop-b-test.true c.loop-c-test.true c.loop-a.invariant c.loop-b.invariant c.loop-c.invariant (λ h. both_ways false refl (c.if-not-associates.ensures.1 h)) c.loop-a-test.true,
)
