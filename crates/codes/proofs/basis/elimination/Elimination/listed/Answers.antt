use Rattle.std.proofs.Common.{◌<◌, refl, ◌∙◌, arith}
use Rattle.codes.proofs.EliminationSteps.{listed_none, listed_same, listed_skip, listed_more, row_read}
use Rattle.codes.proofs.basis.elimination.Elimination.listed.Goals as goal
use Rattle.codes.proofs.basis.elimination.Elimination.listed.Goals.{in-Some, in_default}

pub loop-dot-init : goal.loop-dot-init
loop-dot-init g c = listed_none _ _ _ refl

pub loop-dot-preserved : goal.loop-dot-preserved
loop-dot-preserved g c =
    let n = (g.G.Group.dots c.args.algebra.now.group).order in
    let s = c.args.self.now in
    let most = (g.met.G.Group.lawful c.args.algebra.now.group).most in
    let (below, here) = row_read s.rows c.dots.result c.loop-dot.dot c.loop-dot-test.true in
    let below' : c.loop-dot.dot < 64 = omega arith in
    elim c.match-row.branch [
      | in-Some w ↦
          listed_same n s _ _ _ _ _ w.rows-is w.count-is
          (listed_more n s c.loop-dot.dot c.loop-dot.rows c.loop-dot.count _ below' (here ∙ w.in-Some.is) c.loop-dot.invariant)
      | in_default w ↦
          listed_same n s _ _ _ _ _ w.rows-is w.count-is
          (listed_skip n s c.loop-dot.dot c.loop-dot.rows c.loop-dot.count (here ∙ w.in_default.is) c.loop-dot.invariant)
    ]
