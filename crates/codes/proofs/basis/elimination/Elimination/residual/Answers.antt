use Rattle.std.proofs.Common.{◌≡◌, ◌<◌, length, sym, ap, ◌∙◌, arith, rules}
use Rattle.std.proofs.lemmas.List.{length-take}
use Rattle.words.specs.Stored.{word}
use Rattle.codes.specs.Eliminations.{pivot_at, word_at}
use Rattle.codes.proofs.BasisSteps.{residual_below, residual_below_none, residual_below_all}
use Rattle.codes.proofs.EliminationSteps.{residual_kept, residual_taken, row_read}
use Rattle.codes.proofs.basis.elimination.Elimination.residual.Goals as goal
use Rattle.codes.proofs.basis.elimination.Elimination.residual.Goals.{in-Some, in_default}

pub loop-d-init : goal.loop-d-init
loop-d-init g c e reduced lw =
    sym (residual_below_none (g.met.F.Field.lawful c.args.algebra.now.field).sums _ (pivot_at c.args.self.now) (word_at _ c.args.self.now) _ lw)

pub loop-d-preserved : goal.loop-d-preserved
loop-d-preserved g c e reduced lw =
    let k = g.F.Field.symbols c.args.algebra.now.field in
    let n = (g.G.Group.dots c.args.algebra.now.group).order in
    let s = c.args.self.now in
    let laws = (g.met.F.Field.lawful c.args.algebra.now.field).sums in
    let (below, here) = row_read s.rows c.dots.result c.loop-d.d c.loop-d-test.true in
    let below' : c.loop-d.d < n = omega arith in
    let before = c.loop-d.invariant e reduced lw in
    elim c.match-row.branch [
      | in-Some w ↦
          ap (word n) w.rest-is ∙ residual_taken laws s reduced (word n c.args.w.now) lw c.loop-d.d (word n c.loop-d.rest) (word n w.cleared-rest.result) before below' w.in-Some.b (here ∙ w.in-Some.is) w.cleared-rest.ensures.value
      | in_default w ↦
          residual_kept laws s reduced (word n c.args.w.now) lw c.loop-d.d (word n c.loop-d.rest) (word n c.match-row.rest) before (here ∙ w.in_default.is) (ap (word n) w.rest-is)
    ]

pub returns : goal.returns
returns g c e reduced lw =
    let k = g.F.Field.symbols c.args.algebra.now.field in
    let n = (g.G.Group.dots c.args.algebra.now.group).order in
    let s = c.args.self.now in
    let most = (g.met.G.Group.lawful c.args.algebra.now.group).most in
    let many : length s.rows ≡ 64 = search rules in
    let end : c.loop-d.d ≡ n = omega (arith, length-take c.dots.result s.rows) in
    c.loop-d.invariant e reduced lw
    ∙ ap (residual_below k n (pivot_at s) (word_at n s) (word n c.args.w.now)) end
    ∙ residual_below_all k n (pivot_at s) (word_at n s) (word n c.args.w.now)
