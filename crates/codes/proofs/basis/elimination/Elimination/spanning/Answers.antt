use Rattle.std.proofs.Common.{◌≡◌, ◌<◌, sym, subst, arith}
use Rattle.words.specs.Stored.{word}
use Rattle.words.specs.Words.{Keeps}
use Rattle.words.proofs.Turning.{turned_keeps}
use Rattle.codes.specs.Eliminations.{Absorbs, Spans}
use Rattle.codes.proofs.EliminationSteps.{spans_none, spans_more}
use Rattle.codes.proofs.basis.elimination.Elimination.spanning.Goals as goal

pub loop-j-init : goal.loop-j-init
loop-j-init g c le ke = spans_none _ _ _

pub loop-j-preserved : goal.loop-j-preserved
loop-j-preserved g c le ke =
    let k = g.F.Field.symbols c.args.algebra.now.field in
    let p = g.G.Group.dots c.args.algebra.now.group in
    let laws = (g.met.F.Field.lawful c.args.algebra.now.field).sums in
    let e = word p.order c.args.e.now in
    let below : c.loop-j.j < p.order = omega arith in
    let is = c.turned.ensures.value in
    let before = c.loop-j.invariant le ke in
    let turn = turned_keeps laws (g.met.G.Group.lawful c.args.algebra.now.group) e c.loop-j.j e below ke in
    spans_more laws p e le c.loop-j.j c.loop-j.elimination c.absorb.new.self before
    (subst (λ w. Absorbs k p e c.loop-j.elimination w c.absorb.new.self) is
    (c.absorb.ensures e le before.reduced (subst (Keeps k p e) (sym is) turn)))

pub returns : goal.returns
returns g c le ke =
    let p = g.G.Group.dots c.args.algebra.now.group in
    let end : c.loop-j.j ≡ p.order = omega arith in
    subst (λ m. Spans (g.F.Field.symbols c.args.algebra.now.field) p (word p.order c.args.e.now) m c.loop-j.elimination) end (c.loop-j.invariant le ke)
