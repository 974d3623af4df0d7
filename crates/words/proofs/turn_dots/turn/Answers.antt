use Rattle.std.proofs.Common.{◌∙◌, arith}
use Rattle.words.proofs.Hanging.{turned_more}
use Rattle.words.proofs.turn_dots.turn.Goals as goal

pub loop-h-preserved : goal.loop-h-preserved
loop-h-preserved g c =
    let source = c.in_ok-check_lengths.ensures.0.0 in
    let target = c.in_ok-check_lengths.ensures.0.1.0 in
    turned_more (g.met.G.Group.lawful c.args.group.now) c.args.g c.loop-h.h c.product.result c.args.source.now c.loop-h.target
    c.index-source-h.result (omega arith) (omega arith) (omega arith) (omega arith) c.product.ensures c.index-source-h.is c.loop-h.invariant

pub returns-clause-answer : goal.returns-clause-answer
returns-clause-answer g c = (
  (c.in_ok-check_lengths.ensures.0.0 ∙ c.order-n.ensures, (c.in_ok-check_lengths.ensures.0.1.0 ∙ c.order-n.ensures, (omega arith, tt))),
  λ h d lt. c.loop-h.invariant h d (omega (arith, c.in_ok-check_lengths.ensures.0.0)),
)
