use Rattle.std.proofs.Common.{arith}
use Rattle.std.proofs.lemmas.List.{at_drop_more, at_drop_all}
use Rattle.std.proofs.lemmas.Bool.Decides.{nat_tests}
use Rattle.words.specs.Words.{weight}
use Rattle.words.proofs.count.weight.Goals as goal
use Rattle.words.proofs.count.weight.Goals.{then-s-ne0, else-s-ne0}

pub loop-s-preserved : goal.loop-s-preserved
unfolding weight
loop-s-preserved c =
    let more = at_drop_more weight c.args.symbols.now c.loop-s.s-index 0 c.loop-s-test.true in
    elim c.if-s-ne0.branch [ then-s-ne0 w ↦ grind (arith, nat_tests) | else-s-ne0 w ↦ grind (arith, nat_tests) ]

pub returns : goal.returns
unfolding weight
returns c = omega (arith, at_drop_all weight c.args.symbols.now c.loop-s.s-index c.loop-s-test.false)
