use Rattle.std.proofs.Common.{◌∙◌, arith}
use Rattle.codes.proofs.MessageSymbols.{chosen_from_dots}
use Rattle.codes.proofs.basis.Basis.message.Goals as goal

pub returns : goal.returns
returns c k g e basis many =
    chosen_from_dots k g e c.args.self.now basis c.args.mark.now c.loop-i.target (c.loop-i.auto.target ∙ many) (λ i h. c.loop-i.invariant i (omega arith))
