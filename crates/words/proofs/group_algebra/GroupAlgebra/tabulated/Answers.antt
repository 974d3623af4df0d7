use Rattle.std.proofs.Common.{◌+◌, ◌-◌, ◌∙◌, arith}
use Rattle.std.proofs.lemmas.List.{get_or-append_right, get_or-drop}
use Rattle.words.proofs.Tabulate.{at_zeros}
use Rattle.words.proofs.group_algebra.GroupAlgebra.tabulated.Goals as goal

pub returns-clause-rest : goal.returns-clause-rest
returns-clause-rest g c d le =
    let n = c.min-n.result in
    let most = (g.met.G.Group.lawful c.args.self.now.group).most in
    get_or-append_right c.loop-d.x-items _ n d 0 (omega (arith, c.loop-d.invariant.0, most)) (omega (arith, most)) ∙ get_or-drop n _ (d - n) 0 ∙ at_zeros 64 (n + (d - n))
