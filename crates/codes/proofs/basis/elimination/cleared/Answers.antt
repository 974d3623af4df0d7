use Rattle.codes.proofs.EliminationSteps.{stores_cleared}
use Rattle.codes.proofs.basis.elimination.cleared.Goals as goal

pub returns : goal.returns
returns g c =
    stores_cleared _ _ c.args.p c.symbol.result c.args.b.now c.args.u.now c.scaled.result c.less.result c.requires c.symbol.ensures c.scaled.ensures c.less.ensures
