use Rattle.codes.proofs.EliminationSteps.{basis_from_spans}
use Rattle.codes.proofs.basis.Basis.of.Goals as goal

pub returns : goal.returns
returns g c le ke =
    basis_from_spans (g.met.F.Field.lawful c.args.algebra.now.field).sums le (c.spanning.ensures le ke) c.listed.ensures
