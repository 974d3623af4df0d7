use Rattle.std.proofs.Common.{refl, rules}
use Rattle.runs.proofs.Outputs.{carried_mapped, cut_zeros}
use Rattle.runs.proofs.runs.serve.filled.Goals as goal

pub returns : goal.returns
returns g c =
    let mapped = carried_mapped (λ _. c.args.answer) c.call-outcome.result c.map.result _ c.map.ensures.cases (λ x y call. search rules) in (
      c.call-outcome.result,
      c.call-outcome.new.arg2,
      record { shown = _; shows = cut_zeros c.args.length c.min.result c.min.ensures; left = _; met = c.call-outcome.ensures; leaves = refl },
      rw mapped at c.shown.ensures,
    )
