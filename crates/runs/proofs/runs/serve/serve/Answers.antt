use Rattle.std.proofs.Common.{rules}
use Rattle.runs.specs.declared.runs.Answer.TheVariants.{Alike, Loaded}
use Rattle.runs.proofs.Outputs.{carried_mapped}
use Rattle.runs.proofs.runs.serve.serve.Goals as goal

pub returns-in-Load-clause-answer : goal.returns-in-Load-clause-answer
returns-in-Load-clause-answer g c =
    let r = c.load-loaded.result in
    let mapped = carried_mapped (λ x. Loaded x.0 x.1) r c.map.result _ c.map.ensures.cases (λ x y call. search rules) in
    rw c.in-Load.is (r, c.load-loaded.ensures.answer, rw mapped at c.plain.ensures)

pub returns-in-Alike-clause-answer : goal.returns-in-Alike-clause-answer
returns-in-Alike-clause-answer g c =
    let r = c.alike.result in
    let mapped = carried_mapped Alike r c.map-in-Alike.result _ c.map-in-Alike.ensures.cases (λ x y call. search rules) in
    rw c.in-Alike.is (r, c.alike.ensures.answer, rw mapped at c.plain-in-Alike.ensures)
