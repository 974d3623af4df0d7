use Rattle.std.proofs.Common.{◌≡◌, rules}
use Rattle.words.specs.Words.{at}
use Rattle.words.proofs.Tabulate.{tabulate_is}
use Rattle.words.proofs.Made.{made_at}
use Rattle.runs.proofs.runs.serve.padded.Goals as goal

pub returns : goal.returns
returns c =
    let w = c.args.output.now in
    tabulate_is 64 (at w) c.from_fn.result c.from_fn.ensures.items.long (λ d below. made_at _ (λ i y. y ≡ at w i) _ (λ i y q call. search rules) _ 64 c.from_fn.ensures.items d 0 below)
