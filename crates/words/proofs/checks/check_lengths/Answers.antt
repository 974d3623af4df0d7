use Rattle.std.proofs.Common.{Some, None, rules}
use borrow.Author.Tests.{tests}
use Rattle.std.proofs.lemmas.Iterator.{IsFirst-from_position, YieldsList-from_slice}
use Rattle.words.proofs.BufferChecks.{Fits, Misfits, first_misfit, lengths_fit}
use Rattle.words.proofs.checks.check_lengths.Goals as goal

pub returns-in-Some : goal.returns-in-Some
returns-in-Some c =
    let ls = c.args.lengths.now in
    let first = IsFirst-from_position _ _ (Some c.in-Some.buffer) Misfits Fits c.in-Some.ensures.ran (YieldsList-from_slice ls cc) (λ x q k. search (rules, tests)) (λ x q k. search (rules, tests)) in
    rw c.length.ensures (first_misfit ls c.in-Some.buffer first.0 first.1 first.2)

pub returns : goal.returns
returns c =
    let ls = c.args.lengths.now in
    let all = IsFirst-from_position _ _ None Misfits Fits c.in_default.ensures.ran (YieldsList-from_slice ls cc) (λ x q k. search (rules, tests)) (λ x q k. search (rules, tests)) in
    (lengths_fit ls 0 all, tt)
