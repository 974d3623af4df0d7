use Rattle.std.proofs.lemmas.Result.{err_from_is_err_and}
use Rattle.reader.proofs.CheckLists.{judged_after, refused_before}
use Rattle.reader.proofs.checks.check_buffers.Goals as goal

pub returns-in_err-check_lengths : goal.returns-in_err-check_lengths
returns-in_err-check_lengths c =
    let p = err_from_is_err_and c.from_residual.result c.from_residual.ensures.1 in
    rw (p.1, p.2) (refused_before _ _ _ c.in_err-check_lengths.ensures)

pub returns : goal.returns
returns c = judged_after _ _ _ c.in_ok-check_lengths.ensures.0 c.check_symbols.ensures
