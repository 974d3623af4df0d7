use Rattle.std.proofs.Common.{arith}
use Rattle.marks_lines.proofs.Grammar.{no_radius, no_symbols}
use Rattle.marks_lines.proofs.request.parse.Goals as goal

pub returns-in_err-digit-in-76 : goal.returns-in_err-digit-in-76
returns-in_err-digit-in-76 c =
    rw c.from_residual.ensures (no_radius c.args.line.now (omega arith) c.in_err-digit-in-76.ensures)

pub returns-in_err-read-in-76 : goal.returns-in_err-read-in-76
returns-in_err-read-in-76 c =
    rw c.from_residual-in_err-read-in-76.ensures (no_symbols c.args.line.now (omega arith) c.in_err-read-in-76.ensures)
