use Rattle.std.proofs.Common.{arith}
use Rattle.marks_lines.proofs.Appending.{decimal_first, decimal_more}
use Rattle.marks_lines.proofs.line.Line.+decimal.Goals as goal
use Rattle.marks_lines.proofs.line.Line.+decimal.Goals.{then-n-ge10, else-n-ge10}

pub returns : goal.returns
returns t c = elim c.if-n-ge10.branch [
  | then-n-ge10 w ↦ decimal_more c.args.n w.self-is c.push.ensures w.if-n-ge10.true (omega arith) w.decimal.ensures
  | else-n-ge10 w ↦ decimal_first c.args.n w.self-is c.push.ensures (omega arith)
]
