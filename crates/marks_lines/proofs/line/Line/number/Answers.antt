use Rattle.marks_lines.proofs.Appending.{appends_more}
use Rattle.marks_lines.proofs.line.Line.number.Goals as goal

pub returns : goal.returns
returns c = appends_more c.push.ensures c.decimal.ensures
