use Rattle.std.proofs.Common.{ap, arith}
use Rattle.std.proofs.lemmas.List.{length-append}
use Rattle.marks_lines.specs.Replies.{number}
use Rattle.marks_lines.proofs.Appending.{appends_more, appends_same, length_number}
use Rattle.marks_lines.proofs.reply.Declined.write.Goals as goal

pub returns-in-Refused : goal.returns-in-Refused
returns-in-Refused c = record {
  appended = rw c.in-Refused.is (appends_more c.extend.ensures (appends_same (ap number c.from.ensures) c.number.ensures));
  short = rw c.in-Refused.is (simp length-append (omega (arith, length_number c.in-Refused.refusal (omega arith))));
}
