use Rattle.std.proofs.Common.{ap, arith}
use Rattle.std.proofs.lemmas.List.{length-append}
use Rattle.marks_lines.specs.Replies.{number}
use Rattle.marks_lines.proofs.Appending.{appends_more, appends_same, length_number, length_word}
use Rattle.marks_lines.proofs.reply.Answer.write.Goals as goal

pub returns-in-Loaded : goal.returns-in-Loaded
returns-in-Loaded c = record {
  appended = rw c.in-Loaded.is (appends_more (appends_more c.extend.ensures c.number.ensures) c.number-in-Loaded.ensures);
  short = rw c.in-Loaded.is (simp length-append (omega (arith, length_number c.in-Loaded.k (omega arith), length_number c.in-Loaded.rows (omega arith))));
}

pub returns-in-Written-clause-appended : goal.returns-in-Written-clause-appended
returns-in-Written-clause-appended c = rw c.in-Written.is (appends_more c.extend.ensures c.word.ensures)

pub returns-in-ReadBack : goal.returns-in-ReadBack
returns-in-ReadBack c = record {
  appended =
      let wrong = appends_same (ap number c.from.ensures) c.number-in-ReadBack.ensures in
      let turns = appends_same (ap number c.from-in-ReadBack.ensures) c.number-in-ReadBack-2.ensures in
      rw c.in-ReadBack.is (appends_more (appends_more (appends_more (appends_more c.extend.ensures wrong) turns) c.word-in-ReadBack.ensures) c.word-in-ReadBack-2.ensures);
  short = rw c.in-ReadBack.is (simp length-append (omega (arith, length_number c.in-ReadBack.wrong (omega arith), length_number c.in-ReadBack.turns (omega arith), length_word c.in-ReadBack.mended, length_word c.in-ReadBack.message)));
}
