use Rattle.std.proofs.Common.{[], ◌∷◌, rules}
use Rattle.marks_lines.specs.Held.{Appends}
use Rattle.marks_lines.proofs.Appending.{whole_line}
use Rattle.marks_lines.proofs.reply.show.Goals as goal
use Rattle.marks_lines.proofs.reply.show.Goals.{in-Ok, in-Err}

pub returns : goal.returns
returns c =
    let line = c.match-reply.line in
    let ended : Appends line (10 ∷ []) c.push.new.self = search rules in
    elim c.match-reply.branch [
      | in-Ok w ↦ rw w.in-Ok.is (whole_line c.new-line.result line 10 c.new-line.ensures w.write.ensures.short (rw w.line-is w.write.ensures.appended) ended)
      | in-Err w ↦ rw w.in-Err.is (whole_line c.new-line.result line 10 c.new-line.ensures w.write-in-Err.ensures.short (rw w.line-is w.write-in-Err.ensures.appended) ended)
    ]
