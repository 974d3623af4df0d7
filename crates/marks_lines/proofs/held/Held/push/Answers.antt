use Rattle.marks_lines.proofs.Appending.{zeros_set}
use Rattle.marks_lines.proofs.held.Held.push.Goals as goal

pub invariant_of-self-clause-zeros : goal.invariant_of-self-clause-zeros
invariant_of-self-clause-zeros g c =
    let l = c.args.self.now in
    zeros_set g.row.N l.len l.bytes l.zeros c.args.byte
