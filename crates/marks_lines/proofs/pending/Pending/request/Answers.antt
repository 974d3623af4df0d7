use Rattle.std.proofs.Common.{ℕ, List, ◌∙◌, subst}
use Rattle.marks_lines.specs.Lines.{Means, asked}
use Rattle.marks_lines.proofs.LongLines.{means_whole}
use Rattle.marks_lines.proofs.pending.Pending.request.Goals as goal

pub returns : goal.returns
returns c line held =
    let o = asked c.parse.result in
    means_whole line o (subst (λ (l : List ℕ). Means l o) (c.as_slice.ensures ∙ held) c.parse.ensures)
