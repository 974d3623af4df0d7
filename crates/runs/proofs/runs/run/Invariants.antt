use Rattle.std.proofs.Common.{◌≡◌}
use Rattle.runs.proofs.Running.{Ran}
use Rattle.runs.proofs.runs.run.Given as goal

abbrev pub invariant-loop-i : goal.invariant-loop-i
invariant-loop-i g l =
    (l.reader.algebra ≡ l.initial.reader.algebra)
    × Ran (g.F.Field.symbols l.reader.algebra.field) (g.G.Group.dots l.reader.algebra.group) l.calls l.initial.replies l.replies l.reader.code l.i
