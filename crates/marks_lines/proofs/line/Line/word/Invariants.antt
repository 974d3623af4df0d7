use Rattle.std.proofs.Common.{◌∷◌, take}
use Rattle.marks_lines.specs.Held.{Appends, held}
use Rattle.marks_lines.specs.Symbols.{digits}
use Rattle.marks_lines.proofs.line.Line.word.Given as goal

abbrev pub invariant-loop-s : goal.invariant-loop-s
invariant-loop-s l = Appends l.fn.self (32 ∷ digits (take l.s-index (held l.symbols))) l.self
