use Rattle.std.proofs.Common.{◌≡◌, ◌-◌, take, drop, replicate}
use Rattle.marks_lines.proofs.Spelling.{Taken}
use Rattle.marks_lines.proofs.digits.Digits.collect.Given as goal

abbrev pub invariant-loop-i : goal.invariant-loop-i
invariant-loop-i g l =
    Taken (λ b o. g.F.Fn.post l.symbol (b, tt) o) l.bytes l.i (take l.i l.symbols) × (drop l.i l.symbols ≡ replicate (64 - l.i) 0)
