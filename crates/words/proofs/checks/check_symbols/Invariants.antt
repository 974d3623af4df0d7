use Rattle.std.proofs.Common.{ℕ, ◌<◌}
use Rattle.words.specs.Words.{at}
use Rattle.words.proofs.checks.check_symbols.Given as goal

abbrev pub invariant-loop-i : goal.invariant-loop-i
invariant-loop-i l = (j : ℕ) → j < l.i → at l.symbols j < l.order
