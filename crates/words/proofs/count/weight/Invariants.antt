use Rattle.std.proofs.Common.{◌≡◌, ◌+◌, ◌≤◌, drop}
use Rattle.words.specs.Words.{weight}
use Rattle.words.proofs.count.weight.Given as goal

abbrev pub invariant-loop-s : goal.invariant-loop-s
invariant-loop-s l = (l.count ≤ l.s-index) × (l.count + weight (drop l.s-index l.symbols) ≡ weight l.symbols)
