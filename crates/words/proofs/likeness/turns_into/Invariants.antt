use Rattle.std.proofs.Common.{◌≡◌, ℕ, ◌<◌, get_or}
use Rattle.words.proofs.likeness.turns_into.Given as goal

abbrev pub invariant-loop-h : goal.invariant-loop-h
invariant-loop-h g l = (k : ℕ) → k < l.h → get_or l.second ((g.G.Group.dots l.group).product l.g k) 0 ≡ get_or l.first k 0
