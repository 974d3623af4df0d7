use Rattle.std.proofs.Common.{◌≡◌, ℕ, ◌<◌, get_or}
use Rattle.words.proofs.turn_dots.turn.Given as goal

abbrev pub invariant-loop-h : goal.invariant-loop-h
invariant-loop-h g l = (k : ℕ) (d : _) → k < l.h → get_or l.target ((g.G.Group.dots l.group).product l.g k) d ≡ get_or l.source k d
