use Rattle.std.proofs.Common.{◌≡◌, ℕ, ◌<◌, length, get_or}
use Rattle.words.proofs.group_algebra.GroupAlgebra.tabulated.Given as goal

abbrev pub invariant-loop-d : goal.invariant-loop-d
invariant-loop-d g l =
    (length l.x-items ≡ (g.G.Group.dots l.self.group).order) × ((k : ℕ) → k < l.d → g.S.Fn.post l.symbol (k, tt) (get_or l.x-items k 0))
