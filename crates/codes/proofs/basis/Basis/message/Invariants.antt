use Rattle.std.proofs.Common.{◌≡◌, ℕ, ◌<◌, get_or}
use Rattle.words.specs.Words.{at}
use Rattle.codes.specs.Bases.{no_row}
use Rattle.codes.proofs.basis.Basis.message.Given as goal

abbrev pub invariant-loop-i : goal.invariant-loop-i
invariant-loop-i l = (j : ℕ) → j < l.i → at l.target j ≡ at l.mark.symbols (get_or l.self.rows j no_row).dot
