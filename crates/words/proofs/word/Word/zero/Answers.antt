use Rattle.std.proofs.Common.{refl}
use Rattle.words.specs.Words.{nought, tabulate}
use Rattle.words.proofs.word.Word.zero.Goals as goal

pub returns : goal.returns
unfolding nought tabulate
returns c = refl
