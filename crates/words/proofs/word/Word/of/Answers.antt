use Rattle.std.proofs.Common.{refl, replicate}
use Rattle.words.proofs.Tabulate.{front_tabulated}
use Rattle.words.proofs.word.Word.of.Goals as goal

pub returns : goal.returns
returns c = front_tabulated 64 c.min-n.result c.args.symbols.now c.copy_from_slice.new.self (replicate 64 0) c.min-n.ensures c.copy_from_slice.ensures.after refl
