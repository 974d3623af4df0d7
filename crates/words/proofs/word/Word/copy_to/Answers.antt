use Rattle.std.proofs.Common.{◌≡◌, length, arith, rules}
use Rattle.words.proofs.Tabulate.{front_tabulated}
use Rattle.words.proofs.word.Word.copy_to.Goals as goal

pub returns : goal.returns
returns c =
    let size : length c.args.self.now.symbols ≡ 64 = search rules in
    front_tabulated _ c.min-n.result c.args.self.now.symbols c.copy_from_slice.new.self c.fill.new.self
    (omega (arith, c.min-n.ensures, size)) c.copy_from_slice.ensures.after (c.fill.ensures.after (λ y e. e))
