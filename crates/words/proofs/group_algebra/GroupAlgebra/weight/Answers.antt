use Rattle.std.proofs.Common.{◌≡◌, length, arith, rules}
use Rattle.words.proofs.Stored.{take_word}
use Rattle.words.proofs.group_algebra.GroupAlgebra.weight.Goals as goal

pub returns : goal.returns
returns g c =
    let size : length c.args.w.now.symbols ≡ 64 = search rules in
    let front = take_word (g.G.Group.dots c.args.self.now.group).order c.args.w.now (omega (arith, (g.met.G.Group.lawful c.args.self.now.group).most)) in
    cc
