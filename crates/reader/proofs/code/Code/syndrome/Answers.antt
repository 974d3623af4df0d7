use Rattle.reader.proofs.SoundCalls.{syndrome_copied}
use Rattle.reader.proofs.code.Code.syndrome.Goals as goal

pub returns-clause-answer : goal.returns-clause-answer
returns-clause-answer g c =
    syndrome_copied _ _ (g.met.G.Group.lawful c.args.algebra.now.group) c.args.self.now c.args.mark.now c.args.buffer.now c.copy_to.new.target c.of.result c.syndrome.result
    (rw (c.dots-dots.ensures, c.symbols.ensures) at c.in_ok-check_buffers.ensures.0) c.of.ensures c.syndrome.ensures c.copy_to.ensures
