use Rattle.algebra.proofs.Handed.{handed}
use Rattle.reader.proofs.SoundCalls.{write_copied, write_refused}
use Rattle.reader.proofs.code.Code.write.Goals as goal

pub returns-in_err-check_buffers-clause-answer : goal.returns-in_err-check_buffers-clause-answer
returns-in_err-check_buffers-clause-answer g c =
    rw (handed _ c.from_residual.ensures.1)
    (write_refused c.args.self.now c.requires c.args.message.now c.args.mark.now _ (rw (c.dots.ensures, c.symbols.ensures) at c.in_err-check_buffers.ensures))

pub returns-clause-answer : goal.returns-clause-answer
returns-clause-answer g c =
    write_copied c.args.self.now c.requires c.args.message.now c.args.mark.now c.copy_to.new.target c.write.result
    (rw (c.dots.ensures, c.symbols.ensures) at c.in_ok-check_buffers.ensures.0) c.write.ensures.written c.copy_to.ensures
