use Rattle.std.proofs.Common.{refl}
use Rattle.reader.proofs.ReadLaws.{reads_bound, reads_lawful}
use Rattle.reader.specs.Stored.{code_of}
use Rattle.algebra.proofs.Handed.{handed}
use Rattle.reader.proofs.reader.Reader.read.Goals as goal

pub returns-in_err-code-clause-law : goal.returns-in_err-code-clause-law
returns-in_err-code-clause-law g c past lived =
    let none = c.in_err-code.ensures.none in
    let field = g.met.F.Field.lawful c.args.self.now.algebra.field in
    let group = g.met.G.Group.lawful c.args.self.now.algebra.group in
    reads_lawful field group past (code_of (g.G.Group.dots c.args.self.now.algebra.group).order c.args.self.now.code) _ c.args.mended.now c.args.message.now _ _ _ lived.0
    (rw (none.0, handed _ c.from_residual.ensures.1, none.1) (refl, refl, refl))

pub returns-clause-answer : goal.returns-clause-answer
returns-clause-answer g c = rw (c.in_ok-code.ensures.held, ← c.self.view_is) c.read.ensures.answer

pub returns-clause-bound : goal.returns-clause-bound
returns-clause-bound g c =
    let field = g.met.F.Field.lawful c.args.self.now.algebra.field in
    let group = g.met.G.Group.lawful c.args.self.now.algebra.group in
    reads_bound field group (code_of (g.G.Group.dots c.args.self.now.algebra.group).order c.args.self.now.code) c.args.received.now c.args.mended.now c.args.message.now _ c.read.new.mended c.read.new.message
    (rw (c.in_ok-code.ensures.held, ← c.self.view_is) c.read.ensures.answer)

pub returns-clause-law : goal.returns-clause-law
returns-clause-law g c past lived =
    let field = g.met.F.Field.lawful c.args.self.now.algebra.field in
    let group = g.met.G.Group.lawful c.args.self.now.algebra.group in
    reads_lawful field group past (code_of (g.G.Group.dots c.args.self.now.algebra.group).order c.args.self.now.code) _ c.args.mended.now c.args.message.now _ _ _ lived.0
    (rw (c.in_ok-code.ensures.held, ← c.self.view_is) c.read.ensures.answer)
