use Rattle.std.proofs.Common.{arith}
use Rattle.algebra.proofs.Handed.{handed}
use Rattle.algebra.specs.Checks.{Passed}
use Rattle.words.specs.Stored.{word}
use Rattle.reader.proofs.SoundCalls.{Found, first_checks, read_mended, read_refused, read_unreached, recorded, searched}
use Rattle.reader.proofs.code.Code.read.Given.{Over}
use Rattle.reader.proofs.code.Code.read.Goals.{In-Some}
use Rattle.reader.proofs.code.Code.read.Goals as goal

pub returns-in_err-check_buffers-clause-answer : goal.returns-in_err-check_buffers-clause-answer
returns-in_err-check_buffers-clause-answer g c =
    rw (handed _ c.from_residual.ensures.1)
    (read_refused c.args.self.now c.requires c.args.received.now c.args.mended.now c.args.message.now _ (rw (c.dots-dots.ensures, c.symbols.ensures) at c.in_err-check_buffers.ensures))

-- the buffers have passed their checks, and of what the search found a record can be made
found : (g : Over) (c : In-Some g) → let code = c.args.self.now in let r = c.args.received.now in
    Passed (first_checks code c.requires code.basis.count r c.args.mended.now c.args.message.now)
    × Found code c.requires r (word (g.G.Group.dots c.args.algebra.now.group).order c.in-Some.found.pattern) c.in-Some.found.turns
found g c =
    let field = g.met.F.Field.lawful c.args.algebra.now.field in
    let group = g.met.G.Group.lawful c.args.algebra.now.group in
    let code = c.args.self.now in
    let r = c.args.received.now in
    let b = c.args.mended.now in
    let m = c.args.message.now in
    let passed = rw (c.dots-dots.ensures, c.symbols.ensures) at c.in_ok-check_buffers.ensures.0 in
    let it = searched code c.requires field group r b m passed c.of-mark.result c.of-mark.ensures
    c.syndrome-syndrome.result c.syndrome-syndrome.ensures c.in-Some.ensures in
    (passed, recorded code c.requires field group r b m passed c.of-mark.result c.of-mark.ensures _ c.in-Some.found.turns it.0 it.1)

pub returns-in_default-clause-answer : goal.returns-in_default-clause-answer
returns-in_default-clause-answer g c =
    let code = c.args.self.now in
    let r = c.args.received.now in
    let b = c.args.mended.now in
    let m = c.args.message.now in
    let passed = rw (c.dots-dots.ensures, c.symbols.ensures) at c.in_ok-check_buffers.ensures.0 in
    rw c.refuses.ensures (read_unreached code c.requires r b m passed
    (searched code c.requires (g.met.F.Field.lawful c.args.algebra.now.field) (g.met.G.Group.lawful c.args.algebra.now.group) r b m passed c.of-mark.result c.of-mark.ensures
    c.syndrome-syndrome.result c.syndrome-syndrome.ensures c.in_default.ensures))

pub overflow_cast-result : goal.overflow_cast-result
overflow_cast-result g c =
    let (_, (_, _, few, _, _)) = found g (goal.at.overflow_cast-result g c).In-Some in
    omega (arith, c.weight.ensures, few)

pub invariant_of-result : goal.invariant_of-result
invariant_of-result g c =
    let (_, (_, _, few, none_wrong, none_turned)) = found g (goal.at.invariant_of-result g c).In-Some in
    rw c.weight.ensures (record { few = few; none_wrong = none_wrong; none_turned = none_turned })

pub returns-clause-answer : goal.returns-clause-answer
returns-clause-answer g c =
    let k = g.F.Field.symbols c.args.algebra.now.field in
    let p = g.G.Group.dots c.args.algebra.now.group in
    let code = c.args.self.now in
    let (passed, of_record) = found g (goal.at.returns-clause-answer g c).In-Some in
    read_mended code c.requires (g.met.F.Field.lawful c.args.algebra.now.field) (g.met.G.Group.lawful c.args.algebra.now.group) c.args.received.now c.args.mended.now c.args.message.now passed c.of-mark.result c.of-mark.ensures
    c.in-Some.found.pattern c.less-whole.result _ c.copy_to.new.target c.message.new.target of_record c.less-whole.ensures c.weight.ensures c.copy_to.ensures
    (c.message.ensures k p (word p.order code.word) c.requires.basis passed.1.1.0)
