use Rattle.std.proofs.Common.{refl, subst}
use Rattle.reader.specs.Loads.{Passes}
use Rattle.reader.proofs.Loading.{keeps, lawful, passes}
use Rattle.reader.proofs.code.Code.of.Goals as goal

pub returns : goal.returns
returns g c =
    let k = g.F.Field.symbols c.args.algebra.now.field in
    let dots = g.G.Group.dots c.args.algebra.now.group in
    let w = c.in_ok-word.ensures in
    let square = c.in_ok-check_idempotent.ensures.0.0 in
    let book = c.of-book.ensures w.0.1.1.0 w.0.1.1.1.0 in
    let right = lawful k dots c.in_ok-word.word c.args.e.now c.args.t w.1 w.0 in
    let far = c.if-too_close.ensures _ _ right book in
    let all = passes k dots c.in_ok-word.word c.args.e.now c.args.t w.1 w.0 square c.in_ok-check_central.ensures.0.0 far in
    let basis = c.of-basis.ensures right (keeps k dots c.in_ok-word.word c.args.e.now c.args.t w.1 w.0 square) in
    (subst (λ u. Passes k dots u c.args.t) w.1 all, (record { passes = all; basis = basis; book = book }, w.1, refl))
