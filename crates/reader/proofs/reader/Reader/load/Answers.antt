use Rattle.algebra.proofs.Handed.{handed}
use Rattle.reader.proofs.Loading.{loaded_answer, loaded_lived, refused_lived}
use Rattle.reader.proofs.reader.Reader.load.Goals as goal

pub returns-in_err-code-clause-answer : goal.returns-in_err-code-clause-answer
returns-in_err-code-clause-answer g c =
    rw (← c.self.view_is, handed _ c.from_residual.ensures.1) c.in_err-code.ensures

pub returns-in_err-code-clause-lived : goal.returns-in_err-code-clause-lived
returns-in_err-code-clause-lived g c =
    rw (← c.self.view_is) (λ past before. refused_lived _ _ c.args.e.now c.args.t _ c.in_err-code.ensures past _ before)

pub returns-clause-answer : goal.returns-clause-answer
returns-clause-answer g c =
    let made = c.in_ok-code.ensures in
    rw (← c.self.view_is) (made.0, loaded_answer _ _ c.args.e.now c.args.t c.in_ok-code.code made.1.0 made.1.1 made.1.2)

pub returns-clause-lived : goal.returns-clause-lived
returns-clause-lived g c =
    let made = c.in_ok-code.ensures in
    rw (← c.self.view_is) (λ past _. loaded_lived _ _ c.args.e.now c.args.t c.in_ok-code.code made.1.0 made.1.1 made.1.2 past)
