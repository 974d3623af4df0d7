use Rattle.reader.proofs.reader.Reader.syndrome.Goals as goal

pub returns-clause-answer : goal.returns-clause-answer
returns-clause-answer g c = rw (c.in_ok-code.ensures.held, ← c.self.view_is) c.syndrome.ensures.answer
