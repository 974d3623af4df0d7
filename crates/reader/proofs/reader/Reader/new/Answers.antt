use Rattle.reader.specs.Histories.{at_first}
use Rattle.reader.proofs.reader.Reader.new.Goals as goal

pub returns-clause-lived : goal.returns-clause-lived
returns-clause-lived g c = (at_first, tt)
