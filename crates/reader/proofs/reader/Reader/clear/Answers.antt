use Rattle.reader.specs.Histories.{cleared}
use Rattle.reader.proofs.reader.Reader.clear.Goals as goal

pub returns-clause-lived : goal.returns-clause-lived
returns-clause-lived g c past = (cleared, tt)
