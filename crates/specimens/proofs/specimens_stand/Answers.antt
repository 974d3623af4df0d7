use Rattle.std.proofs.Common.{refl}
use Rattle.specimens.proofs.Standing.{specimens_stand}
use Rattle.specimens.proofs.specimens_stand.Goals as goal

pub returns : goal.returns
returns c = record { count = refl; stand = specimens_stand }
