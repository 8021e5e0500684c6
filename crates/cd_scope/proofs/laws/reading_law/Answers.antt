use Rattle.cd_scope.proofs.Readings.{one_reading}
use Rattle.cd_scope.proofs.laws.reading_law.Goals as goal

pub returns : goal.returns
returns c = one_reading
