use Rattle.cd_scope.proofs.Openings.{has_room, not_opened}
use Rattle.cd_scope.proofs.laws.openings_law.Goals as goal

pub returns-clause-fresh : goal.returns-clause-fresh
returns-clause-fresh c = not_opened

pub returns-clause-room : goal.returns-clause-room
returns-clause-room c = has_room
