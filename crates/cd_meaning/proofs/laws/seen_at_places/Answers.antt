use Rattle.cd_meaning.proofs.WholeFiles.{script_seen}
use Rattle.cd_meaning.proofs.laws.seen_at_places.Goals as goal

pub returns : goal.returns
returns c = script_seen
