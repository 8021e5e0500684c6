use Rattle.cd_pieces.proofs.WordScans.{sink_run}
use Rattle.cd_step.specs.Parts.{sort_at}
use Rattle.cd_pieces.proofs.stage.sink_null.Goals as goal

pub returns-clause-means : goal.returns-clause-means
returns-clause-means c z site seen xs end = sink_run (sort_at c.args.kind) site seen xs end
