use Rattle.cd_pieces.proofs.WordScans.{first_run}
use Rattle.cd_pieces.proofs.stage.piece_stage.Goals as goal

pub returns-clause-means : goal.returns-clause-means
returns-clause-means c z site seen xs end = rw c.in_ok-state.ensures (first_run c.args.word.now c.args.kind c.requires site seen xs end)
