use Rattle.cd_elemwise.proofs.WordScans.{first_run}
use Rattle.cd_elemwise.proofs.stage.elem_stage.Goals as goal

pub returns-clause-means : goal.returns-clause-means
returns-clause-means c z site seen xs end = rw (c.in_ok-state.ensures, c.list_of.ensures.list) (first_run c.args.word.now c.args.sort c.requires site seen xs end)
