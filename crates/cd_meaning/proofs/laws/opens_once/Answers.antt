use Rattle.cd_meaning.proofs.Opens.Scripts.{script_opens_own, script_opens_once, script_opens_few, script_closes_open, script_closes_once}
use Rattle.cd_meaning.proofs.Opens.Trees.{tree_opens, tree_closes}
use Rattle.cd_meaning.proofs.laws.opens_once.Goals as goal

pub returns-clause-once : goal.returns-clause-once
returns-clause-once c = script_opens_once

pub returns-clause-own : goal.returns-clause-own
returns-clause-own c = script_opens_own

pub returns-clause-few : goal.returns-clause-few
returns-clause-few c = script_opens_few

pub returns-clause-closed_once : goal.returns-clause-closed_once
returns-clause-closed_once c = script_closes_once

pub returns-clause-closes : goal.returns-clause-closes
returns-clause-closes c = script_closes_open

pub returns-clause-trees : goal.returns-clause-trees
returns-clause-trees c = tree_opens

pub returns-clause-trees_close : goal.returns-clause-trees_close
returns-clause-trees_close c = tree_closes
