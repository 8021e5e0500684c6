use Rattle.cd_node.proofs.Ended.{ignores_ended, never_read}
use Rattle.cd_node.proofs.laws.ended_site.Goals as goal

pub returns-clause-ignores : goal.returns-clause-ignores
returns-clause-ignores c = ignores_ended

pub returns-clause-never_read : goal.returns-clause-never_read
returns-clause-never_read c = never_read
