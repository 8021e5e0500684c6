use Rattle.cd_split.proofs.Searches.{no_end}
use Rattle.cd_split.proofs.rule.before_end.Goals as goal

pub returns-in-None-clause-value : goal.returns-in-None-clause-value
returns-in-None-clause-value c = no_end c.args.separator c.args.reach c.args.chunk.now.1 c.in-None.is c.requires.within
