use Rattle.cd_split.proofs.Searches.{found_first, found_none}
use Rattle.cd_split.proofs.rule.before_byte.Goals as goal

pub returns-in-Some-clause-value : goal.returns-in-Some-clause-value
returns-in-Some-clause-value c = found_first c.args.byte c.args.bytes.now c.memchr.result c.in-Some.place c.memchr.ensures c.in-Some.is

pub returns-in-None-clause-value : goal.returns-in-None-clause-value
returns-in-None-clause-value c = found_none c.args.byte c.args.bytes.now c.memchr.result c.memchr.ensures c.in-None.is
