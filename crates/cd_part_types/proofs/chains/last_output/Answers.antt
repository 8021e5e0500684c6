use Rattle.std.proofs.Common.{sym}
use Rattle.cd_part_types.proofs.ChainTypes.{last_gives}
use Rattle.cd_part_types.proofs.chains.last_output.Goals as goal

pub returns-in-Some : goal.returns-in-Some
returns-in-Some c = sym (last_gives c.args.flow c.args.members.now c.in-Some.last.now c.in-Some.ensures.value)
