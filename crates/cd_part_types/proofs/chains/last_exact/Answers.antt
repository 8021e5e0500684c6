use Rattle.std.proofs.Common.{ap, sym}
use Rattle.cd_part_types.proofs.ChainTypes.{last_is}
use Rattle.cd_part_types.proofs.chains.last_exact.Goals as goal

pub returns-in-Some : goal.returns-in-Some
returns-in-Some c = ap (λ t. t.exact) (sym (last_is c.args.members.now c.in-Some.last.now c.in-Some.ensures.value))
