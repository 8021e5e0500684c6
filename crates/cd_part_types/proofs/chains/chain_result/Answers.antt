use Rattle.cd_part_types.specs.Results.{unit_is}
use Rattle.cd_part_types.proofs.chains.chain_result.Goals as goal

pub returns-in_default : goal.returns-in_default
returns-in_default c = rw c.in_default.ensures.0 unit_is
