use Rattle.std.proofs.Common.{◌≡◌, length, map}
use Rattle.cd_types.specs.Chains.{chain_result}
use Rattle.cd_part_types.specs.Chains.{in_front}
use Rattle.cd_part_types.specs.Results.{result_of}
use Rattle.cd_part_types.specs.Types.{type_of}
use Rattle.cd_part_types.proofs.chains.chain_result.Given as goal

abbrev pub invariant-loop-member : goal.invariant-loop-member
invariant-loop-member l = chain_result l.operator (map type_of l.fn.members) ≡ in_front l.operator (map type_of l.members) (result_of l.result)

abbrev pub decreases-loop-member : goal.decreases-loop-member
decreases-loop-member l = length l.members
