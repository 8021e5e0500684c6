use Rattle.std.proofs.Common.{zero-add, ◌∙◌, arith}
use Rattle.cd_part_types.proofs.ChainTypes.{held_behind_none}
use Rattle.cd_part_types.proofs.chains.held_pieces.Goals as goal

pub loop-member-init : goal.loop-member-init
loop-member-init c = record {
  counted = zero-add _ ∙ held_behind_none _;
  last_within = omega arith;
  within = omega arith;
}
