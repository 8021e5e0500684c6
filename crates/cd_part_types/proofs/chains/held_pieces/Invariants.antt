use Rattle.std.proofs.Common.{◌≡◌, ◌+◌, ◌*◌, ◌≤◌, map, drop}
use Rattle.cd_types.specs.Chains.{held_pieces}
use Rattle.cd_part_types.specs.Chains.{held_behind}
use Rattle.cd_part_types.specs.Types.{type_of}
use Rattle.cd_part_types.proofs.chains.held_pieces.Given as goal

abbrev pub invariant-loop-member : goal.invariant-loop-member
invariant-loop-member l = record {
  counted : l.held + held_behind l.last (map type_of (drop l.member-index l.members)) ≡ held_pieces (map type_of l.members);
  last_within : l.last ≤ 4294967296;
  within : l.held ≤ l.member-index * 4294967296;
}
