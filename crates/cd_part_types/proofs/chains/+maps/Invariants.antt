use Rattle.std.proofs.Common.{◌≡◌, map, drop}
use Rattle.cd_types.specs.Parts.{all_invertible}
use Rattle.cd_types.specs.Trees.{part}
use Rattle.cd_part_types.proofs.chains.+maps.Given as goal

abbrev pub invariant-are_maps-loop-pipe : goal.invariant-are_maps-loop-pipe
invariant-are_maps-loop-pipe l = all_invertible (map part l.pipes) ≡ all_invertible (map part (drop l.pipe-index l.pipes))
