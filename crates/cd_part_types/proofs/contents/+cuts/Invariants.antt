use Rattle.std.proofs.Common.{◌≡◌, map, drop}
use Rattle.cd_types.specs.Parts.{any_shows}
use Rattle.cd_types.specs.Trees.{part}
use Rattle.cd_part_types.proofs.contents.+cuts.Given as goal

abbrev pub invariant-any_shows_cuts-loop-pipe : goal.invariant-any_shows_cuts-loop-pipe
invariant-any_shows_cuts-loop-pipe l = any_shows (map part l.pipes) ≡ any_shows (map part (drop l.pipe-index l.pipes))
