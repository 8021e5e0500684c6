use Rattle.std.proofs.Common.{◌≡◌, map, drop}
use Rattle.cd_types.specs.Parts.{any_site}
use Rattle.cd_types.specs.Trees.{part}
use Rattle.cd_part_types.proofs.contents.+sites.Given as goal

abbrev pub invariant-any_has_site-loop-pipe : goal.invariant-any_has_site-loop-pipe
invariant-any_has_site-loop-pipe l = any_site (map part l.pipes) ≡ any_site (map part (drop l.pipe-index l.pipes))
