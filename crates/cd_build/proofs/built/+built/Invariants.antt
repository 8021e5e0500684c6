use Rattle.std.proofs.Common.{◌≡◌, map, drop}
use Rattle.cd_build.specs.Built as spec
use Rattle.cd_build.proofs.built.+built.Given as goal

abbrev pub invariant-are_built-loop-pipe : goal.invariant-are_built-loop-pipe
invariant-are_built-loop-pipe l = spec.all_true (map spec.is_built l.pipes) ≡ spec.all_true (map spec.is_built (drop l.pipe-index l.pipes))
