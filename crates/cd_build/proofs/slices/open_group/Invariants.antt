use Rattle.std.proofs.Common.{◌<◌, IfSome, length}
use Rattle.cd_build.proofs.slices.open_group.Given as goal

abbrev pub invariant-loop-place : goal.invariant-loop-place
invariant-loop-place l = IfSome l.group (λ place. place < length l.members)
