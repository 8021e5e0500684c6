use Rattle.std.proofs.Common.{◌≡◌}
use Rattle.world_tests.proofs.calls.takes.Given as goal

abbrev pub invariant-loop-bytes : goal.invariant-loop-bytes
invariant-loop-bytes g l = g.W.World.live l.world ≡ g.W.World.live l.initial.world
