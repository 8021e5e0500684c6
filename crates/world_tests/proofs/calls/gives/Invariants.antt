use Rattle.std.proofs.Common.{◌≡◌, length}
use Rattle.world_tests.proofs.calls.gives.Given as goal

abbrev pub invariant-loop-count : goal.invariant-loop-count
invariant-loop-count g l = record {
  live : g.W.World.live l.world ≡ g.W.World.live l.initial.world;
  room : length l.room ≡ length l.initial.room;
}
