use Rattle.std.proofs.Common.{length, ◌-◌, ◌≡◌, ◌≤◌, IsTrue, take}
use Rattle.cd_cli.specs.Streams.{with_sent}
use Rattle.cd_cli.proofs.WriteSteps.{LogsSent}
use Rattle.cd_cli.proofs.streams.write_all.Given as goal

abbrev pub invariant-loop-done : goal.invariant-loop-done
invariant-loop-done g l = record {
  within : l.done ≤ length l.bytes;
  calm : g.W.World.faults l.world ≡ g.W.World.faults l.initial.world;
  live : g.W.World.live l.world ≡ g.W.World.live l.initial.world;
  files : IsTrue g.W.World.tells_files → g.W.World.files l.world ≡ with_sent l.fn.to (take l.done l.bytes) (g.W.World.files l.initial.world);
  log : IsTrue g.W.World.tells_log → LogsSent l.fn.to (take l.done l.bytes) (g.W.World.log l.initial.world) (g.W.World.log l.world);
}

abbrev pub decreases-loop-done : goal.decreases-loop-done
decreases-loop-done g l = length l.bytes - l.done
