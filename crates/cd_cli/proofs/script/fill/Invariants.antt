use Rattle.std.proofs.Common.{◌≡◌, ◌-◌, ◌≤◌, ℕ, List, IsTrue, length}
use Rattle.std.specs.Prelude.{Contains}
use Rattle.cd_world.specs.declared.event.Use.TheVariants.{Reading}
use Rattle.cd_world.specs.Live.{open_as}
use Rattle.cd_cli.proofs.ScriptSteps.{Filling, LogsFilling}
use Rattle.cd_cli.proofs.script.fill.Given as goal

abbrev pub invariant-loop-filled : goal.invariant-loop-filled
invariant-loop-filled g l = record {
  within : l.filled ≤ length l.buffer;
  calm : g.W.World.faults l.world ≡ g.W.World.faults l.initial.world;
  live : g.W.World.live l.world ≡ g.W.World.live l.initial.world;
  files : IsTrue g.W.World.tells_files → (name : List ℕ) → Contains (g.W.World.live l.initial.world) (open_as Reading l.from name)
      → Filling l.from.0 name l.filled l.buffer (g.W.World.files l.initial.world) (g.W.World.files l.world);
  log : IsTrue g.W.World.tells_log → LogsFilling l.from l.filled l.buffer (g.W.World.log l.initial.world) (g.W.World.log l.world);
}

abbrev pub decreases-loop-filled : goal.decreases-loop-filled
decreases-loop-filled g l = length l.buffer - l.filled
