use Rattle.std.proofs.Common.{length, ◌-◌, ◌≡◌, ◌≤◌, ℕ, List, IsTrue}
use Rattle.std.specs.Prelude.{Contains}
use Rattle.cd_meaning.specs.Run.{Run}
use Rattle.cd_meaning.specs.RunShapes.{Seen}
use Rattle.cd_world.specs.Live.{Open}
use Rattle.cd_scope.specs.declared.table.Held.{Held}
use Rattle.cd_scope.specs.Uses.{WritesAt}
use Rattle.cd_scope.specs.Due.{Setting}
use Rattle.cd_scope.specs.Calls.{held_at}
use Rattle.cd_run.specs.Going.{Outside, Going, outside}
use Rattle.cd_scope.specs.Table.{IsOpen}
use Rattle.cd_run.proofs.Steps.{puts_left}
use Rattle.cd_run.proofs.write.write_all.Given as goal

abbrev pub invariant-loop-done : goal.invariant-loop-done
invariant-loop-done g l = record {
  within : l.done ≤ length l.bytes;
  live : g.W.World.live l.world ≡ g.W.World.live l.initial.world;
  calm : g.W.World.faults l.world ≡ g.W.World.faults l.initial.world;
  told : IsTrue g.W.World.tells_log → (s : Setting) (base : List Open) (t : List Held) → s.tells ≡ g.W.World.tells_files → IsOpen s.place base t (g.W.World.live l.initial.world) → WritesAt (s.place l.site.0) l.to.0 (Contains t (held_at l.site.0 l.to))
      → (m : Seen → Run) (left : List ℕ) (todo : Seen → Seen → Run) (w0 : Outside)
      → Going s m t left (puts_left l.site.0 0 l.bytes todo) w0 (outside (g.W.World.log l.initial.world) (g.W.World.files l.initial.world))
      → Going s m t left (puts_left l.site.0 l.done l.bytes todo) w0 (outside (g.W.World.log l.world) (g.W.World.files l.world));
}

abbrev pub decreases-loop-done : goal.decreases-loop-done
decreases-loop-done g l = length l.bytes - l.done
