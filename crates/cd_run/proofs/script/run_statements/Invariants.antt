use Rattle.std.proofs.Common.{◌≡◌, ℕ, Bool, List, IsTrue}
use Rattle.cd_meaning.specs.Places.{place_in}
use Rattle.cd_meaning.specs.Run.{Run}
use Rattle.cd_meaning.specs.RunShapes.{Seen}
use Rattle.cd_meaning.specs.Scripts.{ScriptState, script_places, script_run}
use Rattle.cd_world.specs.Live.{Open}
use Rattle.cd_scope.specs.Due.{Setting}
use Rattle.cd_run.specs.Going.{Going, Outside, outside}
use Rattle.cd_run.specs.Runners.{IsOpenBy, left_of, limit_of, options_of, size_of, table_of}
use Rattle.cd_run.specs.Scripts.{HasRun, rest_of}
use Rattle.cd_run.specs.Statements.{behind}
use Rattle.cd_run.proofs.script.run_statements.Given as goal

abbrev pub invariant-loop-place : goal.invariant-loop-place
invariant-loop-place g l = record {
  options : options_of l.runner ≡ options_of l.initial.runner;
  calm : g.W.World.faults l.world ≡ g.W.World.faults l.initial.world;
  «open» : (base : List Open) → IsOpenBy l.statements base l.initial.runner (g.W.World.live l.initial.world) → IsOpenBy l.statements base l.runner (g.W.World.live l.world);
  at : (st : ScriptState) × (held : List ℕ → Bool) × HasRun l.statements l.place st held l.runner
      × (IsTrue g.W.World.tells_log → (s : Setting) (base : List Open) → s.place ≡ place_in (script_places l.statements) → s.tells ≡ g.W.World.tells_files → s.size ≡ size_of l.initial.runner → s.limit ≡ limit_of l.initial.runner
      → IsOpenBy l.statements base l.initial.runner (g.W.World.live l.initial.world) → (m : Seen → Run) (w0 : Outside)
      → Going s m (table_of l.initial.runner) (left_of l.initial.runner) (behind (script_run l.statements)) w0 (outside (g.W.World.log l.initial.world) (g.W.World.files l.initial.world))
      → Going s m (table_of l.runner) (left_of l.runner) (behind (rest_of l.statements l.place st)) w0 (outside (g.W.World.log l.world) (g.W.World.files l.world)));
}
