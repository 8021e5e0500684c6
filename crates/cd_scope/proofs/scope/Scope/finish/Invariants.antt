use Rattle.std.proofs.Common.{◌≤◌, ℕ, List, length}
use Rattle.std.specs.Prelude.{vec_len}
use Rattle.cd_meaning.specs.Places.{Place}
use Rattle.cd_world.specs.Live.{Open}
use Rattle.cd_scope.specs.Table.{IsOpen}
use Rattle.cd_scope.proofs.EndSteps.{Gone}
use Rattle.cd_scope.proofs.scope.Scope.finish.Given as goal

abbrev pub invariant-loop-last : goal.invariant-loop-last
invariant-loop-last g l = record {
  «open» : (place : ℕ → Place) (base : List Open) → IsOpen place base l.initial.held.items (g.W.World.live l.initial.world) → IsOpen place base l.held.items (g.W.World.live l.world);
  room : vec_len l.held ≤ l.journal.1;
  gone : Gone l.initial.held.items l.held.items l.first_fault l.initial.journal.0 l.journal.0 (g.W.World.faults l.initial.world) (g.W.World.faults l.world) g.W.World.tells_log (g.W.World.log l.initial.world) (g.W.World.log l.world);
}

abbrev pub decreases-loop-last : goal.decreases-loop-last
decreases-loop-last g l = length l.held.items
