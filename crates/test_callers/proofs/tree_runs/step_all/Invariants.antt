use Rattle.std.proofs.Common.{◌≤◌, ◌+◌, List}
use Rattle.cd_world.specs.Live.{Open}
use Rattle.cd_world.specs.Memory.{live_in}
use Rattle.cd_scope.specs.State.{held_in, room_in}
use Rattle.cd_scope.specs.Table.{IsOpen}
use Rattle.cd_node.specs.Nodes.{AnswersNode, AreHeld, fed_node}
use Rattle.cd_node.specs.Trees.{IsWell, StandsAt, seen}
use Rattle.cd_run.specs.Going.{places_of}
use Rattle.test_callers.specs.Leaves.{IsOnBytes}
use Rattle.test_callers.proofs.tree_runs.step_all.Given as goal

abbrev pub invariant-loop : goal.invariant-loop
invariant-loop l = record {
  well : IsWell l.node;
  answers : AnswersNode (seen l.node) l.input;
  takes : IsOnBytes (seen l.node).takes;
  stands : StandsAt l.node (places_of l.sites);
  held : AreHeld (held_in l.scope) (fed_node l.input (seen l.node));
  room : l.steps ≤ room_in l.scope + l.counter;
  «open» : (base : List Open) → IsOpen (places_of l.sites) base (held_in l.initial.scope) (live_in l.initial.world) → IsOpen (places_of l.sites) base (held_in l.scope) (live_in l.world);
}
