use Rattle.std.proofs.Common.{◌≤◌, ◌+◌, List}
use Rattle.cd_typed.specs.Sites.{place_of}
use Rattle.cd_world.specs.Live.{Open}
use Rattle.cd_world.specs.Memory.{live_in}
use Rattle.cd_scope.specs.State.{held_in, room_in}
use Rattle.cd_scope.specs.Table.{IsOpen}
use Rattle.cd_node.specs.Nodes.{AnswersNode, AreHeld, fed_node}
use Rattle.test_callers.specs.Leaves.{leaf_fits, leaf_stands, seen_leaf}
use Rattle.test_callers.proofs.leaf_runs.step_all.Given as goal

abbrev pub invariant-loop : goal.invariant-loop
invariant-loop l = record {
  fit : leaf_fits l.leaf;
  answers : AnswersNode (seen_leaf l.leaf) l.input;
  stands : leaf_stands l.leaf (λ s. place_of l.info);
  held : AreHeld (held_in l.scope) (fed_node l.input (seen_leaf l.leaf));
  room : 100 ≤ room_in l.scope + l.counter;
  «open» : (base : List Open) → IsOpen (λ s. place_of l.info) base (held_in l.initial.scope) (live_in l.initial.world) → IsOpen (λ s. place_of l.info) base (held_in l.scope) (live_in l.world);
}
