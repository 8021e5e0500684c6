use Rattle.std.proofs.Common.{◌≡◌, ◌+◌, ◌-◌, ◌*◌, ℕ, List, IsTrue, false}
use Rattle.std.specs.Prelude.{Contains}
use Rattle.cd_meaning.specs.Known.{nothing_known}
use Rattle.cd_meaning.specs.Run.{Run}
use Rattle.cd_meaning.specs.RunShapes.{Seen}
use Rattle.cd_meaning.specs.Stream.{Value as Answer}
use Rattle.cd_meaning.proofs.Moves.Work.{count}
use Rattle.cd_world.specs.Live.{Open}
use Rattle.cd_scope.specs.declared.table.Held.{Held}
use Rattle.cd_scope.specs.Due.{Setting}
use Rattle.cd_scope.specs.State.{held_in, room_in}
use Rattle.cd_scope.specs.Table.{IsOpen}
use Rattle.cd_node.specs.Nodes.{AnswersNode, AreHeld, fed_node}
use Rattle.cd_scope.specs.Calls.{does}
use Rattle.cd_run.specs.Gathers.{IsFor, waiting}
use Rattle.cd_run.specs.Going.{Outside, Going, outside, places_of}
use Rattle.cd_run.specs.Paused.{Forgets}
use Rattle.cd_run.specs.Statements.{Spends, within, left_run}
use Rattle.cd_run.proofs.drive.advance.Given as goal

abbrev pub invariant-loop-made : goal.invariant-loop-made
invariant-loop-made g l = record {
  well : g.N.StatementNode.well l.node;
  answers : AnswersNode (g.N.StatementNode.seen l.node) l.input;
  sites : (g.N.StatementNode.seen l.node).sites ≡ (g.N.StatementNode.seen l.initial.node).sites;
  stands : g.N.StatementNode.stands l.node (places_of l.sites);
  held : AreHeld (held_in l.scope) (fed_node l.input (g.N.StatementNode.seen l.node));
  waits : IsFor (places_of l.sites) (held_in l.scope) l.buffers.gathered;
  stays : (h : Held) → (g.N.StatementNode.seen l.initial.node).sites h.site.0 ≡ false → Contains (held_in l.initial.scope) h → Contains (held_in l.scope) h;
  room : Spends (fed_node l.initial.input (g.N.StatementNode.seen l.initial.node)) (room_in l.initial.scope) (fed_node l.input (g.N.StatementNode.seen l.node)) (room_in l.scope);
  calm : g.W.World.faults l.world ≡ g.W.World.faults l.initial.world;
  «open» : (base : List Open) → IsOpen (places_of l.sites) base (held_in l.initial.scope) (g.W.World.live l.initial.world) → IsOpen (places_of l.sites) base (held_in l.scope) (g.W.World.live l.world);
  forgets : (s : ℕ) → Forgets s (fed_node l.initial.input (g.N.StatementNode.seen l.initial.node)) → Forgets s (fed_node l.input (g.N.StatementNode.seen l.node));
  told : IsTrue g.W.World.tells_log → (s : Setting) (base : List Open) → s.place ≡ places_of l.sites → s.tells ≡ g.W.World.tells_files → IsOpen (places_of l.sites) base (held_in l.initial.scope) (g.W.World.live l.initial.world)
      → (m : Seen → Run) (left : List ℕ) (k : Seen → Answer → Run) (w0 : Outside)
      → Going s m (held_in l.initial.scope) left (within (left_run (fed_node l.initial.input (g.N.StatementNode.seen l.initial.node))) k) w0 (outside (g.W.World.log l.initial.world) (g.W.World.files l.initial.world))
      → Going s m (held_in l.scope) left (λ all z. does (waiting l.buffers.gathered) (within (left_run (fed_node l.input (g.N.StatementNode.seen l.node))) k all z)) w0 (outside (g.W.World.log l.world) (g.W.World.files l.world));
}

abbrev pub decreases-loop-made : goal.decreases-loop-made
decreases-loop-made g l = 2 * count (left_run (fed_node l.input (g.N.StatementNode.seen l.node)) nothing_known) + (1 - (fed_node l.input (g.N.StatementNode.seen l.node)).floor)
