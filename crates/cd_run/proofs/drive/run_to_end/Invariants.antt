use Rattle.std.proofs.Common.{◌≡◌, ◌<◌, ℕ, List, IsTrue, length, get_or, false}
use Rattle.std.specs.Prelude.{sum, Contains}
use Rattle.cd_meaning.specs.Run.{Run}
use Rattle.cd_meaning.specs.RunShapes.{Seen}
use Rattle.cd_meaning.specs.Stream.{Value as Answer}
use Rattle.cd_world.specs.Live.{Open}
use Rattle.cd_scope.specs.declared.table.Held.{Held}
use Rattle.cd_scope.specs.Due.{Setting}
use Rattle.cd_scope.specs.State.{held_in, room_in}
use Rattle.cd_scope.specs.Table.{IsOpen}
use Rattle.cd_node.specs.Nodes.{AnswersNode, AreHeld, fed_node}
use Rattle.cd_run.specs.Going.{Outside, Going, outside, places_of}
use Rattle.cd_run.specs.Paused.{Forgets}
use Rattle.cd_run.specs.Statements.{Spends, within, left_run}
use Rattle.cd_run.proofs.drive.run_to_end.Given as goal

abbrev pub invariant-loop-pause : goal.invariant-loop-pause
invariant-loop-pause g l = record {
  well : g.N.StatementNode.well l.node;
  answers : AnswersNode (g.N.StatementNode.seen l.node) l.input;
  sites : (g.N.StatementNode.seen l.node).sites ≡ (g.N.StatementNode.seen l.initial.node).sites;
  stands : g.N.StatementNode.stands l.node (places_of l.sites);
  held : AreHeld (held_in l.scope) (fed_node l.input (g.N.StatementNode.seen l.node));
  stays : (h : Held) → (g.N.StatementNode.seen l.initial.node).sites h.site.0 ≡ false → Contains (held_in l.initial.scope) h → Contains (held_in l.scope) h;
  room : Spends (g.N.StatementNode.seen l.initial.node) (room_in l.initial.scope) (fed_node l.input (g.N.StatementNode.seen l.node)) (room_in l.scope);
  calm : g.W.World.faults l.world ≡ g.W.World.faults l.initial.world;
  «open» : (base : List Open) → IsOpen (places_of l.sites) base (held_in l.initial.scope) (g.W.World.live l.initial.world) → IsOpen (places_of l.sites) base (held_in l.scope) (g.W.World.live l.world);
  ended : (s : ℕ) → s < length l.left → get_or l.left s 0 ≡ 0 → Forgets s (fed_node l.input (g.N.StatementNode.seen l.node));
  others : (s : ℕ) → (g.N.StatementNode.seen l.initial.node).sites s ≡ false → get_or l.left s 0 ≡ get_or l.initial.left s 0;
  told : IsTrue g.W.World.tells_log → (s : Setting) (base : List Open) → s.place ≡ places_of l.sites → s.tells ≡ g.W.World.tells_files → s.size ≡ l.size → IsOpen (places_of l.sites) base (held_in l.initial.scope) (g.W.World.live l.initial.world)
      → (m : Seen → Run) (k : Seen → Answer → Run) (w0 : Outside)
      → Going s m (held_in l.initial.scope) l.initial.left (within (left_run (g.N.StatementNode.seen l.initial.node)) k) w0 (outside (g.W.World.log l.initial.world) (g.W.World.files l.initial.world))
      → Going s m (held_in l.scope) l.left (within (left_run (fed_node l.input (g.N.StatementNode.seen l.node))) k) w0 (outside (g.W.World.log l.world) (g.W.World.files l.world));
}

abbrev pub decreases-loop-pause : goal.decreases-loop-pause
decreases-loop-pause g l = sum l.left
