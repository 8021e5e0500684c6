use Rattle.std.proofs.Common.{◌≡◌, ◌+◌, None}
use Rattle.cd_node.specs.Controls.{seen_pair}
use Rattle.cd_node.specs.Nodes.{fed_node}
use Rattle.cd_node.specs.Trees.{IsSameNode, IsWell, height, seen}
use Rattle.cd_node.specs.Turns.{NodeTurnLaw, node_turns_left}
use Rattle.cd_node.proofs.node.+drive.Given as goal

abbrev pub decreases-Node::advance : goal.decreases-Node::advance
decreases-Node::advance l = height l.self.now

abbrev pub decreases-drive : goal.decreases-drive
decreases-drive l = height l.a.now + height l.b.now + 2

abbrev pub decreases-take_turn : goal.decreases-take_turn
decreases-take_turn l = height l.a.now + height l.b.now + 1

-- what is owed from the first turn on is owed from this turn on
abbrev pub invariant-drive-turns : goal.invariant-drive-turns
invariant-drive-turns l = record {
  well_a : IsWell l.a;
  well_b : IsWell l.b;
  same_a : IsSameNode l.fn.a l.a;
  same_b : IsSameNode l.fn.b l.b;
  turn_is : NodeTurnLaw (fed_node l.fn.input (seen_pair l.fn.control l.fn.out (seen l.fn.a) (seen l.fn.b))) l.turn l.control (seen l.a) (seen l.b);
  out_is : l.out ≡ None;
}

abbrev pub decreases-drive-turns : goal.decreases-drive-turns
decreases-drive-turns l = node_turns_left l.turn l.control (seen l.a) (seen l.b)

abbrev pub decreases-step_marked : goal.decreases-step_marked
decreases-step_marked l = height l.body.now + 1
