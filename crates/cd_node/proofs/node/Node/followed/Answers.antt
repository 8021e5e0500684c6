use Rattle.cd_node.specs.Trees.{seen}
use Rattle.cd_node.specs.declared.control.PairControl.TheVariants.{Sequence}
use Rattle.cd_node.proofs.Making.{pair_well, pair_unstarted, sequence_held}
use Rattle.cd_node.proofs.Trees.{node_sound}
use Rattle.cd_node.proofs.node.Node.followed.Goals as goal

pub returns-clause-well : goal.returns-clause-well
returns-clause-well c = pair_well (Sequence c.new.result) c.args.a c.args.b c.in_ok-node.node c.in_ok-node.ensures c.requires.a.0 c.requires.b.0 (c.new.ensures.begins (seen c.args.a) (seen c.args.b) c.requires.a.1.unbegun c.requires.b.1.unbegun c.requires.b.1.held c.requires.in_turn) (sequence_held c.new.result (seen c.args.a) (seen c.args.b) (c.new.ensures.begins (seen c.args.a) (seen c.args.b) c.requires.a.1.unbegun c.requires.b.1.unbegun c.requires.b.1.held c.requires.in_turn) (c.new.ensures.unbegun (seen c.args.a) (seen c.args.b) c.requires.a.1.unbegun) c.requires.a.1.held)

pub returns-clause-unstarted : goal.returns-clause-unstarted
returns-clause-unstarted c = pair_unstarted (Sequence c.new.result) c.args.a c.args.b c.in_ok-node.node c.in_ok-node.ensures c.requires.a.1 c.requires.b.1 (c.new.ensures.unbegun (seen c.args.a) (seen c.args.b) c.requires.a.1.unbegun) (sequence_held c.new.result (seen c.args.a) (seen c.args.b) (c.new.ensures.begins (seen c.args.a) (seen c.args.b) c.requires.a.1.unbegun c.requires.b.1.unbegun c.requires.b.1.held c.requires.in_turn) (c.new.ensures.unbegun (seen c.args.a) (seen c.args.b) c.requires.a.1.unbegun) c.requires.a.1.held)

pub returns-clause-pieces : goal.returns-clause-pieces
returns-clause-pieces c = (node_sound c.in_ok-node.node (pair_well (Sequence c.new.result) c.args.a c.args.b c.in_ok-node.node c.in_ok-node.ensures c.requires.a.0 c.requires.b.0 (c.new.ensures.begins (seen c.args.a) (seen c.args.b) c.requires.a.1.unbegun c.requires.b.1.unbegun c.requires.b.1.held c.requires.in_turn) (sequence_held c.new.result (seen c.args.a) (seen c.args.b) (c.new.ensures.begins (seen c.args.a) (seen c.args.b) c.requires.a.1.unbegun c.requires.b.1.unbegun c.requires.b.1.held c.requires.in_turn) (c.new.ensures.unbegun (seen c.args.a) (seen c.args.b) c.requires.a.1.unbegun) c.requires.a.1.held))).graded
