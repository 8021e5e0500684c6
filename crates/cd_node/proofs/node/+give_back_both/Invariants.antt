use Rattle.std.proofs.Common.{◌+◌}
use Rattle.cd_node.specs.Trees.{height}
use Rattle.cd_node.proofs.node.+give_back_both.Given as goal

abbrev pub decreases-Node::give_back : goal.decreases-Node::give_back
decreases-Node::give_back l = height l.self.now

abbrev pub decreases-give_back_both : goal.decreases-give_back_both
decreases-give_back_both l = height l.a.now + height l.b.now + 1
