use Rattle.cd_scope.specs.State.{held_in}
use Rattle.cd_node.proofs.Trees.{held_in_words}
use Rattle.cd_node.proofs.node.Node.abandon.Goals as goal

pub leave-requires : goal.leave-requires
leave-requires c = held_in_words (held_in c.args.scope.now) c.args.self c.requires.held
