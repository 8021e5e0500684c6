use Rattle.cd_scope.specs.State.{held_in}
use Rattle.cd_node.specs.Trees.{seen}
use Rattle.cd_node.proofs.Ending.{retires_back}
use Rattle.cd_node.proofs.Held.{held_kept}
use Rattle.cd_node.proofs.node.Node.retire.Goals as goal

pub abandon-requires : goal.abandon-requires
abandon-requires c = record { held = held_kept (held_in c.args.scope.now) (seen c.args.self) (seen c.give_back-rest.new.self) c.give_back-rest.ensures.law.1 c.requires.held }

pub returns-clause-back : goal.returns-clause-back
returns-clause-back c = retires_back (seen c.args.self) (seen c.give_back-rest.new.self) c.give_back-rest.result c.give_back-rest.ensures.law
