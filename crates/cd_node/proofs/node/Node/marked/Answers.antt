use Rattle.cd_node.proofs.Trees.{node_sound}
use Rattle.cd_node.proofs.node.Node.marked.Goals as goal

pub returns-in-Ok-clause-pieces : goal.returns-in-Ok-clause-pieces
returns-in-Ok-clause-pieces c = rw c.in-Ok.ensures.ok (node_sound c.args.body c.requires.body.0).graded

pub returns-in-Ok-clause-places : goal.returns-in-Ok-clause-places
returns-in-Ok-clause-places c = rw c.in-Ok.ensures.ok (λ place name e s. (s, c.new-mark.ensures.places place name e))
