use Rattle.bench.proofs.Making.{chain_ready}
use Rattle.bench.proofs.trees.chain.Goals as goal

pub returns : goal.returns
returns c = chain_ready c.in_ok-node.node c.in_ok-node.ensures
