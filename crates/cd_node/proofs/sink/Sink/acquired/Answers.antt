use Rattle.cd_node.proofs.Sinking.{asks_acquired}
use Rattle.cd_node.proofs.sink.Sink.acquired.Goals as goal

pub returns-clause-law : goal.returns-clause-law
returns-clause-law c = λ place. rw c.put.ensures (let l = c.args.self.now in asks_acquired l c.args.ticket c.requires.stand)
