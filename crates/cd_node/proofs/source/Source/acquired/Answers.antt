use Rattle.cd_node.proofs.Sourcing.{acquired_reads}
use Rattle.cd_node.proofs.source.Source.acquired.Goals as goal

pub returns-clause-law : goal.returns-clause-law
returns-clause-law c = λ place h. rw (c.read.ensures.after, c.put.ensures) (acquired_reads place c.args.self.now c.args.ticket c.read.result c.requires.stand h (let x = c.read.ensures.law in rw c.put.ensures at x))
