use Rattle.cd_node.proofs.Sinking.{asks_written}
use Rattle.cd_node.proofs.sink.Sink.wrote.Goals as goal

pub returns-clause-law : goal.returns-clause-law
returns-clause-law c = λ place. let l = c.args.self.now in asks_written l.port.medium l.stand l.port.site.0 l.port.ticket c.requires.stand
