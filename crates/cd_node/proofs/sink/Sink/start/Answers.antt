use Rattle.cd_node.proofs.Sinking.{opens_first, asks_first}
use Rattle.cd_node.proofs.sink.Sink.start.Goals as goal

pub returns-in-File-clause-law : goal.returns-in-File-clause-law
returns-in-File-clause-law c = λ place h. let l = c.args.self.now in opens_first place l.port.medium l.stand l.port.site.0 l.port.ticket c.requires.stand c.in-File.is h

pub returns-in-Standard-clause-law : goal.returns-in-Standard-clause-law
returns-in-Standard-clause-law c = λ place h. let l = c.args.self.now in asks_first l.port.medium l.stand l.port.site.0 l.port.ticket c.requires.stand c.in-Standard.is
