use Rattle.cd_node.proofs.Sourcing.{gives_read}
use Rattle.cd_node.proofs.source.Source.gave.Goals as goal

pub returns-clause-law : goal.returns-clause-law
returns-clause-law c = λ place. let l = c.args.self.now in gives_read l.port.medium l.stand l.port.site.0 l.port.ticket c.args.chunk c.requires.stand c.requires.bytes c.requires.some c.requires.most
