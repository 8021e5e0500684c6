use Rattle.cd_node.proofs.Sinking.{writes}
use Rattle.cd_node.proofs.sink.Sink.write.Goals as goal

pub returns-clause-law : goal.returns-clause-law
returns-clause-law c = λ place h. let l = c.args.self.now in writes place l.port.medium l.stand l.port.site.0 l.port.ticket c.descriptor.result.0 c.args.chunk c.requires.stand h c.descriptor.ensures c.requires.bytes
