use Rattle.cd_node.specs.Sources.{seen_source}
use Rattle.cd_node.proofs.Sourcing.{read_goes, reads_on, gave_opened}
use Rattle.cd_node.proofs.source.Source.next.Goals as goal

pub returns-clause-law : goal.returns-clause-law
returns-clause-law c = λ place h.
    let l = c.args.self.now in
    rw c.read.ensures.after (read_goes place l c.read.result (seen_source l) h c.read.ensures.law (reads_on l (gave_opened l.port.medium l.stand l.port.site.0 c.requires.stand)))
