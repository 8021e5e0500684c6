use Rattle.cd_node.specs.Sources.{seen_source}
use Rattle.cd_node.proofs.Sourcing.{opens_first, read_goes, reads_on, standard_opened}
use Rattle.cd_node.proofs.source.Source.start.Goals as goal

pub returns-in-File-clause-law : goal.returns-in-File-clause-law
returns-in-File-clause-law c = λ place h. let l = c.args.self.now in opens_first place l.port.medium l.stand l.port.site.0 l.port.ticket c.requires.stand c.in-File.is h

pub returns-in-Standard-clause-law : goal.returns-in-Standard-clause-law
returns-in-Standard-clause-law c = λ place h.
    let l = c.args.self.now in
    rw c.read.ensures.after (read_goes place l c.read.result (seen_source l) h c.read.ensures.law (reads_on l (standard_opened l.port.medium l.stand l.port.site.0 c.requires.stand c.in-Standard.is)))
