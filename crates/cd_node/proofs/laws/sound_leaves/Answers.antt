use Rattle.cd_node.proofs.Marking.{mark_sound}
use Rattle.cd_node.proofs.Sinking.{sink_sound}
use Rattle.cd_node.proofs.Sourcing.{source_sound}
use Rattle.cd_node.proofs.laws.sound_leaves.Goals as goal

pub returns-clause-sources : goal.returns-clause-sources
returns-clause-sources c = λ l f. source_sound l.port.medium l.stand l.port.site.0 l.port.ticket f

pub returns-clause-sinks : goal.returns-clause-sinks
returns-clause-sinks c = λ l f. sink_sound l.port.medium l.stand l.port.site.0 l.port.ticket f

pub returns-clause-brackets : goal.returns-clause-brackets
returns-clause-brackets c = λ m p i l. mark_sound m p i.1 l
