use Rattle.std.proofs.Common.{sym, ◌∙◌}
use Rattle.cd_split.proofs.JoinerLaws.{joiner_asks}
use Rattle.cd_split.proofs.joiner.Joiner.go.Goals as goal

pub returns-in-None-clause-law : goal.returns-in-None-clause-law
returns-in-None-clause-law c = joiner_asks c.args.self.now c.take.new.self c.requires.told (sym c.take.ensures.value ∙ c.in-None.is) c.take.ensures.after
