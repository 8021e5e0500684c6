use Rattle.std.proofs.Common.{sym, ◌∙◌}
use Rattle.cd_split.proofs.CutterLaws.{cutter_asks}
use Rattle.cd_split.proofs.cutter.Cutter.go.Goals as goal

pub returns-in-None-clause-law : goal.returns-in-None-clause-law
returns-in-None-clause-law c = cutter_asks c.args.self.now c.take.new.self c.if-self.false (sym c.take.ensures.value ∙ c.in-None.is) c.take.ensures.after
