use Rattle.std.proofs.Common.{min, sym, ◌∙◌, ap}
use Rattle.cd_world.proofs.PlanSteps.{cut-here, cut-behind}
use Rattle.cd_world.proofs.plan.cut.Goals as goal

pub returns-in-Some-clause-value : goal.returns-in-Some-clause-value
returns-in-Some-clause-value c = c.min.ensures ∙ ap (min c.args.count) c.max.ensures ∙ sym (cut-here c.args.cuts.now c.args.place c.args.count _ (sym c.in-Some.ensures.value))

pub returns-in-None-clause-value : goal.returns-in-None-clause-value
returns-in-None-clause-value c = sym (cut-behind c.args.cuts.now c.args.place c.args.count (sym c.in-None.ensures.value))
