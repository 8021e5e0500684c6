use Rattle.std.proofs.Common.{ap, ◌∙◌}
use Rattle.cd_meaning.specs.Values.{value_meaning}
use Rattle.cd_elemwise.proofs.PlanLaws.{single_result}
use Rattle.cd_elemwise.proofs.state.present_of.Goals as goal

pub returns-in-Ok : goal.returns-in-Ok
returns-in-Ok c = single_result c.in-Ok.boxed c.args.single (ap value_meaning c.in-Ok.ensures.ok ∙ c.plain_of.ensures)
