use Rattle.cd_elemwise.proofs.PlanLaws.{head_plan}
use Rattle.cd_elemwise.proofs.plan.head.Goals as goal

pub returns : goal.returns
returns c l = head_plan c.args.chunk.now.0 l c.args.chunk.now.1 c.in_ok-value.value c.single_at.result c.requires.cut c.requires.some c.in_ok-value.ensures c.single_at.ensures
