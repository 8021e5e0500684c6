use Rattle.cd_elemwise.proofs.PlanLaws.{peek_plan}
use Rattle.cd_elemwise.proofs.plan.peek.Goals as goal

pub returns : goal.returns
returns c l = peek_plan c.args.chunk.now.0 l c.args.chunk.now.1 c.in_ok-value.value c.single_at.result c.requires.cut c.requires.some c.in_ok-value.ensures c.single_at.ensures
