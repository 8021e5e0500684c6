use Rattle.std.proofs.Common.{arith}
use Rattle.cd_elemwise.proofs.PlanLaws.{drop_all_plan, drop_end}
use Rattle.cd_elemwise.proofs.plan.drop.Goals as goal

pub returns-then-len-left : goal.returns-then-len-left
returns-then-len-left c l = drop_all_plan c.args.chunk.now.0 l c.args.chunk.now.1 c.args.left c.len-len.result c.len-len.ensures.value c.if-len-left.true

pub returns-else-len-left : goal.returns-else-len-left
returns-else-len-left c l = drop_end c.args.chunk.now.0 l c.args.chunk.now.1 c.args.left (let h = c.len-len.ensures.value in omega (arith, h, c.if-len-left.false))
