use Rattle.std.proofs.Common.{arith}
use Rattle.cd_elemwise.proofs.PlanLaws.{take_all_plan, take_front_plan}
use Rattle.cd_elemwise.proofs.plan.take.Goals as goal

pub returns-then-len-left : goal.returns-then-len-left
returns-then-len-left c l = take_all_plan c.args.chunk.now.0 l c.args.chunk.now.1 c.args.left c.len-len.result c.len-len.ensures.value (c.len-len.ensures.size.some c.requires) c.if-len-left.true

pub returns-else-len-left : goal.returns-else-len-left
returns-else-len-left c l = take_front_plan c.args.chunk.now.0 l c.args.chunk.now.1 c.args.left (let h = c.len-len.ensures.value in omega (arith, h, c.if-len-left.false)) c.if-left-eq0.false
