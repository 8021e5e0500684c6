use Rattle.std.proofs.Common.{arith}
use Rattle.cd_elemwise.proofs.PlanLaws.{take_while_plan, take_while_end}
use Rattle.cd_elemwise.proofs.plan.take_while.Goals as goal

pub returns-then-count-eq0 : goal.returns-then-count-eq0
returns-then-count-eq0 c l = take_while_end c.args.chunk.now.0 c.args.table.now l c.args.chunk.now.1 c.front_of-count.result c.front_of-count.ensures.value (let h = c.len-len.ensures.value in let f = c.len-len.ensures.size.some c.requires in omega (arith, h, f)) c.if-count-eq0.true

pub returns-else-count-eq0 : goal.returns-else-count-eq0
returns-else-count-eq0 c l = take_while_plan c.args.chunk.now.0 c.args.table.now l c.args.chunk.now.1 c.front_of-count.result c.front_of-count.ensures.value c.front_of-count.ensures.within c.if-count-eq0.false
