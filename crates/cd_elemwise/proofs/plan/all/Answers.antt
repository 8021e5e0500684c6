use Rattle.std.proofs.Common.{arith}
use Rattle.cd_elemwise.proofs.PlanLaws.{all_plan, all_end}
use Rattle.cd_elemwise.proofs.plan.all.Goals as goal

pub returns-then-count-len : goal.returns-then-count-len
returns-then-count-len c l = all_plan c.args.chunk.now.0 c.args.table.now c.args.answer l c.args.chunk.now.1 c.front_of-count.result c.len.result c.front_of-count.ensures.value c.len.ensures.value c.if-count-len.true

pub returns-else-count-len : goal.returns-else-count-len
returns-else-count-len c l = all_end c.args.chunk.now.0 c.args.table.now c.args.answer l c.args.chunk.now.1 c.front_of-count.result c.front_of-count.ensures.value (let h = c.front_of-count.ensures.within in let e = c.len.ensures.value in omega (arith, h, e, c.if-count-len.false))
