use Rattle.std.proofs.Common.{ap, ◌∙◌, arith}
use Rattle.cd_elemwise.specs.Carried.{gathered, list_value}
use Rattle.cd_elemwise.proofs.PlanLaws.{collect_plan, collect_end}
use Rattle.cd_elemwise.proofs.collect.collect.Goals as goal

pub returns-then-len-left-clause-law : goal.returns-then-len-left-clause-law
returns-then-len-left-clause-law c = collect_plan c.args.chunk.now.0 (gathered c.args.list.now) (gathered c.gather.new.list) c.args.chunk.now.1 c.args.left c.len-len.result c.len-len.ensures.value c.if-len-left.true c.in_ok-gather.ensures.ok

pub returns-clause-law : goal.returns-clause-law
returns-clause-law c =
    collect_end c.args.chunk.now.0 (gathered c.args.list.now) (gathered c.gather-2.new.list) c.args.chunk.now.1 c.args.left c.collected.result (let h = c.len-len.ensures.value in omega (arith, h, c.if-len-left.false)) c.in_ok-gather-2.ensures.ok
    (c.collected.ensures.value ∙ ap (λ s. list_value s (gathered c.gather-2.new.list)) (c.in_ok-gather-2.ensures.sort ∙ c.requires.sort))
