use Rattle.std.proofs.Common.{subst, sym, arith, ◌<◌, ◌≤◌, ◌*◌}
use Rattle.cd_elem.specs.Limits.{chunk_limit}
use Rattle.cd_elemwise.proofs.PlanLaws.{repeat_plan, repeat_none, fits_some, fits_most}
use Rattle.cd_elemwise.proofs.plan.repeat.Goals as goal

pub returns-then-times-eq0 : goal.returns-then-times-eq0
returns-then-times-eq0 c l = repeat_none c.args.chunk.now.0 c.args.times l c.args.chunk.now.1 c.if-times-eq0.true

pub returns : goal.returns
returns c l =
    let e = c.fitting-count.ensures in
    repeat_plan c.args.chunk.now.0 c.args.times l c.args.chunk.now.1 c.in_ok-made.made c.fitting-count.result (let h = c.len.ensures.value in omega (arith, e, h))
    (subst (λ n. 0 < n) (sym e) (fits_some c.args.times c.len.result c.if-times-eq0.false c.requires.most (c.len.ensures.size.some c.requires.cut))) c.if-times-eq0.false
    (subst (λ n. n * c.args.times ≤ chunk_limit) (sym e) (fits_most c.args.times c.len.result c.if-times-eq0.false)) c.in_ok-made.ensures
