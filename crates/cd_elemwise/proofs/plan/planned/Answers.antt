use Rattle.std.proofs.Common.{subst, ◌<◌}
use Rattle.cd_elemwise.proofs.PlanLaws.{pass_plan, last_plan, length_plan, sum_plan, null_plan, some_len}
use Rattle.cd_elemwise.proofs.plan.planned.Goals as goal

pub returns-in-Pass-clause-law : goal.returns-in-Pass-clause-law
returns-in-Pass-clause-law c l = rw c.in-Pass.is (pass_plan c.args.chunk.now.0 l c.args.chunk.now.1 c.len-len.result c.len-len.ensures.value (some_len c.args.state.now c.args.chunk.now.0 c.len-len.result c.requires.plain c.requires.fits c.len-len.ensures.size))

pub returns-in-Last-clause-law : goal.returns-in-Last-clause-law
returns-in-Last-clause-law c l =
    rw c.in-Last.is (last_plan c.args.chunk.now.0 l c.args.chunk.now.1 c.in-Last.last c.last_of.result (subst (λ n. 0 < n) c.len-len.ensures.value (some_len c.args.state.now c.args.chunk.now.0 c.len-len.result c.requires.plain c.requires.fits c.len-len.ensures.size)) c.last_of.ensures)

pub returns-in-Length-clause-law : goal.returns-in-Length-clause-law
returns-in-Length-clause-law c l =
    rw c.in-Length.is (length_plan c.args.chunk.now.0 l c.args.chunk.now.1 c.in-Length.count c.saturating_add.result c.len-len.result c.len-len.ensures.value (some_len c.args.state.now c.args.chunk.now.0 c.len-len.result c.requires.plain c.requires.fits c.len-len.ensures.size) c.saturating_add.ensures)

pub returns-in-Sum-clause-law : goal.returns-in-Sum-clause-law
returns-in-Sum-clause-law c l =
    rw c.in-Sum.is (sum_plan c.args.chunk.now.0 l c.args.chunk.now.1 c.in-Sum.total c.sum_of.result (subst (λ n. 0 < n) c.len-len.ensures.value (some_len c.args.state.now c.args.chunk.now.0 c.len-len.result c.requires.plain c.requires.fits c.len-len.ensures.size)) c.sum_of.ensures)

pub returns-in-Null-clause-law : goal.returns-in-Null-clause-law
returns-in-Null-clause-law c l = rw c.in-Null.is (null_plan c.args.chunk.now.0 l c.args.chunk.now.1 (subst (λ n. 0 < n) c.len-len.ensures.value (some_len c.args.state.now c.args.chunk.now.0 c.len-len.result c.requires.plain c.requires.fits c.len-len.ensures.size)))
