use Rattle.std.proofs.Common.{refl, subst, sym, ◌∙◌, ◌-◌, IsTrue}
use Rattle.cd_elem.specs.Chunks.{is_cut}
use Rattle.cd_elemwise.specs.declared.state.WordState.TheVariants as state
use Rattle.cd_elemwise.specs.declared.plan.ChunkPlan.TheVariants as plan
use Rattle.cd_elemwise.specs.Carried.{Doing, gathered, list_sort}
use Rattle.cd_elemwise.specs.Plans.{IsPlan}
use Rattle.cd_elemwise.specs.Stages.{StateFits}
use Rattle.cd_elemwise.proofs.PlanLaws.{pass_plan, take_all_plan}
use Rattle.cd_elemwise.proofs.StageLaws.{whole_stage}
use Rattle.cd_step.proofs.CutChunks.{sort_of_kind}
use Rattle.cd_elemwise.proofs.stage.ElemStage.read.Goals as goal

pub returns-in-Pass-clause-law : goal.returns-in-Pass-clause-law
returns-in-Pass-clause-law c =
    let e = c.args.self.now in
    let sort = c.requires.within.1.1 ∙ sort_of_kind e.sort in
    let cut = subst (λ s. StateFits s e.sort (list_sort e.list)) c.in-Pass.is c.requires.listed in
    let len = c.len-len in
    let some = len.ensures.size.some (subst (λ k. IsTrue (is_cut k)) (sym sort) cut) in
    whole_stage e e.state c.args.chunk len.result cut c.requires.told c.requires.keep sort len.ensures.value len.ensures.size refl
    (subst (λ s. IsPlan e.sort (Doing s (gathered e.list)) c.args.chunk.1 (plan.Pass len.result) (Doing s (gathered e.list))) (sym c.in-Pass.is)
    (pass_plan e.sort (gathered e.list) c.args.chunk.1 len.result len.ensures.value some))

pub returns-then-len-left-clause-law : goal.returns-then-len-left-clause-law
returns-then-len-left-clause-law c =
    let e = c.args.self.now in
    let sort = c.requires.within.1.1 ∙ sort_of_kind e.sort in
    let cut = subst (λ s. StateFits s e.sort (list_sort e.list)) c.in-Take.is c.requires.listed in
    let len = c.len-len-in-Take in
    let left = c.in-Take.left in
    let some = len.ensures.size.some (subst (λ k. IsTrue (is_cut k)) (sym sort) cut) in
    whole_stage e (state.Take (left - len.result)) c.args.chunk len.result cut c.requires.told c.requires.keep sort len.ensures.value len.ensures.size (rw c.in-Take.is refl)
    (subst (λ s. IsPlan e.sort (Doing s (gathered e.list)) c.args.chunk.1 (plan.Pass len.result) (Doing (state.Take (left - len.result)) (gathered e.list))) (sym c.in-Take.is)
    (take_all_plan e.sort (gathered e.list) c.args.chunk.1 left len.result len.ensures.value some c.if-len-left.true))
