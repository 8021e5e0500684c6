use Rattle.std.proofs.Common.{◌∙◌, sym, ap}
use Rattle.cd_world.specs.declared.store.Member.{Member}
use Rattle.cd_world.proofs.StoreSteps.{plan-at, plan-none}
use Rattle.cd_world.proofs.store.Store.plan_of.Goals as goal

pub returns-in_err-place : goal.returns-in_err-place
returns-in_err-place c = rw c.from_residual.ensures (sym (plan-none c.args.self.now.members.items c.args.name.now c.in_err-place.ensures.none))

pub returns : goal.returns
returns c = c.as_ref.ensures.value ∙ ap (λ (m : Member). m.plan) c.index.ensures ∙ sym (plan-at c.args.self.now.members.items c.args.name.now c.in_ok-place.place c.index.result.now c.in_ok-place.ensures.found)
