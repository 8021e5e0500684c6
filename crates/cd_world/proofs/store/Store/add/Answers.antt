use Rattle.std.proofs.Common.{refl, ap, ◌∙◌}
use Rattle.cd_world.specs.Store.{held, plan_of}
use Rattle.cd_world.proofs.StoreSteps.{held-push, plan-push}
use Rattle.cd_world.proofs.store.Store.add.Goals as goal

pub returns-clause-ok : goal.returns-clause-ok
returns-clause-ok c = ap held c.in_ok-push.ensures.items ∙ held-push c.args.self.now.members.items c.args.name.now c.requires _ c.in_ok-name.ensures

pub returns-clause-plans : goal.returns-clause-plans
returns-clause-plans c = ap plan_of c.in_ok-push.ensures.items ∙ plan-push c.args.self.now.members.items c.args.name.now c.requires _ c.in_ok-name.ensures refl
