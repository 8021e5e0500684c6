use Rattle.cd_world.proofs.StoreSteps.{held-set-plan, plan-set, plan-absent}
use Rattle.cd_world.proofs.store.Store.count.Goals as goal

pub returns-in-Some-clause-held : goal.returns-in-Some-clause-held
returns-in-Some-clause-held c = held-set-plan c.args.self.now.members.items c.args.name.now c.in-Some.place c.index_mut.result.now c.in-Some.ensures.found c.index_mut.ensures.value c.count_in.new.plan

pub returns-in-Some-clause-plans : goal.returns-in-Some-clause-plans
returns-in-Some-clause-plans c = plan-set c.args.self.now.members.items c.args.name.now c.in-Some.place c.index_mut.result.now c.in-Some.ensures.found c.index_mut.ensures.value c.args.call c.count_in.new.plan c.count_in.ensures

pub returns-in_default-clause-plans : goal.returns-in_default-clause-plans
returns-in_default-clause-plans c = plan-absent c.args.self.now.members.items c.args.name.now c.in_default.ensures.none c.args.call
