use Rattle.std.proofs.Common.{None}
use Rattle.cd_world.proofs.StoreSteps.{held-set, plan-set-bytes, held-absent}
use Rattle.cd_world.proofs.store.Store.remove.Goals as goal

pub returns-in-Some-clause-held : goal.returns-in-Some-clause-held
returns-in-Some-clause-held c = held-set c.args.self.now.members.items c.args.name.now c.in-Some.place c.index_mut.result.now c.in-Some.ensures.found c.index_mut.ensures.value None

pub returns-in-Some-clause-plans : goal.returns-in-Some-clause-plans
returns-in-Some-clause-plans c = plan-set-bytes c.args.self.now.members.items c.args.name.now c.in-Some.place c.index_mut.result.now c.in-Some.ensures.found c.index_mut.ensures.value None

pub returns-in_default-clause-held : goal.returns-in_default-clause-held
returns-in_default-clause-held c = held-absent c.args.self.now.members.items c.args.name.now c.in_default.ensures.none
