use Rattle.std.proofs.Common.{Some, List, ℕ, ap, ◌∙◌}
use Rattle.std.proofs.lemmas.Result.{on_ok_weaker}
use Rattle.cd_world.specs.Store.{held, with_file}
use Rattle.cd_world.proofs.StoreSteps.{held-set, plan-set-bytes}
use Rattle.cd_world.proofs.store.Store.make_empty.Goals as goal

pub returns-in-Some-clause-ok : goal.returns-in-Some-clause-ok
returns-in-Some-clause-ok c = held-set c.args.self.now.members.items c.args.name.now c.in-Some.place c.index_mut.result.now c.in-Some.ensures.found c.index_mut.ensures.value (Some c.new.result)
    ∙ ap (λ (b : List ℕ). with_file c.args.name.now (Some b) (held c.args.self.now.members.items)) c.new.ensures

pub returns-in-Some-clause-plans : goal.returns-in-Some-clause-plans
returns-in-Some-clause-plans c = plan-set-bytes c.args.self.now.members.items c.args.name.now c.in-Some.place c.index_mut.result.now c.in-Some.ensures.found c.index_mut.ensures.value (Some c.new.result)

pub returns-in-None-clause-ok : goal.returns-in-None-clause-ok
returns-in-None-clause-ok c = on_ok_weaker c.add.result
    (λ added. added ∙ ap (λ (b : List ℕ). with_file c.args.name.now (Some b) (held c.args.self.now.members.items)) c.new-in-None.ensures) c.add.ensures.ok
