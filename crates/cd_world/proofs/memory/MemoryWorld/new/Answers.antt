use Rattle.std.proofs.Common.{List, ℕ, Option, ◌∙◌, ap}
use Rattle.cd_world.specs.declared.store.Member.{Member}
use Rattle.cd_world.specs.Memory.{files_by, counts_of}
use Rattle.cd_world.specs.Store.{held, plan_of}
use Rattle.cd_world.specs.Table.{given_in}
use Rattle.cd_world.proofs.BeginSteps.{files-begun, held-begun, plans-given}
use Rattle.cd_world.proofs.memory.MemoryWorld.new.Goals as goal

pub returns-clause-files : goal.returns-clause-files
returns-clause-files c =
    ap (λ (given : ℕ → ℕ). files_by (held c.make_stream-3.new.self.members.items) given 0) (λ i d. given_in (c.new-2.ensures.live i) (counts_of (c.new-3.ensures.items i)) d)
    ∙ files-begun c.args.files c.in_ok-store.store.members.items c.make_stream.new.self.members.items c.make_stream-2.new.self.members.items c.make_stream-3.new.self.members.items
    c.in_ok-store.ensures c.in_ok-make_stream.ensures.held c.in_ok-make_stream-2.ensures.held c.in_ok-make_stream-3.ensures.held

pub returns-clause-there : goal.returns-clause-there
returns-clause-there c = held-begun c.args.files c.in_ok-store.store.members.items c.make_stream.new.self.members.items c.make_stream-2.new.self.members.items c.make_stream-3.new.self.members.items
    c.in_ok-store.ensures c.in_ok-make_stream.ensures.held c.in_ok-make_stream-2.ensures.held c.in_ok-make_stream-3.ensures.held

pub returns-clause-plans : goal.returns-clause-plans
returns-clause-plans c = λ name. ap (λ (plans : List ℕ → Option _). plans name) (c.make_stream-3.ensures.plans ∙ c.make_stream-2.ensures.plans ∙ c.make_stream.ensures.plans)
    ∙ ap (λ (m : List Member). plan_of m name) c.in_ok-store.ensures ∙ plans-given c.args.files name
