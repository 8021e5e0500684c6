use Rattle.std.proofs.Common.{◌≡◌, ◌<◌, ◌==◌, true, List, sym, ◌∙◌, ap, subst, arith}
use Rattle.std.proofs.lemmas.Bool.Decides.{nat_tests}
use Rattle.std.specs.Prelude.{Contains}
use Rattle.cd_world.specs.declared.event.Use.TheVariants.{Writing}
use Rattle.cd_world.specs.declared.plan.Call.TheVariants.{Writing as CallWriting}
use Rattle.cd_world.specs.declared.store.Store.{Store}
use Rattle.cd_world.specs.declared.table.OpenFile.{OpenFile}
use Rattle.cd_world.specs.Law.{WritesBy, HoldsMore}
use Rattle.cd_world.specs.Live.{open_as}
use Rattle.cd_world.specs.Memory.{held_in}
use Rattle.cd_world.specs.Plan.{after, counted}
use Rattle.cd_world.specs.Store.{held, plan_of, member_name}
use Rattle.cd_world.specs.Table.{live_of}
use Rattle.cd_world.proofs.TableSteps.{live-above}
use Rattle.cd_world.proofs.memory.calls.MemoryWorldWorld.write.Goals as goal

pub returns-then-eq-clause-file : goal.returns-then-eq-clause-file
returns-then-eq-clause-file c = λ name has.
    let above = live-above c.args.self.now.table.files.items c.args.self.now.table.last (open_as Writing c.args.to name) c.args.self.now.table.rising has in
    let is : true ≡ (c.args.to.0 == 1) = c.if-eq.ensures in absurd (grind (arith, nat_tests))

pub returns-then-eq-clause-file_by_plan : goal.returns-then-eq-clause-file_by_plan
returns-then-eq-clause-file_by_plan c = λ name has.
    let above = live-above c.args.self.now.table.files.items c.args.self.now.table.last (open_as Writing c.args.to name) c.args.self.now.table.rising has in
    let is : true ≡ (c.args.to.0 == 1) = c.if-eq.ensures in absurd (grind (arith, nat_tests))

pub returns-then-eq-2-clause-file : goal.returns-then-eq-2-clause-file
returns-then-eq-2-clause-file c = λ name has.
    let above = live-above c.args.self.now.table.files.items c.args.self.now.table.last (open_as Writing c.args.to name) c.args.self.now.table.rising has in
    let is : true ≡ (c.args.to.0 == 2) = c.if-eq-2.ensures in absurd (grind (arith, nat_tests))

pub returns-then-eq-2-clause-file_by_plan : goal.returns-then-eq-2-clause-file_by_plan
returns-then-eq-2-clause-file_by_plan c = λ name has.
    let above = live-above c.args.self.now.table.files.items c.args.self.now.table.last (open_as Writing c.args.to name) c.args.self.now.table.rising has in
    let is : true ≡ (c.args.to.0 == 2) = c.if-eq-2.ensures in absurd (grind (arith, nat_tests))

pub returns-clause-file_by_plan : goal.returns-clause-file_by_plan
returns-clause-file_by_plan c = λ name has.
    let here = subst (λ (l : List OpenFile). Contains (live_of l) (open_as Writing c.args.to name)) (sym c.reserve.ensures.files) has in
    let h = c.write_file.ensures.by_plan name here in record {
      by_plan = subst (λ (s : Store). WritesBy (plan_of s.members.items (member_name name)) c.args.bytes.now c.write_file.result) c.reserve.ensures.store h.by_plan;
      held = subst (λ (s : Store). HoldsMore (member_name name) c.args.bytes.now c.write_file.result (held s.members.items) (held_in c.write_file.new.self)) c.reserve.ensures.store h.held;
      plans = h.plans ∙ ap (λ (s : Store). after c.write_file.result (counted CallWriting (member_name name)) (plan_of s.members.items)) c.reserve.ensures.store;
    }
