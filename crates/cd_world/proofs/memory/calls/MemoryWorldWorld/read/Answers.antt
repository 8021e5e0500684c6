use Rattle.std.proofs.Common.{◌≡◌, ◌<◌, ◌==◌, true, List, sym, subst, arith}
use Rattle.std.specs.Prelude.{Contains}
use Rattle.std.proofs.lemmas.Bool.Decides.{nat_tests}
use Rattle.cd_world.specs.declared.event.Use.TheVariants.{Reading}
use Rattle.cd_world.specs.declared.store.Store.{Store}
use Rattle.cd_world.specs.declared.table.OpenFile.{OpenFile}
use Rattle.cd_world.specs.Files.{Files, left_at}
use Rattle.cd_world.specs.Law.{ReadsBy}
use Rattle.cd_world.specs.Live.{open_as}
use Rattle.cd_world.specs.Memory.{files_in, plan_in}
use Rattle.cd_world.specs.Store.{plan_of, member_name}
use Rattle.cd_world.specs.Table.{live_of}
use Rattle.cd_world.proofs.TableSteps.{live-above}
use Rattle.cd_world.proofs.memory.calls.MemoryWorldWorld.read.Goals as goal

pub returns-then-eq-clause-file : goal.returns-then-eq-clause-file
returns-then-eq-clause-file c = λ name has.
    let above = live-above c.args.self.now.table.files.items c.args.self.now.table.last (open_as Reading c.args.from name) c.args.self.now.table.rising has in
    let is : true ≡ (c.args.from.0 == 0) = c.if-eq.ensures in absurd (grind (arith, nat_tests))

pub returns-then-eq-clause-file_by_plan : goal.returns-then-eq-clause-file_by_plan
returns-then-eq-clause-file_by_plan c = λ name has.
    let above = live-above c.args.self.now.table.files.items c.args.self.now.table.last (open_as Reading c.args.from name) c.args.self.now.table.rising has in
    let is : true ≡ (c.args.from.0 == 0) = c.if-eq.ensures in absurd (grind (arith, nat_tests))

pub returns-then-eq-clause-file_plans : goal.returns-then-eq-clause-file_plans
returns-then-eq-clause-file_plans c = λ name has.
    let above = live-above c.args.self.now.table.files.items c.args.self.now.table.last (open_as Reading c.args.from name) c.args.self.now.table.rising has in
    let is : true ≡ (c.args.from.0 == 0) = c.if-eq.ensures in absurd (grind (arith, nat_tests))

pub returns-clause-file_by_plan : goal.returns-clause-file_by_plan
returns-clause-file_by_plan c = λ name has.
    let here = subst (λ (l : List OpenFile). Contains (live_of l) (open_as Reading c.args.from name)) (sym c.reserve.ensures.files) has in
    subst (λ (s : Store). ReadsBy (plan_of s.members.items (member_name name)) (left_at c.args.from.0 name (files_in c.args.self.now)) c.read_file.new.into c.read_file.result) c.reserve.ensures.store
    (subst (λ (f : Files). ReadsBy (plan_in c.reserve.new.self (member_name name)) (left_at c.args.from.0 name f) c.read_file.new.into c.read_file.result) c.reserve.ensures.told
    (c.read_file.ensures.by_plan name here))
