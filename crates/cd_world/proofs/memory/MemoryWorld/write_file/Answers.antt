use Rattle.std.proofs.Common.{◌≡◌, ◌<◌, ◌++◌, ℕ, List, Err, Some, false, length, take, sym, ◌∙◌, ap, subst, arith}
use Rattle.cd_world.specs.declared.event.Use.TheVariants.{Writing}
use Rattle.cd_world.specs.declared.memory.OpenMember.{OpenMember}
use Rattle.cd_world.specs.declared.plan.Call.TheVariants.{Writing as CallWriting}
use Rattle.cd_world.specs.declared.store.Store.{Store}
use Rattle.cd_world.specs.declared.table.OpenFile.{OpenFile}
use Rattle.cd_world.specs.declared.world.WorldError.{WorldError}
use Rattle.cd_world.specs.Memory.{held_in, plan_in}
use Rattle.cd_world.specs.Plan.{FailsWhere, after, counted, fails_next, write_cut}
use Rattle.cd_world.specs.Store.{held, bytes_in, plan_of, with_file, member_name}
use Rattle.cd_world.proofs.FilesSteps.{same-files, file-changed}
use Rattle.cd_world.proofs.PlanSteps.{after-error, fails-error}
use Rattle.cd_world.proofs.SideSteps.{member-is}
use Rattle.cd_world.proofs.memory.MemoryWorld.write_file.Goals as goal

pub returns-in-Ok-clause-file : goal.returns-in-Ok-clause-file
returns-in-Ok-clause-file c = λ name has.
    let w = c.args.self.now in
    let sides = w.sides.items in
    let entries = w.table.files.items in
    let place = c.place_of-place.result in
    let entry : OpenFile = record { use_of = Writing; descriptor = c.args.to; name = name } in
    let within : place < length entries = omega (arith, c.place_of-place.ensures.within, w.table.files.ok.0) in
    let found = c.place_of-place.ensures.found entry in
    let side = c.index.result.now in
    let member = c.as_str-member.ensures ∙ ap (λ (s : OpenMember). s.member) c.index.ensures ∙ member-is sides entries w.paired w.table.last w.table.rising place within c.args.to entry found side Writing name has in
    let told = c.in-Ok.ensures.told ∙ ap (λ (n : ℕ). take n c.args.bytes.now) (sym c.len-count.ensures) in
    file-changed _ _ _ _ name (Some (bytes_in (held_in w (member_name name)) ++ take c.len-count.result c.args.bytes.now))
    (c.in-Ok.ensures.ok ∙ (λ i. with_file (member i) (Some (bytes_in (held_in w (member i)) ++ told i)) (held_in w)))

pub returns-in-Ok-clause-by_plan : goal.returns-in-Ok-clause-by_plan
returns-in-Ok-clause-by_plan c = λ name has.
    let w = c.args.self.now in
    let sides = w.sides.items in
    let entries = w.table.files.items in
    let place = c.place_of-place.result in
    let entry : OpenFile = record { use_of = Writing; descriptor = c.args.to; name = name } in
    let within : place < length entries = omega (arith, c.place_of-place.ensures.within, w.table.files.ok.0) in
    let found = c.place_of-place.ensures.found entry in
    let side = c.index.result.now in
    let member = c.as_str-member.ensures ∙ ap (λ (s : OpenMember). s.member) c.index.ensures ∙ member-is sides entries w.paired w.table.last w.table.rising place within c.args.to entry found side Writing name has in
    let told = c.in-Ok.ensures.told ∙ ap (λ (n : ℕ). take n c.args.bytes.now) (sym c.len-count.ensures) in
    record {
      by_plan = record {
        fails = subst (λ (m : List ℕ). fails_next CallWriting (plan_in w m) ≡ false) member c.in-Ok.ensures.fails;
        count = c.len-count.ensures ∙ c.in-Ok.ensures.count ∙ ap (λ (m : List ℕ). write_cut (plan_in w m) (length c.args.bytes.now)) member;
      };
      held = c.in-Ok.ensures.ok ∙ (λ i. with_file (member i) (Some (bytes_in (held_in w (member i)) ++ told i)) (held_in w));
      plans = c.in-Ok.ensures.plans ∙ ap (λ (m : List ℕ). counted CallWriting m (plan_in w)) member;
    }

pub returns-in-Err-clause-file : goal.returns-in-Err-clause-file
returns-in-Err-clause-file c = λ name has. c.refuse.ensures.files ∙ same-files _ _ _ _ c.in-Err.ensures.err

pub returns-in-Err-clause-by_plan : goal.returns-in-Err-clause-by_plan
returns-in-Err-clause-by_plan c = λ name has.
    let w = c.args.self.now in
    let sides = w.sides.items in
    let entries = w.table.files.items in
    let place = c.place_of-place.result in
    let entry : OpenFile = record { use_of = Writing; descriptor = c.args.to; name = name } in
    let within : place < length entries = omega (arith, c.place_of-place.ensures.within, w.table.files.ok.0) in
    let found = c.place_of-place.ensures.found entry in
    let side = c.index.result.now in
    let member = c.as_str-member.ensures ∙ ap (λ (s : OpenMember). s.member) c.index.ensures ∙ member-is sides entries w.paired w.table.last w.table.rising place within c.args.to entry found side Writing name has in
    record {
      by_plan = record {
        fails = subst (λ (e : WorldError). FailsWhere {T = ℕ} (fails_next CallWriting (plan_in w (member_name name))) (Err e)) (sym c.refuse.ensures.same)
            (fails-error (List ℕ) ℕ _ c.in-Err.error (subst (λ (m : List ℕ). FailsWhere {T = List ℕ} (fails_next CallWriting (plan_in w m)) (Err c.in-Err.error)) member c.in-Err.ensures.fails));
        count = tt;
      };
      held = ap (λ (s : Store). held s.members.items) c.refuse.ensures.store ∙ c.in-Err.ensures.err;
      plans = ap (λ (s : Store). plan_of s.members.items) c.refuse.ensures.store ∙ c.in-Err.ensures.plans
          ∙ after-error (List ℕ) ℕ c.in-Err.error (counted CallWriting c.as_str-member.result.now) (plan_in w)
          ∙ (λ i. after {T = ℕ} (Err (sym c.refuse.ensures.same i)) (counted CallWriting (member i)) (plan_in w));
    }
