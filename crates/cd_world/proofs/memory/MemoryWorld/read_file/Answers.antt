use Rattle.std.proofs.Common.{◌≡◌, ◌<◌, ◌+◌, ◌==◌, ℕ, List, Err, false, length, min, drop, refl, sym, ◌∙◌, ap, subst, arith, if◌then◌else◌}
use Rattle.cd_world.specs.declared.event.Use.TheVariants.{Reading}
use Rattle.cd_world.specs.declared.memory.OpenMember.{OpenMember}
use Rattle.cd_world.specs.declared.plan.Call.TheVariants.{Reading as CallReading}
use Rattle.cd_world.specs.declared.store.Store.{Store}
use Rattle.cd_world.specs.declared.table.OpenFile.{OpenFile}
use Rattle.cd_world.specs.declared.world.WorldError.{WorldError}
use Rattle.cd_world.specs.Files.{Gives, left_at}
use Rattle.cd_world.specs.Memory.{files_in, held_in, plan_in, counts_of}
use Rattle.cd_world.specs.Plan.{FailsWhere, after, counted, fails_next, read_cut}
use Rattle.cd_world.specs.Store.{bytes_in, plan_of, member_name}
use Rattle.cd_world.specs.Table.{given_in}
use Rattle.cd_world.proofs.FilesSteps.{files-eq, same-files}
use Rattle.cd_world.proofs.PlanSteps.{after-error, fails-error}
use Rattle.cd_world.proofs.SideSteps.{paired-set, member-is, given-is, given-now}
use Rattle.cd_world.proofs.memory.MemoryWorld.read_file.Goals as goal

pub invariant_of-self : goal.invariant_of-self
invariant_of-self c = record {
  paired = paired-set c.args.self.now.sides.items c.args.self.now.table.files.items c.args.self.now.paired c.place_of-place.result c.index_mut.result.now (c.index.result.now.given + c.len-count.result) c.index_mut.ensures.value;
  room = omega arith;
}

pub returns-in-Ok-clause-files : goal.returns-in-Ok-clause-files
returns-in-Ok-clause-files c = λ name has.
    let w = c.args.self.now in
    let sides = w.sides.items in
    let entries = w.table.files.items in
    let place = c.place_of-place.result in
    let entry : OpenFile = record { use_of = Reading; descriptor = c.args.from; name = name } in
    let within : place < length entries = omega (arith, c.place_of-place.ensures.within, w.table.files.ok.0) in
    let found = c.place_of-place.ensures.found entry in
    let side = c.index-2.result.now in
    let member = c.as_str-member.ensures ∙ ap (λ (s : OpenMember). s.member) c.index-2.ensures ∙ member-is sides entries w.paired w.table.last w.table.rising place within c.args.from entry found side Reading name has in
    let given = given-is sides entries w.paired w.table.last w.table.rising place within c.args.from entry found c.index.result.now ∙ ap (λ (s : OpenMember). s.given) (sym c.index.ensures) in
    let left : drop c.index.result.now.given (bytes_in (held_in w c.as_str-member.result.now)) ≡ left_at c.args.from.0 name (files_in w) = λ i. drop (sym given i) (bytes_in (held_in w (member i))) in
    let count = c.len-count.result in (
      subst (λ (n : ℕ). Gives (left_at c.args.from.0 name (files_in w)) n c.give.new.into) (sym c.len-count.ensures) (subst (λ (l : List ℕ). Gives l (length c.in-Ok.told) c.give.new.into) left c.in-Ok.ensures.gives),
      same-files _ _ _ _ c.give.ensures.held
          ∙ files-eq _ _ (λ name. refl) (λ other.
          given-now sides entries w.paired w.table.last w.table.rising place within c.args.from entry found (record c.index_mut.result.now { given = c.index.result.now.given + count }) other
          ∙ ap (λ (n : ℕ). if c.args.from.0 == other then n + count else given_in entries (counts_of sides) other) (sym given)) refl refl refl,
    )

pub returns-in-Ok-clause-by_plan : goal.returns-in-Ok-clause-by_plan
returns-in-Ok-clause-by_plan c = λ name has.
    let w = c.args.self.now in
    let sides = w.sides.items in
    let entries = w.table.files.items in
    let place = c.place_of-place.result in
    let entry : OpenFile = record { use_of = Reading; descriptor = c.args.from; name = name } in
    let within : place < length entries = omega (arith, c.place_of-place.ensures.within, w.table.files.ok.0) in
    let found = c.place_of-place.ensures.found entry in
    let side = c.index-2.result.now in
    let member = c.as_str-member.ensures ∙ ap (λ (s : OpenMember). s.member) c.index-2.ensures ∙ member-is sides entries w.paired w.table.last w.table.rising place within c.args.from entry found side Reading name has in
    let given = given-is sides entries w.paired w.table.last w.table.rising place within c.args.from entry found c.index.result.now ∙ ap (λ (s : OpenMember). s.given) (sym c.index.ensures) in
    let left : drop c.index.result.now.given (bytes_in (held_in w c.as_str-member.result.now)) ≡ left_at c.args.from.0 name (files_in w) = λ i. drop (sym given i) (bytes_in (held_in w (member i))) in
    record {
      fails = subst (λ (m : List ℕ). fails_next CallReading (plan_in w m) ≡ false) member c.in-Ok.ensures.fails;
      count = c.len-count.ensures ∙ c.in-Ok.ensures.count ∙ (λ i. read_cut (plan_in w (member i)) (min (length (left i)) (length c.give.new.into)));
    }

pub returns-in-Ok-clause-plans : goal.returns-in-Ok-clause-plans
returns-in-Ok-clause-plans c = λ name has.
    let w = c.args.self.now in
    let sides = w.sides.items in
    let entries = w.table.files.items in
    let place = c.place_of-place.result in
    let entry : OpenFile = record { use_of = Reading; descriptor = c.args.from; name = name } in
    let within : place < length entries = omega (arith, c.place_of-place.ensures.within, w.table.files.ok.0) in
    let found = c.place_of-place.ensures.found entry in
    let side = c.index-2.result.now in
    let member = c.as_str-member.ensures ∙ ap (λ (s : OpenMember). s.member) c.index-2.ensures ∙ member-is sides entries w.paired w.table.last w.table.rising place within c.args.from entry found side Reading name has in
    c.in-Ok.ensures.plans ∙ ap (λ (m : List ℕ). counted CallReading m (plan_in w)) member

pub returns-in-Err-clause-files : goal.returns-in-Err-clause-files
returns-in-Err-clause-files c = λ name has. c.refuse.ensures.files ∙ same-files _ _ _ _ c.give.ensures.held

pub returns-in-Err-clause-by_plan : goal.returns-in-Err-clause-by_plan
returns-in-Err-clause-by_plan c = λ name has.
    let w = c.args.self.now in
    let sides = w.sides.items in
    let entries = w.table.files.items in
    let place = c.place_of-place.result in
    let entry : OpenFile = record { use_of = Reading; descriptor = c.args.from; name = name } in
    let within : place < length entries = omega (arith, c.place_of-place.ensures.within, w.table.files.ok.0) in
    let found = c.place_of-place.ensures.found entry in
    let side = c.index-2.result.now in
    let member = c.as_str-member.ensures ∙ ap (λ (s : OpenMember). s.member) c.index-2.ensures ∙ member-is sides entries w.paired w.table.last w.table.rising place within c.args.from entry found side Reading name has in
    record {
      fails = subst (λ (e : WorldError). FailsWhere {T = ℕ} (fails_next CallReading (plan_in w (member_name name))) (Err e)) (sym c.refuse.ensures.same)
          (fails-error (List ℕ) ℕ _ c.in-Err.error (subst (λ (m : List ℕ). FailsWhere {T = List ℕ} (fails_next CallReading (plan_in w m)) (Err c.in-Err.error)) member c.in-Err.ensures.fails));
      count = tt;
    }

pub returns-in-Err-clause-plans : goal.returns-in-Err-clause-plans
returns-in-Err-clause-plans c = λ name has.
    let w = c.args.self.now in
    let sides = w.sides.items in
    let entries = w.table.files.items in
    let place = c.place_of-place.result in
    let entry : OpenFile = record { use_of = Reading; descriptor = c.args.from; name = name } in
    let within : place < length entries = omega (arith, c.place_of-place.ensures.within, w.table.files.ok.0) in
    let found = c.place_of-place.ensures.found entry in
    let side = c.index-2.result.now in
    let member = c.as_str-member.ensures ∙ ap (λ (s : OpenMember). s.member) c.index-2.ensures ∙ member-is sides entries w.paired w.table.last w.table.rising place within c.args.from entry found side Reading name has in
    ap (λ (s : Store). plan_of s.members.items) c.refuse.ensures.store ∙ c.in-Err.ensures.plans
    ∙ after-error (List ℕ) ℕ c.in-Err.error (counted CallReading c.as_str-member.result.now) (plan_in w)
    ∙ (λ i. after {T = ℕ} (Err (sym c.refuse.ensures.same i)) (counted CallReading (member i)) (plan_in w))
