use Rattle.std.proofs.Common.{◌≡◌, ◌<◌, length, refl, sym, ◌∙◌, ap, arith, if◌then◌else◌, ◌==◌}
use Rattle.std.specs.Prelude.{map}
use Rattle.cd_world.specs.declared.event.Descriptor.{Descriptor}
use Rattle.cd_world.specs.declared.memory.OpenMember.{OpenMember}
use Rattle.cd_world.specs.declared.table.OpenFile.{OpenFile}
use Rattle.cd_world.specs.Memory.{counts_of}
use Rattle.cd_world.specs.Store.{member_name}
use Rattle.cd_world.specs.Table.{open_of, given_in}
use Rattle.cd_world.proofs.FilesSteps.{files-eq}
use Rattle.cd_world.proofs.GivenSteps.{given-remove}
use Rattle.cd_world.proofs.SideSteps.{beside, its_member, paired-length, paired-remove, paired-at, counts-remove, counts-length}
use Rattle.cd_world.proofs.TableSteps.{found-is}
use Rattle.cd_world.proofs.memory.MemoryWorld.dismiss.Goals as goal

pub invariant_of-self : goal.invariant_of-self
invariant_of-self c = record {
  paired = ap (map beside) c.remove-side.ensures.items ∙ paired-remove c.args.self.now.sides.items c.args.self.now.table.files.items c.args.self.now.paired c.remove-place.result.0
      ∙ ap (map its_member) (sym c.remove-place.ensures.files);
  room = omega arith;
}

pub returns-clause-files : goal.returns-clause-files
returns-clause-files c =
    let entries = c.args.self.now.table.files.items in
    let sides = c.args.self.now.sides.items in
    let place = c.remove-place.result.0 in
    let d = c.remove-place.result.1 in
    let same : length (counts_of sides) ≡ length entries = counts-length sides ∙ paired-length sides entries c.args.self.now.paired in
    let within : place < length entries = omega (arith, c.remove-place.ensures.within, c.args.self.now.table.files.ok.0) in
    let found = ap (λ (e : OpenFile). e.descriptor) (c.remove-place.ensures.item d) ∙ c.remove-place.ensures.descriptor in
    let counts = ap counts_of c.remove-side.ensures.items ∙ counts-remove sides place in
    files-eq _ _ (λ name. refl) (λ other. (λ i. given_in (c.remove-place.ensures.files i) (counts i) other)
    ∙ given-remove entries (counts_of sides) 2 c.args.self.now.table.last place d other c.args.self.now.table.rising same within
    ∙ ap (λ (e : Descriptor). if e.0 == other then 0 else given_in entries (counts_of sides) other) found) refl refl refl

pub returns-clause-entry : goal.returns-clause-entry
returns-clause-entry c = λ o has is.
    let entries = c.args.self.now.table.files.items in
    let place = c.remove-place.result.0 in
    let d = c.remove-place.result.1 in
    let within : place < length entries = omega (arith, c.remove-place.ensures.within, c.args.self.now.table.files.ok.0) in
    let found = ap (λ (e : OpenFile). e.descriptor) (c.remove-place.ensures.item d) ∙ c.remove-place.ensures.descriptor in
    sym (found-is entries c.args.self.now.table.last place d o c.args.self.now.table.rising within has (found ∙ sym is)) ∙ ap open_of (c.remove-place.ensures.item d)

pub returns-clause-member : goal.returns-clause-member
returns-clause-member c =
    let entries = c.args.self.now.table.files.items in
    let sides = c.args.self.now.sides.items in
    let place = c.remove-place.result.0 in
    let d = c.remove-place.result.1 in
    let within : place < length entries = omega (arith, c.remove-place.ensures.within, c.args.self.now.table.files.ok.0) in
    ap (λ (s : OpenMember). s.member) c.remove-side.ensures.value ∙ paired-at sides entries c.args.self.now.paired place c.remove-side.result d within
    ∙ ap (λ (e : OpenFile). member_name e.name) (c.remove-place.ensures.item d)
