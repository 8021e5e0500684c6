use Rattle.std.proofs.Common.{◌-◌, take, drop, length, subst, arith}
use Rattle.std.proofs.lemmas.List.{length-drop, take_rest}
use Rattle.cd_slices.specs.declared.slicer.Step.TheVariants.{Read}
use Rattle.cd_slices.specs.Stages.{Steps}
use Rattle.cd_slices.proofs.SliceReads.{reads_on, same_on}
use Rattle.cd_slices.proofs.slicer.Slicer.run.Goals as goal

pub loop-alloc-preserved : goal.loop-alloc-preserved
loop-alloc-preserved c =
    let e = c.args.self.now in
    let f = c.loop-alloc.self in
    let g = c.step.new.self in
    let xs = c.args.bytes.now in
    let at = c.loop-alloc.at in
    let inv = c.loop-alloc.invariant in
    let done = c.in_ok-used.ensures in
    let was : Steps f (take (length xs - at) (drop at xs)) c.loop-alloc.out c.in_ok-used.field-0 g c.step.new.out = done.law in
    let law = subst (λ y. Steps f y c.loop-alloc.out (Read c.in-Read.used) g c.step.new.out) (take_rest xs at) (subst (λ s. Steps f (take (length xs - at) (drop at xs)) c.loop-alloc.out s g c.step.new.out) c.in-Read.is was) in
    let n = inv.0 in
    let m = law.1 in
    let d = length-drop at xs in (
      omega (arith, n, m, d),
      reads_on e f g at c.in-Read.used xs c.args.out.now c.loop-alloc.out c.step.new.out inv.2.0 inv.1 law.2,
      same_on e f g inv.2 done.same,
      done.open,
      done.room,
    )
