use Rattle.std.proofs.Common.{◌++◌, ◌∙◌, [], ap, arith}
use Rattle.std.proofs.lemmas.List.{append-nil}
use Rattle.cd_split.proofs.CutterLaws.{no_numbers}
use Rattle.cd_slices.specs.Stages.{bytes_given, stands}
use Rattle.cd_slices.specs.Slicing.{taken_in}
use Rattle.cd_slices.proofs.StageLaws.{closes_ending, emptied}
use Rattle.cd_slices.proofs.stage.SliceStage.close.Goals as goal

pub returns-clause-law : goal.returns-clause-law
returns-clause-law c =
    let e = c.args.self.now in
    let open1 = e.slicer.open in
    let s = c.piece.new.self in
    let done = c.in_ok-piece.ensures in
    let l = c.len.ensures in
    let z = c.if-len-eq0.false in
    let n = c.if-len-ne0.false in
    let made = done.gives ∙ ap (λ y. y ++ bytes_given e.slicer.tail (open1 ++ [])) c.in_ok-out.ensures ∙ ap (bytes_given e.slicer.tail) (append-nil open1) in
    rw c.finish-2.ensures.after (closes_ending e s c.piece.new.out c.requires.told c.if-not-self.false (omega (arith, l, z)) made
    (done.after ∙ ap (λ y. (taken_in (stands e.slicer.tail) y).1) (append-nil open1))
    c.finish-2.result c.requires.keep (emptied e.slicer s c.requires.open done.rule done.open done.same) (no_numbers c.piece.new.out c.len-2.result c.len-2.ensures n) c.finish-2.ensures.value)
