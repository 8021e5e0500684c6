use Rattle.std.proofs.Common.{subst, arith, drop}
use Rattle.cd_slices.specs.Stages.{StopsAt}
use Rattle.cd_slices.proofs.StageLaws.{front_ends, front_gives, open_goes, ran_chunk}
use Rattle.cd_split.proofs.CutterLaws.{no_numbers}
use Rattle.cd_slices.proofs.stage.SliceStage.read.Goals as goal

pub returns-then-is_rest-clause-law : goal.returns-then-is_rest-clause-law
returns-then-is_rest-clause-law c =
    let e = c.args.self.now in
    let s = c.run.new.self in
    let ran = c.in_ok-at-in-Some in
    let law = ran_chunk e.slicer s c.args.chunk c.in-Some.bytes.now c.in_ok-out.out c.run.new.out (ran.at, ran.stop) c.in-Some.ensures.value c.in_ok-out.ensures ran.ensures.law in
    let stops = subst (λ k. StopsAt s (drop ran.at c.args.chunk.1) c.run.new.out k) (c.is_rest.ensures.rest c.if-is_rest.true) law.2 in
    open_goes e c.args.chunk s ran.at c.run.new.out c.requires.told c.requires.chunk ran.ensures.same law.1 c.keep_open.new.self c.in_ok-made.made ran.ensures.room stops c.in_ok-made.ensures.opens

pub returns-then-len-ne0-clause-law : goal.returns-then-len-ne0-clause-law
returns-then-len-ne0-clause-law c =
    let e = c.args.self.now in
    let ran = c.in_ok-at-in-Some in
    let n = c.if-len-ne0.true in
    let l = c.len-2.ensures in
    let law = ran_chunk e.slicer c.run.new.self c.args.chunk c.in-Some.bytes.now c.in_ok-out.out c.run.new.out (ran.at, ran.stop) c.in-Some.ensures.value c.in_ok-out.ensures ran.ensures.law in
    rw (c.emit.ensures.value, c.emit.ensures.after) (front_gives e c.args.chunk c.run.new.self ran.at c.run.new.out c.requires.told c.requires.chunk ran.ensures.same law.1 c.behind-rest.result ran.ensures.room (omega (arith, n, l)) c.behind-rest.ensures)

pub returns-clause-law : goal.returns-clause-law
returns-clause-law c =
    let e = c.args.self.now in
    let ran = c.in_ok-at-in-Some in
    let n = c.if-len-ne0.false in
    let law = ran_chunk e.slicer c.run.new.self c.args.chunk c.in-Some.bytes.now c.in_ok-out.out c.run.new.out (ran.at, ran.stop) c.in-Some.ensures.value c.in_ok-out.ensures ran.ensures.law in
    rw c.finish.ensures.after (front_ends e c.args.chunk c.run.new.self ran.at c.run.new.out c.requires.told c.requires.chunk ran.ensures.same law.1 c.behind-rest.result c.finish.result ran.stop c.requires.keep ran.ensures.open
    (no_numbers c.run.new.out c.len-2.result c.len-2.ensures n) (c.is_rest.ensures.other c.if-is_rest.false) law.2 c.behind-rest.ensures c.finish.ensures.value)
