use Rattle.std.proofs.Common.{◌<◌, ◌+◌, length, ap, ◌∙◌, arith}
use Rattle.std.specs.Prelude.{slice_set}
use Rattle.cd_elemwise.proofs.Repeats.{run_more}
use Rattle.cd_elemwise.proofs.slice.write_run.Goals as goal

pub loop-index-preserved : goal.loop-index-preserved
loop-index-preserved g c =
    let within : c.args.start + c.loop-index.index < length c.args.places.now = omega (arith, c.requires, c.loop-index-test.true, c.loop-index.auto.index-end) in
    ap (λ l. slice_set l (c.args.start + c.loop-index.index) c.args.item) c.loop-index.invariant ∙ run_more c.args.places.now c.args.start c.loop-index.index c.args.item within
