use Rattle.std.proofs.Common.{◌<◌, length, arith}
use Rattle.cd_elemwise.proofs.Repeats.{run_next}
use Rattle.cd_elemwise.proofs.slice.write_runs.Goals as goal

pub loop-index-preserved : goal.loop-index-preserved
loop-index-preserved g c =
    let within : c.loop-index.index < length c.args.items.now = omega (arith, c.loop-index-test.true, c.loop-index.auto.index-end) in
    run_next c.args.times c.loop-index.index c.args.items.now c.args.places.now c.loop-index.places c.write_run.new.places c.index-items-index.result _ within c.index-items-index.is c.loop-index.invariant
    c.write_run.ensures
