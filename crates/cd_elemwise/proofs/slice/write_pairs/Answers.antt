use Rattle.std.proofs.Common.{◌≤◌, ◌<◌, ◌+◌, ◌*◌, length, arith}
use Rattle.cd_elemwise.proofs.Repeats.{pair_written, run_next}
use Rattle.cd_elemwise.proofs.slice.write_pairs.Goals as goal

pub loop-index-preserved : goal.loop-index-preserved
loop-index-preserved g c =
    let k = c.loop-index.index in
    let within : k < length c.args.items.now = omega (arith, c.loop-index-test.true, c.loop-index.auto.index-end) in
    let room : k * 2 + 2 ≤ length c.loop-index.places = omega (arith, within, c.requires, c.loop-index.auto.places) in
    run_next 2 k c.args.items.now c.args.places.now c.loop-index.places _ c.index-items-index.result _ within c.index-items-index.is c.loop-index.invariant
    (pair_written c.loop-index.places (k * 2) c.index-items-index.result room)
