use Rattle.std.proofs.Common.{◌<◌, length, arith}
use Rattle.cd_meaning.specs.Classes.{element_mapped}
use Rattle.cd_elemwise.proofs.InPlace.{changed_next}
use Rattle.cd_elemwise.proofs.slice.mapped.Goals as goal

pub loop-item-preserved : goal.loop-item-preserved
loop-item-preserved g c =
    let within : c.loop-item.item-index < length c.loop-item.item-items = omega (arith, c.loop-item.auto.item-items, c.loop-item-test.true) in
    changed_next g.T.Element.number (element_mapped c.args.by) c.loop-item.item-items c.args.list c.loop-item.item-index _ c.mapped.result
    within c.loop-item.invariant c.mapped.ensures
