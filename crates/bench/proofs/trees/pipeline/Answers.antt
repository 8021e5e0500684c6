use Rattle.std.proofs.Common.{None}
use Rattle.cd_step.specs.Parts.{both_sites}
use Rattle.bench.specs.TimedTrees.{back_sites, front_sites, places}
use Rattle.bench.proofs.Making.{beside, ends_apart, fused_made, pipeline_ready}
use Rattle.bench.proofs.trees.pipeline.Goals as goal

pub fused-requires-clause-beside : goal.fused-requires-clause-beside
fused-requires-clause-beside c = beside None None front_sites back_sites c.in_ok-upper.upper c.in-Ok.lower c.in_ok-upper.ensures c.in-Ok.ensures ends_apart

pub returns-in_ok-node-in-Ok : goal.returns-in_ok-node-in-Ok
returns-in_ok-node-in-Ok c =
    let f = c.in_ok-node-in-Ok.ensures in
    pipeline_ready (both_sites front_sites back_sites) c.in_ok-node-in-Ok.node
    (fused_made None None front_sites back_sites c.in_ok-upper.upper c.in-Ok.lower c.in_ok-node-in-Ok.node c.in_ok-upper.ensures c.in-Ok.ensures
    (record { well = f.well; unstarted = f.unstarted; gives = f.gives; takes = f.takes; pieces = f.pieces; exact = f.exact; own = f.sites; stands = f.places places }))
