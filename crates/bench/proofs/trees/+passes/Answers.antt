use Rattle.std.proofs.Common.{Some, ap, ◌∙◌}
use Rattle.cd_elem.specs.declared.kind.Kind.TheVariants.{Bytes}
use Rattle.cd_step.specs.Parts.{of_pieces}
use Rattle.bench.specs.TimedTrees.{no_sites, places}
use Rattle.bench.proofs.Making.{beside, fused_made, none_apart}
use Rattle.bench.proofs.trees.+passes.Goals as goal

pub fused-requires-clause-beside : goal.fused-requires-clause-beside
fused-requires-clause-beside t c = beside (Some Bytes) (Some Bytes) no_sites no_sites c.in_ok-upper.upper c.in-Ok.lower c.in_ok-upper.ensures c.in-Ok.ensures (none_apart no_sites)

pub returns-then-members-eq1 : goal.returns-then-members-eq1
returns-then-members-eq1 t c =
    let w = c.in_ok-node.ensures in
    record { well = w.well; unstarted = w.unstarted; takes_it = w.takes; gives_it = w.gives; pieces = w.pieces ∙ ap of_pieces w.takes; exact = λ i. w.exact; own = w.sites; stands = w.places places }

pub returns-in_ok-node-in-Ok : goal.returns-in_ok-node-in-Ok
returns-in_ok-node-in-Ok t c =
    let f = c.in_ok-node-in-Ok.ensures in
    fused_made (Some Bytes) (Some Bytes) no_sites no_sites c.in_ok-upper.upper c.in-Ok.lower c.in_ok-node-in-Ok.node c.in_ok-upper.ensures c.in-Ok.ensures
    (record { well = f.well; unstarted = f.unstarted; gives = f.gives; takes = f.takes; pieces = f.pieces; exact = f.exact; own = f.sites; stands = f.places places })
