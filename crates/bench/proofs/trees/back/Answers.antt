use Rattle.std.proofs.Common.{◌==◌, Some, None, refl, ap, ◌∙◌}
use Rattle.cd_elem.specs.declared.kind.Kind.TheVariants.{Bytes}
use Rattle.cd_step.specs.Parts.{of_pieces}
use Rattle.bench.specs.TimedTrees.{no_sites, places}
use Rattle.bench.proofs.Making.{beside, fused_made, none_apart}
use Rattle.bench.proofs.trees.back.Goals as goal

pub fused-requires-clause-beside : goal.fused-requires-clause-beside
fused-requires-clause-beside c =
    let w = c.in_ok-take.ensures in
    let e = c.stdout.ensures in
    beside (Some Bytes) None no_sites (λ t. t == 2) c.in_ok-take.take c.stdout.result
    (record { well = w.well; unstarted = w.unstarted; takes_it = w.takes; gives_it = w.gives; pieces = w.pieces ∙ ap of_pieces w.takes; exact = λ i. w.exact; own = w.sites; stands = w.places places })
    (record { well = e.well; unstarted = e.unstarted; takes_it = e.takes; gives_it = e.gives; pieces = e.pieces ∙ ap of_pieces e.takes; exact = λ i. e.exact; own = e.sites; stands = e.places places refl })
    (none_apart (λ t. t == 2))

pub returns : goal.returns
returns c =
    let w = c.in_ok-take.ensures in
    let e = c.stdout.ensures in
    let f = c.in_ok-node.ensures in
    fused_made (Some Bytes) None no_sites (λ t. t == 2) c.in_ok-take.take c.stdout.result c.in_ok-node.node
    (record { well = w.well; unstarted = w.unstarted; takes_it = w.takes; gives_it = w.gives; pieces = w.pieces ∙ ap of_pieces w.takes; exact = λ i. w.exact; own = w.sites; stands = w.places places })
    (record { well = e.well; unstarted = e.unstarted; takes_it = e.takes; gives_it = e.gives; pieces = e.pieces ∙ ap of_pieces e.takes; exact = λ i. e.exact; own = e.sites; stands = e.places places refl })
    (record { well = f.well; unstarted = f.unstarted; gives = f.gives; takes = f.takes; pieces = f.pieces; exact = f.exact; own = f.sites; stands = f.places places })
