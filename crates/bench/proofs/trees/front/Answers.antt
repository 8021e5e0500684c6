use Rattle.std.proofs.Common.{◌==◌, Some, None, refl, ap, ◌∙◌}
use Rattle.cd_elem.specs.declared.kind.Kind.TheVariants.{Bytes}
use Rattle.cd_step.specs.Parts.{of_pieces}
use Rattle.bench.specs.TimedTrees.{no_sites, places}
use Rattle.bench.proofs.Making.{apart_none, beside, fused_made}
use Rattle.bench.proofs.trees.front.Goals as goal

pub fused-requires-clause-beside : goal.fused-requires-clause-beside
fused-requires-clause-beside c =
    let e = c.stdin.ensures in
    beside None (Some Bytes) (λ t. t == 1) no_sites c.stdin.result c.in_ok-pass.pass
    (record { well = e.well; unstarted = e.unstarted; takes_it = e.takes; gives_it = e.gives; pieces = e.pieces ∙ ap of_pieces e.takes; exact = λ i. e.exact; own = e.sites; stands = e.places places refl })
    c.in_ok-pass.ensures (apart_none (λ t. t == 1))

pub returns : goal.returns
returns c =
    let e = c.stdin.ensures in
    let f = c.in_ok-node.ensures in
    fused_made None (Some Bytes) (λ t. t == 1) no_sites c.stdin.result c.in_ok-pass.pass c.in_ok-node.node
    (record { well = e.well; unstarted = e.unstarted; takes_it = e.takes; gives_it = e.gives; pieces = e.pieces ∙ ap of_pieces e.takes; exact = λ i. e.exact; own = e.sites; stands = e.places places refl })
    c.in_ok-pass.ensures
    (record { well = f.well; unstarted = f.unstarted; gives = f.gives; takes = f.takes; pieces = f.pieces; exact = f.exact; own = f.sites; stands = f.places places })
