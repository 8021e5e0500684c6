use Rattle.std.proofs.Common.{◌∙◌, sym, ap, subst}
use Rattle.cd_step.specs.Parts.{of_pieces}
use Rattle.cd_node.specs.Trees.{seen}
use Rattle.test_callers.specs.Leaves.{IsOnBytes}
use Rattle.test_callers.proofs.ByteTrees.{beside, none_of_both}
use Rattle.test_callers.proofs.byte_trees.fused.Goals as goal

pub fused-requires-clause-beside : goal.fused-requires-clause-beside
fused-requires-clause-beside c = beside c.args.upper c.args.lower c.requires.upper c.requires.lower

pub returns : goal.returns
returns c =
    let e = c.in_ok-node.ensures in
    let u = c.requires.upper in
    let l = c.requires.lower in
    record {
      well = e.well;
      unstarted = e.unstarted;
      takes = e.takes ∙ u.takes;
      gives = subst IsOnBytes (sym e.gives) l.gives;
      pieces = e.pieces ∙ ap of_pieces (e.takes ∙ u.takes);
      exact = λ is. let no : ⊥ = cc in absurd no;
      sites = λ s. e.sites s ∙ none_of_both ((seen c.args.upper.node).sites s) ((seen c.args.lower.node).sites s) (u.sites s) (l.sites s);
      places = λ place. e.places place (u.places place) (l.places place);
    }
