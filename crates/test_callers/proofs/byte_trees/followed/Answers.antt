use Rattle.std.proofs.Common.{◌∙◌, sym, ap, subst}
use Rattle.cd_step.specs.Parts.{of_pieces}
use Rattle.cd_node.specs.Trees.{seen}
use Rattle.test_callers.specs.Leaves.{IsOnBytes}
use Rattle.test_callers.proofs.ByteTrees.{in_turn, joined_bytes, none_of_both, shared_bytes}
use Rattle.test_callers.proofs.byte_trees.followed.Goals as goal

pub followed-requires-clause-in_turn : goal.followed-requires-clause-in_turn
followed-requires-clause-in_turn c = in_turn c.args.earlier c.args.later c.requires.earlier c.requires.later c.requires.exact

pub returns : goal.returns
returns c =
    let e = c.in_ok-node.ensures in
    let u = c.requires.earlier in
    let l = c.requires.later in
    let first = seen c.args.earlier.node in
    let second = seen c.args.later.node in
    let takes = e.takes ∙ shared_bytes first.takes second.takes u.takes in
    record {
      well = e.well;
      unstarted = e.unstarted;
      takes = takes;
      gives = subst IsOnBytes (sym e.gives) (joined_bytes first.gives second.gives u.gives l.gives);
      pieces = e.pieces ∙ ap of_pieces takes;
      exact = λ is. e.exact ∙ l.exact is;
      sites = λ s. e.sites s ∙ none_of_both (first.sites s) (second.sites s) (u.sites s) (l.sites s);
      places = λ place. e.places place (u.places place) (l.places place);
    }
