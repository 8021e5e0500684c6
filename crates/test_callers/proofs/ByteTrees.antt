-- Trees of element words on bytes.
use Rattle.std.proofs.Common.{◌≡◌, ◌∙◌, ◌||◌, Bool, true, false, Option, Some, None, refl, sym, ap, subst, arith}
use Rattle.cd_elem.specs.declared.kind.Kind.{Kind}
use Rattle.cd_elem.specs.declared.kind.Kind.TheVariants.{Bytes}
use Rattle.cd_meaning.specs.Stream.{Sort}
use Rattle.cd_step.specs.Parts.{Agree, IsWithin, Meets, Shares, joined, larger, of_pieces, shared, sort_at}
use Rattle.cd_elemwise.specs.Carried.{gives_of}
use Rattle.cd_elemwise.specs.declared.state.WordState.{WordState}
use Rattle.cd_elemwise.specs.declared.state.WordState.TheVariants as state
use Rattle.cd_fuse.specs.Follows.{AreInTurn}
use Rattle.cd_fuse.specs.Fuses.{AreBeside}
use Rattle.cd_node.specs.Trees.{seen}
use Rattle.cd_build.proofs.Outputs.{is_grade}
use Rattle.test_callers.specs.Leaves.{IsOnBytes}
use Rattle.test_callers.specs.Trees.{IsByteNode}
use Rattle.test_callers.specs.declared.byte_trees.OnBytes.{OnBytes}

pub gives_bytes : (w : WordState) → IsOnBytes (gives_of w Sort.Bytes)
gives_bytes state.Pass = refl
gives_bytes (state.Take n) = refl
gives_bytes (state.TakeWhile c) = refl
gives_bytes (state.Filter c) = refl
gives_bytes (state.Map by) = refl
gives_bytes (state.Repeat n) = refl
gives_bytes _ = tt

-- ---- two outputs or inputs

meets_bytes : (g k : Option Kind) → IsOnBytes g → k ≡ Some Bytes → Meets g k
meets_bytes None k on is = tt
meets_bytes (Some j) k on is = subst (Meets (Some j)) (sym is) (subst (λ i. IsWithin i Bytes) (sym on) (refl, omega arith))

agree_bytes : (g h : Option Kind) → IsOnBytes g → IsOnBytes h → Agree g h
agree_bytes None h on also = tt
agree_bytes (Some j) None on also = tt
agree_bytes (Some j) (Some k) on also = ap sort_at (on ∙ sym also)

pub joined_bytes : (g h : Option Kind) → IsOnBytes g → IsOnBytes h → IsOnBytes (joined g h)
joined_bytes None h on also = also
joined_bytes (Some j) None on also = on
joined_bytes (Some j) (Some k) on also = ap (λ i. larger i k) on

shares_bytes : (g h : Option Kind) → g ≡ Some Bytes → h ≡ Some Bytes → Shares g h
shares_bytes g h is also = subst (λ x. Shares x h) (sym is) (subst (Shares (Some Bytes)) (sym also) refl)

pub shared_bytes : (g h : Option Kind) → g ≡ Some Bytes → shared g h ≡ Some Bytes
shared_bytes g h is = ap (λ x. shared x h) is

pub none_of_both : (a b : Bool) → a ≡ false → b ≡ false → (a || b) ≡ false
none_of_both a b is also = ap (λ x. x || b) is ∙ also

true_is_false : {A : Type 0} (b : Bool) → b ≡ false → b ≡ true → A
true_is_false b is e = let no : false ≡ true = sym is ∙ e in cc

-- ---- two trees

module _ (a b : OnBytes) (u : IsByteNode a) (l : IsByteNode b) where
  pub beside : AreBeside (seen a.node) (seen b.node)
  beside = record {
    apart = λ s own. l.sites s;
    graded = is_grade (seen a.node).grade (λ e. true_is_false (seen a.node).grade.pieces u.pieces e);
    meets = meets_bytes (seen a.node).gives (seen b.node).takes u.gives l.takes;
  }

  pub in_turn : a.exact ≡ true → AreInTurn (seen a.node) (seen b.node)
  in_turn exact = record {
    apart = λ s own. l.sites s;
    exact = u.exact exact;
    first = u.pieces ∙ sym (ap of_pieces u.takes);
    second = l.pieces ∙ sym (ap of_pieces l.takes);
    gives = agree_bytes (seen a.node).gives (seen b.node).gives u.gives l.gives;
    takes = shares_bytes (seen a.node).takes (seen b.node).takes u.takes l.takes;
  }
