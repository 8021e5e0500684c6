-- Facts of every word without sites.
use Rattle.std.proofs.Common.{◌≡◌, ℕ, ◌+◌, Option, Some, None, refl, ap, sym, ◌∙◌, arith}
use Rattle.cd_elem.specs.declared.kind.Kind.{Kind}
use Rattle.cd_step.specs.declared.protocol.Input.{Input}
use Rattle.cd_step.specs.declared.protocol.Input.TheVariants.{Start, Chunk as Given, End as TheEnd, Next}
use Rattle.cd_step.specs.Parts.{IsHeld, IsSound, Kept, chunk_at, fed}
use Rattle.cd_elemwise.proofs.StageLaws as elements
use Rattle.cd_pieces.proofs.LiteralLaws.{literal_held, literal_sound}
use Rattle.cd_pieces.proofs.StageLaws as pieces
use Rattle.cd_slices.proofs.StageLaws as slices
use Rattle.cd_split.proofs.StageLaws as splits
use Rattle.cd_split.specs.declared.stage.SplitStage.TheVariants.{Cut, Join}
use Rattle.cd_node.specs.Trees.{IsSameNode}
use Rattle.cd_node.specs.WordStages.{seen_word, word_fits, word_most, word_one}
use Rattle.cd_node.specs.declared.node.Node.{Node}
use Rattle.cd_node.specs.declared.node.Node.TheVariants as node
use Rattle.cd_node.specs.declared.word.WordStage.{WordStage}
use Rattle.cd_node.specs.declared.word.WordStage.TheVariants.{Elem, Piece, Literal, Split, Slices}

pub word_sound : (w : WordStage) → IsSound (seen_word w)
word_sound (Elem e) = elements.stage_sound e
word_sound (Piece e) = pieces.stage_sound e
word_sound (Literal e) = literal_sound e
word_sound (Split e) = splits.stage_sound e
word_sound (Slices e) = slices.stage_sound e

pub word_held : (w : WordStage) → word_fits w → IsHeld (seen_word w)
word_held (Elem e) h = elements.within_held e h.2
word_held (Piece e) h = pieces.well_held e h.1
word_held (Literal e) h = literal_held e
word_held (Split e) h = splits.well_held e h
word_held (Slices e) h = slices.well_held e h

pub word_room : (w : WordStage) → (seen_word w).room ≡ word_most w + word_one w
word_room (Elem e) = refl
word_room (Piece e) = refl
word_room (Literal e) = refl
word_room (Split e) = splits.stage_room e
word_room (Slices e) = refl

-- ---- what no step changes

-- what one chunk counts at most, of what it takes or else gives
abbrev one_of : Option Kind → Option Kind → ℕ
one_of (Some k) gives = chunk_at k
one_of None (Some k) = chunk_at k
one_of None None = 0

one_is : (w : WordStage) → word_one w ≡ one_of (seen_word w).takes (seen_word w).gives
one_is (Elem e) = refl
one_is (Piece e) = refl
one_is (Literal e) = refl
one_is (Split (Cut e)) = refl
one_is (Split (Join e)) = refl
one_is (Slices e) = refl

fed_kept : (w v : WordStage) (i : Input) → Kept (fed i (seen_word w)) (seen_word v) → Kept (seen_word w) (seen_word v)
fed_kept w v Start h = h
fed_kept w v (Given c) h = h
fed_kept w v TheEnd h = h
fed_kept w v Next h = h

same_one : (w v : WordStage) → Kept (seen_word w) (seen_word v) → word_one v ≡ word_one w
same_one w v h = one_is v ∙ ap (λ k. one_of k (seen_word v).gives) h.3 ∙ ap (one_of (seen_word w).takes) h.2 ∙ sym (one_is w)

pub word_kept : (n : Node) (w v : WordStage) → n ≡ node.Word w → Kept (seen_word w) (seen_word v) → IsSameNode n (node.Word v)
word_kept n w v e h = rw e (
    let one = same_one w v h in
    let room = h.4 in
    let before = word_room w in
    let after = word_room v in
    record { height = refl; bound = omega (arith, one, room, before, after); chunks = one; places = λ place s. s })

pub word_same : (n : Node) (w v : WordStage) (i : Input) → n ≡ node.Word w → Kept (fed i (seen_word w)) (seen_word v) → IsSameNode n (node.Word v)
word_same n w v i e k = word_kept n w v e (fed_kept w v i k)
