-- Nodes that have not begun.
use Rattle.std.proofs.Common.{◌≡◌, ℕ, ◌+◌, refl, sym, ◌∙◌, subst, arith}
use Rattle.cd_meaning.specs.Places.{Place}
use Rattle.cd_step.proofs.Moving.{neither}
use Rattle.cd_step.proofs.Outs.{stand_fresh}
use Rattle.cd_step.specs.Parts.{Fresh, Part, IsUnbegun, IsHeld}
use Rattle.cd_elemwise.specs.declared.stage.ElemStage.{ElemStage}
use Rattle.cd_elemwise.specs.Stages.{StandFits, seen_stage, stage_fits}
use Rattle.cd_elemwise.specs.Carried.{gathered}
use Rattle.cd_elemwise.proofs.StageLaws.{within_held}
use Rattle.cd_pieces.specs.declared.literals.LiteralStage.{LiteralStage}
use Rattle.cd_pieces.specs.declared.stage.PieceStage.{PieceStage}
use Rattle.cd_pieces.specs.LiteralStages.{seen_literal}
use Rattle.cd_pieces.specs.Stages as pieces
use Rattle.cd_pieces.proofs.LiteralLaws.{literal_held}
use Rattle.cd_pieces.proofs.StageLaws.{well_held}
use Rattle.cd_split.specs.declared.stage.SplitStage.{SplitStage}
use Rattle.cd_split.specs.Splitting as splits
use Rattle.cd_split.specs.declared.stage.SplitStage.TheVariants.{Cut, Join}
use Rattle.cd_split.specs.Cutting.{CutterStands}
use Rattle.cd_split.specs.Joining.{JoinerStands}
use Rattle.cd_split.proofs.StageLaws.{well_held as split_held}
use Rattle.cd_slices.specs.declared.stage.SliceStage.{SliceStage}
use Rattle.cd_slices.specs.Slicing.{is_ready}
use Rattle.cd_slices.specs.Stages.{SlicesStand, seen_slices, slices_fit, stands}
use Rattle.cd_slices.proofs.StageLaws.{well_held as slices_held}
use Rattle.cd_fuse.specs.declared.fuse.Fuse.{Fuse}
use Rattle.cd_fuse.specs.declared.follow.Follow.{Follow}
use Rattle.cd_fuse.specs.Fuses.{whole_fuse, fuse_is_at, IsFuseIn}
use Rattle.cd_fuse.specs.Follows.{whole_follow, follow_is_at, IsFollowIn}
use Rattle.cd_fuse.proofs.FuseMoves.{down_held}
use Rattle.cd_fuse.proofs.FollowMoves.{first_held}
use Rattle.cd_node.specs.Controls.{whole_pair, pair_is_at}
use Rattle.cd_node.specs.Makes.{IsUnstarted, IsPairOf}
use Rattle.cd_node.specs.Nodes.{HasNoTicket}
use Rattle.cd_node.specs.Sinks.{seen_sink, sink_at}
use Rattle.cd_node.specs.Sources.{seen_source}
use Rattle.cd_node.specs.Trees.{seen, IsWell, bound_of, chunks_of, StandsAt}
use Rattle.cd_node.specs.declared.control.PairControl.{PairControl}
use Rattle.cd_node.specs.declared.node.Node.{Node, Pair', Marked'}
use Rattle.cd_node.specs.declared.node.Node.TheVariants as node
use Rattle.cd_node.specs.declared.sink.Sink.{Sink}
use Rattle.cd_node.specs.declared.sink.SinkStand.{SinkStand}
use Rattle.cd_node.specs.declared.sink.SinkStand.TheVariants as stands
use Rattle.cd_node.specs.declared.source.Source.{Source}
use Rattle.cd_node.proofs.Controls.{pair_tickets}

-- ---- words

pub elem_unstarted : (e : ElemStage) → stage_fits e → (seen_stage e).at ≡ Fresh → IsUnstarted (seen_stage e)
elem_unstarted e f h =
    let s = subst (λ x. StandFits x e.told e.sort e.state (gathered e.list) e.keep) (stand_fresh e.stand h) f.0 in
    record { unbegun = record { is_at = h; floor = rw s.0 refl; unread = rw (s.0, s.1) refl }; no_ticket = λ s d. refl; held = within_held e f.2 }

pub piece_unstarted : (e : PieceStage) → pieces.stage_fits e → (pieces.seen_stage e).at ≡ Fresh → IsUnstarted (pieces.seen_stage e)
piece_unstarted e f h =
    let s = subst (λ x. pieces.StandFits x e.told e.due e.state) (stand_fresh e.stand h) f.0 in
    record { unbegun = record { is_at = h; floor = rw s.0 refl; unread = rw s.0 refl }; no_ticket = λ s d. refl; held = well_held e f.1 }

pub split_unstarted : (e : SplitStage) → splits.stage_fits e → (splits.seen_stage e).at ≡ Fresh → IsUnstarted (splits.seen_stage e)
split_unstarted (Cut e) f h =
    let s = subst (λ x. CutterStands x e.told e.keep) (stand_fresh e.stand h) f.0 in
    record { unbegun = record { is_at = h; floor = rw s.0 refl; unread = rw (s.0, s.1) refl }; no_ticket = λ s d. refl; held = split_held (Cut e) f }
split_unstarted (Join e) f h =
    let s = subst (λ x. JoinerStands x e.told e.keep) (stand_fresh e.stand h) f.0 in
    record { unbegun = record { is_at = h; floor = rw s.0 refl; unread = rw s.0 refl }; no_ticket = λ s d. refl; held = split_held (Join e) f }

pub slices_unstarted : (e : SliceStage) → slices_fit e → (seen_slices e).at ≡ Fresh → IsUnstarted (seen_slices e)
slices_unstarted e f h =
    let s = subst (λ x. SlicesStand x e.told e.keep (is_ready (stands e.slicer.tail))) (stand_fresh e.stand h) f.0 in
    record { unbegun = record { is_at = h; floor = rw s.0 refl; unread = rw (s.0, s.1) refl }; no_ticket = λ s d. refl; held = slices_held e f }

pub literal_unstarted : (e : LiteralStage) → (seen_literal e).at ≡ Fresh → IsUnstarted (seen_literal e)
literal_unstarted e h = record { unbegun = record { is_at = h; floor = refl; unread = refl }; no_ticket = λ s d. refl; held = literal_held e }

pub source_unstarted : (l : Source) → (seen_source l).at ≡ Fresh → HasNoTicket (seen_source l) → IsUnstarted (seen_source l)
source_unstarted l h k = record { unbegun = record { is_at = h; floor = refl; unread = refl }; no_ticket = k; held = omega arith }

sink_fresh : (x : SinkStand) (s : ℕ) → sink_at x s ≡ Fresh → x ≡ stands.Fresh
sink_fresh stands.Fresh s e = refl
sink_fresh stands.Opening s e = cc
sink_fresh stands.Waiting s e = cc
sink_fresh stands.Writing s e = cc
sink_fresh stands.Closing s e = cc
sink_fresh stands.Over s e = cc

pub sink_unstarted : (l : Sink) → (seen_sink l).at ≡ Fresh → HasNoTicket (seen_sink l) → IsUnstarted (seen_sink l)
sink_unstarted l h k =
    let e = sink_fresh l.stand l.port.site.0 h in
    record { unbegun = record { is_at = h; floor = rw e refl; unread = rw e refl }; no_ticket = k; held = omega arith }

-- ---- wholes

pub pair_seen : (c : PairControl) (a b n : Node) → IsPairOf c a b n → seen n ≡ whole_pair c (seen a) (seen b)
pair_seen c a b (node.Word e) h = absurd h
pair_seen c a b (node.Source l) h = absurd h
pair_seen c a b (node.Sink l) h = absurd h
pair_seen c a b (Marked' m p n1) h = absurd h
pair_seen c a b (Pair' c1 out p a1 q b1) h = rw (h.0, h.1, h.2, h.3) refl

pub pair_well : (c : PairControl) (a b n : Node) → IsPairOf c a b n → IsWell a → IsWell b → pair_is_at c (seen a) (seen b) → IsHeld (whole_pair c (seen a) (seen b)) → IsWell n
pair_well c a b (node.Word e) h wa wb i y = absurd h
pair_well c a b (node.Source l) h wa wb i y = absurd h
pair_well c a b (node.Sink l) h wa wb i y = absurd h
pair_well c a b (Marked' m p n1) h wa wb i y = absurd h
pair_well c a b (Pair' c1 out p a1 q b1) h wa wb i y = rw (h.0, h.1, h.2, h.3) (wa, wb, i, y)

pub pair_bound : (c : PairControl) (a b n : Node) → IsPairOf c a b n → bound_of n ≡ bound_of a + bound_of b
pair_bound c a b (node.Word e) h = absurd h
pair_bound c a b (node.Source l) h = absurd h
pair_bound c a b (node.Sink l) h = absurd h
pair_bound c a b (Marked' m p n1) h = absurd h
pair_bound c a b (Pair' c1 out p a1 q b1) h = rw (h.2, h.3) refl

pub pair_chunks : (c : PairControl) (a b n : Node) → IsPairOf c a b n → chunks_of n ≡ chunks_of a + chunks_of b
pair_chunks c a b (node.Word e) h = absurd h
pair_chunks c a b (node.Source l) h = absurd h
pair_chunks c a b (node.Sink l) h = absurd h
pair_chunks c a b (Marked' m p n1) h = absurd h
pair_chunks c a b (Pair' c1 out p a1 q b1) h = rw (h.2, h.3) refl

pub pair_places : (c : PairControl) (a b n : Node) → IsPairOf c a b n → (place : ℕ → Place) → StandsAt a place → StandsAt b place → StandsAt n place
pair_places c a b (node.Word e) h place s t = absurd h
pair_places c a b (node.Source l) h place s t = absurd h
pair_places c a b (node.Sink l) h place s t = absurd h
pair_places c a b (Marked' m p n1) h place s t = absurd h
pair_places c a b (Pair' c1 out p a1 q b1) h place s t = rw (h.2, h.3) (s, t)

pub pair_unstarted : (c : PairControl) (a b n : Node) → IsPairOf c a b n → IsUnstarted (seen a) → IsUnstarted (seen b) → IsUnbegun (whole_pair c (seen a) (seen b)) → IsHeld (whole_pair c (seen a) (seen b)) → IsUnstarted (seen n)
pair_unstarted c a b n h ua ub u y =
    subst IsUnstarted (sym (pair_seen c a b n h))
    (record { unbegun = u; no_ticket = λ s d. pair_tickets c (seen a) (seen b) s d ∙ neither ((seen a).tickets s d) ((seen b).tickets s d) (ua.no_ticket s d) (ub.no_ticket s d); held = y })

-- what a controller keeps at first stands in its parts' room
pub fusion_held : (c : Fuse) (a b : Part) → fuse_is_at c a b → IsUnbegun (whole_fuse c a b) → IsHeld b → IsHeld (whole_fuse c a b)
fusion_held c a b i u h = let f = subst (λ s. IsFuseIn s c a b) (stand_fresh c.stand u.is_at) i in down_held c a b f.0.held h

pub sequence_held : (c : Follow) (a b : Part) → follow_is_at c a b → IsUnbegun (whole_follow c a b) → IsHeld a → IsHeld (whole_follow c a b)
sequence_held c a b i u h = let f = subst (λ s. IsFollowIn s c a b) (stand_fresh c.stand u.is_at) i in first_held c a b f.0.none f.0.held h
