-- Facts of every node.
use Rattle.std.proofs.Common.{◌≡◌, ℕ, ◌+◌, List, Option, Some, None, refl, sym, ◌∙◌, arith}
use Rattle.cd_scope.specs.declared.table.Held.{Held}
use Rattle.cd_step.specs.declared.control.Side.{Side}
use Rattle.cd_step.specs.declared.control.Side.TheVariants.{Upper, Lower}
use Rattle.cd_step.specs.Parts.{Part, IsHeld, IsSound}
use Rattle.cd_node.specs.Controls.{whole_pair, at_side, seen_pair}
use Rattle.cd_node.specs.Nodes.{AreHeld, HasNoTicket}
use Rattle.cd_node.specs.Ports.{ticket_of}
use Rattle.cd_step.proofs.Outs.{own_up, own_down}
use Rattle.cd_step.proofs.Sides.{left_false, right_false}
use Rattle.cd_node.specs.Trees.{seen, IsWell, bound_of, chunks_of, IsSameNode, AreHeldIn, HasNoTicketIn}
use Rattle.cd_node.specs.declared.control.PairControl.{PairControl}
use Rattle.cd_node.specs.declared.node.Node.{Node, Pair', Marked'}
use Rattle.cd_node.specs.declared.node.Node.TheVariants.{Word, Source, Sink}
use Rattle.cd_node.proofs.Controls.{pair_room, pair_sound, pair_has_up, pair_has_down, pair_none_up, pair_none_down}
use Rattle.cd_node.proofs.Marking.{fits_held, mark_sound}
use Rattle.cd_node.proofs.Sinking.{sink_sound}
use Rattle.cd_node.proofs.Sourcing.{source_sound}
use Rattle.cd_node.proofs.WordStages.{word_held, word_room, word_sound}

side_sound : (out : Option Side) (p a b : Part) → IsSound p → IsSound (at_side out p a b)
side_sound None p a b h = h
side_sound (Some Upper) p a b h = record { local = h.local; counts = h.counts; graded = h.graded; rising = h.rising; own = h.own }
side_sound (Some Lower) p a b h = record { local = h.local; counts = h.counts; graded = h.graded; rising = h.rising; own = h.own }

pub node_sound : (n : Node) → IsWell n → IsSound (seen n)
node_sound (Word e) w = word_sound e
node_sound (Source l) w = source_sound l.port.medium l.stand l.port.site.0 l.port.ticket w
node_sound (Sink l) w = sink_sound l.port.medium l.stand l.port.site.0 l.port.ticket w
node_sound (Pair' c out p a q b) w = side_sound out (whole_pair c (seen a) (seen b)) (seen a) (seen b) (pair_sound c (seen a) (seen b) (node_sound a w.0) (node_sound b w.1))
node_sound (Marked' m p b) w = mark_sound m (seen b) w.1.1 (node_sound b w.0)

pub well_held : (n : Node) → IsWell n → IsHeld (seen n)
well_held (Word e) w = word_held e w
well_held (Source l) w = omega arith
well_held (Sink l) w = omega arith
well_held (Pair' c out p a q b) w = w.3
well_held (Marked' m p b) w = fits_held m (seen b) w.2

side_room : (out : Option Side) (c : PairControl) (a b : Part) → (seen_pair c out a b).room ≡ a.room + b.room
side_room None c a b = pair_room c a b
side_room (Some Upper) c a b = pair_room c a b
side_room (Some Lower) c a b = pair_room c a b

pub room_is : (n : Node) → (seen n).room ≡ bound_of n + chunks_of n
room_is (Word e) = word_room e
room_is (Source l) = refl
room_is (Sink l) = refl
room_is (Pair' c out p a q b) = let h = room_is a in let k = room_is b in let e = side_room out c (seen a) (seen b) in omega (arith, h, k, e)
room_is (Marked' m p b) = room_is b

pub side_held : (out : Option Side) (c : PairControl) (a b : Part) → (seen_pair c out a b).held ≡ (whole_pair c a b).held
side_held None c a b = refl
side_held (Some Upper) c a b = refl
side_held (Some Lower) c a b = refl

-- ---- what no step changes

pub same_node : (n : Node) → IsSameNode n n
same_node n = record { height = refl; bound = refl; chunks = refl; places = λ place h. h }

pub same_behind : (n m k : Node) → IsSameNode n m → IsSameNode m k → IsSameNode n k
same_behind n m k h j = record { height = j.height ∙ h.height; bound = j.bound ∙ h.bound; chunks = j.chunks ∙ h.chunks; places = λ place s. j.places place (h.places place s) }

-- ---- tickets

side_has : (out : Option Side) (p a b : Part) (s d : ℕ) → (at_side out p a b).tickets s d ≡ p.tickets s d
side_has None p a b s d = refl
side_has (Some Upper) p a b s d = refl
side_has (Some Lower) p a b s d = refl

pub held_in_words : (table : List Held) (n : Node) → AreHeld table (seen n) → AreHeldIn table n
held_in_words table (Word e) h = tt
held_in_words table (Source l) h = h
held_in_words table (Sink l) h = h
held_in_words table (Pair' c out p a q b) h = (
  held_in_words table a (λ s d e. h s d (side_has out (whole_pair c (seen a) (seen b)) (seen a) (seen b) s d ∙ pair_has_up c (seen a) (seen b) s d e)),
  held_in_words table b (λ s d e. h s d (side_has out (whole_pair c (seen a) (seen b)) (seen a) (seen b) s d ∙ pair_has_down c (seen a) (seen b) s d e)),
)
held_in_words table (Marked' m p b) h = (λ s d e. h s d (own_up (ticket_of m.port.ticket s d) ((seen b).tickets s d) e), held_in_words table b (λ s d e. h s d (own_down (ticket_of m.port.ticket s d) ((seen b).tickets s d) e)))

pub none_in_words : (n : Node) → HasNoTicket (seen n) → HasNoTicketIn n
none_in_words (Word e) h = tt
none_in_words (Source l) h = h
none_in_words (Sink l) h = h
none_in_words (Pair' c out p a q b) h =
    let w = whole_pair c (seen a) (seen b) in
    let k : HasNoTicket w = λ s d. sym (side_has out w (seen a) (seen b) s d) ∙ h s d in
    (none_in_words a (pair_none_up c (seen a) (seen b) k), none_in_words b (pair_none_down c (seen a) (seen b) k))
none_in_words (Marked' m p b) h = (λ s d. left_false (ticket_of m.port.ticket s d) ((seen b).tickets s d) (h s d), none_in_words b (λ s d. right_false (ticket_of m.port.ticket s d) ((seen b).tickets s d) (h s d)))
