-- What is seen of a node, and what holds of it between two steps.
use Rattle.std.specs.Prelude.{◌≡◌, ℕ, ◌+◌, List}
use Rattle.cd_elem.specs.Limits.{chunk_limit}
use Rattle.cd_meaning.specs.Places.{Place}
use Rattle.cd_scope.specs.declared.table.Held.{Held}
use Rattle.cd_step.specs.Parts.{Part, IsHeld}
use Rattle.cd_node.specs.Controls.{seen_pair, IsPlaced}
use Rattle.cd_node.specs.Marks.{MarksPlace, mark_fits, mark_stands, whole_mark}
use Rattle.cd_node.specs.Nodes.{AreHeld, HasNoTicket}
use Rattle.cd_node.specs.Ports.{AreTicketsHeld, HasNone, ticket_of}
use Rattle.cd_node.specs.Sinks.{SinkWrites, seen_sink, sink_fits}
use Rattle.cd_node.specs.Sources.{SourceReads, seen_source, source_fits}
use Rattle.cd_node.specs.WordStages.{seen_word, word_fits, word_most, word_one}
use Rattle.cd_node.specs.declared.mark.Mark.{Mark}
use Rattle.cd_node.specs.declared.node.Node.{Node, Pair', Marked'}
use Rattle.cd_node.specs.declared.node.Node.TheVariants.{Word, Source, Sink}

abbrev pub height : Node → ℕ
height (Word e) = 0
height (Source l) = 0
height (Sink l) = 0
height (Pair' c out p a q b) = height a + height b + 3
height (Marked' m p b) = height b + 2

abbrev pub seen : Node → Part
seen (Word e) = seen_word e
seen (Source l) = seen_source l
seen (Sink l) = seen_sink l
seen (Pair' c out p a q b) = seen_pair c out (seen a) (seen b)
seen (Marked' m p b) = whole_mark m (seen b)

-- it stands between two steps
abbrev pub IsWell : Node → Type 0
IsWell (Word e) = word_fits e
IsWell (Source l) = source_fits l
IsWell (Sink l) = sink_fits l
IsWell (Pair' c out p a q b) = IsWell a × IsWell b × IsPlaced out c (seen a) (seen b) × IsHeld (seen_pair c out (seen a) (seen b))
IsWell (Marked' m p b) = IsWell b × mark_stands m × mark_fits m (seen b)

-- how many elements its parts may carry, beside one chunk for each
abbrev pub bound_of : Node → ℕ
bound_of (Word e) = word_most e
bound_of (Source l) = 0
bound_of (Sink l) = 0
bound_of (Pair' c out p a q b) = bound_of a + bound_of b
bound_of (Marked' m p b) = bound_of b

abbrev pub chunks_of : Node → ℕ
chunks_of (Word e) = word_one e
chunks_of (Source l) = chunk_limit
chunks_of (Sink l) = chunk_limit
chunks_of (Pair' c out p a q b) = chunks_of a + chunks_of b
chunks_of (Marked' m p b) = chunks_of b

-- where the sites have these places, each word with a site reads or writes what its own is
abbrev pub StandsAt : Node → (ℕ → Place) → Type 0
StandsAt (Word e) place = Unit {0}
StandsAt (Source l) place = SourceReads l place
StandsAt (Sink l) place = SinkWrites l place
StandsAt (Pair' c out p a q b) place = StandsAt a place × StandsAt b place
StandsAt (Marked' m p b) place = StandsAt b place × MarksPlace m place

abbrev pub BothStand : Node → Node → (ℕ → Place) → Type 0
BothStand a b place = StandsAt a place × StandsAt b place

abbrev pub BodyStands : Mark → Node → (ℕ → Place) → Type 0
BodyStands m b place = StandsAt b place × MarksPlace m place

-- what no step changes of a node
pub record IsSameNode (n m : Node) : Type 0 where
  pub height : height m ≡ height n
  pub bound : bound_of m ≡ bound_of n
  pub chunks : chunks_of m ≡ chunks_of n
  pub places : (place : ℕ → Place) → StandsAt n place → StandsAt m place

-- ---- tickets, word by word

abbrev pub AreHeldIn : List Held → Node → Type 0
AreHeldIn table (Word e) = Unit {0}
AreHeldIn table (Source l) = AreHeld table (seen_source l)
AreHeldIn table (Sink l) = AreHeld table (seen_sink l)
AreHeldIn table (Pair' c out p a q b) = AreHeldIn table a × AreHeldIn table b
AreHeldIn table (Marked' m p b) = AreTicketsHeld table (ticket_of m.port.ticket) × AreHeldIn table b

abbrev pub HasNoTicketIn : Node → Type 0
HasNoTicketIn (Word e) = Unit {0}
HasNoTicketIn (Source l) = HasNoTicket (seen_source l)
HasNoTicketIn (Sink l) = HasNoTicket (seen_sink l)
HasNoTicketIn (Pair' c out p a q b) = HasNoTicketIn a × HasNoTicketIn b
HasNoTicketIn (Marked' m p b) = HasNone (ticket_of m.port.ticket) × HasNoTicketIn b
