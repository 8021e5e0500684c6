-- What each input and each move of a node says of its part.
use Rattle.std.specs.Prelude.{◌≡◌, ℕ, ◌<◌, ◌≤◌, true, false, List, [], ◌∷◌, length, map, Option, Some, None}
use Rattle.cd_elem.specs.Limits.{chunk_limit}
use Rattle.cd_meaning.specs.Known.{before, known, no_more, unknown}
use Rattle.cd_meaning.specs.Places.{Place}
use Rattle.cd_meaning.specs.Rest.{Stuck}
use Rattle.cd_meaning.specs.RunShapes.{Mark, AtEnd, MayGoOn, Broken, TooLong, Told, Seen}
use Rattle.cd_meaning.specs.Stream.{Sort, Halt, More, Stop, Reading, ReadBad, Long, Act, Do, Open, Put, Close}
use Rattle.cd_scope.specs.Uses.{HasFile, ReadsAt, WritesAt}
use Rattle.cd_scope.specs.declared.table.Held.{Held}
use Rattle.cd_scope.specs.declared.table.Ticket.{Ticket}
use Rattle.cd_step.specs.declared.protocol.Input.TheVariants.{Start as PlainStart, Chunk as PlainChunk, End as PlainEnd, Next as PlainNext}
use Rattle.cd_step.specs.declared.protocol.Move.TheVariants.{Emit as PlainEmit, Need as PlainNeed, Done as PlainDone, Fault as PlainFault}
use Rattle.cd_step.specs.Flows.{IsOver}
use Rattle.cd_step.specs.Parts.{Chunk as ChunkSeen, Opens, Reads, Writes, Closes, Part, rest, rest_items, weight_any, IsReads, IsGiven, site, Answers, fed, Goes_on, Acting, Goes}
use Rattle.cd_step.specs.Sites.{told, got}
use Rattle.cd_node.specs.Ports.{AreTicketsHeld, HasNone}
use Rattle.cd_node.specs.declared.protocol.NodeInput.{NodeInput}
use Rattle.cd_node.specs.declared.protocol.NodeInput.TheVariants.{Start, Chunk, End, Next, Acquired, Gave, GaveEnd, Wrote, Closed}
use Rattle.cd_node.specs.declared.protocol.NodeMove.{NodeMove}
use Rattle.cd_node.specs.declared.protocol.NodeMove.TheVariants.{Emit, Need, Acquire, Read, Write, Release, Done, Fault}

-- ---- what is taken in

-- the input answers the last move
abbrev pub AnswersNode : Part → NodeInput → Type 0
AnswersNode p Start = Answers p PlainStart
AnswersNode p (Chunk c) = Answers p (PlainChunk c)
AnswersNode p End = Answers p PlainEnd
AnswersNode p Next = Answers p PlainNext
AnswersNode p (Acquired t) = p.at ≡ Opens t.site.0
AnswersNode p (Gave c) = IsReads p.at × (c.0 ≡ Sort.Bytes) × (0 < length c.1) × (length c.1 ≤ chunk_limit)
AnswersNode p GaveEnd = IsReads p.at
AnswersNode p Wrote = p.at ≡ Writes
AnswersNode p Closed = p.at ≡ Closes

-- The part with the input taken in. Once the end of a site was told, what is left is the same whatever is to come there.
abbrev pub fed_node : NodeInput → Part → Part
fed_node Start p = fed PlainStart p
fed_node (Chunk c) p = fed (PlainChunk c) p
fed_node End p = fed PlainEnd p
fed_node Next p = fed PlainNext p
fed_node (Acquired t) p = got t.site.0 t.descriptor.0 p
fed_node (Gave c) p = told (site p.at) (λ z. before c.1 (z (site p.at))) p
fed_node GaveEnd p = told (site p.at) (λ z. no_more) p
fed_node Wrote p = p
fed_node Closed p = p

-- ---- what a move says

abbrev pub puts_of : ℕ → List ℕ → List Act
puts_of s bytes = map Do (map (Put s) bytes)

-- how a run goes no further where nothing more is known of the site, by what its mark says
abbrev pub halted : ℕ → Mark → Option Halt
halted s AtEnd = None
halted s MayGoOn = Some (More (Reading s))
halted s Broken = Some (Stop (ReadBad s))
halted s TooLong = Some (Stop (Long s))

-- it can do nothing without knowing more of this site, and stops as the site does
abbrev pub StopsWith : ℕ → Part → Type 0
StopsWith s q = (z : Seen) (mark : Mark) (h : Halt) → z s ≡ unknown mark → halted s mark ≡ Some h → Stuck h (rest q z)

-- what is left is the same whatever is to come at this site
abbrev pub Ignores : ℕ → Part → Type 0
Ignores s p = (w : Told) (z : Seen) → p.run (known s w z) ≡ p.run z

-- the file of its site s is opened next
pub record Opening (place : ℕ → Place) (s : ℕ) (p q : Part) : Type 0 where
  pub own : q.sites s ≡ true
  pub file : HasFile (place s)
  pub acts : Acting (Do (Open s) ∷ []) (Opens s) p q

-- it waits for its site s, on a descriptor of that site
pub record Waiting (place : ℕ → Place) (s d : ℕ) (p q : Part) : Type 0 where
  pub is_at : q.at ≡ Reads s
  pub own : q.sites s ≡ true
  pub readable : ReadsAt (place s) d (q.tickets s d ≡ true)
  pub goes : Goes_on [] p q
  pub stops : StopsWith s q

-- its site s gets these bytes next, on a descriptor of that site
pub record Writing (place : ℕ → Place) (s d : ℕ) (c : ChunkSeen) (p q : Part) : Type 0 where
  pub own : q.sites s ≡ true
  pub writable : WritesAt (place s) d (q.tickets s d ≡ true)
  pub bytes : c.0 ≡ Sort.Bytes
  pub some : 0 < length c.1
  pub acts : Acting (puts_of s c.1) Writes p q

-- the file of the ticket is closed next: the ticket was in the part, and none of its site is left
pub record Closing (t : Ticket) (p q : Part) : Type 0 where
  pub own : q.sites t.site.0 ≡ true
  pub live : p.tickets t.site.0 t.descriptor.0 ≡ true
  pub gone : (d : ℕ) → q.tickets t.site.0 d ≡ false
  pub acts : Acting (Do (Close t.site.0) ∷ []) Closes p q

-- the move is the next step of p, and q is the part after it
abbrev pub GoesNode : (ℕ → Place) → NodeMove → Part → Part → Type 0
GoesNode place (Emit d) p q = Goes (PlainEmit d) p q
GoesNode place Need p q = Goes PlainNeed p q
GoesNode place (Acquire s) p q = Opening place s.0 p q
GoesNode place (Read s d) p q = Waiting place s.0 d.0 p q
GoesNode place (Write s d c) p q = Writing place s.0 d.0 c p q
GoesNode place (Release t) p q = Closing t p q
GoesNode place (Done v r) p q = Goes (PlainDone v r) p q
GoesNode place (Fault f) p q = Goes (PlainFault f) p q

-- the step law of a node
abbrev pub NodeStepped : (ℕ → Place) → Part → NodeInput → NodeMove → Part → Type 0
NodeStepped place p i m q = GoesNode place m (fed_node i p) q

-- ---- the end of a node

-- the scope that holds these made each ticket in the part
abbrev pub AreHeld : List Held → Part → Type 0
AreHeld table p = AreTicketsHeld table p.tickets

abbrev pub HasNoTicket : Part → Type 0
HasNoTicket p = HasNone p.tickets

-- what a part that takes no further step gives back: what it has not read, unless it has ended
abbrev pub GivesBack : Part → Option ChunkSeen → Type 0
GivesBack p r = (weight_any r ≤ p.held) × ((IsOver p → ⊥) → (rest_items r ≡ p.unread) × IsGiven p.takes r)
