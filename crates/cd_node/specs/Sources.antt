-- What is seen of a source that reads a site, and what holds of it between two steps.
use Rattle.std.specs.Prelude.{◌≡◌, ℕ, ◌==◌, true, List, [], map, Option, Some, None}
use Rattle.cd_elem.specs.Limits.{chunk_limit}
use Rattle.cd_elem.specs.declared.kind.Kind.TheVariants as kind
use Rattle.cd_meaning.specs.Places.{Place, ReadsInput, Reads as ReadsFile}
use Rattle.cd_meaning.specs.Run.{start, Run, Ends, acts_at, outs_at}
use Rattle.cd_meaning.specs.RunShapes.{Told}
use Rattle.cd_meaning.specs.Sources.{source_end}
use Rattle.cd_meaning.specs.Stream.{Elem, Value, Done as IsDone}
use Rattle.cd_scope.specs.declared.table.Ticket.{Ticket}
use Rattle.cd_step.specs.Parts.{At, Part}
use Rattle.cd_step.specs.Parts as parts
use Rattle.cd_node.specs.Ports.{IsDescriptorOf, IsOpenAt, opening_acts, closing_acts, ticket_of}
use Rattle.cd_node.specs.declared.port.Medium.{Medium}
use Rattle.cd_node.specs.declared.port.Medium.TheVariants.{File, Standard}
use Rattle.cd_node.specs.declared.protocol.NodeMove.{NodeMove}
use Rattle.cd_node.specs.declared.protocol.NodeMove.TheVariants.{Emit, Need, Acquire, Read, Write, Release, Done, Fault}
use Rattle.cd_node.specs.declared.source.Source.{Source}
use Rattle.cd_node.specs.declared.source.SourceStand.{SourceStand}
use Rattle.cd_node.specs.declared.source.SourceStand.TheVariants.{Fresh, Opening, Reading, Gave, Closing, Over}

-- what it still does once its file is open: the bytes that are to come, and the end
abbrev pub open_run : Medium → ℕ → Told → Run
open_run m s t = outs_at start (map Elem t.bytes) (source_end s (closing_acts m s) t.mark)

abbrev pub ended_run : Run
ended_run = Ends start (IsDone Value.Unit)

abbrev pub source_run : Medium → SourceStand → ℕ → Told → Run
source_run m Fresh s t = acts_at start (opening_acts m s) (open_run m s t)
source_run m Opening s t = open_run m s t
source_run m Reading s t = open_run m s t
source_run m Gave s t = open_run m s t
source_run m Closing s t = ended_run
source_run m Over s t = ended_run

abbrev pub source_at : SourceStand → ℕ → At
source_at Fresh s = parts.Fresh
source_at Opening s = parts.Opens s
source_at Reading s = parts.Reads s
source_at Gave s = parts.Gave
source_at Closing s = parts.Closes
source_at Over s = parts.Over

-- it has no input, and holds nothing: what a read gave goes out at once
abbrev pub source_part : Medium → SourceStand → ℕ → Option Ticket → Part
source_part m stand s k = record {
  at = source_at stand s;
  grade = record { pieces = true; exact = true };
  sites = λ t. t == s;
  gives = Some kind.Bytes;
  takes = None;
  room = chunk_limit;
  held = 0;
  tickets = ticket_of k;
  unread = [];
  floor = 0;
  run = λ z ys e. source_run m stand s (z s);
}

abbrev pub seen_source : Source → Part
seen_source l = source_part l.port.medium l.stand l.port.site.0 l.port.ticket

abbrev pub SourceFits : SourceStand → Medium → Option Ticket → ℕ → Type 0
SourceFits Fresh m k s = k ≡ None
SourceFits Opening m k s = (m ≡ File) × (k ≡ None)
SourceFits Reading m k s = IsOpenAt m k s
SourceFits Gave m k s = IsOpenAt m k s
SourceFits Closing m k s = k ≡ None
SourceFits Over m k s = k ≡ None

abbrev pub source_fits : Source → Type 0
source_fits l = SourceFits l.stand l.port.medium l.port.ticket l.port.site.0

abbrev pub IsSourcePlace : Medium → Place → Type 0
IsSourcePlace File p = (name : List ℕ) × (p ≡ ReadsFile name)
IsSourcePlace Standard p = p ≡ ReadsInput

-- where the sites have these places, the source reads what its own is
abbrev pub SourceReads : Source → (ℕ → Place) → Type 0
SourceReads l place = IsSourcePlace l.port.medium (place l.port.site.0)

abbrev pub standing : SourceStand → Source → Source
standing stand l = record l { stand = stand }

-- the move asks for bytes of the source's site
abbrev pub IsReadOf : Source → NodeMove → Type 0
IsReadOf l (Read s d) = (s ≡ l.port.site) × IsDescriptorOf l.port 0 d.0
IsReadOf l (Emit d) = ⊥
IsReadOf l Need = ⊥
IsReadOf l (Acquire s) = ⊥
IsReadOf l (Write s d c) = ⊥
IsReadOf l (Release t) = ⊥
IsReadOf l (Done v r) = ⊥
IsReadOf l (Fault f) = ⊥
