-- What is seen of a sink that writes a site, and what holds of it between two steps.
use Rattle.std.specs.Prelude.{◌≡◌, ℕ, ◌==◌, false, true, List, [], Option, Some, None}
use Rattle.cd_elem.specs.Limits.{chunk_limit}
use Rattle.cd_elem.specs.declared.kind.Kind.TheVariants as kind
use Rattle.cd_meaning.specs.Places.{Place, WritesOutput, Writes as WritesFile}
use Rattle.cd_meaning.specs.Rest.{Rest}
use Rattle.cd_meaning.specs.Run.{start, stamp, Ends, acts_at}
use Rattle.cd_meaning.specs.Scan.{Scan, Go}
use Rattle.cd_meaning.specs.Sources.{puts}
use Rattle.cd_meaning.specs.Stream.{Value, Done}
use Rattle.cd_scope.specs.declared.table.Ticket.{Ticket}
use Rattle.cd_step.specs.Parts.{At, Part}
use Rattle.cd_step.specs.Parts as parts
use Rattle.cd_step.specs.Reading.{scan_rest}
use Rattle.cd_node.specs.Ports.{IsOpenAt, opening_acts, closing_acts, ticket_of}
use Rattle.cd_node.specs.declared.port.Medium.{Medium}
use Rattle.cd_node.specs.declared.port.Medium.TheVariants.{File, Standard}
use Rattle.cd_node.specs.declared.sink.Sink.{Sink}
use Rattle.cd_node.specs.declared.sink.SinkStand.{SinkStand}
use Rattle.cd_node.specs.declared.sink.SinkStand.TheVariants.{Fresh, Opening, Waiting, Writing, Closing, Over}

-- what it does once its file is open: it puts each byte, and closes the file at the end
abbrev pub sink_scan : Medium → ℕ → Scan (Unit {0})
sink_scan m s = record { ready = λ t. None; step = λ t x. Go (puts s x) tt; close = λ t. closing_acts m s; ending = λ t. Done Value.Unit }

abbrev pub open_rest : Medium → ℕ → Rest
open_rest m s = scan_rest (sink_scan m s) false tt []

-- its file is not open yet
abbrev pub unopened_rest : Medium → ℕ → Rest
unopened_rest m s = record { unread = []; floor = 0; run = λ ys e. acts_at start (opening_acts m s) ((open_rest m s).run ys e) }

-- it was told the end, and does nothing more
abbrev pub ended_rest : Rest
ended_rest = record { unread = []; floor = 1; run = λ ys e. Ends (stamp 1 0) (Done Value.Unit) }

abbrev pub sink_rest : Medium → SinkStand → ℕ → Rest
sink_rest m Fresh s = unopened_rest m s
sink_rest m Opening s = open_rest m s
sink_rest m Waiting s = open_rest m s
sink_rest m Writing s = open_rest m s
sink_rest m Closing s = ended_rest
sink_rest m Over s = ended_rest

abbrev pub sink_at : SinkStand → ℕ → At
sink_at Fresh s = parts.Fresh
sink_at Opening s = parts.Opens s
sink_at Waiting s = parts.Wait
sink_at Writing s = parts.Writes
sink_at Closing s = parts.Closes
sink_at Over s = parts.Over

-- it gives nothing, and holds nothing: what it is given goes out at once
abbrev pub sink_part : At → ℕ → Option Ticket → Rest → Part
sink_part at s k p = record {
  at = at;
  grade = record { pieces = false; exact = true };
  sites = λ t. t == s;
  gives = None;
  takes = Some kind.Bytes;
  room = chunk_limit;
  held = 0;
  tickets = ticket_of k;
  unread = p.unread;
  floor = p.floor;
  run = λ z. p.run;
}

abbrev pub seen_sink : Sink → Part
seen_sink l = sink_part (sink_at l.stand l.port.site.0) l.port.site.0 l.port.ticket (sink_rest l.port.medium l.stand l.port.site.0)

abbrev pub SinkFits : SinkStand → Medium → Option Ticket → ℕ → Type 0
SinkFits Fresh m k s = k ≡ None
SinkFits Opening m k s = (m ≡ File) × (k ≡ None)
SinkFits Waiting m k s = IsOpenAt m k s
SinkFits Writing m k s = IsOpenAt m k s
SinkFits Closing m k s = k ≡ None
SinkFits Over m k s = k ≡ None

abbrev pub sink_fits : Sink → Type 0
sink_fits l = SinkFits l.stand l.port.medium l.port.ticket l.port.site.0

abbrev pub IsSinkPlace : Medium → Place → Type 0
IsSinkPlace File p = (name : List ℕ) × (p ≡ WritesFile name)
IsSinkPlace Standard p = p ≡ WritesOutput

-- where the sites have these places, the sink writes what its own is
abbrev pub SinkWrites : Sink → (ℕ → Place) → Type 0
SinkWrites l place = IsSinkPlace l.port.medium (place l.port.site.0)
