-- The words that speak of no site, as a node has them and as a controller or a stage does.
use Rattle.std.specs.Prelude.{◌≡◌}
use Rattle.cd_step.specs.declared.protocol.Input.{Input}
use Rattle.cd_step.specs.declared.protocol.Input.TheVariants.{Start as PlainStart, Chunk as PlainChunk, End as PlainEnd, Next as PlainNext}
use Rattle.cd_step.specs.declared.protocol.Move.{Move}
use Rattle.cd_step.specs.declared.protocol.Move.TheVariants.{Emit as PlainEmit, Need as PlainNeed, Done as PlainDone, Fault as PlainFault}
use Rattle.cd_node.specs.declared.protocol.NodeInput.{NodeInput}
use Rattle.cd_node.specs.declared.protocol.NodeInput.TheVariants.{Start, Chunk, End, Next, Acquired, Gave, GaveEnd, Wrote, Closed}
use Rattle.cd_node.specs.declared.protocol.NodeMove.{NodeMove}
use Rattle.cd_node.specs.declared.protocol.NodeMove.TheVariants.{Emit, Need, Acquire, Read, Write, Release, Done, Fault}
use Rattle.cd_node.specs.declared.plain.Heard.{Heard}
use Rattle.cd_node.specs.declared.plain.Heard.TheVariants.{Plain as HeardPlain, Site as HeardSite}
use Rattle.cd_node.specs.declared.plain.Said.{Said}
use Rattle.cd_node.specs.declared.plain.Said.TheVariants.{Plain as SaidPlain, Site as SaidSite}

abbrev pub node_input : Input → NodeInput
node_input PlainStart = Start
node_input (PlainChunk c) = Chunk c
node_input PlainEnd = End
node_input PlainNext = Next

abbrev pub node_move : Move → NodeMove
node_move (PlainEmit d) = Emit d
node_move PlainNeed = Need
node_move (PlainDone v r) = Done v r
node_move (PlainFault f) = Fault f

abbrev pub IsPlain : NodeInput → Type 0
IsPlain Start = Unit {0}
IsPlain (Chunk c) = Unit {0}
IsPlain End = Unit {0}
IsPlain Next = Unit {0}
IsPlain (Acquired t) = ⊥
IsPlain (Gave c) = ⊥
IsPlain GaveEnd = ⊥
IsPlain Wrote = ⊥
IsPlain Closed = ⊥

-- it asks something of a site
abbrev pub AsksSite : NodeMove → Type 0
AsksSite (Emit d) = ⊥
AsksSite Need = ⊥
AsksSite (Acquire s) = Unit {0}
AsksSite (Read s d) = Unit {0}
AsksSite (Write s d c) = Unit {0}
AsksSite (Release t) = Unit {0}
AsksSite (Done v r) = ⊥
AsksSite (Fault f) = ⊥

abbrev pub IsHeard : NodeInput → Heard → Type 0
IsHeard j (HeardPlain i) = j ≡ node_input i
IsHeard j (HeardSite k) = (k ≡ j) × (IsPlain j → ⊥)

abbrev pub IsSaid : NodeMove → Said → Type 0
IsSaid n (SaidPlain m) = n ≡ node_move m
IsSaid n (SaidSite k) = (k ≡ n) × AsksSite n
