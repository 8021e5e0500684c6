-- A word's step is that of its node.
use Rattle.std.proofs.Common.{◌≡◌, ℕ, [], refl}
use Rattle.cd_meaning.specs.Places.{Place, Reads, ReadsInput, Writes, WritesOutput}
use Rattle.cd_step.specs.declared.protocol.Input.{Input}
use Rattle.cd_step.specs.declared.protocol.Move.{Move}
use Rattle.cd_step.specs.Parts.{fed, Stepped}
use Rattle.cd_node.specs.Nodes.{NodeStepped, fed_node}
use Rattle.cd_node.specs.PlainWords.{node_input, node_move}
use Rattle.cd_node.specs.Sinks.{IsSinkPlace, SinkWrites, seen_sink}
use Rattle.cd_node.specs.Sources.{IsSourcePlace, SourceReads, seen_source}
use Rattle.cd_node.specs.Trees.{StandsAt, seen}
use Rattle.cd_node.specs.Turns.{StepsOn}
use Rattle.cd_node.specs.WordStages.{seen_word}
use Rattle.cd_node.specs.declared.node.Node.{Node}
use Rattle.cd_node.specs.declared.node.Node.TheVariants as node
use Rattle.cd_node.specs.declared.port.Medium.{Medium}
use Rattle.cd_node.specs.declared.port.Medium.TheVariants.{File, Standard}
use Rattle.cd_node.specs.declared.protocol.NodeInput.{NodeInput}
use Rattle.cd_node.specs.declared.protocol.NodeMove.{NodeMove}
use Rattle.cd_node.specs.declared.sink.Sink.{Sink}
use Rattle.cd_node.specs.declared.source.Source.{Source}
use Rattle.cd_node.specs.declared.word.WordStage.{WordStage}
use Rattle.cd_node.proofs.PlainWords.{fed_plain, steps_plain}

pub word_law : (n : Node) (e f : WordStage) (j : NodeInput) (i : Input) (m : Move) (k : NodeMove) → n ≡ node.Word e → j ≡ node_input i → k ≡ node_move m → Stepped (seen_word e) i m (seen_word f)
    → StepsOn (StandsAt n) k (fed_node j (seen n)) (seen_word f)
word_law n e f j i m k x y z h = rw (x, y, z, fed_plain i (seen_word e)) (steps_plain (StandsAt (node.Word e)) m (fed i (seen_word e)) (seen_word f) h.goes)

-- some place is one that the word reads or writes
source_place : (m : Medium) → (x : Place) × IsSourcePlace m x
source_place File = (Reads [], ([], refl))
source_place Standard = (ReadsInput, refl)

sink_place : (m : Medium) → (x : Place) × IsSinkPlace m x
sink_place File = (Writes [], ([], refl))
sink_place Standard = (WritesOutput, refl)

pub source_law : (n : Node) (l k : Source) (j : NodeInput) (m : NodeMove) → n ≡ node.Source l → ((place : ℕ → Place) → SourceReads l place → NodeStepped place (seen_source l) j m (seen_source k))
    → StepsOn (StandsAt n) m (fed_node j (seen n)) (seen_source k)
source_law n l k j m e h = rw e (let x = source_place l.port.medium in record { some = (λ s. x.0, h (λ s. x.0) x.1); all = h })

pub sink_law : (n : Node) (l k : Sink) (j : NodeInput) (m : NodeMove) → n ≡ node.Sink l → ((place : ℕ → Place) → SinkWrites l place → NodeStepped place (seen_sink l) j m (seen_sink k))
    → StepsOn (StandsAt n) m (fed_node j (seen n)) (seen_sink k)
sink_law n l k j m e h = rw e (let x = sink_place l.port.medium in record { some = (λ s. x.0, h (λ s. x.0) x.1); all = h })
