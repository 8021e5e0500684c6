-- What holds of a word with a site while it is stepped by hand.
use Rattle.std.specs.Prelude.{◌≡◌, ℕ, List, Option, Some, None, Result, Ok, Err}
use Rattle.cd_elem.specs.declared.kind.Kind.{Kind}
use Rattle.cd_elem.specs.declared.kind.Kind.TheVariants.{Bytes}
use Rattle.cd_meaning.specs.Places.{Place}
use Rattle.cd_typed.specs.declared.site.SiteUse.{SiteUse}
use Rattle.cd_typed.specs.declared.site.SiteUse.TheVariants as uses
use Rattle.cd_step.specs.Parts.{Part}
use Rattle.cd_scope.specs.Table.{IsHeldBy}
use Rattle.cd_scope.specs.Uses.{HasFile}
use Rattle.cd_scope.specs.declared.table.Held.{Held}
use Rattle.cd_node.specs.Nodes.{AnswersNode, AreHeld, fed_node}
use Rattle.cd_node.specs.Sinks.{SinkWrites, seen_sink, sink_fits}
use Rattle.cd_node.specs.Sources.{SourceReads, seen_source, source_fits}
use Rattle.cd_node.specs.declared.protocol.NodeInput.{NodeInput}
use Rattle.cd_node.specs.declared.protocol.NodeInput.TheVariants as given
use Rattle.cd_node.specs.declared.protocol.NodeMove.{NodeMove}
use Rattle.cd_node.specs.declared.protocol.NodeMove.TheVariants.{Emit, Need, Acquire, Read, Write, Release, Done, Fault}
use Rattle.test_callers.specs.declared.lines.StepError.{StepError}
use Rattle.test_callers.specs.declared.leaf_runs.Leaf.{Leaf}
use Rattle.test_callers.specs.declared.leaf_runs.Leaf.TheVariants as leaf
use Rattle.test_callers.specs.declared.leaf_runs.LeafWord.{LeafWord}
use Rattle.test_callers.specs.declared.leaf_runs.LeafWord.TheVariants.{SourceFile, Stdin, SinkFile, Stdout}

abbrev pub word_use : LeafWord → SiteUse
word_use SourceFile = uses.Reading
word_use Stdin = uses.Stdin
word_use SinkFile = uses.Writing
word_use Stdout = uses.Stdout

abbrev pub seen_leaf : Leaf → Part
seen_leaf (leaf.Source l) = seen_source l
seen_leaf (leaf.Sink l) = seen_sink l

abbrev pub leaf_fits : Leaf → Type 0
leaf_fits (leaf.Source l) = source_fits l
leaf_fits (leaf.Sink l) = sink_fits l

abbrev pub leaf_stands : Leaf → (ℕ → Place) → Type 0
leaf_stands (leaf.Source l) place = SourceReads l place
leaf_stands (leaf.Sink l) place = SinkWrites l place

-- it takes bytes, or nothing
abbrev pub IsOnBytes : Option Kind → Type 0
IsOnBytes None = Unit {0}
IsOnBytes (Some k) = k ≡ Bytes

-- a file that is to be opened is one, and the ticket that is given up is of the scope
abbrev pub MayAnswer : List Held → Place → NodeMove → Type 0
MayAnswer table place (Emit d) = Unit {0}
MayAnswer table place Need = Unit {0}
MayAnswer table place (Acquire s) = HasFile place
MayAnswer table place (Read s d) = Unit {0}
MayAnswer table place (Write s d c) = Unit {0}
MayAnswer table place (Release t) = IsHeldBy t table
MayAnswer table place (Done v r) = Unit {0}
MayAnswer table place (Fault f) = Unit {0}

-- the next input answers the move, and the scope made each ticket
abbrev pub AnswersMove : List Held → Part → Result (Option NodeInput) StepError → Type 0
AnswersMove table q (Ok (Some i)) = AnswersNode q i × AreHeld table (fed_node i q)
AnswersMove table q (Ok None) = AreHeld table q
AnswersMove table q (Err e) = AreHeld table q

abbrev pub IsInputHeld : List Held → NodeInput → Type 0
IsInputHeld table given.Start = Unit {0}
IsInputHeld table (given.Chunk c) = Unit {0}
IsInputHeld table given.End = Unit {0}
IsInputHeld table given.Next = Unit {0}
IsInputHeld table (given.Acquired t) = IsHeldBy t table
IsInputHeld table (given.Gave c) = Unit {0}
IsInputHeld table given.GaveEnd = Unit {0}
IsInputHeld table given.Wrote = Unit {0}
IsInputHeld table given.Closed = Unit {0}
