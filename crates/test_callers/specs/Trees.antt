-- What holds of a tree before it is stepped, and of what answers its moves.
use Rattle.std.specs.Prelude.{◌≡◌, ℕ, true, false, List, Some, Result, Ok, Err, Contains}
use Rattle.cd_elem.specs.declared.kind.Kind.TheVariants.{Bytes}
use Rattle.cd_elem.specs.declared.script.Stmt.{Stmt}
use Rattle.cd_meaning.specs.Places.{Place, place_in}
use Rattle.cd_meaning.specs.Scripts.{script_places}
use Rattle.cd_meaning.specs.Stream.{Sort}
use Rattle.cd_typed.specs.TypedScripts.{IsTyped}
use Rattle.cd_typed.specs.declared.typed.Typed.{Typed}
use Rattle.cd_step.specs.Parts.{Part}
use Rattle.cd_scope.specs.Calls.{held_at}
use Rattle.cd_scope.specs.Table.{IsHeldBy}
use Rattle.cd_scope.specs.Uses.{HasFile, ReadsAt, WritesAt}
use Rattle.cd_scope.specs.declared.table.Held.{Held}
use Rattle.cd_node.specs.Makes.{IsUnstarted}
use Rattle.cd_node.specs.Nodes.{AnswersNode, AreHeld, fed_node}
use Rattle.cd_node.specs.Trees.{IsWell, StandsAt, seen}
use Rattle.cd_node.specs.declared.node.Node.{Node}
use Rattle.cd_node.specs.declared.protocol.NodeMove.{NodeMove}
use Rattle.cd_node.specs.declared.protocol.NodeMove.TheVariants.{Emit, Need, Acquire, Read, Write, Release, Done, Fault}
use Rattle.test_callers.specs.Leaves.{IsOnBytes}
use Rattle.test_callers.specs.declared.lines.StepError.{StepError}
use Rattle.test_callers.specs.declared.byte_trees.OnBytes.{OnBytes}
use Rattle.test_callers.specs.declared.tree_runs.Answer.{Answer}
use Rattle.test_callers.specs.declared.tree_runs.Answer.TheVariants as answers
use Rattle.test_callers.specs.declared.trees.Tree.{Tree}

-- it is the typing of a script
abbrev pub has_type : Typed → Type 0
has_type typed = (script : List Stmt) × IsTyped script typed

-- it has not begun, and takes bytes or nothing
pub record IsReadyNode (n : Node) : Type 0 where
  pub well : IsWell n
  pub unstarted : IsUnstarted (seen n)
  pub on_bytes : IsOnBytes (seen n).takes

-- each word with a site stands at that of the script
abbrev pub is_ready : Tree → Type 0
is_ready tree = IsReadyNode tree.node × ((script : List Stmt) × IsTyped script tree.typed × StandsAt tree.node (place_in (script_places script)))

-- it reads bytes and reaches no site; where it may stand before another one, what it gives back is compared
pub record IsByteNode (b : OnBytes) : Type 0 where
  pub well : IsWell b.node
  pub unstarted : IsUnstarted (seen b.node)
  pub takes : (seen b.node).takes ≡ Some Bytes
  pub gives : IsOnBytes (seen b.node).gives
  pub pieces : (seen b.node).grade.pieces ≡ false
  pub exact : b.exact ≡ true → (seen b.node).grade.exact ≡ true
  pub sites : (s : ℕ) → (seen b.node).sites s ≡ false
  pub places : (place : ℕ → Place) → StandsAt b.node place

-- what a move asks of the outside may be done there
abbrev pub MayBeDone : List Held → (ℕ → Place) → NodeMove → Type 0
MayBeDone table place (Emit d) = Unit {0}
MayBeDone table place Need = Unit {0}
MayBeDone table place (Acquire s) = HasFile (place s.0)
MayBeDone table place (Read s d) = ReadsAt (place s.0) d.0 (Contains table (held_at s.0 d))
MayBeDone table place (Write s d c) = (c.0 ≡ Sort.Bytes) × WritesAt (place s.0) d.0 (Contains table (held_at s.0 d))
MayBeDone table place (Release t) = IsHeldBy t table
MayBeDone table place (Done v r) = Unit {0}
MayBeDone table place (Fault f) = Unit {0}

-- the next input answers the move, and the scope made each ticket
abbrev pub IsAnswered : List Held → Part → Result Answer StepError → Type 0
IsAnswered table q (Ok (answers.Next i)) = AnswersNode q i × AreHeld table (fed_node i q)
IsAnswered table q (Ok answers.Waits) = AreHeld table q
IsAnswered table q (Ok answers.Over) = AreHeld table q
IsAnswered table q (Err e) = AreHeld table q
