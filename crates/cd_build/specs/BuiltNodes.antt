-- What holds of nodes that are built.
use Rattle.std.specs.Prelude.{◌≡◌, ◌⊎◌, ℕ, ◌+◌, true, false, List, [], length, Some, None}
use Rattle.cd_elem.specs.declared.script.Pipe.{Pipe}
use Rattle.cd_elem.specs.declared.script.Stmt.{Stmt}
use Rattle.cd_meaning.specs.Meaning.{Meaning}
use Rattle.cd_elem.specs.declared.word.Word.{Word}
use Rattle.cd_meaning.specs.Places.{Place}
use Rattle.cd_meaning.specs.RunShapes.{Seen}
use Rattle.cd_meaning.specs.Stream.{End, Item}
use Rattle.cd_meaning.specs.WordMeanings.{word_meaning}
use Rattle.cd_node.specs.Makes.{IsUnstarted}
use Rattle.cd_node.specs.Trees.{IsWell, StandsAt, bound_of, seen}
use Rattle.cd_node.specs.declared.node.Node.{Node}
use Rattle.cd_step.specs.Parts.{of_pieces}
use Rattle.cd_typed.specs.TypedScripts.{IsTyped}
use Rattle.cd_typed.specs.declared.typed.Typed.{Typed}
use Rattle.cd_types.specs.Flows.{Flow, sort_in}
use Rattle.cd_types.specs.Flows as flows
use Rattle.cd_types.specs.Numbering.{StandFrom, numbered}
use Rattle.cd_types.specs.Parts.{Part as TypedPart}
use Rattle.cd_types.specs.WordTypes.{is_source, word_bound, word_gives}
use Rattle.cd_build.specs.Built.{IsBuilt}
use Rattle.cd_build.specs.Builds.{IsBuiltAs}
use Rattle.cd_build.specs.declared.pipes.Built.{Built}

-- The node is that of a part with this meaning, for what comes to it, where its first site has this number.
pub record IsBuiltNode (a : TypedPart) (m : Meaning) (f : Flow) (site : ℕ) (n : Node) : Type 0 where
  pub well : IsWell n
  pub unstarted : IsUnstarted (seen n)
  pub is_as : IsBuiltAs a m f site (seen n)
  pub bound : bound_of n ≡ flows.bound_of (a.types f)
  pub places : (place : ℕ → Place) → StandFrom place site m.places → StandsAt n place

-- with what it gives, and the number of the site behind it
pub record IsBuiltPart (a : TypedPart) (m : Meaning) (f : Flow) (site : ℕ) (b : Built) : Type 0 where
  pub node : IsBuiltNode a m f site b.node
  pub gives : b.gives ≡ (a.type f).to
  pub next : b.next ≡ site + length m.places

-- ---- words

-- The node is that of a word which is no site, for what comes to it.
pub record IsWordNode (w : Word) (f : Flow) (n : Node) : Type 0 where
  pub siteless : (word_meaning w).places ≡ []
  pub well : IsWell n
  pub unstarted : IsUnstarted (seen n)
  pub gives : (seen n).gives ≡ word_gives w f
  pub takes : ((seen n).takes ≡ None) ⊎ ((seen n).takes ≡ f)
  pub idle : is_source w ≡ true → (seen n).takes ≡ None
  pub pieces : (seen n).grade.pieces ≡ of_pieces (seen n).takes
  pub exact : (seen n).grade.exact ≡ true
  pub sites : (t : ℕ) → (seen n).sites t ≡ false
  pub places : (place : ℕ → Place) → StandsAt n place
  pub bound : bound_of n ≡ word_bound w f
  pub means : (z : Seen) (site : ℕ) (told : Seen) (xs : List Item) (end : End) → (seen n).run z xs end ≡ (word_meaning w).run (sort_in f) site told xs end

-- ---- statements

-- the statement with this number runs a pipe that is built
pub record RunsBuilt (typed : Typed) (statement : ℕ) : Type 0 where
  pub script : List Stmt
  pub pipe : Pipe
  pub is_typed : IsTyped script typed
  pub runs : numbered script statement ≡ Some (Stmt.Run pipe)
  pub is_built : IsBuilt pipe

-- of each script that this is the typing of, and the pipe that its statement runs
abbrev pub OfRun : Typed → ℕ → (List Stmt → Pipe → Type 0) → Type 0
OfRun typed statement P = (script : List Stmt) (p : Pipe) → IsTyped script typed → numbered script statement ≡ Some (Stmt.Run p) → P script p
