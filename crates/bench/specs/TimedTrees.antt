-- The trees whose steps are timed, and what answers their moves.
use Rattle.std.specs.Prelude.{◌≡◌, ℕ, ◌==◌, Bool, true, false, [], ◌∷◌, Option, Some, None}
use Rattle.cd_elem.specs.declared.kind.Kind.{Kind}
use Rattle.cd_elem.specs.declared.kind.Kind.TheVariants.{Bytes}
use Rattle.cd_meaning.specs.Places.{Place, ReadsInput, place_in}
use Rattle.cd_step.specs.Parts.{Fresh, IsChunk, both_sites, of_pieces}
use Rattle.cd_node.specs.Makes.{IsUnstarted}
use Rattle.cd_node.specs.Nodes.{HasNoTicket}
use Rattle.cd_node.specs.Trees.{IsWell, StandsAt, seen}
use Rattle.cd_node.specs.declared.node.Node.{Node}
use Rattle.cd_node.specs.declared.protocol.NodeInput.{NodeInput}
use Rattle.cd_node.specs.declared.protocol.NodeInput.TheVariants as given
use Rattle.cd_node.specs.declared.protocol.NodeMove.{NodeMove}
use Rattle.cd_node.specs.declared.protocol.NodeMove.TheVariants.{Emit, Need, Acquire, Read, Write, Release, Done, Fault}
use Rattle.bench.specs.declared.steps.Answer.{Answer}
use Rattle.bench.specs.declared.steps.Answer.TheVariants as answer

-- site 1 is standard input, and each other one standard output
abbrev pub places : ℕ → Place
places = place_in (ReadsInput ∷ [])

abbrev pub no_sites : ℕ → Bool
no_sites t = false

-- ---- how trees are made

-- a tree that has not begun, with its input, its output and its sites
pub record IsMade (takes gives : Option Kind) (sites : ℕ → Bool) (n : Node) : Type 0 where
  pub well : IsWell n
  pub unstarted : IsUnstarted (seen n)
  pub takes_it : (seen n).takes ≡ takes
  pub gives_it : (seen n).gives ≡ gives
  pub pieces : (seen n).grade.pieces ≡ of_pieces takes
  pub exact : (seen n).grade.pieces ≡ true → (seen n).grade.exact ≡ true
  pub own : (t : ℕ) → (seen n).sites t ≡ sites t
  pub stands : StandsAt n places

-- members of a chain that take bytes and give bytes
abbrev pub IsPassing : Node → Type 0
IsPassing n = IsMade (Some Bytes) (Some Bytes) no_sites n

-- the front of a pipeline, which reads standard input, and its back, which writes standard output
abbrev pub front_sites : ℕ → Bool
front_sites = both_sites (λ t. t == 1) no_sites

abbrev pub back_sites : ℕ → Bool
back_sites = both_sites no_sites (λ t. t == 2)

abbrev pub IsFront : Node → Type 0
IsFront n = IsMade None (Some Bytes) front_sites n

abbrev pub IsBack : Node → Type 0
IsBack n = IsMade (Some Bytes) None back_sites n

-- ---- how they are stepped

-- it is of bytes, or of nothing
abbrev pub OnBytes : Option Kind → Type 0
OnBytes None = Unit {0}
OnBytes (Some k) = k ≡ Bytes

-- a tree between two steps, whose sites are standard streams, if it has any
pub record IsTimed (n : Node) : Type 0 where
  pub well : IsWell n
  pub stands : StandsAt n places
  pub no_ticket : HasNoTicket (seen n)
  pub gives : OnBytes (seen n).gives
  pub takes : OnBytes (seen n).takes

-- one that has not begun
abbrev pub IsReady : Node → Type 0
IsReady n = IsTimed n × ((seen n).at ≡ Fresh)

abbrev pub input_of : Answer → NodeInput
input_of answer.Start = given.Start
input_of answer.Next = given.Next
input_of (answer.Chunk c) = given.Chunk c
input_of (answer.Gave c) = given.Gave c
input_of answer.Wrote = given.Wrote

-- a move of such a tree: it opens and closes no file, and gives bytes
abbrev pub IsTimedMove : NodeMove → Type 0
IsTimedMove (Emit d) = IsChunk Bytes d
IsTimedMove Need = Unit {0}
IsTimedMove (Acquire s) = ⊥
IsTimedMove (Read s d) = Unit {0}
IsTimedMove (Write s d c) = Unit {0}
IsTimedMove (Release t) = ⊥
IsTimedMove (Done v r) = Unit {0}
IsTimedMove (Fault f) = Unit {0}
