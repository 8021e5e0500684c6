-- What is seen of a part, and what each input and each move say of it.
use Rattle.std.specs.Prelude.{◌≡◌, ℕ, ◌==◌, ◌<◌, ◌≤◌, ◌+◌, max, Bool, true, false, ◌||◌, List, [], ◌∷◌, ◌++◌, length, map, Option, Some, None}
use Rattle.cd_elem.specs.Limits.{chunk_limit}
use Rattle.cd_elem.specs.declared.kind.Kind.{Kind}
use Rattle.cd_elem.specs.declared.kind.Kind.TheVariants.{Bytes, Chars, Blocks, Texts}
use Rattle.cd_elem.specs.declared.value.Value.{Value as Result}
use Rattle.cd_elem.specs.declared.fault.Fault.{Fault}
use Rattle.cd_meaning.specs.Stream.{Sort, Item, Elem, Piece, Stop, Decode, End, Ended, Act, Out}
use Rattle.cd_meaning.specs.Run.{Component, restamp}
use Rattle.cd_meaning.specs.Rest.{Rest, Grade, Moves, Asks, Finishes, Stuck}
use Rattle.cd_meaning.specs.Laws.{Rising, less_by}
use Rattle.cd_meaning.specs.RunShapes.{Told, Seen}
use Rattle.cd_meaning.specs.Known.{known}
use Rattle.cd_meaning.specs.Values.{value_meaning}
use Rattle.cd_step.specs.declared.protocol.Input.{Input}
use Rattle.cd_step.specs.declared.protocol.Input.TheVariants.{Start, Chunk as Given, End as TheEnd, Next}
use Rattle.cd_step.specs.declared.protocol.Move.{Move}
use Rattle.cd_step.specs.declared.protocol.Move.TheVariants.{Emit, Need, Done, Fault as Faulted}
use Rattle.cd_step.specs.declared.protocol.Stand.{Stand}
use Rattle.cd_step.specs.declared.protocol.Stand.TheVariants.{Fresh as IsFresh, Wait as IsWait, Gave as HasGiven, Over as IsOver}

-- ---- chunks

-- a sort and the elements' numbers
abbrev pub Chunk : Type 0
Chunk = Sort × List ℕ

abbrev pub items_at : Sort → List ℕ → List Item
items_at Sort.Bytes numbers = map Elem numbers
items_at Sort.Chars numbers = map Elem numbers
items_at Sort.Block numbers = Piece numbers ∷ []
items_at Sort.Text numbers = Piece numbers ∷ []

-- the values of a stream that a chunk holds
abbrev pub items : Chunk → List Item
items c = items_at c.0 c.1

abbrev pub rest_items : Option Chunk → List Item
rest_items None = []
rest_items (Some c) = items c

-- what a value counts: an element 1, a piece its length and 1 more
abbrev pub weigh_item : Item → ℕ
weigh_item (Elem x) = 1
weigh_item (Piece numbers) = length numbers + 1

abbrev pub weigh : List Item → ℕ
weigh [] = 0
weigh (x ∷ xs) = weigh_item x + weigh xs

abbrev pub weight_at : Sort → ℕ → ℕ
weight_at Sort.Bytes n = n
weight_at Sort.Chars n = n
weight_at Sort.Block n = n + 1
weight_at Sort.Text n = n + 1

abbrev pub weight : Chunk → ℕ
weight c = weight_at c.0 (length c.1)

abbrev pub weight_any : Option Chunk → ℕ
weight_any None = 0
weight_any (Some c) = weight c

-- ---- kinds

-- what one chunk of this kind counts at most, its sort, and whether it is one piece
abbrev pub chunk_at : Kind → ℕ
chunk_at Bytes = chunk_limit
chunk_at Chars = chunk_limit
chunk_at (Blocks m) = m + 1
chunk_at (Texts m) = m + 1

abbrev pub sort_at : Kind → Sort
sort_at Bytes = Sort.Bytes
sort_at Chars = Sort.Chars
sort_at (Blocks m) = Sort.Block
sort_at (Texts m) = Sort.Text

abbrev pub pieces_at : Kind → Bool
pieces_at Bytes = false
pieces_at Chars = false
pieces_at (Blocks m) = true
pieces_at (Texts m) = true

-- Where nets of acts are compared: on pieces, and where there is no input, so that they are all 0.
abbrev pub of_pieces : Option Kind → Bool
of_pieces None = true
of_pieces (Some k) = pieces_at k

-- a chunk of this kind
abbrev pub IsChunk : Kind → Chunk → Type 0
IsChunk k c = (0 < length (items c)) × (c.0 ≡ sort_at k) × (weight c ≤ chunk_at k)

-- a chunk of this output or input
abbrev pub IsOf : Option Kind → Chunk → Type 0
IsOf None c = ⊥
IsOf (Some k) c = IsChunk k c

abbrev pub IsGiven : Option Kind → Option Chunk → Type 0
IsGiven k None = Unit {0}
IsGiven k (Some c) = IsOf k c

-- each chunk of the first kind is one of the second
abbrev pub IsWithin : Kind → Kind → Type 0
IsWithin j k = (sort_at j ≡ sort_at k) × (chunk_at j ≤ chunk_at k)

-- an output that a part of this input can read; one that takes nothing reads nothing of it
abbrev pub Meets : Option Kind → Option Kind → Type 0
Meets None k = Unit {0}
Meets (Some j) None = Unit {0}
Meets (Some j) (Some k) = IsWithin j k

-- outputs that come one behind the other: of one sort, and of pieces the larger bound holds of both
abbrev pub Agree : Option Kind → Option Kind → Type 0
Agree None h = Unit {0}
Agree (Some j) None = Unit {0}
Agree (Some j) (Some k) = sort_at j ≡ sort_at k

abbrev pub bound_at : Kind → ℕ
bound_at Bytes = 0
bound_at Chars = 0
bound_at (Blocks m) = m
bound_at (Texts m) = m

abbrev pub larger : Kind → Kind → Kind
larger Bytes k = Bytes
larger Chars k = Chars
larger (Blocks m) k = Blocks (max m (bound_at k))
larger (Texts m) k = Texts (max m (bound_at k))

abbrev pub joined : Option Kind → Option Kind → Option Kind
joined None h = h
joined (Some j) None = Some j
joined (Some j) (Some k) = Some (larger j k)

-- it takes something
abbrev pub Takes : Option Kind → Type 0
Takes None = ⊥
Takes (Some k) = Unit {0}

-- inputs of parts that read one input after each other: each reads it, or nothing
abbrev pub Shares : Option Kind → Option Kind → Type 0
Shares None h = Unit {0}
Shares (Some j) None = Unit {0}
Shares (Some j) (Some k) = j ≡ k

abbrev pub shared : Option Kind → Option Kind → Option Kind
shared None h = h
shared (Some j) h = Some j

-- ---- parts

-- where a part stands in its protocol
pub data At : Type 0 where
  Fresh : At
  Wait : At
  Gave : At
  Opens : ℕ → At
  Reads : ℕ → At
  Writes : At
  Closes : At
  Over : At

abbrev pub part_at : Stand → At
part_at IsFresh = Fresh
part_at IsWait = Wait
part_at HasGiven = Gave
part_at IsOver = Over

pub record Part : Type 0 where
  pub at : At
  -- what the law compares of it; the sites in it
  pub grade : Grade
  pub sites : ℕ → Bool
  -- its output and its input; None where there is none
  pub gives : Option Kind
  pub takes : Option Kind
  -- the bounds of its parts, and for each part one chunk. No step changes these five.
  pub room : ℕ
  -- what its parts hold: what they carry, a chunk that is kept or given back, what is unread
  pub held : ℕ
  -- its live tickets, by site and descriptor
  pub tickets : ℕ → ℕ → Bool
  -- the unread values of the last chunk; 1 once the end was told, else 0
  pub unread : List Item
  pub floor : ℕ
  -- the run of what is left, by what is still to come at its sites
  pub run : Seen → Component

abbrev pub rest : Part → Seen → Rest
rest p z = record { unread = p.unread; floor = p.floor; run = p.run z }

-- ---- what is taken in

-- the input answers the last move
abbrev pub AnswersAt : At → Option Kind → Input → Type 0
AnswersAt s k Start = s ≡ Fresh
AnswersAt s k (Given c) = (s ≡ Wait) × IsOf k c
AnswersAt s k TheEnd = s ≡ Wait
AnswersAt s k Next = s ≡ Gave

abbrev pub Answers : Part → Input → Type 0
Answers p i = AnswersAt p.at p.takes i

-- the part with the input taken in
abbrev pub fed : Input → Part → Part
fed Start p = p
fed (Given c) p = record {
  at = p.at;
  grade = p.grade;
  sites = p.sites;
  gives = p.gives;
  takes = p.takes;
  room = p.room;
  held = p.held + weight c;
  tickets = p.tickets;
  unread = p.unread ++ items c;
  floor = 0;
  run = λ z ys e. restamp (less_by (length (items c))) (p.run z (items c ++ ys) e);
}
fed TheEnd p = record {
  at = p.at;
  grade = p.grade;
  sites = p.sites;
  gives = p.gives;
  takes = p.takes;
  room = p.room;
  held = p.held;
  tickets = p.tickets;
  unread = p.unread;
  floor = 1;
  run = λ z ys e. p.run z [] Ended;
}
fed Next p = p

-- ---- what a move says

abbrev pub outs_of : Chunk → List Act
outs_of c = map Out (items c)

-- with these acts p goes on as q
abbrev pub Goes_on : List Act → Part → Part → Type 0
Goes_on acts p q = (z : Seen) → Moves p.grade acts (rest p z) (rest q z)

pub record Acting (acts : List Act) (at : At) (p q : Part) : Type 0 where
  pub is_at : q.at ≡ at
  pub goes : Goes_on acts p q

pub record Needs (p q : Part) : Type 0 where
  pub is_at : q.at ≡ Wait
  pub takes : Takes p.takes
  pub goes : Goes_on [] p q
  pub none_unread : q.unread ≡ []
  pub asks : (z : Seen) → Asks (rest q z)

pub record Ends (v : Result) (r : Option Chunk) (p q : Part) : Type 0 where
  pub is_at : q.at ≡ Over
  pub floor : q.floor ≡ p.floor
  pub given : IsGiven p.takes r
  -- what is given back stood in the part's room
  pub left : q.held + weight_any r ≤ q.room
  pub finishes : (z : Seen) → Finishes p.grade (value_meaning v) (rest_items r) (rest p z)

pub record Faults (f : Fault) (p q : Part) : Type 0 where
  pub is_at : q.at ≡ Over
  pub stuck : (z : Seen) → Stuck (Stop (Decode f)) (rest p z)

-- the move is the next step of p, and q is the part after it
abbrev pub Goes : Move → Part → Part → Type 0
Goes (Emit d) p q = IsOf p.gives d × Acting (outs_of d) Gave p q
Goes Need p q = Needs p q
Goes (Done v r) p q = Ends v r p q
Goes (Faulted f) p q = Faults f p q

-- ---- what every step keeps

-- q has no ticket that p has not
abbrev pub Had : Part → Part → Type 0
Had p q = (s d : ℕ) → q.tickets s d ≡ true → p.tickets s d ≡ true

-- What no step changes, one that is refused for want of memory neither. It is a product, so that it computes on a part
-- with its input taken in.
abbrev pub Kept : Part → Part → Type 0
Kept p q = (q.grade ≡ p.grade) × (q.sites ≡ p.sites) × (q.gives ≡ p.gives) × (q.takes ≡ p.takes) × (q.room ≡ p.room) × Had p q

-- it holds what its bounds allow, after a refusal too
abbrev pub IsHeld : Part → Type 0
IsHeld p = p.held ≤ p.room

-- the step law
pub record Stepped (p : Part) (i : Input) (m : Move) (q : Part) : Type 0 where
  pub goes : Goes m (fed i p) q
  pub kept : Kept (fed i p) q

-- facts of every part
pub record IsSound (p : Part) : Type 0 where
  -- it reads its own sites alone
  pub local : (s : ℕ) → p.sites s ≡ false → (w : Told) (z : Seen) → p.run (known s w z) ≡ p.run z
  pub rising : (z : Seen) (ys : List Item) (e : End) → Rising p.floor (p.run z ys e)
  -- what is unread is counted
  pub counts : weigh p.unread ≤ p.held
  -- where its input is of pieces, or it has none, the nets of all acts are compared
  pub graded : p.grade.pieces ≡ of_pieces p.takes
  -- its tickets are of its own sites
  pub own : (s d : ℕ) → p.tickets s d ≡ true → p.sites s ≡ true

-- a part that has not begun
pub record IsUnbegun (p : Part) : Type 0 where
  pub is_at : p.at ≡ Fresh
  pub floor : p.floor ≡ 0
  pub unread : p.unread ≡ []

-- ---- wholes of two parts

abbrev pub both_sites : (ℕ → Bool) → (ℕ → Bool) → ℕ → Bool
both_sites a b s = a s || b s

abbrev pub both_tickets : (ℕ → ℕ → Bool) → (ℕ → ℕ → Bool) → ℕ → ℕ → Bool
both_tickets a b s d = a s d || b s d

-- no site stands in both
abbrev pub AreApart : (ℕ → Bool) → (ℕ → Bool) → Type 0
AreApart a b = (s : ℕ) → a s ≡ true → b s ≡ false

-- the site that a part waits for a read of
abbrev pub site : At → ℕ
site (Reads s) = s
site (Opens s) = 0
site Closes = 0
site Fresh = 0
site Wait = 0
site Gave = 0
site Writes = 0
site Over = 0

abbrev pub IsReads : At → Type 0
IsReads (Reads s) = Unit {0}
IsReads (Opens s) = ⊥
IsReads Closes = ⊥
IsReads Fresh = ⊥
IsReads Wait = ⊥
IsReads Gave = ⊥
IsReads Writes = ⊥
IsReads Over = ⊥

-- an answer to one of its sites is waited for
abbrev pub IsOutAt : At → (ℕ → Bool) → Type 0
IsOutAt (Reads s) sites = sites s ≡ true
IsOutAt (Opens s) sites = sites s ≡ true
IsOutAt Closes sites = Unit {0}
IsOutAt Fresh sites = ⊥
IsOutAt Wait sites = ⊥
IsOutAt Gave sites = ⊥
IsOutAt Writes sites = Unit {0}
IsOutAt Over sites = ⊥

pub record IsWaiting (b : Part) : Type 0 where
  pub is_at : b.at ≡ Wait
  pub takes : Takes b.takes
  pub none_unread : b.unread ≡ []
  pub asks : (z : Seen) → Asks (rest b z)
  pub held : IsHeld b
