-- What a controller owes after a move of one of its parts.
use Rattle.std.specs.Prelude.{◌≡◌, ◌<◌, ◌≤◌, ◌+◌, ℕ, Bool, true, false, [], ◌++◌, length, Option, Some, None}
use Rattle.cd_elem.specs.Chunks.{HasSize}
use Rattle.cd_elem.specs.declared.kind.Kind.{Kind}
use Rattle.cd_elem.specs.declared.value.Value.{Value as Result}
use Rattle.cd_meaning.specs.Stream.{Value, absent, present}
use Rattle.cd_meaning.specs.Fusion.{both}
use Rattle.cd_meaning.specs.Values.{value_meaning}
use Rattle.cd_step.specs.Parts.{Chunk, Part, Answers, fed, Goes, Goes_on, Kept, IsHeld, IsGiven, rest_items, weight_any, Over}
use Rattle.cd_step.specs.declared.control.Side.{Side}
use Rattle.cd_step.specs.declared.control.Side.TheVariants.{Upper, Lower}
use Rattle.cd_step.specs.declared.control.Turn.{Turn}
use Rattle.cd_step.specs.declared.control.Turn.TheVariants.{Up, Down}
use Rattle.cd_step.specs.declared.control.Made.{Made}
use Rattle.cd_step.specs.declared.control.Made.TheVariants.{One, Both, Early, Late}
use Rattle.cd_step.specs.declared.control.Found.{Found}
use Rattle.cd_step.specs.declared.control.Found.TheVariants.{Own, AtUpper, AtLower}
use Rattle.cd_step.specs.declared.control.Flow.{Flow}
use Rattle.cd_step.specs.declared.control.Flow.TheVariants.{Again, Return, Finish, Glue}
use Rattle.cd_step.specs.declared.protocol.Input.{Input}
use Rattle.cd_step.specs.declared.protocol.Input.TheVariants.{Start, Chunk as Given, End as TheEnd, Next}
use Rattle.cd_step.specs.declared.protocol.Move.{Move}
use Rattle.cd_step.specs.declared.protocol.Move.TheVariants.{Emit, Need, Done, Fault as Faulted}

-- with no act, p goes on as q
pub record Same (p q : Part) : Type 0 where
  pub goes : Goes_on [] p q
  pub kept : Kept p q

-- p goes on by this turn. C is the controller's type.
abbrev pub TurnLaw : {C : Type 0} → (C → Part → Part → Part) → (Side → C → Part → Part → Type 0) → Part → Turn → C → Part → Part → Type 0
TurnLaw whole fits p (Up i) c a b = Answers a i × fits Upper c (fed i a) b × Same p (whole c (fed i a) b)
TurnLaw whole fits p (Down i) c a b = Answers b i × fits Lower c a (fed i b) × Same p (whole c a (fed i b))

abbrev pub turns_left : {C : Type 0} → (Side → C → Part → Part → ℕ) → Turn → C → Part → Part → ℕ
turns_left left (Up i) c a b = left Upper c (fed i a) b
turns_left left (Down i) c a b = left Lower c a (fed i b)

-- ---- the end of a whole

abbrev pub made_of : Made → Value
made_of (One v) = value_meaning v
made_of (Both u v) = both (value_meaning u) (value_meaning v)
made_of (Early v) = Value.Pair absent (value_meaning v)
made_of (Late u v) = Value.Pair (present (value_meaning u)) (value_meaning v)

-- q is what is left of a part that takes no further step
abbrev pub Retired : Part → Part → Type 0
Retired p q = (q.floor ≡ p.floor) × Kept p q × (q.held ≤ p.held)

abbrev pub IsOver : Part → Type 0
IsOver p = p.at ≡ Over

-- a part that is retired gives back what it has not read; that stood in it
abbrev pub Retires : Part → Option Chunk → Part → Type 0
Retires p r q = (q.floor ≡ p.floor) × Kept p q × (q.held + weight_any r ≤ p.held) × ((IsOver p → ⊥) → (rest_items r ≡ p.unread) × IsGiven p.takes r)

-- it has not ended, so that what it has not read is there
abbrev pub IsThere : Found → Part → Part → Type 0
IsThere (Own r) a b = Unit {0}
IsThere AtUpper a b = IsOver a → ⊥
IsThere AtLower a b = IsOver b → ⊥

-- r is what stands there; a' and b' are the parts without it
abbrev pub IsBack : Found → Part → Part → Part → Part → Option Chunk → Type 0
IsBack (Own s) a b a' b' r = r ≡ s
IsBack AtUpper a b a' b' r = (rest_items r ≡ a.unread) × IsGiven a.takes r × (a'.held + weight_any r ≤ a.held)
IsBack AtLower a b a' b' r = (rest_items r ≡ b.unread) × IsGiven b.takes r × (b'.held + weight_any r ≤ b.held)

-- what a part of the first input gives back is of the second
abbrev pub GivesBack : Option Kind → Option Kind → Type 0
GivesBack j k = (r : Option Chunk) → IsGiven j r → IsGiven k r

-- what w has not read stands there
abbrev pub IsFound : Found → Part → Part → Part → Type 0
IsFound (Own r) w a b = (rest_items r ≡ w.unread) × IsGiven w.takes r
IsFound AtUpper w a b = (a.unread ≡ w.unread) × GivesBack a.takes w.takes × (IsOver a → ⊥)
IsFound AtLower w a b = (b.unread ≡ w.unread) × GivesBack b.takes w.takes × (IsOver b → ⊥)

abbrev pub picked : Found → Option Chunk → Option Chunk → Option Chunk
picked (Own r) up down = r
picked AtUpper up down = up
picked AtLower up down = down

-- where no step follows: what is left of the whole, and where what it has not read stands, also while a part is out
abbrev pub RetireLaw : {C : Type 0} → (C → Part → Part → Part) → (C → Part → Part → Type 0) → (Side → C → Part → Part → Type 0) → C → Found → C → Part → Part → Type 0
RetireLaw whole is_at fits c f c' a b =
    ((a' b' : Part) (ra rb : Option Chunk) → Retires a ra a' → Retires b rb b' →
    ((whole c' a' b').floor ≡ (whole c a b).floor) × Kept (whole c a b) (whole c' a' b') × ((whole c' a' b').held + weight_any (picked f ra rb) ≤ (whole c a b).held) × is_at c' a' b')
    × (is_at c a b → (IsOver (whole c a b) → ⊥) → IsFound f (whole c a b) a b)
    × (fits Upper c a b → (IsOver a → ⊥) → IsFound f (whole c a b) a b)
    × (fits Lower c a b → (IsOver b → ⊥) → IsFound f (whole c a b) a b)

-- ---- what a whole may answer at once: all but its end

abbrev pub Says : Move → Part → Part → Type 0
Says (Emit d) p q = Goes (Emit d) p q
Says Need p q = Goes Need p q
Says (Done v r) p q = ⊥
Says (Faulted x) p q = Goes (Faulted x) p q

-- ---- one chunk of two

abbrev pub IsGlued : Chunk → Chunk → Chunk → Type 0
IsGlued x y d = (d.1 ≡ x.1 ++ y.1) × (d.0 ≡ x.0)

-- p goes on by another turn, or its move is this one; n bounds the turns that may still come.
-- The two last facts of an end hold before its parts are retired: its value may be refused for want of memory.
abbrev pub FlowLaw : {C : Type 0} → (C → Part → Part → Part) → (C → Part → Part → Type 0) → (Side → C → Part → Part → Type 0) → (Side → C → Part → Part → ℕ) → Part → ℕ → C → Flow → Part → Part → Type 0
FlowLaw whole is_at fits left p n c (Again turn) a b = TurnLaw whole fits p turn c a b × (turns_left left turn c a b < n)
FlowLaw whole is_at fits left p n c (Return m) a b = Says m p (whole c a b) × is_at c a b × Kept p (whole c a b) × IsHeld (whole c a b)
FlowLaw whole is_at fits left p n c (Finish m f) a b =
    IsThere f a b
    × ((w : Result) (r : Option Chunk) (a' b' : Part) → value_meaning w ≡ made_of m → IsBack f a b a' b' r → Retired a a' → Retired b b' → Goes (Done w r) p (whole c a' b') × is_at c a' b' × Kept p (whole c a' b') × IsHeld (whole c a' b'))
    × Kept p (whole c a b) × IsHeld (whole c a b)
FlowLaw whole is_at fits left p n c (Glue x y) a b =
    (y.0 ≡ x.0) × HasSize x.0 (length x.1 + length y.1) × ((d : Chunk) → IsGlued x y d → Goes (Emit d) p (whole c a b)) × is_at c a b × Kept p (whole c a b) × IsHeld (whole c a b)

-- ---- copies

abbrev pub IsCopy : Chunk → Option Chunk → Type 0
IsCopy c None = ⊥
IsCopy c (Some d) = d ≡ c

abbrev pub IsCopied : Bool → Input → Option Chunk → Type 0
IsCopied true (Given c) r = IsCopy c r
IsCopied true Start r = Unit {0}
IsCopied true TheEnd r = Unit {0}
IsCopied true Next r = Unit {0}
IsCopied false i r = Unit {0}
