-- What the steps of a walk answer.
use Rattle.std.specs.Prelude.{◌≡◌, ℕ, ◌+◌, List, [], ◌∷◌, ◌++◌, length, map, Result, Ok, Err}
use Rattle.cd_types.specs.Flows.{Flow, PartType as PartTypeOf}
use Rattle.cd_types.specs.Moments.{Moment}
use Rattle.cd_types.specs.Parts.{Part}
use Rattle.cd_part_types.specs.declared.part_type.PartType.{PartType}
use Rattle.cd_part_types.specs.Types.{type_of}
use Rattle.cd_typed.specs.Sites.{site_of}
use Rattle.cd_typing.specs.declared.refusal.CheckRefusal.{CheckRefusal}
use Rattle.cd_typing.specs.declared.walk.Walk.{Walk}
use Rattle.cd_typing.specs.Spots.{Spot, Passes, Stops}

abbrev pub spot : Walk → Spot
spot w = record { sites = map site_of w.sites; total = w.total }

-- the types of the parts of the statement so far
abbrev pub types_of : Walk → List PartTypeOf
types_of w = map type_of w.parts.items

-- moments are passed, or end in a refusal
abbrev pub Moves : {A : Type 0} → Spot → List Moment → Spot → Result A CheckRefusal → Type 0
Moves from ms to (Ok a) = Passes from ms to
Moves from ms to (Err x) = Stops from ms x

-- the types of the parts in a part, without its own
abbrev pub inner_types : List PartTypeOf → List PartTypeOf
inner_types [] = []
inner_types (t ∷ more) = more

-- Where a part begins: the numbers of its statement and of itself, what comes to it, what the walk has reached, and the types of the parts in front of those in it.
pub record Start : Type 0 where
  pub statement : ℕ
  pub part : ℕ
  pub flow : Flow
  pub from : Spot
  pub types : List PartTypeOf

abbrev pub start_at : ℕ → ℕ → Flow → Spot → List PartTypeOf → Start
start_at s n f from types = record { statement = s; part = n; flow = f; from = from; types = types }

abbrev pub start : ℕ → ℕ → Flow → Walk → Start
start s n f old = start_at s n f (spot old) (types_of old)

abbrev pub moments_of : Part → Start → List Moment
moments_of a p = a.moments p.statement p.part p.flow

-- A part has its type, and the parts in it have theirs.
pub record Types (a : Part) (p : Start) (new : Walk) (t : PartType) : Type 0 where
  pub typed : type_of t ≡ a.type p.flow
  pub passed : Passes p.from (moments_of a p) (spot new)
  pub headed : a.types p.flow ≡ a.type p.flow ∷ inner_types (a.types p.flow)
  pub inside : types_of new ≡ p.types ++ inner_types (a.types p.flow)
  pub counted : length new.parts.items + 1 ≡ p.part + a.size

-- a part has its type, or is refused
abbrev pub Answers : Part → Start → Walk → Result PartType CheckRefusal → Type 0
Answers a p new (Ok t) = Types a p new t
Answers a p new (Err x) = Stops p.from (moments_of a p) x

-- The same of the next part, with its number.
pub record NextTypes (a : Part) (p : Start) (new : Walk) (number : ℕ) (t : PartType) : Type 0 where
  pub numbered : number ≡ p.part
  pub typed : type_of t ≡ a.type p.flow
  pub passed : Passes p.from (moments_of a p) (spot new)
  pub types : types_of new ≡ p.types ++ a.types p.flow
  pub counted : length new.parts.items + 1 ≡ p.part + a.size

abbrev pub NextAnswers : Part → Start → Walk → Result (ℕ × PartType) CheckRefusal → Type 0
NextAnswers a p new (Ok next) = NextTypes a p new next.0 next.1
NextAnswers a p new (Err x) = Stops p.from (moments_of a p) x

-- A part is at its end: it has this type, behind these moments, and no further part has begun.
pub record Ends (type : PartTypeOf) (ms : List Moment) (old new : Walk) (t : PartType) : Type 0 where
  pub typed : type_of t ≡ type
  pub passed : Passes (spot old) ms (spot new)
  pub same : new.parts ≡ old.parts

abbrev pub EndAnswers : PartTypeOf → List Moment → Walk → Walk → Result PartType CheckRefusal → Type 0
EndAnswers type ms old new (Ok t) = Ends type ms old new t
EndAnswers type ms old new (Err x) = Stops (spot old) ms x
