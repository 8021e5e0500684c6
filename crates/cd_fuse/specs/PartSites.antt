-- What an answer to a site of one part is for a whole of two, in words that hold of every controller. C is its type.
use Rattle.std.specs.Prelude.{◌≡◌, ℕ, List, map, false}
use Rattle.cd_meaning.specs.RunShapes.{Told, Seen}
use Rattle.cd_meaning.specs.Rest.{Stuck}
use Rattle.cd_meaning.specs.Stream.{Do, Effect, Halt}
use Rattle.cd_step.specs.declared.control.Side.{Side}
use Rattle.cd_step.specs.declared.control.Side.TheVariants.{Upper, Lower}
use Rattle.cd_step.specs.Flows.{Same}
use Rattle.cd_step.specs.Parts.{Part, Goes_on, IsSound, rest}
use Rattle.cd_step.specs.Sites.{told, got}

-- the effects of the part on its turn are the whole's
abbrev pub UpperDoes : {C : Type 0} → (C → Part → Part → Part) → (Side → C → Part → Part → Type 0) → Type 0
UpperDoes {C = C} whole fits = (c : C) (a b q : Part) (es : List Effect) → fits Upper c a b → Goes_on (map Do es) a q → Goes_on (map Do es) (whole c a b) (whole c q b)

abbrev pub LowerDoes : {C : Type 0} → (C → Part → Part → Part) → (Side → C → Part → Part → Type 0) → Type 0
LowerDoes {C = C} whole fits = (c : C) (a b q : Part) (es : List Effect) → fits Lower c a b → Goes_on (map Do es) b q → Goes_on (map Do es) (whole c a b) (whole c a q)

-- where the part on its turn goes no further, the whole goes no further
abbrev pub UpperStops : {C : Type 0} → (C → Part → Part → Part) → (Side → C → Part → Part → Type 0) → Type 0
UpperStops {C = C} whole fits = (c : C) (a b : Part) (h : Halt) (z : Seen) → fits Upper c a b → Stuck h (rest a z) → Stuck h (rest (whole c a b) z)

abbrev pub LowerStops : {C : Type 0} → (C → Part → Part → Part) → (Side → C → Part → Part → Type 0) → Type 0
LowerStops {C = C} whole fits = (c : C) (a b : Part) (h : Halt) (z : Seen) → fits Lower c a b → Stuck h (rest b z) → Stuck h (rest (whole c a b) z)

-- What is to come at a site comes to the whole where it comes to the part on its turn, if the other part has not that
-- site; and the part stays on its turn.
abbrev pub UpperIsTold : {C : Type 0} → (C → Part → Part → Part) → (Side → C → Part → Part → Type 0) → Type 0
UpperIsTold {C = C} whole fits = (c : C) (a b : Part) (s : ℕ) (w : Seen → Told) → fits Upper c a b → IsSound b → b.sites s ≡ false
    → fits Upper c (told s w a) b × Same (told s w (whole c a b)) (whole c (told s w a) b)

abbrev pub LowerIsTold : {C : Type 0} → (C → Part → Part → Part) → (Side → C → Part → Part → Type 0) → Type 0
LowerIsTold {C = C} whole fits = (c : C) (a b : Part) (s : ℕ) (w : Seen → Told) → fits Lower c a b → IsSound a → a.sites s ≡ false
    → fits Lower c a (told s w b) × Same (told s w (whole c a b)) (whole c a (told s w b))

-- a ticket that the part on its turn is given is the whole's, and the part stays on its turn
abbrev pub UpperGets : {C : Type 0} → (C → Part → Part → Part) → (Side → C → Part → Part → Type 0) → Type 0
UpperGets {C = C} whole fits = (c : C) (a b : Part) (t n : ℕ) → fits Upper c a b → fits Upper c (got t n a) b × Same (got t n (whole c a b)) (whole c (got t n a) b)

abbrev pub LowerGets : {C : Type 0} → (C → Part → Part → Part) → (Side → C → Part → Part → Type 0) → Type 0
LowerGets {C = C} whole fits = (c : C) (a b : Part) (t n : ℕ) → fits Lower c a b → fits Lower c a (got t n b) × Same (got t n (whole c a b)) (whole c a (got t n b))
