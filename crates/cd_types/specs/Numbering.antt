-- The sites, seals and keys of a script by their numbers, and the types of its parts.
use Rattle.std.specs.Prelude.{◌≡◌, ℕ, zero, suc, ◌+◌, ◌==◌, nat_lt, Bool, ◌&&◌, bytes_eq, List, [], ◌∷◌, length, take, position, slice_get, Option, Some, None, option_map, option_and_then}
use Rattle.cd_elem.specs.declared.script.Stmt.{Stmt}
use Rattle.cd_meaning.specs.Places.{Place}
use Rattle.cd_meaning.specs.Scripts.{script_places}
use Rattle.cd_types.specs.Flows.{PartType}
use Rattle.cd_types.specs.Moments.{Moment}
use Rattle.cd_types.specs.Statements.{Statement, Run, Let, Feed, CloseSeal, Hold, Release, script_moments, script_types, seal_names, key_names}

-- the member with this number, counted from 1
abbrev pub numbered : {A : Type 0} → List A → ℕ → Option A
numbered xs zero = None
numbered xs (suc n) = slice_get xs n

-- ---- parts

-- the type of a part, by the numbers of its statement and of the part in it
abbrev pub part_of_types : List (List PartType) → ℕ → ℕ → Option PartType
part_of_types types s n = option_and_then (λ ts. numbered ts n) (numbered types s)

abbrev pub part_at : List Stmt → ℕ → ℕ → Option PartType
part_at script s n = part_of_types (script_types script) s n

-- ---- sites

-- a site: the statement and the part that it is, and what it does outside; part 0 is the statement itself
pub record ScriptSite : Type 0 where
  pub statement : ℕ
  pub part : ℕ
  pub place : Place

-- the site of a moment, in front of those
abbrev pub site_before : ℕ → ℕ → Option Place → List ScriptSite → List ScriptSite
site_before s n None more = more
site_before s n (Some p) more = record { statement = s; part = n; place = p } ∷ more

abbrev pub moment_sites : List Moment → List ScriptSite
moment_sites [] = []
moment_sites (m ∷ more) = site_before m.statement m.part m.site (moment_sites more)

-- the sites of a script, in their order
abbrev pub script_sites : List Stmt → List ScriptSite
script_sites script = moment_sites (script_moments script)

abbrev pub stands_at : ℕ → ℕ → ScriptSite → Bool
stands_at s n site = (site.statement == s) && (site.part == n)

-- the number of the site that stands there, counted from 1
abbrev pub site_number : List Stmt → ℕ → ℕ → Option ℕ
site_number script s n = option_map (λ place. place + 1) (position (stands_at s n) (script_sites script))

-- the number of the first site of a statement, where it has one, behind those of the statements before it
abbrev pub first_site : List Stmt → ℕ → ℕ
first_site script zero = 1
first_site script (suc n) = length (script_places (take n script)) + 1

-- the statement that a site is of stands before this one
abbrev pub is_before : ℕ → ScriptSite → Bool
is_before s site = nat_lt site.statement s

-- these places stand at the numbers from this one on
abbrev pub StandFrom : (ℕ → Place) → ℕ → List Place → Type 0
StandFrom place s [] = Unit {0}
StandFrom place s (p ∷ more) = (place s ≡ p) × StandFrom place (s + 1) more

-- ---- seals and keys

-- the seal that a statement defines or uses
abbrev pub seal_named : Stmt → Option (List ℕ)
seal_named (Stmt.Run p) = None
seal_named (Stmt.Seal name p) = Some name
seal_named (Stmt.Feed name p) = Some name
seal_named (Stmt.CloseSeal name p) = Some name
seal_named (Stmt.Hold name file) = None
seal_named (Stmt.Release name) = None

-- and the key
abbrev pub key_named : Stmt → Option (List ℕ)
key_named (Stmt.Run p) = None
key_named (Stmt.Seal name p) = None
key_named (Stmt.Feed name p) = None
key_named (Stmt.CloseSeal name p) = None
key_named (Stmt.Hold name file) = Some name
key_named (Stmt.Release name) = Some name

-- the place of a name, counted from 0
abbrev pub name_number : List (List ℕ) → List ℕ → Option ℕ
name_number names name = position (bytes_eq name) names

-- The seal of this statement by its number, in the order of their definitions, counted from 0.
abbrev pub seal_number : List Stmt → ℕ → Option ℕ
seal_number script s = option_and_then (name_number (seal_names script)) (option_and_then seal_named (numbered script s))

-- and the key
abbrev pub key_number : List Stmt → ℕ → Option ℕ
key_number script s = option_and_then (name_number (key_names script)) (option_and_then key_named (numbered script s))

-- ---- the same of statements, with what is said of their pipes

abbrev pub sealed_in : List Statement → List (List ℕ)
sealed_in [] = []
sealed_in (Run a ∷ more) = sealed_in more
sealed_in (Let name a ∷ more) = name ∷ sealed_in more
sealed_in (Feed name a ∷ more) = sealed_in more
sealed_in (CloseSeal name a ∷ more) = sealed_in more
sealed_in (Hold name file ∷ more) = sealed_in more
sealed_in (Release name ∷ more) = sealed_in more

abbrev pub held_in : List Statement → List (List ℕ)
held_in [] = []
held_in (Run a ∷ more) = held_in more
held_in (Let name a ∷ more) = held_in more
held_in (Feed name a ∷ more) = held_in more
held_in (CloseSeal name a ∷ more) = held_in more
held_in (Hold name file ∷ more) = name ∷ held_in more
held_in (Release name ∷ more) = held_in more
