-- Statements: what fails where one begins, what is asked behind its pipe, and its moments.
use Rattle.std.specs.Prelude.{ℕ, zero, suc, ◌+◌, ◌≤◌, Bool, false, ◌&&◌, ◌||◌, not, nat_lt, bytes_eq, if◌then◌else◌, List, [], ◌∷◌, ◌++◌, length, map, Option, Some, None}
use Rattle.std.specs.List.{list_any}
use Rattle.cd_elem.specs.declared.script.Stmt.{Stmt}
use Rattle.cd_meaning.specs.Places.{Place, Marks}
use Rattle.cd_types.specs.declared.refusal.RefusalKind.TheVariants.{DropsRest, Seal, ResultLost, TooMany, OpenEnd, Key}
use Rattle.cd_types.specs.Flows.{Flow, PartType, bound_of, is_nothing, is_cut, is_unit}
use Rattle.cd_types.specs.Limits.{statement_limit}
use Rattle.cd_types.specs.Conditions.{Fails, none_fails, fails_where, or_fails}
use Rattle.cd_types.specs.Moments.{Moment, ask, begin_part}
use Rattle.cd_types.specs.Parts.{Part}
use Rattle.cd_types.specs.Trees.{part}

-- ---- statements, with what is said of their pipes

pub data Statement : Type 0 where
  Run : Part → Statement
  Let : List ℕ → Part → Statement
  Feed : List ℕ → Part → Statement
  CloseSeal : List ℕ → Part → Statement
  Hold : List ℕ → List ℕ → Statement
  Release : List ℕ → Statement

abbrev pub statement_of : Stmt → Statement
statement_of (Stmt.Run p) = Run (part p)
statement_of (Stmt.Seal name p) = Let name (part p)
statement_of (Stmt.Feed name p) = Feed name (part p)
statement_of (Stmt.CloseSeal name p) = CloseSeal name (part p)
statement_of (Stmt.Hold name file) = Hold name file
statement_of (Stmt.Release name) = Release name

-- ---- what statements speak of: the seals and keys of the statements before

abbrev pub seals_as : List ℕ → Statement → Bool
seals_as name (Let other a) = bytes_eq other name
seals_as name _ = false

abbrev pub closes_as : List ℕ → Statement → Bool
closes_as name (CloseSeal other a) = bytes_eq other name
closes_as name _ = false

abbrev pub holds_as : List ℕ → Statement → Bool
holds_as name (Hold other file) = bytes_eq other name
holds_as name _ = false

abbrev pub releases_as : List ℕ → Statement → Bool
releases_as name (Release other) = bytes_eq other name
releases_as name _ = false

abbrev pub is_seal : List Statement → List ℕ → Bool
is_seal before name = list_any (seals_as name) before

abbrev pub is_closed : List Statement → List ℕ → Bool
is_closed before name = list_any (closes_as name) before

abbrev pub is_key : List Statement → List ℕ → Bool
is_key before name = list_any (holds_as name) before

abbrev pub is_released : List Statement → List ℕ → Bool
is_released before name = list_any (releases_as name) before

-- what the seal of this name gives
abbrev pub seal_flow : List Statement → List ℕ → Flow
seal_flow [] name = None
seal_flow (Let other a ∷ more) name = if bytes_eq other name then (a.type None).to else seal_flow more name
seal_flow (s ∷ more) name = seal_flow more name

-- the names of the seals and of the keys of a script, in the order of their definitions
abbrev pub seal_names : List Stmt → List (List ℕ)
seal_names [] = []
seal_names (Stmt.Run p ∷ more) = seal_names more
seal_names (Stmt.Seal name p ∷ more) = name ∷ seal_names more
seal_names (Stmt.Feed name p ∷ more) = seal_names more
seal_names (Stmt.CloseSeal name p ∷ more) = seal_names more
seal_names (Stmt.Hold name file ∷ more) = seal_names more
seal_names (Stmt.Release name ∷ more) = seal_names more

abbrev pub key_names : List Stmt → List (List ℕ)
key_names [] = []
key_names (Stmt.Run p ∷ more) = key_names more
key_names (Stmt.Seal name p ∷ more) = key_names more
key_names (Stmt.Feed name p ∷ more) = key_names more
key_names (Stmt.CloseSeal name p ∷ more) = key_names more
key_names (Stmt.Hold name file ∷ more) = name ∷ key_names more
key_names (Stmt.Release name ∷ more) = key_names more

-- ---- the moments of statements

abbrev pub statement_fails : List Statement → Statement → Fails
statement_fails before (Run a) = none_fails
statement_fails before (Let name a) = fails_where Seal (is_seal before name)
statement_fails before (Feed name a) = fails_where Seal (not (is_seal before name) || is_closed before name)
statement_fails before (CloseSeal name a) = fails_where Seal (not (is_seal before name) || is_closed before name)
statement_fails before (Hold name file) = fails_where Key (is_key before name)
statement_fails before (Release name) = fails_where Key (not (is_key before name) || is_released before name)

abbrev pub statement_site : Statement → Option Place
statement_site (Hold name file) = Some (Marks file)
statement_site _ = None

-- a pipe as part 1, for this input, with what is asked behind it
abbrev pub pipe_moments : ℕ → Flow → Part → (PartType → Fails) → List Moment
pipe_moments s f a asked = a.moments s 1 f ++ ask s 1 (asked (a.type f)) ∷ []

abbrev pub run_fails : PartType → Fails
run_fails t = fails_where OpenEnd (not (is_nothing t.to))

abbrev pub feed_fails : PartType → Fails
feed_fails t = or_fails (fails_where OpenEnd (not (is_nothing t.to))) (fails_where DropsRest (is_cut t.from && not t.exact))

abbrev pub let_fails : PartType → Fails
let_fails t = fails_where ResultLost (not (is_unit t.result))

abbrev pub body_moments : ℕ → List Statement → Statement → List Moment
body_moments s before (Run a) = pipe_moments s None a run_fails
body_moments s before (Let name a) = pipe_moments s None a let_fails
body_moments s before (Feed name a) = pipe_moments s (seal_flow before name) a feed_fails
body_moments s before (CloseSeal name a) = pipe_moments s (seal_flow before name) a run_fails
body_moments s before (Hold name file) = []
body_moments s before (Release name) = []

-- the types of its parts, from part 1 on
abbrev pub statement_types : List Statement → Statement → List PartType
statement_types before (Run a) = a.types None
statement_types before (Let name a) = a.types None
statement_types before (Feed name a) = a.types (seal_flow before name)
statement_types before (CloseSeal name a) = a.types (seal_flow before name)
statement_types before (Hold name file) = []
statement_types before (Release name) = []

abbrev pub types_behind : List Statement → List Statement → List (List PartType)
types_behind before [] = []
types_behind before (s ∷ more) = statement_types before s ∷ types_behind (before ++ s ∷ []) more

abbrev pub script_types : List Stmt → List (List PartType)
script_types script = types_behind [] (map statement_of script)

-- The statement of this number has a part of this number, where its parts have these types. Both count from 1, and part 0 is the statement itself.
abbrev pub HasPart : List (List PartType) → ℕ → ℕ → Type 0
HasPart [] statement part = ⊥
HasPart (ts ∷ more) zero part = ⊥
HasPart (ts ∷ more) (suc zero) part = part ≤ length ts
HasPart (ts ∷ more) (suc (suc statement)) part = HasPart more (suc statement) part

-- the sum of the bounds of all parts of all statements
abbrev pub bounds_of : List (List PartType) → ℕ
bounds_of [] = 0
bounds_of (ts ∷ more) = bound_of ts + bounds_of more

-- of the statement with this number
abbrev pub statement_moments : ℕ → List Statement → Statement → List Moment
statement_moments s before statement =
    ask s 0 (fails_where TooMany (nat_lt statement_limit s)) ∷ begin_part s 0 (statement_fails before statement) (statement_site statement) ∷ body_moments s before statement

-- of the statements behind these
abbrev pub moments_behind : List Statement → List Statement → List Moment
moments_behind before [] = []
moments_behind before (s ∷ more) = statement_moments (length before + 1) before s ++ moments_behind (before ++ s ∷ []) more

abbrev pub script_moments : List Stmt → List Moment
script_moments script = moments_behind [] (map statement_of script)
