-- Statements in their order, within one scope.
use Rattle.std.specs.Prelude.{◌≡◌, ◌<◌, ◌≤◌, ℕ, suc, ◌+◌, Bool, true, false, List, drop, map, length, get_or, slice_get, Some, Contains, Result, Ok, Err}
use Rattle.cd_elem.specs.declared.script.Stmt.{Stmt}
use Rattle.cd_elem.specs.declared.site.Site.{Site}
use Rattle.cd_meaning.specs.Opens.{files_in}
use Rattle.cd_meaning.specs.Pipes.{pipe_meaning}
use Rattle.cd_meaning.specs.Run.{Run}
use Rattle.cd_meaning.specs.RunShapes.{Seen}
use Rattle.cd_meaning.specs.Scoped.{UsesStanding}
use Rattle.cd_meaning.specs.Scripts.{ScriptState, passed_sites, script_places, statement_meaning, statements_from, with_name}
use Rattle.cd_types.specs.Numbering.{first_site, name_number}
use Rattle.cd_types.specs.Statements.{key_names}
use Rattle.cd_world.specs.Causes.{Rose}
use Rattle.cd_world.specs.declared.event.Descriptor.{Descriptor}
use Rattle.cd_scope.specs.declared.table.Held.{Held}
use Rattle.cd_scope.specs.Calls.{held_at, site_at}
use Rattle.cd_build.specs.Built.{IsBuilt}
use Rattle.cd_run.specs.declared.fault.RunFault.{RunFault}
use Rattle.cd_run.specs.declared.fault.RunFault.TheVariants.{Decode, AcquireFault, ReadFault, WriteFault, CloseFault, TooLong, NoMemory}
use Rattle.cd_run.specs.declared.runner.Runner.{Runner}
use Rattle.cd_run.specs.Runners.{IsReady, keys_of, left_of, limit_of, room_of, table_of}

-- a statement that is run here: one that runs a pipe that is built, holds a key or releases one
abbrev pub IsBuiltStatement : Stmt → Type 0
IsBuiltStatement (Stmt.Run p) = IsBuilt p
IsBuiltStatement (Stmt.Seal name p) = ⊥
IsBuiltStatement (Stmt.Feed name p) = ⊥
IsBuiltStatement (Stmt.CloseSeal name p) = ⊥
IsBuiltStatement (Stmt.Hold name file) = Unit {0}
IsBuiltStatement (Stmt.Release name) = Unit {0}

abbrev pub IsBuiltScript : List Stmt → Type 0
IsBuiltScript script = (i : ℕ) (s : Stmt) → slice_get script i ≡ Some s → IsBuiltStatement s

-- ---- behind some statements

-- the state behind such a statement
abbrev pub after : Stmt → ScriptState → ScriptState
after (Stmt.Run p) st = passed_sites st (pipe_meaning p)
after (Stmt.Hold name file) st = record { site = suc st.site; sealed = st.sealed; flow = st.flow; key = with_name st.key name st.site }
after _ st = st

-- the keys that are held behind it
abbrev pub held_after : Stmt → (List ℕ → Bool) → List ℕ → Bool
held_after (Stmt.Hold name file) held = with_name held name true
held_after (Stmt.Release name) held = with_name held name false
held_after _ held = held

-- what is still to be done behind i statements
abbrev pub rest_of : List Stmt → ℕ → ScriptState → Seen → Run
rest_of script i st all = statements_from (map statement_meaning (drop i script)) all st

-- a key that is held: at its number is its site, and the file of that is open
pub record IsKept (script : List Stmt) (st : ScriptState) (keys : List Site) (table : List Held) (name : List ℕ) : Type 0 where
  pub number : ℕ
  pub named : name_number (key_names script) name ≡ Some number
  pub site : slice_get keys number ≡ Some (site_at (st.key name))
  pub earlier : st.key name < st.site
  pub there : (d : Descriptor) × Contains table (held_at (st.key name) d)

-- The runner has run the first i statements, and these keys are held. Of the sites behind it has read nothing, and it has
-- room for their files.
pub record HasRun (script : List Stmt) (i : ℕ) (st : ScriptState) (held : List ℕ → Bool) (runner : Runner) : Type 0 where
  pub ready : IsReady script runner
  pub site : st.site ≡ first_site script (suc i)
  pub uses : UsesStanding (λ name. false) held (drop i script)
  pub kept : (name : List ℕ) → held name ≡ true → IsKept script st (keys_of runner) (table_of runner) name
  pub apart : (a b : List ℕ) → held a ≡ true → held b ≡ true → st.key a ≡ st.key b → a ≡ b
  pub fresh : (s : ℕ) → st.site ≤ s → s < length (left_of runner) → get_or (left_of runner) s 0 ≡ limit_of runner + 1
  pub room : files_in (script_places (drop i script)) ≤ room_of runner

-- this is the next statement, with its number
pub record IsNextStatement (script : List Stmt) (i : ℕ) (s : Stmt) (n : ℕ) : Type 0 where
  pub here : slice_get script i ≡ Some s
  pub number : n ≡ suc i
  pub built : IsBuiltStatement s

-- ---- the end

-- A fault of the outside is the cause only where the count of failed calls rose, and where none is told no call failed.
abbrev pub IsCaused : {T : Type 0} → ℕ → ℕ → Result T RunFault → Type 0
IsCaused before now (Ok x) = now ≡ before
IsCaused before now (Err (AcquireFault s)) = Rose before now
IsCaused before now (Err (ReadFault s)) = Rose before now
IsCaused before now (Err (WriteFault s)) = Rose before now
IsCaused before now (Err (CloseFault s)) = Rose before now
IsCaused before now (Err (Decode f)) = Unit {0}
IsCaused before now (Err (TooLong s)) = Unit {0}
IsCaused before now (Err NoMemory) = Unit {0}
