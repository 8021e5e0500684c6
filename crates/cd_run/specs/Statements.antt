-- What is still to be done within a statement, and between statements.
use Rattle.std.specs.Prelude.{◌≡◌, ◌<◌, ◌≤◌, ◌+◌, ℕ, List, [], ◌∷◌, ◌++◌, length, get_or, false, codes, Result, Ok, Err}
use Rattle.cd_elem.specs.declared.script.Pipe.{Pipe}
use Rattle.cd_elem.specs.declared.value.Value.{Value as Answer}
use Rattle.cd_meaning.specs.Known.{known}
use Rattle.cd_meaning.specs.Opens.{files_in, openings_in}
use Rattle.cd_meaning.specs.Pipes.{pipe_meaning}
use Rattle.cd_meaning.specs.Run.{Run, effects}
use Rattle.cd_meaning.specs.RunShapes.{Told, Seen}
use Rattle.cd_meaning.specs.Scripts.{goes_on}
use Rattle.cd_meaning.specs.Stream.{Value, Ended}
use Rattle.cd_meaning.specs.Values.{value_meaning}
use Rattle.cd_meaning.specs.ValueText.{value_text}
use Rattle.cd_typed.specs.declared.typed.Typed.{Typed}
use Rattle.cd_types.specs.Numbering.{first_site}
use Rattle.cd_world.specs.declared.event.Descriptor.{Descriptor}
use Rattle.cd_step.specs.Parts.{Part}
use Rattle.cd_scope.specs.declared.table.Held.{Held}
use Rattle.cd_scope.specs.Calls.{held_at}
use Rattle.cd_scope.specs.Due.{Setting}
use Rattle.cd_build.specs.BuiltNodes.{RunsBuilt}
use Rattle.cd_run.specs.declared.fault.RunFault.{RunFault}
use Rattle.cd_run.specs.Going.{Outside, Going}
use Rattle.cd_run.specs.Ends.{Faulted}

-- the run of what is left of a statement's node: it has no input
abbrev pub left_run : Part → Seen → Run
left_run p z = p.run z [] Ended

-- the effects of a run, and then what k says of its value
abbrev pub goes : Run → (Value → Run) → Run
goes r k = goes_on r (λ s v. k v)

-- this run is left, and k says what comes behind its value
abbrev pub within : (Seen → Run) → (Seen → Value → Run) → Seen → Seen → Run
within run k all z = goes (run z) (k all)

-- only this is left, by all that is seen
abbrev pub behind : (Seen → Run) → Seen → Seen → Run
behind next all z = next all

-- a statement was run to its value, or met a fault
abbrev pub RunTo : Setting → (Seen → Run) → Result Answer RunFault → List Held → List ℕ → (Seen → Value → Run) → Outside → Outside → Type 0
RunTo g m (Ok v) t left k w0 w = Going g m t left (behind (λ all. k all (value_meaning v))) w0 w
RunTo g m (Err f) t left k w0 w = Faulted g m f t w0 w

-- the line of a result, and none for unit
abbrev pub value_line : Value → List ℕ
value_line Value.Unit = []
value_line v = codes "= " ++ value_text v ++ 10 ∷ []

-- it reads its own sites alone
abbrev pub IsLocal : Part → Type 0
IsLocal p = (s : ℕ) → p.sites s ≡ false → (w : Told) (z : Seen) → p.run (known s w z) ≡ p.run z

-- a site of this pipe, where this is its first one
abbrev pub IsSiteOf : Pipe → ℕ → ℕ → Type 0
IsSiteOf p first s = (first ≤ s) × (s < first + length (pipe_meaning p).places)

-- the statement with this number runs a pipe that is built, of whose sites something may be read, and for whose files there is room
pub record RunsWithin (typed : Typed) (statement : ℕ) (left : List ℕ) (room : ℕ) : Type 0 where
  pub runs : RunsBuilt typed statement
  pub sites : (s : ℕ) → IsSiteOf runs.pipe (first_site runs.script statement) s → (s < length left) × (0 < get_or left s 0)
  pub files : files_in (pipe_meaning runs.pipe).places ≤ room

-- the table has one more of this site, or is the same
abbrev pub Holds : {T E : Type 0} → ℕ → Result T E → List Held → List Held → Type 0
Holds s (Ok x) t t' = (d : Descriptor) × (t' ≡ t ++ held_at s d ∷ [])
Holds s (Err e) t t' = t' ≡ t

-- ---- the room for what is opened

-- whatever is seen, what is left opens at most n files
abbrev pub OpensAtMost : Part → ℕ → Type 0
OpensAtMost p n = (z : Seen) → openings_in (effects (left_run p z)) ≤ n

-- p has become q, and the room has fallen by no more than p opened
abbrev pub Spends : Part → ℕ → Part → ℕ → Type 0
Spends p room q room' = (n : ℕ) → OpensAtMost p n → (m : ℕ) × OpensAtMost q m × (room + m ≤ room' + n)
