-- Where a statement stands when it waits for a site or has ended.
use Rattle.std.specs.Prelude.{◌≡◌, ◌≢◌, ◌<◌, ◌≤◌, ℕ, true, List, length, sum, get_or, Contains, Result, Ok, Err}
use Rattle.cd_elem.specs.Limits.{chunk_limit}
use Rattle.cd_meaning.specs.Known.{known}
use Rattle.cd_meaning.specs.Places.{Place}
use Rattle.cd_meaning.specs.Run.{Run}
use Rattle.cd_meaning.specs.RunShapes.{Told, Seen}
use Rattle.cd_meaning.specs.Stream.{Sort, Value}
use Rattle.cd_meaning.specs.Values.{value_meaning}
use Rattle.cd_world.specs.declared.event.Descriptor.{Descriptor}
use Rattle.cd_step.specs.Parts.{Part, Reads}
use Rattle.cd_scope.specs.declared.table.Held.{Held}
use Rattle.cd_scope.specs.Calls.{held_at}
use Rattle.cd_scope.specs.Due.{Setting}
use Rattle.cd_scope.specs.Uses.{ReadsAt}
use Rattle.cd_node.specs.Nodes.{StopsWith, fed_node}
use Rattle.cd_node.specs.declared.protocol.NodeInput.{NodeInput}
use Rattle.cd_node.specs.declared.protocol.NodeInput.TheVariants.{Gave, GaveEnd}
use Rattle.cd_run.specs.declared.fault.RunFault.{RunFault}
use Rattle.cd_run.specs.declared.drive.Pause.{Pause}
use Rattle.cd_run.specs.declared.drive.Pause.TheVariants.{Waits, Done}
use Rattle.cd_run.specs.Going.{Outside, Going}
use Rattle.cd_run.specs.Ends.{Faulted}
use Rattle.cd_run.specs.Statements.{Spends, goes, left_run, within, behind}

-- it waits for this site, which is read by this descriptor
pub record IsAtRead (place : ℕ → Place) (s : ℕ) (d : Descriptor) (table : List Held) (q : Part) : Type 0 where
  pub is_at : q.at ≡ Reads s
  pub own : q.sites s ≡ true
  pub readable : ReadsAt (place s) d.0 (Contains table (held_at s d))
  pub stops : StopsWith s q

abbrev pub IsPaused : (ℕ → Place) → Result Pause RunFault → List Held → Part → Type 0
IsPaused place (Ok (Waits s d)) table q = IsAtRead place s.0 d table q
IsPaused place (Ok (Done v)) table q = Unit {0}
IsPaused place (Err f) table q = Unit {0}

abbrev pub PausedAt : Setting → (Seen → Run) → Result Pause RunFault → List Held → List ℕ → Part → (Seen → Value → Run) → Outside → Outside → Type 0
PausedAt g m (Ok (Waits s d)) t left q k w0 w = Going g m t left (within (left_run q) k) w0 w
PausedAt g m (Ok (Done v)) t left q k w0 w = Going g m t left (behind (λ all. k all (value_meaning v))) w0 w
PausedAt g m (Err f) t left q k w0 w = Faulted g m f t w0 w

-- what is left does the same whatever is to come at this site
abbrev pub Forgets : ℕ → Part → Type 0
Forgets s q = (w : Told) (z : Seen) (next : Value → Run) → goes (left_run q (known s w z)) next ≡ goes (left_run q z) next

abbrev pub StillForgets : ℕ → Result Pause RunFault → Part → Type 0
StillForgets s (Ok (Waits t d)) q = Forgets s q
StillForgets s (Ok (Done v)) q = Unit {0}
StillForgets s (Err f) q = Unit {0}

-- where it waits, the room has fallen by no more than was opened
abbrev pub PausedSpends : Part → ℕ → Result Pause RunFault → Part → ℕ → Type 0
PausedSpends p room (Ok (Waits s d)) q room' = Spends p room q room'
PausedSpends p room (Ok (Done v)) q room' = Unit {0}
PausedSpends p room (Err f) q room' = Unit {0}

-- an answer to a read
abbrev pub IsTelling : NodeInput → Type 0
IsTelling (Gave c) = (c.0 ≡ Sort.Bytes) × (0 < length c.1) × (length c.1 ≤ chunk_limit)
IsTelling GaveEnd = Unit {0}
IsTelling _ = ⊥

-- what was read of a site is taken in, or the run met a fault
abbrev pub ReadOn : Setting → (Seen → Run) → Result NodeInput RunFault → List Held → List ℕ → Part → (Seen → Value → Run) → Outside → Outside → Type 0
ReadOn g m (Ok input) t left q k w0 w = Going g m t left (within (left_run (fed_node input q)) k) w0 w
ReadOn g m (Err f) t left q k w0 w = Faulted g m f t w0 w

-- The bytes that may be read fall, and no other site's; none are left where the end was told alone.
pub record Falls (s : ℕ) (input : NodeInput) (left left' : List ℕ) : Type 0 where
  pub sum : sum left' < sum left
  pub others : (t : ℕ) → t ≢ s → get_or left' t 0 ≡ get_or left t 0
  pub here : get_or left' s 0 ≡ 0 → input ≡ GaveEnd

abbrev pub AnyFalls : ℕ → Result NodeInput RunFault → List ℕ → List ℕ → Type 0
AnyFalls s (Ok input) left left' = Falls s input left left'
AnyFalls s (Err f) left left' = left' ≡ left
