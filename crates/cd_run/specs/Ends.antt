-- How a run may end.
use Rattle.std.specs.Prelude.{◌≡◌, ℕ, List, [], ◌∷◌, ◌++◌, map, IsTrue, Result, Ok, Err}
use Rattle.cd_meaning.specs.Stream.{Halt, Stop, Decode as DecodeStop, ReadBad, Long, Halts, Effect}
use Rattle.cd_meaning.specs.Run.{start, Run, Ends}
use Rattle.cd_meaning.specs.RunShapes.{Seen}
use Rattle.cd_world.specs.Causes.{risen}
use Rattle.cd_world.specs.declared.event.Descriptor.{Descriptor}
use Rattle.cd_run.specs.declared.fault.RunFault.{RunFault}
use Rattle.cd_run.specs.declared.fault.RunFault.TheVariants.{Decode, AcquireFault, ReadFault, WriteFault, CloseFault, TooLong, NoMemory}
use Rattle.cd_scope.specs.declared.table.Held.{Held}
use Rattle.cd_scope.specs.Calls.{Call, Refusing, Passing, Breaking, Losing, Sticking, event, over, did, does, left_open}
use Rattle.cd_scope.specs.Due.{Setting, Each, Due, Fits, Clean, IsNext}
use Rattle.cd_run.specs.Going.{Outside, Going, files_seen}

-- m does just what the calls did, and goes no further for this reason
abbrev pub HaltsSo : (Seen → Run) → List Call → Halt → Type 0
HaltsSo m calls h = (z : Seen) → m (over calls z) ≡ did calls (Ends start (Halts h))

-- what m comes to behind these calls, where the run ended in this fault
abbrev pub EndsBy : RunFault → (Seen → Run) → List Call → Type 0
EndsBy (Decode f) m calls = HaltsSo m calls (Stop (DecodeStop f))
EndsBy (ReadFault s) m calls = HaltsSo m calls (Stop (ReadBad s.0))
EndsBy (TooLong s) m calls = HaltsSo m calls (Stop (Long s.0))
EndsBy (AcquireFault s) m calls = IsNext m calls []
EndsBy (WriteFault s) m calls = IsNext m calls []
EndsBy (CloseFault s) m calls = IsNext m calls []
EndsBy NoMemory m calls = IsNext m calls []

-- where it is m that stops, by a fault of a decoder or at the limit, then r does just what the calls did and stops so too
abbrev pub StopsSo : RunFault → Run → List Call → Type 0
StopsSo (Decode f) r calls = r ≡ did calls (Ends start (Halts (Stop (DecodeStop f))))
StopsSo (TooLong s) r calls = r ≡ did calls (Ends start (Halts (Stop (Long s.0))))
StopsSo (AcquireFault s) r calls = Unit {0}
StopsSo (ReadFault s) r calls = Unit {0}
StopsSo (WriteFault s) r calls = Unit {0}
StopsSo (CloseFault s) r calls = Unit {0}
StopsSo NoMemory r calls = Unit {0}

-- this call is the last one, and no call before it ended the run
pub record EndsIn (calls : List Call) (c : Call) : Type 0 where
  pub front : List Call
  pub calls_are : calls ≡ front ++ c ∷ []
  pub clean : Clean front

-- the call that ended the run is the fault's
abbrev pub FailsBy : RunFault → List Call → Type 0
FailsBy (Decode f) calls = Clean calls
FailsBy (AcquireFault s) calls = EndsIn calls (Refusing s.0)
FailsBy (ReadFault s) calls = (d : Descriptor) × EndsIn calls (Breaking s.0 d)
FailsBy (WriteFault s) calls = (d : Descriptor) × EndsIn calls (Losing s.0 d)
FailsBy (CloseFault s) calls = (d : Descriptor) × EndsIn calls (Sticking s.0 d)
FailsBy (TooLong s) calls = (d : Descriptor) × (c : List ℕ) × EndsIn calls (Passing s.0 d c)
FailsBy NoMemory calls = Clean calls

-- A run from w0 to w has met this fault, with t still open.
pub record Faulted (g : Setting) (m : Seen → Run) (f : RunFault) (t : List Held) (w0 w : Outside) : Type 0 where
  pub calls : List Call
  pub log : w.log ≡ w0.log ++ map (event g.place) calls
  pub due : Each (Due m) calls
  pub fits : Each (Fits g) calls
  pub standing : left_open calls ≡ t
  pub failed : FailsBy f calls
  pub ends : EndsBy f m calls
  pub whole : IsTrue g.tells → StopsSo f (m (files_seen g w0)) calls

-- ---- steps

abbrev pub MovedOn : {T : Type 0} → Setting → (Seen → Run) → Result T RunFault → List Held → List ℕ → (T → Seen → Seen → Run) → Outside → Outside → Type 0
MovedOn g m (Ok x) t left todo w0 w = Going g m t left (todo x) w0 w
MovedOn g m (Err f) t left todo w0 w = Faulted g m f t w0 w

-- whatever is meant and was called before: these effects were due, and are done; or the run met a fault
abbrev pub Moves : {T : Type 0} → Setting → List Held → List Held → Result T RunFault → List Effect → Outside → Outside → Type 0
Moves g t t' result es w w' =
    (m : Seen → Run) (left : List ℕ) (todo : Seen → Seen → Run) (w0 : Outside)
    → Going g m t left (λ all z. does es (todo all z)) w0 w → MovedOn g m result t' left (λ x. todo) w0 w'

-- ---- causes

-- what the count of failed calls is where a run ended in this fault: a fault of the outside is that of one failed call
abbrev pub CountedBy : RunFault → ℕ → ℕ → Type 0
CountedBy (AcquireFault s) before now = now ≡ risen before
CountedBy (ReadFault s) before now = now ≡ risen before
CountedBy (WriteFault s) before now = now ≡ risen before
CountedBy (CloseFault s) before now = now ≡ risen before
CountedBy (Decode f) before now = now ≡ before
CountedBy (TooLong s) before now = now ≡ before
CountedBy NoMemory before now = now ≡ before

-- the count rose by one where a fault of the outside is the answer, and else stayed
abbrev pub HasFault : {T : Type 0} → ℕ → ℕ → Result T RunFault → Type 0
HasFault before now (Ok x) = now ≡ before
HasFault before now (Err f) = CountedBy f before now
