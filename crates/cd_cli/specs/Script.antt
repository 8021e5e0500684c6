-- What reading a script does to the files, and what it calls.
use Rattle.std.specs.Prelude.{◌≡◌, ◌≤◌, ◌⊎◌, ℕ, List, [], ◌∷◌, ◌++◌, All, length, take, Result, IfOk, IfErr}
use Rattle.cd_world.specs.declared.event.Descriptor.{Descriptor}
use Rattle.cd_world.specs.declared.event.Event.{Event}
use Rattle.cd_world.specs.declared.event.Event.TheVariants.{OpenedRead, OpenFailed, Gave, GaveEnd, ReadFailed, Closed, CloseFailed as CloseFailing}
use Rattle.cd_world.specs.declared.world.WorldError.{WorldError}
use Rattle.cd_world.specs.declared.world.WorldError.TheVariants.{Failed, NoMemory}
use Rattle.cd_world.specs.Events.{bytes_given, IsCloseOf}
use Rattle.cd_world.specs.Files.{Files, left_at}
use Rattle.cd_cli.specs.Streams.{KeepsRest}

-- The front of a buffer has what was left of a file, up to the size of the buffer.
pub record Fills {E : Type 0} (d : ℕ) (name buffer : List ℕ) (result : Result ℕ E) (f f' : Files) : Type 0 where
  pub output : f'.output ≡ f.output
  pub rest : KeepsRest f f'
  pub front : IfOk result (λ filled. take (length buffer) (left_at d name f) ≡ take filled buffer)

-- a read that gave bytes
abbrev pub IsGaveOn : Descriptor → Event → Type 0
IsGaveOn d (Gave from bytes) = from ≡ d
IsGaveOn d _ = ⊥

-- The reads of a file: some that gave bytes, up to this size in all, and at most one more, which told the end or failed.
pub record ScriptReads (d : Descriptor) (size : ℕ) (gives last : List Event) : Type 0 where
  pub gave : All (IsGaveOn d) gives
  pub within : length (bytes_given gives) ≤ size
  pub ending : (last ≡ []) ⊎ ((last ≡ GaveEnd d ∷ []) ⊎ (last ≡ ReadFailed d ∷ []))

-- all of the file was read, or as many bytes as this
abbrev pub IsWhole : Descriptor → ℕ → List Event → List Event → Type 0
IsWhole d size gives last = (last ≡ GaveEnd d ∷ []) ⊎ ((last ≡ []) × (length (bytes_given gives) ≡ size))

-- the last read was refused so
abbrev pub StopsIn : Descriptor → List Event → WorldError → Type 0
StopsIn d last Failed = last ≡ ReadFailed d ∷ []
StopsIn d last NoMemory = last ≡ []

-- A buffer was filled by reads of a file, and its front has what they gave.
pub record LogsFill (d : Descriptor) (buffer : List ℕ) (result : Result ℕ WorldError) (l l' : List Event) : Type 0 where
  pub gives : List Event
  pub last : List Event
  pub log : l' ≡ l ++ (gives ++ last)
  pub reads : ScriptReads d (length buffer) gives last
  pub whole : IfOk result (λ filled. (bytes_given gives ≡ take filled buffer) × IsWhole d (length buffer) gives last)
  pub stopped : IfErr result (StopsIn d last)

-- The calls that read a file of at most this size whole, or this many bytes of another: the file is opened, read and closed, and no call fails.
pub record ReadsWhole (name : List ℕ) (size : ℕ) (text : List ℕ) (events : List Event) : Type 0 where
  pub d : Descriptor
  pub gives : List Event
  pub last : List Event
  pub calls : events ≡ OpenedRead name d ∷ (gives ++ last) ++ Closed d ∷ []
  pub reads : ScriptReads d size gives last
  pub whole : IsWhole d size gives last
  pub text_is : text ≡ bytes_given gives

-- A refusal of this sort comes from the last read or from the close: one of them failed; or memory was wanting for the read, which is no event, and the close
-- went well.
abbrev pub ComesFrom : Descriptor → List Event → Event → WorldError → Type 0
ComesFrom d last end Failed = (last ≡ ReadFailed d ∷ []) ⊎ (end ≡ CloseFailing d)
ComesFrom d last end NoMemory = (last ≡ []) × (end ≡ Closed d)

-- Those of a try that was refused: nothing is called for want of memory; or the open fails; or the file is opened and read, and closed as the last call of all.
pub data TriesRead (name : List ℕ) (size : ℕ) : WorldError → List Event → Type 0 where
  none_called : TriesRead name size NoMemory []
  open_failed : TriesRead name size Failed (OpenFailed name ∷ [])
  opened_closed : (error : WorldError) (d : Descriptor) (gives last : List Event) (end : Event) → ScriptReads d size gives last → IsCloseOf d end → ComesFrom d last end error
      → TriesRead name size error (OpenedRead name d ∷ (gives ++ last) ++ end ∷ [])

-- A file of at most this size was read whole, or this many bytes of another, and the text is what was read.
pub record ReadsFront {T E : Type 0} (name : List ℕ) (size : ℕ) (text : T → List ℕ) (result : Result T E) (f f' : Files) : Type 0 where
  pub output : f'.output ≡ f.output
  pub rest : KeepsRest f f'
  pub front : IfOk result (λ t. take size (f.contents name) ≡ text t)

-- The same by the calls.
pub record LogsRead {T : Type 0} (name : List ℕ) (size : ℕ) (text : T → List ℕ) (result : Result T WorldError) (l l' : List Event) : Type 0 where
  pub part : List Event
  pub log : l' ≡ l ++ part
  pub whole : IfOk result (λ t. ReadsWhole name size (text t) part)
  pub tries : IfErr result (λ e. TriesRead name size e part)
