-- What writing to a standard stream does to the files, and what it calls.
use Rattle.std.specs.Prelude.{◌≡◌, ◌≢◌, ℕ, Bool, true, false, List, [], ◌∷◌, ◌++◌, All, Result, Err, OnOk, OnErr}
use Rattle.cd_world.specs.declared.event.Descriptor.{Descriptor}
use Rattle.cd_world.specs.declared.event.Event.{Event}
use Rattle.cd_world.specs.declared.event.Event.TheVariants.{OpenFailed, ReadFailed, WriteFailed, CloseFailed as CloseFailing}
use Rattle.cd_world.specs.declared.world.WorldError.{WorldError}
use Rattle.cd_world.specs.declared.world.WorldError.TheVariants.{Failed}
use Rattle.cd_world.specs.Events.{written_to, IsWriteOn}
use Rattle.cd_world.specs.Files.{Files, with_output, with_errors}
use Rattle.cd_cli.specs.declared.streams.Stream.{Stream}
use Rattle.cd_cli.specs.declared.streams.Stream.TheVariants.{Output, Errors}

-- a call that failed
abbrev pub is_failure : Event → Bool
is_failure (OpenFailed name) = true
is_failure (ReadFailed from) = true
is_failure (WriteFailed to) = true
is_failure (CloseFailing which) = true
is_failure _ = false

abbrev pub IsCalm : Event → Type 0
IsCalm e = is_failure e ≡ false

-- no call failed
abbrev pub NoneFailed : List Event → Type 0
NoneFailed events = All IsCalm events

-- Of the files and streams nothing changed but what stands on standard output. How much was given on each descriptor is left open, for that is
-- forgotten when the descriptor is closed.
abbrev pub KeepsRest : Files → Files → Type 0
KeepsRest f f' = f' ≡ record f { output = f'.output; given = f'.given }

abbrev pub descriptor_of : Stream → Descriptor
descriptor_of Output = record { 0 = 1 }
descriptor_of Errors = record { 0 = 2 }

-- the files with more on this stream
abbrev pub with_sent : Stream → List ℕ → Files → Files
with_sent Output bytes f = with_output bytes f
with_sent Errors bytes f = with_errors bytes f

-- A front of these bytes was written to the stream: all of them where that went well, and else not all.
pub record WritesFront {T E : Type 0} (to : Stream) (bytes : List ℕ) (result : Result T E) (f f' : Files) : Type 0 where
  pub sent : List ℕ
  pub behind : List ℕ
  pub front : bytes ≡ sent ++ behind
  pub whole : OnOk result (behind ≡ [])
  pub cut : OnErr result (behind ≢ [])
  pub files : f' ≡ with_sent to sent f

-- the last of these calls is a write to this descriptor that failed, and no other one failed
pub record EndsInFailure (d : Descriptor) (events : List Event) : Type 0 where
  pub before : List Event
  pub calm : NoneFailed before
  pub events_are : events ≡ before ++ WriteFailed d ∷ []

-- The same by the calls, which were writes to the stream alone. None of them failed, unless that is the answer: then the last one did.
pub record LogsFront {T : Type 0} (to : Stream) (bytes : List ℕ) (result : Result T WorldError) (l l' : List Event) : Type 0 where
  pub part : List Event
  pub log : l' ≡ l ++ part
  pub writes : All (IsWriteOn (descriptor_of to).0) part
  pub behind : List ℕ
  pub front : bytes ≡ written_to (descriptor_of to).0 part ++ behind
  pub whole : OnOk result (behind ≡ [])
  pub cut : OnErr result (behind ≢ [])
  pub calm : result ≢ Err Failed → NoneFailed part
  pub last : result ≡ Err Failed → EndsInFailure (descriptor_of to) part
