-- What each call adds to the list of calls. One that is refused for memory adds nothing.
use Rattle.std.specs.Prelude.{◌≡◌, ℕ, List, [], ◌∷◌, Result, Ok, Err, take, if◌then◌else◌, ◌==◌}
use Rattle.std.specs.List.{flat_map}
use Rattle.cd_world.specs.declared.event.Descriptor.{Descriptor}
use Rattle.cd_world.specs.declared.event.Use.{Use}
use Rattle.cd_world.specs.declared.event.Use.TheVariants.{Reading, Writing, Marking}
use Rattle.cd_world.specs.declared.event.Event.{Event}
use Rattle.cd_world.specs.declared.event.Event.TheVariants.{OpenedRead, Created, Marked, OpenFailed, Gave, GaveEnd, ReadFailed, Wrote, WriteFailed, Closed, CloseFailed as CloseFailing}
use Rattle.cd_world.specs.declared.world.WorldError.{WorldError}
use Rattle.cd_world.specs.declared.world.WorldError.TheVariants.{Failed, NoMemory}
use Rattle.cd_world.specs.declared.world.CloseFailed.{CloseFailed}

-- an open that went well
abbrev pub opening : Use → List ℕ → Descriptor → Event
opening Reading name d = OpenedRead name d
opening Writing name d = Created name d
opening Marking name d = Marked name d

abbrev pub opened : Use → List ℕ → Result Descriptor WorldError → List Event
opened use_of name (Ok d) = opening use_of name d ∷ []
opened use_of name (Err Failed) = OpenFailed name ∷ []
opened use_of name (Err NoMemory) = []

-- a read that gave nothing told the end
abbrev pub gave : Descriptor → List ℕ → Result ℕ WorldError → List Event
gave from into (Ok count) = if count == 0 then GaveEnd from ∷ [] else Gave from (take count into) ∷ []
gave from into (Err Failed) = ReadFailed from ∷ []
gave from into (Err NoMemory) = []

abbrev pub wrote : Descriptor → List ℕ → Result ℕ WorldError → List Event
wrote to bytes (Ok count) = Wrote to (take count bytes) ∷ []
wrote to bytes (Err Failed) = WriteFailed to ∷ []
wrote to bytes (Err NoMemory) = []

abbrev pub closed : {T : Type 0} → Descriptor → Result T CloseFailed → List Event
closed which (Ok done) = Closed which ∷ []
closed which (Err refused) = CloseFailing which ∷ []

-- the bytes that were written to a descriptor
abbrev pub written_by : ℕ → Event → List ℕ
written_by d (Wrote to bytes) = if to.0 == d then bytes else []
written_by d _ = []

abbrev pub written_to : ℕ → List Event → List ℕ
written_to d events = flat_map (written_by d) events

-- the bytes that were read
abbrev pub given_by : Event → List ℕ
given_by (Gave from bytes) = bytes
given_by _ = []

abbrev pub bytes_given : List Event → List ℕ
bytes_given events = flat_map given_by events

-- a write to this descriptor, or a try of one
abbrev pub IsWriteOn : ℕ → Event → Type 0
IsWriteOn d (Wrote to bytes) = to.0 ≡ d
IsWriteOn d (WriteFailed to) = to.0 ≡ d
IsWriteOn d _ = ⊥

-- a close of this descriptor, whatever it answered
abbrev pub IsCloseOf : Descriptor → Event → Type 0
IsCloseOf d (Closed e) = e ≡ d
IsCloseOf d (CloseFailing e) = e ≡ d
IsCloseOf d _ = ⊥
