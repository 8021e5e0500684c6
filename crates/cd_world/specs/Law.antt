-- What a call on a world in memory answers, by the plan of its member.
use Rattle.std.specs.Prelude.{◌≡◌, ℕ, min, Bool, true, false, List, [], ◌∷◌, ◌++◌, length, take, Option, Some, None, Result, Ok, Err, IfOk}
use Rattle.std.specs.Option.{is_none}
use Rattle.cd_world.specs.declared.event.Event.{Event}
use Rattle.cd_world.specs.declared.event.Use.{Use}
use Rattle.cd_world.specs.declared.event.Use.TheVariants.{Reading, Writing, Marking}
use Rattle.cd_world.specs.declared.plan.Call.TheVariants.{Reading as CallReading, Writing as CallWriting}
use Rattle.cd_world.specs.declared.plan.Plan.{Plan}
use Rattle.cd_world.specs.declared.world.CloseFailed.{CloseFailed}
use Rattle.cd_world.specs.declared.world.WorldError.{WorldError}
use Rattle.cd_world.specs.declared.world.WorldError.TheVariants.{Failed, NoMemory}
use Rattle.cd_world.specs.Plan.{FailsWhere, fails_next, read_cut, write_cut}
use Rattle.cd_world.specs.Store.{bytes_in, with_file}

-- A read fails exactly where it is to fail, and else gives as many bytes as are left, fit, and are not cut off.
pub record ReadsBy (plan : Option Plan) (left into : List ℕ) (result : Result ℕ WorldError) : Type 0 where
  pub fails : FailsWhere (fails_next CallReading plan) result
  pub count : IfOk result (λ count. count ≡ read_cut plan (min (length left) (length into)))

-- A write fails exactly where it is to fail, and else takes all bytes that are not cut off.
pub record WritesBy (plan : Option Plan) (bytes : List ℕ) (result : Result ℕ WorldError) : Type 0 where
  pub fails : FailsWhere (fails_next CallWriting plan) result
  pub count : IfOk result (λ count. count ≡ write_cut plan (length bytes))

-- a member holds more bytes by those that were written
abbrev pub HoldsMore : List ℕ → List ℕ → Result ℕ WorldError → (List ℕ → Option (List ℕ)) → (List ℕ → Option (List ℕ)) → Type 0
HoldsMore name bytes (Ok count) h h' = h' ≡ with_file name (Some (bytes_in (h name) ++ take count bytes)) h
HoldsMore name bytes (Err e) h h' = h' ≡ h

-- the members once a close has taken a mark's file away
abbrev pub without_marked : Use → List ℕ → (List ℕ → Option (List ℕ)) → List ℕ → Option (List ℕ)
without_marked Reading name h = h
without_marked Writing name h = h
without_marked Marking name h = with_file name None h

-- what is to be read is not there
abbrev pub is_missing : Use → Option (List ℕ) → Bool
is_missing Reading file = is_none file
is_missing Writing file = false
is_missing Marking file = false

-- the events of a refused call: one where it failed, and none where memory was wanting
abbrev pub where_failed : WorldError → Event → List Event
where_failed Failed event = event ∷ []
where_failed NoMemory event = []

-- the members after an open: a file that is opened for writing or as a mark becomes empty
abbrev pub emptied_member : Use → List ℕ → (List ℕ → Option (List ℕ)) → List ℕ → Option (List ℕ)
emptied_member Reading name h = h
emptied_member Writing name h = with_file name (Some []) h
emptied_member Marking name h = with_file name (Some []) h

abbrev pub held_after_open : {T : Type 0} → Use → List ℕ → Result T WorldError → (List ℕ → Option (List ℕ)) → List ℕ → Option (List ℕ)
held_after_open use_of name (Ok d) h = emptied_member use_of name h
held_after_open use_of name (Err e) h = h

-- A close fails exactly where it is to fail. A mark's file is taken away where it does not fail.
abbrev pub ClosesWhere : {T : Type 0} → Bool → Result T CloseFailed → Type 0
ClosesWhere fails (Ok x) = fails ≡ false
ClosesWhere fails (Err e) = fails ≡ true

abbrev pub held_after_close : {T : Type 0} → Use → List ℕ → Result T CloseFailed → (List ℕ → Option (List ℕ)) → List ℕ → Option (List ℕ)
held_after_close use_of name (Ok x) h = without_marked use_of name h
held_after_close use_of name (Err e) h = h
