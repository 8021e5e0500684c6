-- The members of a world in memory as functions from names.
use Rattle.std.specs.Prelude.{◌≡◌, ◌≢◌, ℕ, ◌<◌, List, length, slice_index_or, [], ◌∷◌, Option, Some, None, map, option_map, if◌then◌else◌, ◌==◌}
use Rattle.std.specs.Str.{bytes_eq}
use Rattle.cd_world.specs.declared.plan.Plan.{Plan}
use Rattle.cd_world.specs.declared.store.Member.{Member}
use Rattle.cd_world.specs.declared.store.MemoryFile.{MemoryFile}

-- the first member with this name
abbrev pub found : List Member → List ℕ → Option Member
found [] name = None
found (m ∷ members) name = if bytes_eq m.name name then Some m else found members name

abbrev pub bytes_of_member : Option Member → Option (List ℕ)
bytes_of_member None = None
bytes_of_member (Some m) = m.bytes

abbrev pub plan_of_member : Option Member → Option Plan
plan_of_member None = None
plan_of_member (Some m) = m.plan

-- the bytes that a name holds, and None where it is not there
abbrev pub held : List Member → List ℕ → Option (List ℕ)
held members name = bytes_of_member (found members name)

-- the plan of a name, and None where it has none
abbrev pub plan_of : List Member → List ℕ → Option Plan
plan_of members name = plan_of_member (found members name)

-- what is not there holds no bytes
abbrev pub bytes_in : Option (List ℕ) → List ℕ
bytes_in None = []
bytes_in (Some bytes) = bytes

-- other bytes, or none, under one name
abbrev pub with_file : List ℕ → Option (List ℕ) → (List ℕ → Option (List ℕ)) → List ℕ → Option (List ℕ)
with_file name file files other = if bytes_eq name other then file else files other

-- the first member with this name stands at this place
pub record IsFirst (members : List Member) (name : List ℕ) (place : ℕ) : Type 0 where
  pub within : place < length members
  pub here : (d : Member) → (slice_index_or members place d).name ≡ name
  pub before : (k : ℕ) (d : Member) → k < place → (slice_index_or members k d).name ≢ name

-- what a world begins with: the bytes, and the plan of which nothing was called yet

abbrev pub fresh_plan : MemoryFile → Plan
fresh_plan file = record { read_cuts = file.read_cuts; write_cuts = file.write_cuts; fails = file.fails; opens = 0; reads = 0; writes = 0; closes = 0 }

abbrev pub member_of : MemoryFile → Member
member_of file = record { name = file.name; bytes = Some file.bytes; plan = Some (fresh_plan file) }

-- the first file with this name that the world begins with
abbrev pub file_named : List MemoryFile → List ℕ → Option MemoryFile
file_named [] name = None
file_named (file ∷ files) name = if bytes_eq file.name name then Some file else file_named files name

-- what the world begins with under a name: its bytes, and its plan
abbrev pub bytes_given : List MemoryFile → List ℕ → Option (List ℕ)
bytes_given files name = option_map (λ file. file.bytes) (file_named files name)

abbrev pub plan_given : List MemoryFile → List ℕ → Option Plan
plan_given files name = option_map fresh_plan (file_named files name)

-- The name of the member that a file is, by the name that it is opened by: one more `<` in front where that begins with `<`.
-- So no file is a standard stream.
abbrev pub member_name : List ℕ → List ℕ
member_name [] = []
member_name (c ∷ name) = if c == 60 then 60 ∷ c ∷ name else c ∷ name
