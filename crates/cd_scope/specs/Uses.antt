-- What a site may be used for, by its place.
use Rattle.std.specs.Prelude.{◌≡◌, ℕ, List, []}
use Rattle.cd_meaning.specs.Places.{Place, Reads, ReadsInput, Writes, WritesOutput, Marks}
use Rattle.cd_world.specs.declared.event.Use.{Use}
use Rattle.cd_world.specs.declared.event.Use.TheVariants.{Reading, Writing, Marking}

-- how its file is opened, and by which name
abbrev pub use_at : Place → Use
use_at (Reads name) = Reading
use_at ReadsInput = Reading
use_at (Writes name) = Writing
use_at WritesOutput = Writing
use_at (Marks name) = Marking

abbrev pub name_at : Place → List ℕ
name_at (Reads name) = name
name_at ReadsInput = []
name_at (Writes name) = name
name_at WritesOutput = []
name_at (Marks name) = name

-- it has a file, which is opened
abbrev pub HasFile : Place → Type 0
HasFile (Reads name) = Unit {0}
HasFile ReadsInput = ⊥
HasFile (Writes name) = Unit {0}
HasFile WritesOutput = ⊥
HasFile (Marks name) = Unit {0}

-- it reads: standard input, or a descriptor that is open for it
abbrev pub ReadsAt : Place → ℕ → Type 0 → Type 0
ReadsAt (Reads name) d IsOpen = IsOpen
ReadsAt ReadsInput d IsOpen = d ≡ 0
ReadsAt (Writes name) d IsOpen = ⊥
ReadsAt WritesOutput d IsOpen = ⊥
ReadsAt (Marks name) d IsOpen = ⊥

-- it writes: standard output, or a descriptor that is open for it
abbrev pub WritesAt : Place → ℕ → Type 0 → Type 0
WritesAt (Reads name) d IsOpen = ⊥
WritesAt ReadsInput d IsOpen = ⊥
WritesAt (Writes name) d IsOpen = IsOpen
WritesAt WritesOutput d IsOpen = d ≡ 1
WritesAt (Marks name) d IsOpen = ⊥
