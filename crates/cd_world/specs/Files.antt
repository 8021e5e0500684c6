-- What the files and streams hold.
use Rattle.std.specs.Prelude.{◌≡◌, ◌⊎◌, ℕ, ◌+◌, List, [], ◌++◌, take, drop, Result, Ok, Err, if◌then◌else◌, ◌==◌}
use Rattle.std.specs.Str.{bytes_eq}
use Rattle.cd_world.specs.declared.event.Descriptor.{Descriptor}
use Rattle.cd_world.specs.declared.event.Use.{Use}
use Rattle.cd_world.specs.declared.event.Use.TheVariants.{Reading, Writing, Marking}
use Rattle.cd_world.specs.declared.world.WorldError.{WorldError}
use Rattle.cd_world.specs.declared.world.CloseFailed.{CloseFailed}
use Rattle.cd_world.specs.Live.{Open}

pub record Files : Type 0 where
  -- the bytes of each file by its name, none where there is no such file
  pub contents : List ℕ → List ℕ
  -- how many bytes were given on each descriptor that is open for reading, and 0 on every other
  pub given : ℕ → ℕ
  -- what is left of standard input
  pub input : List ℕ
  -- what was written to standard output and standard error
  pub output : List ℕ
  pub errors : List ℕ

-- the files with other bytes under this name
abbrev pub with_contents : List ℕ → List ℕ → Files → Files
with_contents name bytes f = record f { contents = λ other. if bytes_eq name other then bytes else f.contents other }

-- the files with so many bytes given on this descriptor
abbrev pub with_given : ℕ → ℕ → Files → Files
with_given d count f = record f { given = λ other. if d == other then count else f.given other }

-- the files with more on standard output
abbrev pub with_output : List ℕ → Files → Files
with_output bytes f = record f { output = f.output ++ bytes }

-- the files with more on standard error
abbrev pub with_errors : List ℕ → Files → Files
with_errors bytes f = record f { errors = f.errors ++ bytes }

-- what is left of a file at a descriptor for reading
abbrev pub left_at : ℕ → List ℕ → Files → List ℕ
left_at d name f = drop (f.given d) (f.contents name)

-- a file that is opened for writing or as a mark becomes empty
abbrev pub emptied : Use → List ℕ → Files → Files
emptied Reading name f = f
emptied Writing name f = with_contents name [] f
emptied Marking name f = with_contents name [] f

abbrev pub after_open : Use → List ℕ → Result Descriptor WorldError → Files → Files
after_open use_of name (Ok d) f = with_given d.0 0 (emptied use_of name f)
after_open use_of name (Err e) f = f

-- a read gave these bytes of what was left, and none only at the end
pub record Gives (left : List ℕ) (count : ℕ) (into : List ℕ) : Type 0 where
  pub bytes : left ≡ take count into ++ drop count left
  pub end : count ≡ 0 → left ≡ []

abbrev pub ReadsFile : ℕ → List ℕ → List ℕ → Result ℕ WorldError → Files → Files → Type 0
ReadsFile d name into (Ok count) f f' = Gives (left_at d name f) count into × (f' ≡ with_given d (f.given d + count) f)
ReadsFile d name into (Err e) f f' = f' ≡ f

abbrev pub ReadsInput : List ℕ → Result ℕ WorldError → Files → Files → Type 0
ReadsInput into (Ok count) f f' = Gives f.input count into × (f' ≡ record f { input = drop count f.input })
ReadsInput into (Err e) f f' = f' ≡ f

abbrev pub WritesFile : List ℕ → List ℕ → Result ℕ WorldError → Files → Files → Type 0
WritesFile name bytes (Ok count) f f' = f' ≡ with_contents name (f.contents name ++ take count bytes) f
WritesFile name bytes (Err e) f f' = f' ≡ f

abbrev pub WritesOutput : List ℕ → Result ℕ WorldError → Files → Files → Type 0
WritesOutput bytes (Ok count) f f' = f' ≡ with_output (take count bytes) f
WritesOutput bytes (Err e) f f' = f' ≡ f

abbrev pub WritesErrors : List ℕ → Result ℕ WorldError → Files → Files → Type 0
WritesErrors bytes (Ok count) f f' = f' ≡ with_errors (take count bytes) f
WritesErrors bytes (Err e) f f' = f' ≡ f

-- A mark's file is taken out. A close of a mark that fails takes it out or leaves it.
abbrev pub ClosesMark : {T : Type 0} → List ℕ → Result T CloseFailed → Files → Files → Type 0
ClosesMark name (Ok done) f f' = f' ≡ with_contents name [] f
ClosesMark name (Err e) f f' = (f' ≡ f) ⊎ (f' ≡ with_contents name [] f)

abbrev pub ClosesUse : {T : Type 0} → Use → List ℕ → Result T CloseFailed → Files → Files → Type 0
ClosesUse Reading name result f f' = f' ≡ f
ClosesUse Writing name result f f' = f' ≡ f
ClosesUse Marking name result f f' = ClosesMark name result f f'

-- the files once a close has taken a mark's file away
abbrev pub without_mark : Use → List ℕ → Files → Files
without_mark Reading name f = f
without_mark Writing name f = f
without_mark Marking name f = with_contents name [] f

-- what was given on a descriptor is forgotten when it is closed
abbrev pub ClosesFile : {T : Type 0} → Open → Result T CloseFailed → Files → Files → Type 0
ClosesFile o result f f' = ClosesUse o.use_of o.name result (with_given o.descriptor.0 0 f) f'

-- no bytes anywhere
abbrev pub no_files : Files
no_files = record { contents = λ name. []; given = λ d. 0; input = []; output = []; errors = [] }
