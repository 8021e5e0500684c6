-- What a world in memory begins with.
use Rattle.std.proofs.Common.{◌≡◌, ℕ, List, [], ◌∷◌, ◌++◌, Bool, true, false, if◌then◌else◌, Option, Some, None, refl, inl, inr, sym, ◌∙◌, ap}
use Rattle.std.specs.Prelude.{map, option_map, codes}
use Rattle.std.specs.Str.{bytes_eq}
use Rattle.std.proofs.lemmas.Slice.Eq.{bytes_eq-Decides}
use Rattle.std.proofs.lemmas.Bool.{cases_Bool}
use Rattle.cd_world.specs.declared.store.Member.{Member}
use Rattle.cd_world.specs.declared.store.MemoryFile.{MemoryFile}
use Rattle.cd_world.specs.Files.{Files}
use Rattle.cd_world.specs.Memory.{files_by}
use Rattle.cd_world.specs.Store.{found, held, plan_of, bytes_of_member, plan_of_member, bytes_in, with_file, member_of, member_name, file_named, bytes_given, plan_given}
use Rattle.cd_world.proofs.FilesSteps.{files-eq}
use Rattle.cd_world.proofs.NameSteps.{begins_once, stream-eq}

found-test : (b : Bool) (file : MemoryFile) (rest : Option MemoryFile) → (if b then Some (member_of file) else option_map member_of rest) ≡ option_map member_of (if b then Some file else rest)
found-test true file rest = refl
found-test false file rest = refl

found-given : (files : List MemoryFile) (name : List ℕ) → found (map member_of files) name ≡ option_map member_of (file_named files name)
found-given [] name = refl
found-given (file ∷ files) name =
    ap (λ (r : Option Member). if bytes_eq file.name name then Some (member_of file) else r) (found-given files name) ∙ found-test (bytes_eq file.name name) file (file_named files name)

bytes-member_of : (o : Option MemoryFile) → bytes_of_member (option_map member_of o) ≡ option_map (λ file. file.bytes) o
bytes-member_of None = refl
bytes-member_of (Some file) = refl

plan-member_of : (files : List MemoryFile) (name : List ℕ) (o : Option MemoryFile) → file_named files name ≡ o → plan_of_member (option_map member_of o) ≡ plan_given files name
plan-member_of files name None is = ap (option_map _) (sym is)
plan-member_of files name (Some file) is = ap (option_map _) (sym is)

held-given : (files : List MemoryFile) (name : List ℕ) → held (map member_of files) name ≡ bytes_given files name
held-given files name = ap bytes_of_member (found-given files name) ∙ bytes-member_of (file_named files name)

pub plans-given : (files : List MemoryFile) (name : List ℕ) → plan_of (map member_of files) name ≡ plan_given files name
plans-given files name = ap plan_of_member (found-given files name) ∙ plan-member_of files name (file_named files name) refl

-- a stream that is made holds what it held
module _ (h h' : List ℕ → Option (List ℕ)) (stream : List ℕ) (is : h' ≡ with_file stream (Some (bytes_in (h stream))) h) where
  stream-bytes : (name : List ℕ) → bytes_in (h' name) ≡ bytes_in (h name)
  stream-bytes name = ap (λ (f : List ℕ → Option (List ℕ)). bytes_in (f name)) is ∙ elim (cases_Bool (bytes_eq stream name)) [
    | inl same ↦ ap (λ (b : Bool). bytes_in (if b then Some (bytes_in (h stream)) else h name)) same ∙ ap (λ (n : List ℕ). bytes_in (h n)) ((bytes_eq-Decides stream name).0 same)
    | inr apart ↦ ap (λ (b : Bool). bytes_in (if b then Some (bytes_in (h stream)) else h name)) apart
  ]

  stream-files : begins_once stream ≡ true → (name : List ℕ) → h' (member_name name) ≡ h (member_name name)
  stream-files once name = ap (λ (f : List ℕ → Option (List ℕ)). f (member_name name)) is
      ∙ ap (λ (b : Bool). if b then Some (bytes_in (h stream)) else h (member_name name)) (stream-eq stream name once)

module _ (files : List MemoryFile) (members members1 members2 members3 : List Member) (begun : members ≡ map member_of files)
    (first : held members1 ≡ with_file (codes "<stdin>") (Some (bytes_in (held members (codes "<stdin>")))) (held members))
    (second : held members2 ≡ with_file (codes "<stdout>") (Some (bytes_in (held members1 (codes "<stdout>")))) (held members1))
    (third : held members3 ≡ with_file (codes "<stderr>") (Some (bytes_in (held members2 (codes "<stderr>")))) (held members2)) where
  bytes-begun : (name : List ℕ) → bytes_in (held members3 name) ≡ bytes_in (bytes_given files name)
  bytes-begun name =
      stream-bytes (held members2) (held members3) (codes "<stderr>") third name
      ∙ stream-bytes (held members1) (held members2) (codes "<stdout>") second name
      ∙ stream-bytes (held members) (held members1) (codes "<stdin>") first name
      ∙ ap bytes_in (ap (λ (m : List Member). held m name) begun ∙ held-given files name)

  pub files-begun : files_by (held members3) (λ d. 0) 0 ≡ files_by (bytes_given files) (λ d. 0) 0
  files-begun = files-eq _ _ (λ name. bytes-begun (member_name name)) (λ d. refl) (bytes-begun (codes "<stdin>")) (bytes-begun (codes "<stdout>")) (bytes-begun (codes "<stderr>"))

  pub held-begun : (name : List ℕ) → held members3 (member_name name) ≡ bytes_given files (member_name name)
  held-begun name =
      stream-files (held members2) (held members3) (codes "<stderr>") third refl name
      ∙ stream-files (held members1) (held members2) (codes "<stdout>") second refl name
      ∙ stream-files (held members) (held members1) (codes "<stdin>") first refl name
      ∙ ap (λ (m : List Member). held m (member_name name)) begun ∙ held-given files (member_name name)
