-- What a world in memory tells of its files once its members have changed.
use Rattle.std.proofs.Common.{◌≡◌, ℕ, List, [], ◌++◌, drop, Bool, true, false, if◌then◌else◌, Option, Some, refl, inl, inr, sym, ◌∙◌, ap, subst}
use Rattle.std.specs.Prelude.{◌⊎◌, codes}
use Rattle.std.specs.Str.{bytes_eq}
use Rattle.cd_world.specs.declared.event.Use.{Use}
use Rattle.cd_world.specs.declared.event.Use.TheVariants.{Reading, Writing, Marking}
use Rattle.cd_world.specs.Files.{Files, with_contents, with_output, with_errors, emptied, without_mark}
use Rattle.cd_world.specs.Memory.{files_by}
use Rattle.cd_world.specs.Store.{bytes_in, with_file, member_name}
use Rattle.cd_world.proofs.NameSteps.{begins_once, member_name-eq, stream-eq, eq-stream}

-- files that hold the same are the same
pub files-eq : (a b : Files) → ((name : List ℕ) → a.contents name ≡ b.contents name) → ((d : ℕ) → a.given d ≡ b.given d) → a.input ≡ b.input → a.output ≡ b.output → a.errors ≡ b.errors → a ≡ b
files-eq a b c g i o e = λ t. record { contents = λ name. c name t; given = λ d. g d t; input = i t; output = o t; errors = e t }

bytes_of_test : (b : Bool) (x y : Option (List ℕ)) → bytes_in (if b then x else y) ≡ (if b then bytes_in x else bytes_in y)
bytes_of_test true x y = refl
bytes_of_test false x y = refl

module _ (h h' : List ℕ → Option (List ℕ)) (given : ℕ → ℕ) (input_given : ℕ) where
  pub same-files : h' ≡ h → files_by h' given input_given ≡ files_by h given input_given
  same-files is = ap (λ (f : List ℕ → Option (List ℕ)). files_by f given input_given) is

  -- another file under one name
  module _ (name : List ℕ) (file : Option (List ℕ)) (is : h' ≡ with_file (member_name name) file h) where
    contents_are : (other : List ℕ) → bytes_in (h' (member_name other)) ≡ (if bytes_eq name other then bytes_in file else bytes_in (h (member_name other)))
    contents_are other =
        ap (λ (f : List ℕ → Option (List ℕ)). bytes_in (f (member_name other))) is
        ∙ bytes_of_test (bytes_eq (member_name name) (member_name other)) file (h (member_name other))
        ∙ ap (λ (b : Bool). if b then bytes_in file else bytes_in (h (member_name other))) (member_name-eq name other)

    stream_is : (stream : List ℕ) → begins_once stream ≡ true → bytes_in (h' stream) ≡ bytes_in (h stream)
    stream_is stream once =
        ap (λ (f : List ℕ → Option (List ℕ)). bytes_in (f stream)) is
        ∙ ap (λ (b : Bool). bytes_in (if b then file else h stream)) (eq-stream stream name once)

    pub file-changed : files_by h' given input_given ≡ with_contents name (bytes_in file) (files_by h given input_given)
    file-changed = files-eq _ _ contents_are (λ d. refl) (ap (drop input_given) (stream_is (codes "<stdin>") refl)) (stream_is (codes "<stdout>") refl) (stream_is (codes "<stderr>") refl)

  -- more bytes on one stream
  module _ (name more : List ℕ) (is : h' ≡ with_file name (Some (bytes_in (h name) ++ more)) h) where
    at : (stream : List ℕ) → name ≡ stream → h' ≡ with_file stream (Some (bytes_in (h stream) ++ more)) h
    at stream named = is ∙ ap (λ (n : List ℕ). with_file n (Some (bytes_in (h n) ++ more)) h) named

    file_is : (stream : List ℕ) → name ≡ stream → begins_once stream ≡ true → (other : List ℕ) → bytes_in (h' (member_name other)) ≡ bytes_in (h (member_name other))
    file_is stream named once other =
        ap (λ (f : List ℕ → Option (List ℕ)). bytes_in (f (member_name other))) (at stream named)
        ∙ ap (λ (b : Bool). bytes_in (if b then Some (bytes_in (h stream) ++ more) else h (member_name other))) (stream-eq stream other once)

    holds : (stream other : List ℕ) → name ≡ stream → bytes_in (h' other) ≡ bytes_in (with_file stream (Some (bytes_in (h stream) ++ more)) h other)
    holds stream other named = ap (λ (f : List ℕ → Option (List ℕ)). bytes_in (f other)) (at stream named)

    pub output-changed : name ≡ codes "<stdout>" → files_by h' given input_given ≡ with_output more (files_by h given input_given)
    output-changed named = files-eq _ _ (file_is (codes "<stdout>") named refl) (λ d. refl)
        (ap (drop input_given) (holds (codes "<stdout>") (codes "<stdin>") named)) (holds (codes "<stdout>") (codes "<stdout>") named) (holds (codes "<stdout>") (codes "<stderr>") named)

    pub errors-changed : name ≡ codes "<stderr>" → files_by h' given input_given ≡ with_errors more (files_by h given input_given)
    errors-changed named = files-eq _ _ (file_is (codes "<stderr>") named refl) (λ d. refl)
        (ap (drop input_given) (holds (codes "<stderr>") (codes "<stdin>") named)) (holds (codes "<stderr>") (codes "<stdout>") named) (holds (codes "<stderr>") (codes "<stderr>") named)

-- a file that is opened for anything but reading is emptied
pub emptied-is : (use_of : Use) (name : List ℕ) (f f' : Files) → (use_of ≡ Writing) ⊎ (use_of ≡ Marking) → f' ≡ with_contents name [] f → f' ≡ emptied use_of name f
emptied-is use_of name f f' (inl is) made = subst (λ (u : Use). f' ≡ emptied u name f) (sym is) made
emptied-is use_of name f f' (inr is) made = subst (λ (u : Use). f' ≡ emptied u name f) (sym is) made

-- a mark's file is taken away
pub unmarked-is : (use_of : Use) (name : List ℕ) (f f' : Files) → use_of ≡ Marking → f' ≡ with_contents name [] f → f' ≡ without_mark use_of name f
unmarked-is use_of name f f' is made = subst (λ (u : Use). f' ≡ without_mark u name f) (sym is) made
