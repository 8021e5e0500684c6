-- Files with different names are different members, and none of them is a stream.
use Rattle.std.proofs.Common.{◌≡◌, ◌≢◌, ℕ, ◌==◌, ◌&&◌, List, [], ◌∷◌, Bool, true, false, if◌then◌else◌, refl, inl, inr, sym, ◌∙◌, ap}
use Rattle.std.specs.Str.{bytes_eq}
use Rattle.std.proofs.lemmas.Slice.Eq.{bytes_eq-Decides}
use Rattle.std.proofs.lemmas.Bool.{cases_Bool}
use Rattle.cd_world.specs.Store.{member_name}

-- the name that a member's name stands for
abbrev doubled : ℕ → List ℕ → Bool
doubled c [] = false
doubled c (d ∷ ds) = c == 60 && d == 60

abbrev unnamed : List ℕ → List ℕ
unnamed [] = []
unnamed (c ∷ cs) = if doubled c cs then cs else c ∷ cs

unnamed-member_name : (name : List ℕ) → unnamed (member_name name) ≡ name
unnamed-member_name [] = refl
unnamed-member_name (c ∷ cs) = by_test (c == 60) refl where
  plain : (cs : List ℕ) → (c == 60) ≡ false → unnamed (c ∷ cs) ≡ c ∷ cs
  plain [] not = refl
  plain (d ∷ ds) not = ap (λ (b : Bool). if b && d == 60 then d ∷ ds else c ∷ d ∷ ds) not

  by_test : (b : Bool) → (c == 60) ≡ b → unnamed (if c == 60 then 60 ∷ c ∷ cs else c ∷ cs) ≡ c ∷ cs
  by_test true sign = ap (λ (b : Bool). unnamed (if b then 60 ∷ c ∷ cs else c ∷ cs)) sign ∙ ap (λ (b : Bool). if b then c ∷ cs else 60 ∷ c ∷ cs) sign
  by_test false not = ap (λ (b : Bool). unnamed (if b then 60 ∷ c ∷ cs else c ∷ cs)) not ∙ plain cs not

pub member_name-injective : (a b : List ℕ) → member_name a ≡ member_name b → a ≡ b
member_name-injective a b is = sym (unnamed-member_name a) ∙ ap unnamed is ∙ unnamed-member_name b

-- files are the same members where they have the same name
pub member_name-eq : (a b : List ℕ) → bytes_eq (member_name a) (member_name b) ≡ bytes_eq a b
member_name-eq a b = elim (cases_Bool (bytes_eq (member_name a) (member_name b))) [
  | inl same ↦ same ∙ sym ((bytes_eq-Decides a b).1 (member_name-injective a b ((bytes_eq-Decides (member_name a) (member_name b)).0 same)))
  | inr apart ↦ elim (cases_Bool (bytes_eq a b)) [
    | inl same ↦ (bytes_eq-Decides (member_name a) (member_name b)).1 (ap member_name ((bytes_eq-Decides a b).0 same)) ∙ sym same
    | inr differ ↦ apart ∙ sym differ
  ]
]

-- a name that begins with one `<`
abbrev pub begins_once : List ℕ → Bool
begins_once [] = false
begins_once (c ∷ []) = c == 60
begins_once (c ∷ d ∷ ds) = if c == 60 then (if d == 60 then false else true) else false

begins_once-member_name : (name : List ℕ) → begins_once (member_name name) ≡ false
begins_once-member_name [] = refl
begins_once-member_name (c ∷ cs) = by_test (c == 60) refl where
  plain : (cs : List ℕ) → (c == 60) ≡ false → begins_once (c ∷ cs) ≡ false
  plain [] not = not
  plain (d ∷ ds) not = ap (λ (b : Bool). if b then (if d == 60 then false else true) else false) not

  by_test : (b : Bool) → (c == 60) ≡ b → begins_once (if c == 60 then 60 ∷ c ∷ cs else c ∷ cs) ≡ false
  by_test true sign = ap (λ (b : Bool). begins_once (if b then 60 ∷ c ∷ cs else c ∷ cs)) sign ∙ ap (λ (b : Bool). if b then false else true) sign
  by_test false not = ap (λ (b : Bool). begins_once (if b then 60 ∷ c ∷ cs else c ∷ cs)) not ∙ plain cs not

-- no file is a stream
pub stream-eq : (stream name : List ℕ) → begins_once stream ≡ true → bytes_eq stream (member_name name) ≡ false
stream-eq stream name once = elim (cases_Bool (bytes_eq stream (member_name name))) [
  | inl same ↦ let never : true ≡ false = sym once ∙ ap begins_once ((bytes_eq-Decides stream (member_name name)).0 same) ∙ begins_once-member_name name in cc
  | inr apart ↦ apart
]

pub eq-stream : (stream name : List ℕ) → begins_once stream ≡ true → bytes_eq (member_name name) stream ≡ false
eq-stream stream name once = elim (cases_Bool (bytes_eq (member_name name) stream)) [
  | inl same ↦ let never : true ≡ false = sym once ∙ ap begins_once (sym ((bytes_eq-Decides (member_name name) stream).0 same)) ∙ begins_once-member_name name in cc
  | inr apart ↦ apart
]
