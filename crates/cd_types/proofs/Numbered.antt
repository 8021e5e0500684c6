-- The numbers of sites, seals and keys.
use Rattle.std.proofs.Common.{◌≡◌, ℕ, zero, suc, ◌+◌, ◌<◌, ◌≤◌, Bool, true, false, ◌||◌, not, if◌then◌else◌, cond, List, [], ◌∷◌, ◌++◌, length, map, bytes_eq, slice_get, Option, Some, None, is_some, option_and_then, ◌⊎◌, inl, inr, refl, ap, sym, ◌∙◌, subst, arith}
use Rattle.std.specs.List.{list_any, position_or_len}
use Rattle.std.proofs.lemmas.Bool.{cases_Bool, lt-ltb}
use Rattle.std.proofs.lemmas.Slice.Eq.{bytes_eq-Decides}
use Rattle.cd_elem.specs.declared.script.Stmt.{Stmt}
use Rattle.cd_meaning.specs.Places.{Place}
use Rattle.cd_meaning.specs.Scripts.{script_places, with_name}
use Rattle.cd_types.specs.Moments.{Moment}
use Rattle.cd_types.specs.Numbering.{ScriptSite, site_before, moment_sites, script_sites, sealed_in, held_in, seal_named, key_named, name_number, numbered, seal_number, key_number}
use Rattle.cd_meaning.specs.Scoped.{UsesStanding}
use Rattle.cd_types.specs.Statements.{statement_of, script_moments, seal_names, key_names}
use Rattle.cd_types.specs.Typing.{HasType}
use Rattle.cd_types.proofs.ScriptFacts.{sites_are_places}
use Rattle.cd_types.proofs.StandingNames.{typed_is_scoped}
use Rattle.cd_types.proofs.Sums.{site_list, sites_in, reached_sites}

-- ---- sites

before_further : (s n : ℕ) (o : Option Place) (more behind : List ScriptSite) → site_before s n o (more ++ behind) ≡ site_before s n o more ++ behind
before_further s n None more behind = refl
before_further s n (Some p) more behind = refl

pub further_sites : (ms ns : List Moment) → moment_sites (ms ++ ns) ≡ moment_sites ms ++ moment_sites ns
further_sites [] ns = refl
further_sites (m ∷ ms) ns = ap (site_before m.statement m.part m.site) (further_sites ms ns) ∙ before_further m.statement m.part m.site (moment_sites ms) (moment_sites ns)

place_before : (s n : ℕ) (o : Option Place) (more : List ScriptSite) → map (λ (site : ScriptSite). site.place) (site_before s n o more) ≡ site_list o ++ map (λ (site : ScriptSite). site.place) more
place_before s n None more = refl
place_before s n (Some p) more = refl

pub their_places : (ms : List Moment) → map (λ (site : ScriptSite). site.place) (moment_sites ms) ≡ sites_in ms
their_places [] = refl
their_places (m ∷ ms) = place_before m.statement m.part m.site (moment_sites ms) ∙ ap (λ l. site_list m.site ++ l) (their_places ms)

pub places_of_sites : (script : List Stmt) → map (λ (site : ScriptSite). site.place) (script_sites script) ≡ script_places script
places_of_sites script = their_places (script_moments script) ∙ sym (reached_sites (script_moments script)) ∙ sites_are_places script

-- ---- the names of statements

pub same_seals : (script : List Stmt) → sealed_in (map statement_of script) ≡ seal_names script
same_seals [] = refl
same_seals (Stmt.Run p ∷ more) = same_seals more
same_seals (Stmt.Seal name p ∷ more) = ap (λ names. name ∷ names) (same_seals more)
same_seals (Stmt.Feed name p ∷ more) = same_seals more
same_seals (Stmt.CloseSeal name p ∷ more) = same_seals more
same_seals (Stmt.Hold name file ∷ more) = same_seals more
same_seals (Stmt.Release name ∷ more) = same_seals more

pub same_keys : (script : List Stmt) → held_in (map statement_of script) ≡ key_names script
same_keys [] = refl
same_keys (Stmt.Run p ∷ more) = same_keys more
same_keys (Stmt.Seal name p ∷ more) = same_keys more
same_keys (Stmt.Feed name p ∷ more) = same_keys more
same_keys (Stmt.CloseSeal name p ∷ more) = same_keys more
same_keys (Stmt.Hold name file ∷ more) = ap (λ names. name ∷ names) (same_keys more)
same_keys (Stmt.Release name ∷ more) = same_keys more

pub few_seals : (script : List Stmt) → length (seal_names script) ≤ length script
few_seals [] = omega arith
few_seals (Stmt.Run p ∷ more) = let h = few_seals more in omega arith
few_seals (Stmt.Seal name p ∷ more) = let h = few_seals more in omega arith
few_seals (Stmt.Feed name p ∷ more) = let h = few_seals more in omega arith
few_seals (Stmt.CloseSeal name p ∷ more) = let h = few_seals more in omega arith
few_seals (Stmt.Hold name file ∷ more) = let h = few_seals more in omega arith
few_seals (Stmt.Release name ∷ more) = let h = few_seals more in omega arith

pub few_keys : (script : List Stmt) → length (key_names script) ≤ length script
few_keys [] = omega arith
few_keys (Stmt.Run p ∷ more) = let h = few_keys more in omega arith
few_keys (Stmt.Seal name p ∷ more) = let h = few_keys more in omega arith
few_keys (Stmt.Feed name p ∷ more) = let h = few_keys more in omega arith
few_keys (Stmt.CloseSeal name p ∷ more) = let h = few_keys more in omega arith
few_keys (Stmt.Hold name file ∷ more) = let h = few_keys more in omega arith
few_keys (Stmt.Release name ∷ more) = let h = few_keys more in omega arith

-- ---- each name that is used has a number

within : {X : Type 0} (p : X → Bool) (xs : List X) → list_any p xs ≡ true → position_or_len p xs < length xs
within p [] h = let no : ⊥ = cc in absurd no
within p (x ∷ xs) h = by (cases_Bool (p x)) (λ e. within p xs (sym (ap (λ b. b || list_any p xs) e) ∙ h)) where
  by : (p x ≡ true) ⊎ (p x ≡ false) → (p x ≡ false → position_or_len p xs < length xs) → position_or_len p (x ∷ xs) < length (x ∷ xs)
  by (inl e) later = subst (λ b. cond (not b) (1 + position_or_len p xs) 0 < length (x ∷ xs)) (sym e) (omega arith)
  by (inr e) later = let rest = later e in subst (λ b. cond (not b) (1 + position_or_len p xs) 0 < length (x ∷ xs)) (sym e) (omega arith)

has_number : (names : List (List ℕ)) (name : List ℕ) → list_any (bytes_eq name) names ≡ true → is_some (name_number names name) ≡ true
has_number names name h =
    ap (λ b. is_some (cond b (Some (position_or_len (bytes_eq name) names)) None)) (lt-ltb (position_or_len (bytes_eq name) names) (length names) (within (bytes_eq name) names h))

is_same : (name other : List ℕ) → Some other ≡ Some name → bytes_eq name other ≡ true
is_same name other e = let same : name ≡ other = cc in (bytes_eq-Decides name other).1 same

-- what stands behind the definition of a name, or behind its end
defined : (name other : List ℕ) (x y : Bool) → ((if bytes_eq name other then true else x) ≡ true) ⊎ (y ≡ true) → (x ≡ true) ⊎ ((bytes_eq name other || y) ≡ true)
defined name other x y h = by (bytes_eq name other) h where
  by : (b : Bool) → ((if b then true else x) ≡ true) ⊎ (y ≡ true) → (x ≡ true) ⊎ ((b || y) ≡ true)
  by true h = inr refl
  by false h = h

ended : (name other : List ℕ) (x y : Bool) → ((if bytes_eq name other then false else x) ≡ true) ⊎ (y ≡ true) → (x ≡ true) ⊎ (y ≡ true)
ended name other x y h = by (bytes_eq name other) h where
  by : (b : Bool) → ((if b then false else x) ≡ true) ⊎ (y ≡ true) → (x ≡ true) ⊎ (y ≡ true)
  by true (inl e) = let no : ⊥ = cc in absurd no
  by true (inr e) = inr e
  by false h = h

this_name : (test : List ℕ → Bool) (name other : List ℕ) → Some other ≡ Some name → test other ≡ true → test name ≡ true
this_name test name other e h = let same : other ≡ name = cc in subst (λ n. test n ≡ true) same h

-- A name that a statement uses was sealed by those before, or is sealed by one of these.
seal_used : (sealed held : List ℕ → Bool) (script : List Stmt) (k : ℕ) (name : List ℕ) → UsesStanding sealed held script → option_and_then seal_named (slice_get script k) ≡ Some name
    → (sealed name ≡ true) ⊎ (list_any (bytes_eq name) (seal_names script) ≡ true)
seal_used sealed held [] k name uses e = let no : ⊥ = cc in absurd no
seal_used sealed held (Stmt.Run p ∷ more) zero name uses e = let no : ⊥ = cc in absurd no
seal_used sealed held (Stmt.Run p ∷ more) (suc k) name uses e = seal_used sealed held more k name uses e
seal_used sealed held (Stmt.Seal other p ∷ more) zero name uses e = inr (ap (λ b. b || list_any (bytes_eq name) (seal_names more)) (is_same name other e))
seal_used sealed held (Stmt.Seal other p ∷ more) (suc k) name uses e =
    defined name other (sealed name) (list_any (bytes_eq name) (seal_names more)) (seal_used (with_name sealed other true) held more k name uses e)
seal_used sealed held (Stmt.Feed other p ∷ more) zero name uses e = inl (this_name sealed name other e uses.0)
seal_used sealed held (Stmt.Feed other p ∷ more) (suc k) name uses e = seal_used sealed held more k name uses.1 e
seal_used sealed held (Stmt.CloseSeal other p ∷ more) zero name uses e = inl (this_name sealed name other e uses.0)
seal_used sealed held (Stmt.CloseSeal other p ∷ more) (suc k) name uses e =
    ended name other (sealed name) (list_any (bytes_eq name) (seal_names more)) (seal_used (with_name sealed other false) held more k name uses.1 e)
seal_used sealed held (Stmt.Hold other file ∷ more) zero name uses e = let no : ⊥ = cc in absurd no
seal_used sealed held (Stmt.Hold other file ∷ more) (suc k) name uses e = seal_used sealed (with_name held other true) more k name uses e
seal_used sealed held (Stmt.Release other ∷ more) zero name uses e = let no : ⊥ = cc in absurd no
seal_used sealed held (Stmt.Release other ∷ more) (suc k) name uses e = seal_used sealed (with_name held other false) more k name uses.1 e

key_used : (sealed held : List ℕ → Bool) (script : List Stmt) (k : ℕ) (name : List ℕ) → UsesStanding sealed held script → option_and_then key_named (slice_get script k) ≡ Some name
    → (held name ≡ true) ⊎ (list_any (bytes_eq name) (key_names script) ≡ true)
key_used sealed held [] k name uses e = let no : ⊥ = cc in absurd no
key_used sealed held (Stmt.Run p ∷ more) zero name uses e = let no : ⊥ = cc in absurd no
key_used sealed held (Stmt.Run p ∷ more) (suc k) name uses e = key_used sealed held more k name uses e
key_used sealed held (Stmt.Seal other p ∷ more) zero name uses e = let no : ⊥ = cc in absurd no
key_used sealed held (Stmt.Seal other p ∷ more) (suc k) name uses e = key_used (with_name sealed other true) held more k name uses e
key_used sealed held (Stmt.Feed other p ∷ more) zero name uses e = let no : ⊥ = cc in absurd no
key_used sealed held (Stmt.Feed other p ∷ more) (suc k) name uses e = key_used sealed held more k name uses.1 e
key_used sealed held (Stmt.CloseSeal other p ∷ more) zero name uses e = let no : ⊥ = cc in absurd no
key_used sealed held (Stmt.CloseSeal other p ∷ more) (suc k) name uses e = key_used (with_name sealed other false) held more k name uses.1 e
key_used sealed held (Stmt.Hold other file ∷ more) zero name uses e = inr (ap (λ b. b || list_any (bytes_eq name) (key_names more)) (is_same name other e))
key_used sealed held (Stmt.Hold other file ∷ more) (suc k) name uses e =
    defined name other (held name) (list_any (bytes_eq name) (key_names more)) (key_used sealed (with_name held other true) more k name uses e)
key_used sealed held (Stmt.Release other ∷ more) zero name uses e = inl (this_name held name other e uses.0)
key_used sealed held (Stmt.Release other ∷ more) (suc k) name uses e =
    ended name other (held name) (list_any (bytes_eq name) (key_names more)) (key_used sealed (with_name held other false) more k name uses.1 e)

-- before the first statement no name stands
stands_later : {A : Type 0} → (false ≡ true) ⊎ A → A
stands_later (inl e) = let no : ⊥ = cc in absurd no
stands_later (inr h) = h

numbers_used : (names : List (List ℕ)) (used : Option (List ℕ)) → ((name : List ℕ) → used ≡ Some name → list_any (bytes_eq name) names ≡ true)
    → is_some (option_and_then (name_number names) used) ≡ is_some used
numbers_used names None stands = refl
numbers_used names (Some name) stands = has_number names name (stands name refl)

pub known_seals : (script : List Stmt) (s : ℕ) → HasType script → is_some (seal_number script s) ≡ is_some (option_and_then seal_named (numbered script s))
known_seals script zero typed = refl
known_seals script (suc k) typed =
    numbers_used (seal_names script) (option_and_then seal_named (slice_get script k)) (λ name e. stands_later (seal_used (λ n. false) (λ n. false) script k name (typed_is_scoped script typed) e))

pub known_keys : (script : List Stmt) (s : ℕ) → HasType script → is_some (key_number script s) ≡ is_some (option_and_then key_named (numbered script s))
known_keys script zero typed = refl
known_keys script (suc k) typed =
    numbers_used (key_names script) (option_and_then key_named (slice_get script k)) (λ name e. stands_later (key_used (λ n. false) (λ n. false) script k name (typed_is_scoped script typed) e))
