-- In a script that has a type each name is defined once, so its number is how many were defined before it.
use Rattle.std.proofs.Common.{◌≡◌, ℕ, suc, ◌+◌, ◌<◌, Bool, true, false, ◌||◌, not, nat_lt, cond, List, [], ◌∷◌, ◌++◌, length, map, bytes_eq, slice_get, Some, None, option_and_then, refl, ap, sym, ◌∙◌, subst, append_assoc, arith}
use Rattle.std.specs.List.{fold, list_any, position_or_len}
use Rattle.std.proofs.lemmas.Bool.{lt-ltb}
use Rattle.std.proofs.lemmas.List.{append-nil, length-append, map-append}
use Rattle.std.proofs.lemmas.Slice.Eq.{bytes_eq-Decides}
use Rattle.cd_elem.specs.declared.script.Pipe.{Pipe}
use Rattle.cd_elem.specs.declared.script.Stmt.{Stmt}
use Rattle.cd_types.specs.declared.refusal.RefusalKind.TheVariants.{Seal, Key}
use Rattle.cd_types.specs.Moments.{reach, nothing_reached, AllPass}
use Rattle.cd_types.specs.Numbering.{numbered, seal_named, key_named, name_number, seal_number, key_number}
use Rattle.cd_types.specs.Statements.{Statement, statement_of, is_seal, is_key, seal_names, key_names, statement_moments, moments_behind}
use Rattle.cd_types.specs.Typing.{HasType}
use Rattle.cd_types.proofs.Passing.{none_of, split}
use Rattle.cd_types.proofs.StandingNames.{begun, same_way}

none_of_both : (x p : Bool) → (x || p) ≡ false → (x ≡ false) × (p ≡ false)
none_of_both true p e = let f : ⊥ = cc in absurd f
none_of_both false p e = (refl, e)

-- ---- a name behind others

new_place : (names rest : List (List ℕ)) (name : List ℕ) → list_any (bytes_eq name) names ≡ false → position_or_len (bytes_eq name) (names ++ name ∷ rest) ≡ length names
new_place [] rest name e = ap (λ b. cond (not b) (1 + position_or_len (bytes_eq name) rest) 0) ((bytes_eq-Decides name name).1 refl)
new_place (x ∷ names) rest name e =
    let n = none_of_both (bytes_eq name x) (list_any (bytes_eq name) names) e in
    let later = new_place names rest name n.1 in
    let next : 1 + position_or_len (bytes_eq name) (names ++ name ∷ rest) ≡ length (x ∷ names) = omega arith in
    ap (λ b. cond (not b) (1 + position_or_len (bytes_eq name) (names ++ name ∷ rest)) 0) n.0 ∙ next

new_number : (names rest : List (List ℕ)) (name : List ℕ) → list_any (bytes_eq name) names ≡ false → name_number (names ++ name ∷ rest) name ≡ Some (length names)
new_number names rest name e =
    let count = length-append names (name ∷ rest) in
    let within : length names < length (names ++ name ∷ rest) = omega arith in
    ap (λ k. cond (nat_lt k (length (names ++ name ∷ rest))) (Some k) None) (new_place names rest name e)
    ∙ ap (λ b. cond b (Some (length names)) None) (lt-ltb (length names) (length (names ++ name ∷ rest)) within)

seals_before : (before more : List Stmt) → seal_names (before ++ more) ≡ seal_names before ++ seal_names more
seals_before [] more = refl
seals_before (Stmt.Run p ∷ before) more = seals_before before more
seals_before (Stmt.Seal name p ∷ before) more = ap (λ names. name ∷ names) (seals_before before more)
seals_before (Stmt.Feed name p ∷ before) more = seals_before before more
seals_before (Stmt.CloseSeal name p ∷ before) more = seals_before before more
seals_before (Stmt.Hold name file ∷ before) more = seals_before before more
seals_before (Stmt.Release name ∷ before) more = seals_before before more

keys_before : (before more : List Stmt) → key_names (before ++ more) ≡ key_names before ++ key_names more
keys_before [] more = refl
keys_before (Stmt.Run p ∷ before) more = keys_before before more
keys_before (Stmt.Seal name p ∷ before) more = keys_before before more
keys_before (Stmt.Feed name p ∷ before) more = keys_before before more
keys_before (Stmt.CloseSeal name p ∷ before) more = keys_before before more
keys_before (Stmt.Hold name file ∷ before) more = ap (λ names. name ∷ names) (keys_before before more)
keys_before (Stmt.Release name ∷ before) more = keys_before before more

-- ---- no statement before defines it

free_seal : (before : List Stmt) (name : List ℕ) → is_seal (map statement_of before) name ≡ false → list_any (bytes_eq name) (seal_names before) ≡ false
free_seal [] name e = refl
free_seal (Stmt.Run p ∷ more) name e = free_seal more name e
free_seal (Stmt.Seal other p ∷ more) name e =
    let n = none_of_both (bytes_eq other name) (is_seal (map statement_of more) name) e in
    ap (λ b. b || list_any (bytes_eq name) (seal_names more)) (same_way name other ∙ n.0) ∙ free_seal more name n.1
free_seal (Stmt.Feed other p ∷ more) name e = free_seal more name e
free_seal (Stmt.CloseSeal other p ∷ more) name e = free_seal more name e
free_seal (Stmt.Hold other file ∷ more) name e = free_seal more name e
free_seal (Stmt.Release other ∷ more) name e = free_seal more name e

free_key : (before : List Stmt) (name : List ℕ) → is_key (map statement_of before) name ≡ false → list_any (bytes_eq name) (key_names before) ≡ false
free_key [] name e = refl
free_key (Stmt.Run p ∷ more) name e = free_key more name e
free_key (Stmt.Seal other p ∷ more) name e = free_key more name e
free_key (Stmt.Feed other p ∷ more) name e = free_key more name e
free_key (Stmt.CloseSeal other p ∷ more) name e = free_key more name e
free_key (Stmt.Hold other file ∷ more) name e =
    let n = none_of_both (bytes_eq other name) (is_key (map statement_of more) name) e in
    ap (λ b. b || list_any (bytes_eq name) (key_names more)) (same_way name other ∙ n.0) ∙ free_key more name n.1
free_key (Stmt.Release other ∷ more) name e = free_key more name e

-- the moments of some statements, and then those of others behind them
moments_split : (b xs ys : List Statement) → moments_behind b (xs ++ ys) ≡ moments_behind b xs ++ moments_behind (b ++ xs) ys
moments_split b [] ys = ap (λ l. moments_behind l ys) (sym (append-nil b))
moments_split b (x ∷ xs) ys =
    ap (λ l. statement_moments (length b + 1) b x ++ l) (moments_split (b ++ x ∷ []) xs ys ∙ ap (λ l. moments_behind (b ++ x ∷ []) xs ++ moments_behind l ys) (append_assoc b (x ∷ []) xs))
    ∙ sym (append_assoc (statement_moments (length b + 1) b x) (moments_behind (b ++ x ∷ []) xs) (moments_behind (b ++ x ∷ xs) ys))

-- what passes from this statement on
passes_from : (before more : List Stmt) (s : Stmt) → HasType (before ++ s ∷ more)
    → AllPass (fold reach nothing_reached (moments_behind [] (map statement_of before))) (moments_behind (map statement_of before) (statement_of s ∷ map statement_of more))
passes_from before more s typed =
    let same = ap (moments_behind []) (map-append statement_of before (s ∷ more)) ∙ moments_split [] (map statement_of before) (statement_of s ∷ map statement_of more) in
    (split nothing_reached (moments_behind [] (map statement_of before)) _ (subst (AllPass nothing_reached) same typed)).1

at_end : (before more : List Stmt) (s : Stmt) → slice_get (before ++ s ∷ more) (length before) ≡ Some s
at_end [] more s = refl
at_end (b ∷ before) more s = at_end before more s

behind_them : (before : List Stmt) → length before + 1 ≡ suc (length before)
behind_them before = omega arith

pub seal_defined : (before more : List Stmt) (name : List ℕ) (p : Pipe) → HasType (before ++ Stmt.Seal name p ∷ more)
    → seal_number (before ++ Stmt.Seal name p ∷ more) (length before + 1) ≡ Some (length (seal_names before))
seal_defined before more name p typed =
    let s = Stmt.Seal name p in
    let script = before ++ s ∷ more in
    let first = fold reach nothing_reached (moments_behind [] (map statement_of before)) in
    let free : is_seal (map statement_of before) name ≡ false = none_of (begun first (map statement_of before) (statement_of s)) (passes_from before more s typed).1.0 Seal in
    ap (λ n. option_and_then (name_number (seal_names script)) (option_and_then seal_named (numbered script n))) (behind_them before)
    ∙ ap (λ found. option_and_then (name_number (seal_names script)) (option_and_then seal_named found)) (at_end before more s)
    ∙ ap (λ names. name_number names name) (seals_before before (s ∷ more))
    ∙ new_number (seal_names before) (seal_names more) name (free_seal before name free)

pub key_defined : (before more : List Stmt) (name file : List ℕ) → HasType (before ++ Stmt.Hold name file ∷ more)
    → key_number (before ++ Stmt.Hold name file ∷ more) (length before + 1) ≡ Some (length (key_names before))
key_defined before more name file typed =
    let s = Stmt.Hold name file in
    let script = before ++ s ∷ more in
    let first = fold reach nothing_reached (moments_behind [] (map statement_of before)) in
    let free : is_key (map statement_of before) name ≡ false = none_of (begun first (map statement_of before) (statement_of s)) (passes_from before more s typed).1.0 Key in
    ap (λ n. option_and_then (name_number (key_names script)) (option_and_then key_named (numbered script n))) (behind_them before)
    ∙ ap (λ found. option_and_then (name_number (key_names script)) (option_and_then key_named found)) (at_end before more s)
    ∙ ap (λ names. name_number names name) (keys_before before (s ∷ more))
    ∙ new_number (key_names before) (key_names more) name (free_key before name free)
