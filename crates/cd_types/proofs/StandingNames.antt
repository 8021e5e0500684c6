-- A script that has a type uses its names while they stand.
use Rattle.std.proofs.Common.{◌≡◌, ℕ, ◌+◌, Bool, true, false, ◌&&◌, ◌||◌, not, if◌then◌else◌, List, [], ◌∷◌, ◌++◌, length, map, bytes_eq, nat_lt, ◌⊎◌, inl, inr, refl, ap, sym, ◌∙◌, subst}
use Rattle.std.specs.List.{fold, list_any}
use Rattle.std.proofs.lemmas.Bool.{cases_Bool}
use Rattle.std.proofs.lemmas.List.Folds.{list_any-append}
use Rattle.std.proofs.lemmas.Slice.Eq.{bytes_eq-Decides}
use Rattle.cd_elem.specs.declared.script.Stmt.{Stmt}
use Rattle.cd_meaning.specs.Scripts.{with_name}
use Rattle.cd_types.specs.Conditions.{Fails, fails_where}
use Rattle.cd_types.specs.Limits.{statement_limit}
use Rattle.cd_types.specs.Moments.{ask, begin_part, Reached, reach, nothing_reached, AllPass, fails_at}
use Rattle.cd_meaning.specs.Scoped.{UsesStanding, IsScoped}
use Rattle.cd_types.specs.Statements.{Statement, statement_of, seals_as, closes_as, holds_as, releases_as, is_seal, is_closed, is_key, is_released, statement_fails, statement_site, statement_moments, moments_behind}
use Rattle.cd_types.specs.Trees.{part}
use Rattle.cd_types.specs.Typing.{HasType}
use Rattle.cd_types.proofs.ScopedNames.{uses_same}
use Rattle.cd_types.specs.declared.refusal.RefusalKind.TheVariants.{Seal, TooMany, Key}
use Rattle.cd_types.proofs.Passing.{none_of, split}

-- ---- what stands behind statements

abbrev sealed : List Statement → List ℕ → Bool
sealed before name = is_seal before name && not (is_closed before name)

abbrev held : List Statement → List ℕ → Bool
held before name = is_key before name && not (is_released before name)

-- only what is there was closed
record Known (before : List Statement) : Type 0 where
  closed : (name : List ℕ) → is_seal before name ≡ false → is_closed before name ≡ false
  released : (name : List ℕ) → is_key before name ≡ false → is_released before name ≡ false

or_false : (x : Bool) → (x || false) ≡ x
or_false true = refl
or_false false = refl

any_more : (test : Statement → Bool) (before : List Statement) (s : Statement) → list_any test (before ++ s ∷ []) ≡ (list_any test before || test s)
any_more test before s = list_any-append test before (s ∷ []) ∙ ap (λ b. list_any test before || b) (or_false (test s))

pub same_way : (a b : List ℕ) → bytes_eq a b ≡ bytes_eq b a
same_way a b = by (cases_Bool (bytes_eq a b)) (cases_Bool (bytes_eq b a)) where
  by : (bytes_eq a b ≡ true) ⊎ (bytes_eq a b ≡ false) → (bytes_eq b a ≡ true) ⊎ (bytes_eq b a ≡ false) → bytes_eq a b ≡ bytes_eq b a
  by (inl e) f = e ∙ sym ((bytes_eq-Decides b a).1 (sym ((bytes_eq-Decides a b).0 e)))
  by (inr e) (inl f) = (bytes_eq-Decides a b).1 (sym ((bytes_eq-Decides b a).0 f)) ∙ sym f
  by (inr e) (inr f) = e ∙ sym f

-- x: it was there, y: it was ended, p and q: this statement makes it, or ends it
abbrev now : Bool → Bool → Bool → Bool → Bool
now x y p q = (x || p) && not (y || q)

neither : (x y : Bool) → now x y false false ≡ (x && not y)
neither true true = refl
neither true false = refl
neither false y = refl

made : (x y p : Bool) → (p ≡ true → y ≡ false) → now x y p false ≡ (if p then true else (x && not y))
made x y false h = neither x y
made true true true h = let f : true ≡ false = h refl in cc
made true false true h = refl
made false true true h = let f : true ≡ false = h refl in cc
made false false true h = refl

ended : (x y q : Bool) → now x y false q ≡ (if q then false else (x && not y))
ended x y false = neither x y
ended true true true = refl
ended true false true = refl
ended false y true = refl

stands_more : (f g : Statement → Bool) (before : List Statement) (s : Statement)
    → (list_any f (before ++ s ∷ []) && not (list_any g (before ++ s ∷ []))) ≡ now (list_any f before) (list_any g before) (f s) (g s)
stands_more f g before s = ap (λ b. b && not (list_any g (before ++ s ∷ []))) (any_more f before s) ∙ ap (λ b. (list_any f before || f s) && not b) (any_more g before s)

parts_false : (x p : Bool) → (x || p) ≡ false → (x ≡ false) × (p ≡ false)
parts_false true p e = let f : ⊥ = cc in absurd f
parts_false false p e = (refl, e)

both_false : (y q : Bool) → y ≡ false → q ≡ false → (y || q) ≡ false
both_false y q e f = ap (λ b. b || q) e ∙ f

known_more : (f g : Statement → Bool) (before : List Statement) (s : Statement) → (list_any f before ≡ false → list_any g before ≡ false) → (g s ≡ true → list_any f before ≡ true)
    → list_any f (before ++ s ∷ []) ≡ false → list_any g (before ++ s ∷ []) ≡ false
known_more f g before s known there e =
    let x = parts_false (list_any f before) (f s) (sym (any_more f before s) ∙ e) in
    any_more g before s ∙ both_false (list_any g before) (g s) (known x.0) (by (cases_Bool (g s)) x.0) where
      by : (g s ≡ true) ⊎ (g s ≡ false) → list_any f before ≡ false → g s ≡ false
      by (inl e) h = let k = there e in cc
      by (inr e) h = e

no_true : {A : Type 0} → false ≡ true → A
no_true h = let f : ⊥ = cc in absurd f

-- what a feed and a release ask
stood : (x y : Bool) → (not x || y) ≡ false → ((x && not y) ≡ true) × (x ≡ true)
stood true true e = let f : ⊥ = cc in absurd f
stood true false e = (refl, refl)
stood false y e = let f : ⊥ = cc in absurd f

-- this one, by its name
of_name : (test : List ℕ → Bool) (name other : List ℕ) (c : Bool) → bytes_eq name other ≡ true → test name ≡ c → test other ≡ c
of_name test name other c e h = subst (λ n. test n ≡ c) ((bytes_eq-Decides name other).0 e) h

turned : (name other : List ℕ) (c x : Bool) → (if bytes_eq name other then c else x) ≡ (if bytes_eq other name then c else x)
turned name other c x = ap (λ b. if b then c else x) (same_way name other)

-- what fails where a statement begins
abbrev pub begun : Reached → List Statement → Statement → Fails
begun r before s =
    let number = length before + 1 in
    fails_at (reach r (ask number 0 (fails_where TooMany (nat_lt statement_limit number)))) (begin_part number 0 (statement_fails before s) (statement_site s))

names_stand : (r : Reached) (before : List Statement) (script : List Stmt) → Known before → AllPass r (moments_behind before (map statement_of script)) → UsesStanding (sealed before) (held before) script
names_stand r before [] known h = tt
names_stand r before (Stmt.Run p ∷ more) known h =
    let s = Statement.Run (part p) in
    uses_same (sealed (before ++ s ∷ [])) (sealed before) (held (before ++ s ∷ [])) (held before) more
    (λ n. stands_more (seals_as n) (closes_as n) before s ∙ neither (is_seal before n) (is_closed before n))
    (λ n. stands_more (holds_as n) (releases_as n) before s ∙ neither (is_key before n) (is_released before n))
    (names_stand (fold reach r (statement_moments (length before + 1) before s)) (before ++ s ∷ []) more
    (record { closed = λ n. known_more (seals_as n) (closes_as n) before s (known.closed n) no_true; released = λ n. known_more (holds_as n) (releases_as n) before s (known.released n) no_true })
    (split r (statement_moments (length before + 1) before s) (moments_behind (before ++ s ∷ []) (map statement_of more)) h).1)
names_stand r before (Stmt.Seal name p ∷ more) known h =
    let s = Statement.Let name (part p) in
    let free : is_seal before name ≡ false = (none_of (begun r before s) h.1.0 Seal) in
    uses_same (sealed (before ++ s ∷ [])) (with_name (sealed before) name true) (held (before ++ s ∷ [])) (held before) more
    (λ n. stands_more (seals_as n) (closes_as n) before s
    ∙ made (is_seal before n) (is_closed before n) (bytes_eq name n) (λ e. of_name (is_closed before) name n false e (known.closed name free))
    ∙ turned name n true (sealed before n))
    (λ n. stands_more (holds_as n) (releases_as n) before s ∙ neither (is_key before n) (is_released before n))
    (names_stand (fold reach r (statement_moments (length before + 1) before s)) (before ++ s ∷ []) more
    (record { closed = λ n. known_more (seals_as n) (closes_as n) before s (known.closed n) no_true; released = λ n. known_more (holds_as n) (releases_as n) before s (known.released n) no_true })
    (split r (statement_moments (length before + 1) before s) (moments_behind (before ++ s ∷ []) (map statement_of more)) h).1)
names_stand r before (Stmt.Feed name p ∷ more) known h =
    let s = Statement.Feed name (part p) in
    let was = stood (is_seal before name) (is_closed before name) (none_of (begun r before s) h.1.0 Seal) in (
      was.0,
      uses_same (sealed (before ++ s ∷ [])) (sealed before) (held (before ++ s ∷ [])) (held before) more
          (λ n. stands_more (seals_as n) (closes_as n) before s ∙ neither (is_seal before n) (is_closed before n))
          (λ n. stands_more (holds_as n) (releases_as n) before s ∙ neither (is_key before n) (is_released before n))
          (names_stand (fold reach r (statement_moments (length before + 1) before s)) (before ++ s ∷ []) more
          (record { closed = λ n. known_more (seals_as n) (closes_as n) before s (known.closed n) no_true; released = λ n. known_more (holds_as n) (releases_as n) before s (known.released n) no_true })
          (split r (statement_moments (length before + 1) before s) (moments_behind (before ++ s ∷ []) (map statement_of more)) h).1),
    )
names_stand r before (Stmt.CloseSeal name p ∷ more) known h =
    let s = Statement.CloseSeal name (part p) in
    let was = stood (is_seal before name) (is_closed before name) (none_of (begun r before s) h.1.0 Seal) in (
      was.0,
      uses_same (sealed (before ++ s ∷ [])) (with_name (sealed before) name false) (held (before ++ s ∷ [])) (held before) more
          (λ n. stands_more (seals_as n) (closes_as n) before s ∙ ended (is_seal before n) (is_closed before n) (bytes_eq name n) ∙ turned name n false (sealed before n))
          (λ n. stands_more (holds_as n) (releases_as n) before s ∙ neither (is_key before n) (is_released before n))
          (names_stand (fold reach r (statement_moments (length before + 1) before s)) (before ++ s ∷ []) more
          (record { closed = λ n. known_more (seals_as n) (closes_as n) before s (known.closed n) (λ e. of_name (is_seal before) name n true e was.1); released = λ n. known_more (holds_as n) (releases_as n) before s (known.released n) no_true })
          (split r (statement_moments (length before + 1) before s) (moments_behind (before ++ s ∷ []) (map statement_of more)) h).1),
    )
names_stand r before (Stmt.Hold name file ∷ more) known h =
    let s = Statement.Hold name file in
    let free : is_key before name ≡ false = (none_of (begun r before s) h.1.0 Key) in
    uses_same (sealed (before ++ s ∷ [])) (sealed before) (held (before ++ s ∷ [])) (with_name (held before) name true) more
    (λ n. stands_more (seals_as n) (closes_as n) before s ∙ neither (is_seal before n) (is_closed before n))
    (λ n. stands_more (holds_as n) (releases_as n) before s
    ∙ made (is_key before n) (is_released before n) (bytes_eq name n) (λ e. of_name (is_released before) name n false e (known.released name free))
    ∙ turned name n true (held before n))
    (names_stand (fold reach r (statement_moments (length before + 1) before s)) (before ++ s ∷ []) more
    (record { closed = λ n. known_more (seals_as n) (closes_as n) before s (known.closed n) no_true; released = λ n. known_more (holds_as n) (releases_as n) before s (known.released n) no_true })
    (split r (statement_moments (length before + 1) before s) (moments_behind (before ++ s ∷ []) (map statement_of more)) h).1)
names_stand r before (Stmt.Release name ∷ more) known h =
    let s = Statement.Release name in
    let was = stood (is_key before name) (is_released before name) (none_of (begun r before s) h.1.0 Key) in (
      was.0,
      uses_same (sealed (before ++ s ∷ [])) (sealed before) (held (before ++ s ∷ [])) (with_name (held before) name false) more
          (λ n. stands_more (seals_as n) (closes_as n) before s ∙ neither (is_seal before n) (is_closed before n))
          (λ n. stands_more (holds_as n) (releases_as n) before s ∙ ended (is_key before n) (is_released before n) (bytes_eq name n) ∙ turned name n false (held before n))
          (names_stand (fold reach r (statement_moments (length before + 1) before s)) (before ++ s ∷ []) more
          (record { closed = λ n. known_more (seals_as n) (closes_as n) before s (known.closed n) no_true; released = λ n. known_more (holds_as n) (releases_as n) before s (known.released n) (λ e. of_name (is_key before) name n true e was.1) })
          (split r (statement_moments (length before + 1) before s) (moments_behind (before ++ s ∷ []) (map statement_of more)) h).1),
    )

pub typed_is_scoped : (script : List Stmt) → HasType script → IsScoped script
typed_is_scoped script h = names_stand nothing_reached [] script (record { closed = λ n e. refl; released = λ n e. refl }) h
