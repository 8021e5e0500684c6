-- What is known of names behind one more statement.
use Rattle.std.proofs.Common.{◌≡◌, ℕ, Bool, true, false, ◌||◌, not, if◌then◌else◌, cond, List, [], ◌∷◌, ◌++◌, bytes_eq, ◌⊎◌, inl, inr, refl, ap, sym, ◌∙◌, subst, Option, Some, None, is_some}
use Rattle.std.specs.List.{list_any}
use Rattle.std.proofs.lemmas.Bool.{cases_Bool}
use Rattle.std.proofs.lemmas.List.Folds.{list_any-append}
use Rattle.std.proofs.lemmas.Slice.Eq.{bytes_eq-Decides}
use Rattle.cd_types.specs.Flows.{Flow}
use Rattle.cd_types.specs.Parts.{Part}
use Rattle.cd_types.specs.Statements.{Statement, Run, Let, Feed, CloseSeal, Hold, Release, seals_as, closes_as, holds_as, releases_as, is_seal, is_closed, seal_flow, is_key, is_released}
use Rattle.cd_types.specs.Numbering.{sealed_in, held_in}
use Rattle.cd_typed.specs.declared.names.Seal.{Seal}
use Rattle.cd_typed.specs.declared.names.Key.{Key}
use Rattle.cd_typed.specs.Knowing.{known_seal, known_key}

or_false : (x : Bool) → (x || false) ≡ x
or_false true = refl
or_false false = refl

any_more : (test : Statement → Bool) (before : List Statement) (s : Statement) → list_any test (before ++ s ∷ []) ≡ (list_any test before || test s)
any_more test before s = list_any-append test before (s ∷ []) ∙ ap (λ b. list_any test before || b) (or_false (test s))

-- a statement that does not do this leaves it
any_stays : (test : Statement → Bool) (before : List Statement) (s : Statement) → test s ≡ false → list_any test (before ++ s ∷ []) ≡ list_any test before
any_stays test before s e = any_more test before s ∙ ap (λ b. list_any test before || b) e ∙ or_false (list_any test before)

or_true : (x : Bool) → (x || true) ≡ true
or_true true = refl
or_true false = refl

any_comes : (test : Statement → Bool) (before : List Statement) (s : Statement) → test s ≡ true → list_any test (before ++ s ∷ []) ≡ true
any_comes test before s e = any_more test before s ∙ ap (λ b. list_any test before || b) e ∙ or_true (list_any test before)

-- what is none behind a statement was none before it
both_none : (x p : Bool) → (x || p) ≡ false → (x ≡ false) × (p ≡ false)
both_none true p e = let f : ⊥ = cc in absurd f
both_none false p e = (refl, e)

-- ---- what seals give

flow_if : Bool → Flow → Flow → Flow
flow_if b f g = if b then f else g

flow_stays : (before : List Statement) (s : Statement) (name : List ℕ) → seals_as name s ≡ false → seal_flow (before ++ s ∷ []) name ≡ seal_flow before name
flow_stays [] (Run a) name e = refl
flow_stays [] (Let other a) name e = ap (λ b. if b then (a.type None).to else None) e
flow_stays [] (Feed other a) name e = refl
flow_stays [] (CloseSeal other a) name e = refl
flow_stays [] (Hold other file) name e = refl
flow_stays [] (Release other) name e = refl
flow_stays (Run a ∷ more) s name e = flow_stays more s name e
flow_stays (Let other a ∷ more) s name e = ap (λ f. if bytes_eq other name then (a.type None).to else f) (flow_stays more s name e)
flow_stays (Feed other a ∷ more) s name e = flow_stays more s name e
flow_stays (CloseSeal other a ∷ more) s name e = flow_stays more s name e
flow_stays (Hold other file ∷ more) s name e = flow_stays more s name e
flow_stays (Release other ∷ more) s name e = flow_stays more s name e

flow_comes : (before : List Statement) (made : List ℕ) (a : Part) (name : List ℕ) → is_seal before name ≡ false → bytes_eq made name ≡ true
    → seal_flow (before ++ Let made a ∷ []) name ≡ (a.type None).to
flow_comes [] made a name e same = ap (λ b. if b then (a.type None).to else None) same
flow_comes (Run b ∷ more) made a name e same = flow_comes more made a name e same
flow_comes (Let other b ∷ more) made a name e same =
    let n = both_none (bytes_eq other name) (is_seal more name) e in
    ap (λ x. if x then (b.type None).to else seal_flow (more ++ Let made a ∷ []) name) n.0 ∙ flow_comes more made a name n.1 same
flow_comes (Feed other b ∷ more) made a name e same = flow_comes more made a name e same
flow_comes (CloseSeal other b ∷ more) made a name e same = flow_comes more made a name e same
flow_comes (Hold other file ∷ more) made a name e same = flow_comes more made a name e same
flow_comes (Release other ∷ more) made a name e same = flow_comes more made a name e same

-- a name that is no seal gives nothing
pub flow_unknown : (before : List Statement) (name : List ℕ) → is_seal before name ≡ false → seal_flow before name ≡ None
flow_unknown [] name e = refl
flow_unknown (Run b ∷ more) name e = flow_unknown more name e
flow_unknown (Let other b ∷ more) name e =
    let n = both_none (bytes_eq other name) (is_seal more name) e in
    ap (λ x. if x then (b.type None).to else seal_flow more name) n.0 ∙ flow_unknown more name n.1
flow_unknown (Feed other b ∷ more) name e = flow_unknown more name e
flow_unknown (CloseSeal other b ∷ more) name e = flow_unknown more name e
flow_unknown (Hold other file ∷ more) name e = flow_unknown more name e
flow_unknown (Release other ∷ more) name e = flow_unknown more name e

-- ---- what is known of a seal

abbrev seal_of : Bool → Flow → Bool → Option Seal
seal_of x f y = if x then Some (record { flow = f; is_open = not y }) else None

seal_by : {x y : Bool} {f g : Flow} {u v : Bool} → x ≡ y → f ≡ g → u ≡ v → seal_of x f u ≡ seal_of y g v
seal_by {x} {y} {f} {g} {u} {v} a b c = ap (λ z. seal_of z f u) a ∙ ap (λ z. seal_of y z u) b ∙ ap (λ z. seal_of y g z) c

pub seal_stays : (before : List Statement) (s : Statement) (name : List ℕ) → seals_as name s ≡ false → closes_as name s ≡ false → known_seal (before ++ s ∷ []) name ≡ known_seal before name
seal_stays before s name e c = seal_by (any_stays (seals_as name) before s e) (flow_stays before s name e) (any_stays (closes_as name) before s c)

-- of a statement that seals this name, another one
by_name : {A : Type 0} (name other : List ℕ) (x y : A) (P : A → Type 0) → (bytes_eq name other ≡ true → P x) → (bytes_eq name other ≡ false → P y) → P (cond (bytes_eq name other) x y)
by_name name other x y P is other_is = by (cases_Bool (bytes_eq name other)) where
  by : (bytes_eq name other ≡ true) ⊎ (bytes_eq name other ≡ false) → P (cond (bytes_eq name other) x y)
  by (inl e) = subst (λ b. P (cond b x y)) (sym e) (is e)
  by (inr e) = subst (λ b. P (cond b x y)) (sym e) (other_is e)

-- this name for that
pub of_name : (test : List ℕ → Bool) (name other : List ℕ) (c : Bool) → bytes_eq name other ≡ true → test name ≡ c → test other ≡ c
of_name test name other c e h = subst (λ n. test n ≡ c) ((bytes_eq-Decides name other).0 e) h

pub seal_made : (before : List Statement) (name : List ℕ) (a : Part) (other : List ℕ) → is_seal before name ≡ false → is_closed before name ≡ false
    → cond (bytes_eq name other) (Some (record { flow = (a.type None).to; is_open = true })) (known_seal before other) ≡ known_seal (before ++ Let name a ∷ []) other
seal_made before name a other free closed = by_name name other _ _ (λ x. x ≡ known_seal (before ++ Let name a ∷ []) other)
    (λ e. sym (seal_by (any_comes (seals_as other) before (Let name a) e) (flow_comes before name a other (of_name (is_seal before) name other false e free) e)
    (any_stays (closes_as other) before (Let name a) refl ∙ of_name (is_closed before) name other false e closed)))
    (λ e. sym (seal_stays before (Let name a) other e refl))

pub seal_closed : (before : List Statement) (name : List ℕ) (a : Part) (other : List ℕ) → is_seal before name ≡ true
    → cond (bytes_eq name other) (Some (record { flow = seal_flow before name; is_open = false })) (known_seal before other) ≡ known_seal (before ++ CloseSeal name a ∷ []) other
seal_closed before name a other there = by_name name other _ _ (λ x. x ≡ known_seal (before ++ CloseSeal name a ∷ []) other)
    (λ e. sym (seal_by (any_stays (seals_as other) before (CloseSeal name a) refl ∙ of_name (is_seal before) name other true e there)
    (flow_stays before (CloseSeal name a) other refl ∙ ap (seal_flow before) (sym ((bytes_eq-Decides name other).0 e)))
    (any_comes (closes_as other) before (CloseSeal name a) e)))
    (λ e. sym (seal_stays before (CloseSeal name a) other refl e))

-- ---- of a key

abbrev key_of : Bool → Bool → Option Key
key_of x y = if x then Some (record { is_held = not y }) else None

key_by : {x y : Bool} {u v : Bool} → x ≡ y → u ≡ v → key_of x u ≡ key_of y v
key_by {x} {y} {u} {v} a c = ap (λ z. key_of z u) a ∙ ap (λ z. key_of y z) c

pub key_stays : (before : List Statement) (s : Statement) (name : List ℕ) → holds_as name s ≡ false → releases_as name s ≡ false → known_key (before ++ s ∷ []) name ≡ known_key before name
key_stays before s name e c = key_by (any_stays (holds_as name) before s e) (any_stays (releases_as name) before s c)

pub key_made : (before : List Statement) (name file : List ℕ) (other : List ℕ) → is_key before name ≡ false → is_released before name ≡ false
    → cond (bytes_eq name other) (Some (record { is_held = true })) (known_key before other) ≡ known_key (before ++ Hold name file ∷ []) other
key_made before name file other free closed = by_name name other _ _ (λ x. x ≡ known_key (before ++ Hold name file ∷ []) other)
    (λ e. sym (key_by (any_comes (holds_as other) before (Hold name file) e)
    (any_stays (releases_as other) before (Hold name file) refl ∙ of_name (is_released before) name other false e closed)))
    (λ e. sym (key_stays before (Hold name file) other e refl))

pub key_released : (before : List Statement) (name : List ℕ) (other : List ℕ) → is_key before name ≡ true
    → cond (bytes_eq name other) (Some (record { is_held = false })) (known_key before other) ≡ known_key (before ++ Release name ∷ []) other
key_released before name other there = by_name name other _ _ (λ x. x ≡ known_key (before ++ Release name ∷ []) other)
    (λ e. sym (key_by (any_stays (holds_as other) before (Release name) refl ∙ of_name (is_key before) name other true e there)
    (any_comes (releases_as other) before (Release name) e)))
    (λ e. sym (key_stays before (Release name) other refl e))

-- ---- what was ended was there

pub ended_more : (made ends : Statement → Bool) (before : List Statement) (s : Statement) → (list_any made before ≡ false → list_any ends before ≡ false)
    → (ends s ≡ true → list_any made before ≡ true) → list_any made (before ++ s ∷ []) ≡ false → list_any ends (before ++ s ∷ []) ≡ false
ended_more made ends before s known there e =
    let x = both_none (list_any made before) (made s) (sym (any_more made before s) ∙ e) in
    any_stays ends before s (by (cases_Bool (ends s)) x.0) ∙ known x.0 where
      by : (ends s ≡ true) ⊎ (ends s ≡ false) → list_any made before ≡ false → ends s ≡ false
      by (inl f) h = let k = there f in cc
      by (inr f) h = f

pub no_true : {A : Type 0} → false ≡ true → A
no_true h = let f : ⊥ = cc in absurd f

-- ---- the order of names

pub sealed_more : (before : List Statement) (s : Statement) → sealed_in (before ++ s ∷ []) ≡ sealed_in before ++ sealed_in (s ∷ [])
sealed_more [] s = refl
sealed_more (Run a ∷ more) s = sealed_more more s
sealed_more (Let name a ∷ more) s = ap (λ names. name ∷ names) (sealed_more more s)
sealed_more (Feed name a ∷ more) s = sealed_more more s
sealed_more (CloseSeal name a ∷ more) s = sealed_more more s
sealed_more (Hold name file ∷ more) s = sealed_more more s
sealed_more (Release name ∷ more) s = sealed_more more s

pub held_more : (before : List Statement) (s : Statement) → held_in (before ++ s ∷ []) ≡ held_in before ++ held_in (s ∷ [])
held_more [] s = refl
held_more (Run a ∷ more) s = held_more more s
held_more (Let name a ∷ more) s = held_more more s
held_more (Feed name a ∷ more) s = held_more more s
held_more (CloseSeal name a ∷ more) s = held_more more s
held_more (Hold name file ∷ more) s = ap (λ names. name ∷ names) (held_more more s)
held_more (Release name ∷ more) s = held_more more s

-- ---- what a look-up tells

pub is_known_seal : (before : List Statement) (name : List ℕ) → is_some (known_seal before name) ≡ is_seal before name
is_known_seal before name = by (is_seal before name) where
  by : (x : Bool) → is_some (seal_of x (seal_flow before name) (is_closed before name)) ≡ x
  by true = refl
  by false = refl

pub is_known_key : (before : List Statement) (name : List ℕ) → is_some (known_key before name) ≡ is_key before name
is_known_key before name = by (is_key before name) where
  by : (x : Bool) → is_some (key_of x (is_released before name)) ≡ x
  by true = refl
  by false = refl

abbrev seal_with : Flow → Bool → Seal
seal_with f y = record { flow = f; is_open = not y }

twice_not : (y : Bool) → not (not y) ≡ y
twice_not true = refl
twice_not false = refl

-- of one that was found
seal_parts : (x : Bool) (f : Flow) (y : Bool) (s : Seal) → seal_of x f y ≡ Some s → (x ≡ true) × (s.flow ≡ f) × (not s.is_open ≡ y)
seal_parts true f y s e =
    let same : seal_with f y ≡ s = cc in
    (refl, ap (λ (r : Seal). r.flow) (sym same), ap (λ (r : Seal). not r.is_open) (sym same) ∙ twice_not y)
seal_parts false f y s e = let no : ⊥ = cc in absurd no

seal_absent : (x : Bool) (f : Flow) (y : Bool) → seal_of x f y ≡ None → x ≡ false
seal_absent true f y e = let no : ⊥ = cc in absurd no
seal_absent false f y e = refl

key_parts : (x y : Bool) (k : Key) → key_of x y ≡ Some k → (x ≡ true) × (not k.is_held ≡ y)
key_parts true y k e =
    let same : record { is_held = not y } ≡ k = cc in
    (refl, ap (λ (r : Key). not r.is_held) (sym same) ∙ twice_not y)
key_parts false y k e = let no : ⊥ = cc in absurd no

key_absent : (x y : Bool) → key_of x y ≡ None → x ≡ false
key_absent true y e = let no : ⊥ = cc in absurd no
key_absent false y e = refl

pub found_seal_fails : (before : List Statement) (name : List ℕ) (s : Seal) → known_seal before name ≡ Some s → not s.is_open ≡ (not (is_seal before name) || is_closed before name)
found_seal_fails before name s e =
    let p = seal_parts (is_seal before name) (seal_flow before name) (is_closed before name) s e in
    p.2 ∙ sym (ap (λ x. not x || is_closed before name) p.0)

pub found_seal_flow : (before : List Statement) (name : List ℕ) (s : Seal) → known_seal before name ≡ Some s → s.flow ≡ seal_flow before name
found_seal_flow before name s e = (seal_parts (is_seal before name) (seal_flow before name) (is_closed before name) s e).1

pub absent_seal : (before : List Statement) (name : List ℕ) → known_seal before name ≡ None → is_seal before name ≡ false
absent_seal before name e = seal_absent (is_seal before name) (seal_flow before name) (is_closed before name) e

pub absent_seal_fails : (before : List Statement) (name : List ℕ) → known_seal before name ≡ None → true ≡ (not (is_seal before name) || is_closed before name)
absent_seal_fails before name e = sym (ap (λ x. not x || is_closed before name) (absent_seal before name e))

pub found_key_fails : (before : List Statement) (name : List ℕ) (k : Key) → known_key before name ≡ Some k → not k.is_held ≡ (not (is_key before name) || is_released before name)
found_key_fails before name k e =
    let p = key_parts (is_key before name) (is_released before name) k e in
    p.1 ∙ sym (ap (λ x. not x || is_released before name) p.0)

pub absent_key : (before : List Statement) (name : List ℕ) → known_key before name ≡ None → is_key before name ≡ false
absent_key before name e = key_absent (is_key before name) (is_released before name) e

pub absent_key_fails : (before : List Statement) (name : List ℕ) → known_key before name ≡ None → true ≡ (not (is_key before name) || is_released before name)
absent_key_fails before name e = sym (ap (λ x. not x || is_released before name) (absent_key before name e))

-- a name is a seal or none
pub unknown_seal : (before : List Statement) (name : List ℕ) → is_seal before name ≡ false → known_seal before name ≡ None
unknown_seal before name e = ap (λ x. seal_of x (seal_flow before name) (is_closed before name)) e

pub unknown_key : (before : List Statement) (name : List ℕ) → is_key before name ≡ false → known_key before name ≡ None
unknown_key before name e = ap (λ x. key_of x (is_released before name)) e
