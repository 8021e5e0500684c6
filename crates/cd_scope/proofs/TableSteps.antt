-- What a scope holds, when one is put in or taken out.
use Rattle.std.proofs.Common.{◌≡◌, ◌≢◌, ℕ, zero, suc, ◌<◌, ◌≤◌, ◌==◌, Bool, true, false, if◌then◌else◌, List, [], ◌∷◌, ◌++◌, length, map, get_or, refl, ap, sym, ◌∙◌, subst, arith, append_assoc}
use Rattle.std.specs.Prelude.{Contains, remove, All}
use Rattle.std.proofs.lemmas.Bool.Decides.{nat_tests}
use Rattle.std.proofs.lemmas.List.{map-append, append-nil}
use Rattle.std.proofs.lemmas.List.Elements.{Contains-append_right}
use Rattle.cd_meaning.specs.Places.{Place}
use Rattle.cd_world.specs.declared.event.Descriptor.{Descriptor}
use Rattle.cd_world.specs.declared.event.Use.{Use}
use Rattle.cd_world.specs.Live.{Open, Removes, IsLive, open_as}
use Rattle.cd_scope.specs.declared.table.Held.{Held}
use Rattle.cd_scope.specs.Calls.{held_at, is_held, without}
use Rattle.cd_scope.specs.Table.{open_of, IsNew, IsOpen, descriptor_at}
use Rattle.cd_scope.specs.Uses.{use_at, name_at}

pub get_any : {X : Type 0} (l : List X) (i : ℕ) (d e : X) → i < length l → get_or l i d ≡ get_or l i e
get_any [] i d e lt = absurd (omega (arith, lt))
get_any (x ∷ l) zero d e lt = refl
get_any (x ∷ l) (suc i) d e lt = get_any l i d e (omega (arith, lt))

-- the first one that is so stands at this place
pub removes_first : (s : ℕ) (d : Descriptor) (t : List Held) (i : ℕ) → i < length t → ((x : Held) → is_held s d (get_or t i x) ≡ true) → ((j : ℕ) (x : Held) → j < i → is_held s d (get_or t j x) ≡ false) → remove t i ≡ without s d t
removes_first s d [] i lt here before = absurd (omega (arith, lt))
removes_first s d (h ∷ t) zero lt here before = sym (ap (λ b. if b then t else h ∷ without s d t) (here h))
removes_first s d (h ∷ t) (suc i) lt here before =
    ap (λ l. h ∷ l) (removes_first s d t i (omega (arith, lt)) here (λ j x less. before (suc j) x (omega (arith, less))))
    ∙ sym (ap (λ b. if b then t else h ∷ without s d t) (before 0 h (omega arith)))

pub is_held_same : (s : ℕ) (d : Descriptor) (h : Held) → is_held s d h ≡ true → h ≡ held_at s d
is_held_same s d h is = grind (arith, nat_tests, is)

is_this : (s : ℕ) (d : Descriptor) (h : Held) → h ≡ held_at s d → is_held s d h ≡ true
is_this s d h is = subst (λ x. is_held s d x ≡ true) (sym is) (grind (arith, nat_tests))

pub true_false : {A : Type 0} → true ≡ false → A
true_false {A = A} e = absurd (subst holds e tt) where
  holds : Bool → Type 0
  holds true = Unit {0}
  holds false = ⊥

-- ---- the first one of a site

pub descriptor_first : (s : ℕ) (t : List Held) (i : ℕ) (h : Held) → i < length t → get_or t i h ≡ h → h.site.0 ≡ s → ((j : ℕ) (x : Held) → j < i → (get_or t j x).site.0 ≢ s) → descriptor_at s t ≡ h.descriptor
descriptor_first s [] i h lt here at before = absurd (omega (arith, lt))
descriptor_first s (x ∷ t) zero h lt here at before =
    let same : (x.site.0 == s) ≡ true = subst (λ (y : Held). (y.site.0 == s) ≡ true) (sym here) (grind (arith, nat_tests, at)) in
    ap (λ b. if b then x.descriptor else descriptor_at s t) same ∙ ap (λ (y : Held). y.descriptor) here
descriptor_first s (x ∷ t) (suc i) h lt here at before =
    let apart : x.site.0 ≢ s = before 0 x (omega arith) in
    let other : (x.site.0 == s) ≡ false = grind (arith, nat_tests, apart) in
    ap (λ b. if b then x.descriptor else descriptor_at s t) other ∙ descriptor_first s t i h (omega (arith, lt)) here at (λ j y less. before (suc j) y (omega (arith, less)))

-- ---- one taken out

pub record Cut (s : ℕ) (d : Descriptor) (t : List Held) : Type 0 where
  pub front : List Held
  pub back : List Held
  pub whole : t ≡ front ++ held_at s d ∷ back
  pub rest : without s d t ≡ front ++ back

cut_by : (s : ℕ) (d : Descriptor) (h : Held) (t : List Held) → (b : Bool) → is_held s d h ≡ b → (b ≡ false → Cut s d t) → Cut s d (h ∷ t)
cut_by s d h t true is more = record { front = []; back = t; whole = ap (λ x. x ∷ t) (is_held_same s d h is); rest = ap (λ b. if b then t else h ∷ without s d t) is }
cut_by s d h t false is more =
    let c = more refl in
    record { front = h ∷ c.front; back = c.back; whole = ap (λ l. h ∷ l) c.whole; rest = ap (λ b. if b then t else h ∷ without s d t) is ∙ ap (λ l. h ∷ l) c.rest }

pub cut : (s : ℕ) (d : Descriptor) (t : List Held) → Contains t (held_at s d) → Cut s d t
cut s d [] has = absurd (omega (arith, has.1))
cut s d (h ∷ t) (zero, lt, is) = cut_by s d h t (is_held s d h) refl (λ e. true_false (sym (is_this s d h is) ∙ e))
cut s d (h ∷ t) (suc k, lt, is) = cut_by s d h t (is_held s d h) refl (λ e. cut s d t (k, omega (arith, lt), is))

seam : {X : Type 0} (xs : List X) (x : X) (ys : List X) → Contains (xs ++ x ∷ ys) x
seam xs x ys = Contains-append_right xs (x ∷ ys) x (0, omega arith, refl)

module _ (place : ℕ → Place) (base live : List Open) (t : List Held) (o : IsOpen place base t live) where
  -- what the table has is open
  pub held_live : (h : Held) → Contains t h → Contains live (open_of place h)
  held_live h has = subst (λ l. Contains l (open_of place h)) (sym o) (Contains-append_right base (map (open_of place) t) (open_of place h) (has.0, mapped t has.0 has.1, mapped_at t has.0 has.1 has.2)) where
    mapped : (l : List Held) (i : ℕ) → i < length l → i < length (map (open_of place) l)
    mapped [] i lt = absurd (omega (arith, lt))
    mapped (x ∷ l) zero lt = omega arith
    mapped (x ∷ l) (suc i) lt = let more = mapped l i (omega (arith, lt)) in omega (arith, more)

    mapped_at : (l : List Held) (i : ℕ) → i < length l → get_or l i h ≡ h → get_or (map (open_of place) l) i (open_of place h) ≡ open_of place h
    mapped_at [] i lt is = absurd (omega (arith, lt))
    mapped_at (x ∷ l) zero lt is = ap (open_of place) is
    mapped_at (x ∷ l) (suc i) lt is = mapped_at l i (omega (arith, lt)) is

  pub still_open : (s : ℕ) (d : Descriptor) → Contains t (held_at s d) → (live' : List Open) → Removes d live live' → IsOpen place base (without s d t) live'
  still_open s d has live' r =
      let c = cut s d t has in
      let split : live ≡ (base ++ map (open_of place) c.front) ++ open_of place (held_at s d) ∷ map (open_of place) c.back =
      o ∙ ap (λ l. base ++ map (open_of place) l) c.whole ∙ ap (λ l. base ++ l) (map-append (open_of place) c.front (held_at s d ∷ c.back)) ∙ sym (append_assoc base _ _) in
      r (base ++ map (open_of place) c.front) (open_of place (held_at s d)) (map (open_of place) c.back) split refl
      ∙ append_assoc base _ _ ∙ ap (λ l. base ++ l) (sym (map-append (open_of place) c.front c.back)) ∙ ap (λ l. base ++ map (open_of place) l) (sym c.rest)

  pub one_more_open : (s : ℕ) (d : Descriptor) (live' : List Open) (p : Place) → place s ≡ p → live' ≡ live ++ open_as (use_at p) d (name_at p) ∷ [] → IsOpen place base (t ++ held_at s d ∷ []) live'
  one_more_open s d live' p at e =
      e ∙ ap (λ (q : Place). live ++ open_as (use_at q) d (name_at q) ∷ []) (sym at) ∙ ap (λ l. l ++ open_of place (held_at s d) ∷ []) o ∙ append_assoc base _ _
      ∙ ap (λ l. base ++ l) (sym (map-append (open_of place) t (held_at s d ∷ [])))

  -- a descriptor beyond all that were given is new
  pub is_new : (last : ℕ) (d : Descriptor) → All (λ (x : Open). x.descriptor.0 ≤ last) live → last < d.0 → IsNew d t
  is_new last d known lt k has = λ (e : k.descriptor.0 ≡ d.0). let at = held_live k has in
      let bound = subst (λ (x : Open). x.descriptor.0 ≤ last) at.2 (known at.0 (open_of place k) at.1) in omega (arith, bound, e, lt)

pub other_stays : (s : ℕ) (d : Descriptor) (t : List Held) → (k : Held) → k.site.0 ≢ s → Contains t k → Contains (without s d t) k
other_stays s d [] k other has = has
other_stays s d (h ∷ t) k other (zero, lt, is) = by (is_held s d h) refl where
  by : (b : Bool) → is_held s d h ≡ b → Contains (if b then t else h ∷ without s d t) k
  by true e = absurd (other (ap (λ (x : Held). x.site.0) (sym is ∙ is_held_same s d h e)))
  by false e = (zero, omega arith, is)
other_stays s d (h ∷ t) k other (suc j, lt, is) = behind (is_held s d h) (j, omega (arith, lt), is) (other_stays s d t k other (j, omega (arith, lt), is)) where
  behind : (b : Bool) → Contains t k → Contains (without s d t) k → Contains (if b then t else h ∷ without s d t) k
  behind true old more = old
  behind false old more = (suc more.0, omega (arith, more.1), more.2)

-- ---- what is taken out of the table

pub taken : (t u : List Held) (i : ℕ) (h : Held) (s : ℕ) (d : Descriptor) → u ≡ t → h ≡ get_or t i h → ((x : Held) → get_or u i x ≡ held_at s d) → h ≡ held_at s d
taken t u i h s d same is at = is ∙ subst (λ l. get_or l i h ≡ held_at s d) same (at h)

pub taken_out : (t u t' : List Held) (i : ℕ) (s : ℕ) (d : Descriptor) → u ≡ t → t' ≡ remove t i → remove u i ≡ without s d u → t' ≡ without s d t
taken_out t u t' i s d same is first = is ∙ subst (λ l. remove l i ≡ without s d l) same first

module _ (place : ℕ → Place) (base live : List Open) (t t' : List Held) (s : ℕ) (d : Descriptor) (h : Held) (is : h ≡ held_at s d) (out : t' ≡ without s d t) (has : Contains t (held_at s d)) (o : IsOpen place base t live) where
  pub closes_open : (live' : List Open) → Removes h.descriptor live live' → IsOpen place base t' live'
  closes_open live' r = subst (λ l. IsOpen place base l live') (sym out) (still_open place base live t o s d has live' (subst (λ (x : Held). Removes x.descriptor live live') is r))

  pub closes_live : (use_of : Use) × IsLive use_of h.descriptor live
  closes_live = (use_at (place s), (name_at (place s), subst (λ (x : Held). Contains live (open_as (use_at (place s)) x.descriptor (name_at (place s)))) (sym is) (held_live place base live t o (held_at s d) has)))

-- ---- the last one

module _ (place : ℕ → Place) (t t' : List Held) (h : Held) (is : t ≡ t' ++ h ∷ []) where
  pub last_there : Contains t h
  last_there = subst (λ l. Contains l h) (sym is) (seam t' h [])

  pub last_closed : (base live live' : List Open) → IsOpen place base t live → Removes h.descriptor live live' → IsOpen place base t' live'
  last_closed base live live' o r =
      r (base ++ map (open_of place) t') (open_of place h) []
      (o ∙ ap (λ l. base ++ map (open_of place) l) is ∙ ap (λ l. base ++ l) (map-append (open_of place) t' (h ∷ [])) ∙ sym (append_assoc base _ _)) refl ∙ append-nil _
