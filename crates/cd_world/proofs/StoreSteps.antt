-- What the members of a world in memory are after one of them is changed, and after one more.
use Rattle.std.proofs.Common.{◌≡◌, ◌≢◌, ℕ, zero, suc, ◌+◌, ◌-◌, ◌≤◌, ◌<◌, length, List, [], ◌∷◌, ◌++◌, get_or, Option, Some, None, refl, inl, inr, sym, ◌∙◌, ap, subst, arith, Bool, true, false, if◌then◌else◌, slice_set}
use Rattle.std.specs.Prelude.{All, map, option_map}
use Rattle.std.specs.Str.{bytes_eq}
use Rattle.std.proofs.lemmas.Slice.Eq.{bytes_eq-Decides}
use Rattle.std.proofs.lemmas.Bool.{cases_Bool}
use Rattle.cd_world.specs.declared.plan.Call.{Call}
use Rattle.cd_world.specs.declared.plan.Plan.{Plan}
use Rattle.cd_world.specs.declared.store.Member.{Member}
use Rattle.cd_world.specs.Plan.{counted, with_call}
use Rattle.cd_world.specs.Store.{found, held, plan_of, bytes_of_member, plan_of_member, bytes_in, with_file, IsFirst}

same : (a b : List ℕ) → a ≡ b → bytes_eq a b ≡ true
same a b is = (bytes_eq-Decides a b).1 is

other_than : (a b : List ℕ) → a ≢ b → bytes_eq a b ≡ false
other_than a b differ = elim (cases_Bool (bytes_eq a b)) [ inl same ↦ absurd (differ ((bytes_eq-Decides a b).0 same)) | inr apart ↦ apart ]

-- two tests that do not both hold may be made in either order
two_tests : {A : Type 0} (x y : Bool) (f n r : A) → (x ≡ true → y ≡ false) → (if x then f else (if y then n else r)) ≡ (if y then n else (if x then f else r))
two_tests true true f n r apart = let never : true ≡ false = apart refl in cc
two_tests true false f n r apart = refl
two_tests false true f n r apart = refl
two_tests false false f n r apart = refl

one_test : {A : Type 0} (x : Bool) (n f r : A) → (if x then n else r) ≡ (if x then n else (if x then f else r))
one_test true n f r = refl
one_test false n f r = refl

apart : (a b other : List ℕ) → a ≢ b → bytes_eq a other ≡ true → bytes_eq b other ≡ false
apart a b other differ is = other_than b other (λ (e : b ≡ other). differ ((bytes_eq-Decides a other).0 is ∙ sym e))

first-tail : (m : Member) (members : List Member) (name : List ℕ) (place : ℕ) → IsFirst (m ∷ members) name (suc place) → IsFirst members name place
first-tail m members name place first = record { within = omega (arith, first.within); here = first.here; before = λ k d lt. first.before (suc k) d (omega (arith, lt)) }

pub found-at : (members : List Member) (name : List ℕ) (place : ℕ) (d : Member) → IsFirst members name place → found members name ≡ Some (get_or members place d)
found-at [] name place d first = absurd (omega (arith, first.within))
found-at (m ∷ members) name zero d first = ap (λ (b : Bool). if b then Some m else found members name) (same m.name name (first.here d))
found-at (m ∷ members) name (suc place) d first =
    ap (λ (b : Bool). if b then Some m else found members name) (other_than m.name name (first.before 0 d (omega arith)))
    ∙ found-at members name place d (first-tail m members name place first)

pub found-none : (members : List Member) (name : List ℕ) → All (λ m. m.name ≢ name) members → found members name ≡ None
found-none [] name none = refl
found-none (m ∷ members) name none =
    ap (λ (b : Bool). if b then Some m else found members name) (other_than m.name name (none 0 m (omega arith)))
    ∙ found-none members name (λ k d lt. none (suc k) d (omega (arith, lt)))

-- another member in place of the first with a name, under that name
found-set : (members : List Member) (name : List ℕ) (place : ℕ) (new : Member) → IsFirst members name place → new.name ≡ name → (other : List ℕ)
    → found (slice_set members place new) other ≡ (if bytes_eq name other then Some new else found members other)
found-set [] name place new first is other = absurd (omega (arith, first.within))
found-set (m ∷ members) name zero new first is other =
    ap (λ (n : List ℕ). if bytes_eq n other then Some new else found members other) is
    ∙ one_test (bytes_eq name other) (Some new) (Some m) (found members other)
    ∙ ap (λ (n : List ℕ). if bytes_eq name other then Some new else (if bytes_eq n other then Some m else found members other)) (sym (first.here m))
found-set (m ∷ members) name (suc place) new first is other =
    ap (λ (r : Option Member). if bytes_eq m.name other then Some m else r) (found-set members name place new (first-tail m members name place first) is other)
    ∙ two_tests (bytes_eq m.name other) (bytes_eq name other) (Some m) (Some new) (found members other) (apart m.name name other (first.before 0 m (omega arith)))

-- one more member, under a new name
found-push : (members : List Member) (new : Member) → All (λ m. m.name ≢ new.name) members → (other : List ℕ)
    → found (members ++ new ∷ []) other ≡ (if bytes_eq new.name other then Some new else found members other)
found-push [] new none other = refl
found-push (m ∷ members) new none other =
    ap (λ (r : Option Member). if bytes_eq m.name other then Some m else r) (found-push members new (λ k d lt. none (suc k) d (omega (arith, lt))) other)
    ∙ two_tests (bytes_eq m.name other) (bytes_eq new.name other) (Some m) (Some new) (found members other) (apart m.name new.name other (none 0 m (omega arith)))

bytes_of_test : (b : Bool) (x y : Option Member) → bytes_of_member (if b then x else y) ≡ (if b then bytes_of_member x else bytes_of_member y)
bytes_of_test true x y = refl
bytes_of_test false x y = refl

plan_of_test : (b : Bool) (x y : Option Member) → plan_of_member (if b then x else y) ≡ (if b then plan_of_member x else plan_of_member y)
plan_of_test true x y = refl
plan_of_test false x y = refl

-- a name that is tested is the one that is asked for
at_name : {A : Type 0} (f : List ℕ → A) (name other : List ℕ) (x : A) → f name ≡ x → (if bytes_eq name other then x else f other) ≡ f other
at_name f name other x is = elim (cases_Bool (bytes_eq name other)) [
  | inl same ↦ ap (λ b. if b then x else f other) same ∙ sym is ∙ ap f ((bytes_eq-Decides name other).0 same)
  | inr apart ↦ ap (λ b. if b then x else f other) apart
]

module _ (members : List Member) (name : List ℕ) where
  pub held-at : (place : ℕ) (d : Member) → IsFirst members name place → held members name ≡ (get_or members place d).bytes
  held-at place d first = ap bytes_of_member (found-at members name place d first)

  pub held-none : All (λ m. m.name ≢ name) members → held members name ≡ None
  held-none none = ap bytes_of_member (found-none members name none)

  pub plan-at : (place : ℕ) (d : Member) → IsFirst members name place → plan_of members name ≡ (get_or members place d).plan
  plan-at place d first = ap plan_of_member (found-at members name place d first)

  pub plan-none : All (λ m. m.name ≢ name) members → plan_of members name ≡ None
  plan-none none = ap plan_of_member (found-none members name none)

  module _ (place : ℕ) (old : Member) (first : IsFirst members name place) (is : old ≡ get_or members place old) where
    named : old.name ≡ name
    named = ap (λ (m : Member). m.name) is ∙ first.here old

    -- other bytes
    pub held-set : (file : Option (List ℕ)) → held (slice_set members place (record old { bytes = file })) ≡ with_file name file (held members)
    held-set file = λ i other. (
        ap bytes_of_member (found-set members name place (record old { bytes = file }) first named other)
        ∙ bytes_of_test (bytes_eq name other) (Some (record old { bytes = file })) (found members other)) i

    pub plan-set-bytes : (file : Option (List ℕ)) → plan_of (slice_set members place (record old { bytes = file })) ≡ plan_of members
    plan-set-bytes file = λ i other. (
        ap plan_of_member (found-set members name place (record old { bytes = file }) first named other)
        ∙ plan_of_test (bytes_eq name other) (Some (record old { bytes = file })) (found members other)
        ∙ at_name (plan_of members) name other old.plan (plan-at place old first ∙ ap (λ (m : Member). m.plan) (sym is))) i

    -- another plan
    pub held-set-plan : (plan : Option Plan) → held (slice_set members place (record old { plan = plan })) ≡ held members
    held-set-plan plan = λ i other. (
        ap bytes_of_member (found-set members name place (record old { plan = plan }) first named other)
        ∙ bytes_of_test (bytes_eq name other) (Some (record old { plan = plan })) (found members other)
        ∙ at_name (held members) name other old.bytes (held-at place old first ∙ ap (λ (m : Member). m.bytes) (sym is))) i

    pub plan-set : (call : Call) (plan : Option Plan) → plan ≡ option_map (with_call call) old.plan → plan_of (slice_set members place (record old { plan = plan })) ≡ counted call name (plan_of members)
    plan-set call plan more = λ i other. (
        ap plan_of_member (found-set members name place (record old { plan = plan }) first named other)
        ∙ plan_of_test (bytes_eq name other) (Some (record old { plan = plan })) (found members other)
        ∙ by_test other) i
      where
        here : plan_of members name ≡ old.plan
        here = plan-at place old first ∙ ap (λ (m : Member). m.plan) (sym is)

        by_test : (other : List ℕ) → (if bytes_eq name other then plan else plan_of members other) ≡ counted call name (plan_of members) other
        by_test other = elim (cases_Bool (bytes_eq name other)) [
          | inl same ↦
              ap (λ (b : Bool). if b then plan else plan_of members other) same ∙ more ∙ ap (option_map (with_call call)) (sym here ∙ ap (plan_of members) ((bytes_eq-Decides name other).0 same))
              ∙ sym (ap (λ (b : Bool). if b then option_map (with_call call) (plan_of members other) else plan_of members other) same)
          | inr apart ↦
              ap (λ (b : Bool). if b then plan else plan_of members other) apart
              ∙ sym (ap (λ (b : Bool). if b then option_map (with_call call) (plan_of members other) else plan_of members other) apart)
        ]

  module _ (none : All (λ m. m.name ≢ name) members) where
    -- a new member, without a plan
    module _ (new : Member) (is : new.name ≡ name) where
      pushed : (other : List ℕ) → found (members ++ new ∷ []) other ≡ (if bytes_eq name other then Some new else found members other)
      pushed other =
          found-push members new (subst (λ (n : List ℕ). All (λ m. m.name ≢ n) members) (sym is) none) other
          ∙ ap (λ (n : List ℕ). if bytes_eq n other then Some new else found members other) is

      pub held-push : held (members ++ new ∷ []) ≡ with_file name new.bytes (held members)
      held-push = λ i other. (ap bytes_of_member (pushed other) ∙ bytes_of_test (bytes_eq name other) (Some new) (found members other)) i

      pub plan-push : new.plan ≡ None → plan_of (members ++ new ∷ []) ≡ plan_of members
      plan-push without = λ i other. (
          ap plan_of_member (pushed other) ∙ plan_of_test (bytes_eq name other) (Some new) (found members other)
          ∙ at_name (plan_of members) name other new.plan (plan-none none ∙ sym without)) i

    -- a name that is not there stays away, and has no plan to count in
    pub held-absent : held members ≡ with_file name None (held members)
    held-absent = λ i other. sym (at_name (held members) name other None (held-none none)) i

    pub plan-absent : (call : Call) → plan_of members ≡ counted call name (plan_of members)
    plan-absent call = λ i other. by_test other i
      where
        by_test : (other : List ℕ) → plan_of members other ≡ counted call name (plan_of members) other
        by_test other = elim (cases_Bool (bytes_eq name other)) [
          | inl same ↦
              let no : plan_of members other ≡ None = sym (ap (plan_of members) ((bytes_eq-Decides name other).0 same)) ∙ plan-none none in
              no ∙ ap (option_map (with_call call)) (sym no) ∙ sym (ap (λ (b : Bool). if b then option_map (with_call call) (plan_of members other) else plan_of members other) same)
          | inr apart ↦ sym (ap (λ (b : Bool). if b then option_map (with_call call) (plan_of members other) else plan_of members other) apart)
        ]
