-- A run that has not begun, and how one ends.
use Rattle.std.proofs.Common.{◌≡◌, ◌≢◌, ℕ, zero, suc, ◌+◌, ◌<◌, ◌≤◌, ◌⊎◌, inl, inr, Bool, true, false, ◌&&◌, ◌||◌, not, IsTrue, List, [], ◌∷◌, ◌++◌, length, get_or, Result, Ok, Err, refl, ap, sym, ◌∙◌, subst, arith, append_assoc}
use Rattle.std.specs.Prelude.{Contains}
use Rattle.std.specs.List.{list_any}
use Rattle.std.proofs.lemmas.Bool.{cases_lt}
use Rattle.std.proofs.lemmas.List.{append-nil}
use Rattle.std.proofs.lemmas.Slice.Eq.{bytes_eq-Decides}
use Rattle.cd_elem.specs.declared.script.Stmt.{Stmt}
use Rattle.cd_meaning.specs.Opens.{OpensOnce, files_in}
use Rattle.cd_meaning.specs.Places.{Place, Reads, ReadsInput, Writes, WritesOutput, Marks, bytes_at, place_in, told_whole}
use Rattle.cd_meaning.specs.Run.{Run}
use Rattle.cd_meaning.specs.RunShapes.{Seen}
use Rattle.cd_meaning.specs.Scoped.{IsScoped}
use Rattle.cd_meaning.specs.Scripts.{first_state, script_places}
use Rattle.cd_types.specs.Moments.{clash}
use Rattle.cd_types.specs.Sites.{are_apart}
use Rattle.cd_world.specs.Causes.{Rose}
use Rattle.cd_world.specs.Live.{Open}
use Rattle.cd_scope.specs.declared.table.Held.{Held}
use Rattle.cd_scope.specs.Due.{Due, Fits, GoesOn, Setting}
use Rattle.cd_scope.specs.Table.{IsOpen}
use Rattle.cd_scope.proofs.Lists.{each_nil}
use Rattle.cd_run.specs.declared.fault.RunFault.{RunFault}
use Rattle.cd_run.specs.declared.fault.RunFault.TheVariants.{Decode, AcquireFault, ReadFault, WriteFault, CloseFault, TooLong, NoMemory}
use Rattle.cd_run.specs.declared.runner.Runner.{Runner}
use Rattle.cd_run.specs.Ends.{CountedBy, HasFault}
use Rattle.cd_run.specs.Going.{AreSeparate, Going, Outside}
use Rattle.cd_run.specs.Ran.{Ran, RoseAtEnd}
use Rattle.cd_run.specs.Runners.{IsReady, left_of, limit_of, room_of}
use Rattle.cd_run.specs.Scripts.{HasRun, IsCaused}
use Rattle.cd_run.specs.Statements.{behind}

-- ---- places that do not clash

none_clashes : (p : Place) → clash p WritesOutput ≡ false
none_clashes (Reads name) = refl
none_clashes ReadsInput = refl
none_clashes (Writes name) = refl
none_clashes WritesOutput = refl
none_clashes (Marks name) = refl

output_clashes : (q : Place) → clash WritesOutput q ≡ false
output_clashes (Reads name) = refl
output_clashes ReadsInput = refl
output_clashes (Writes name) = refl
output_clashes WritesOutput = refl
output_clashes (Marks name) = refl

no_true : {A : Type 0} → false ≡ true → A
no_true e = let no : ⊥ = cc in absurd no

both_false : (a b : Bool) → (a || b) ≡ false → (a ≡ false) × (b ≡ false)
both_false true b e = no_true (sym e)
both_false false b e = (refl, e)

both_true : (a b : Bool) → IsTrue (not a && b) → (a ≡ false) × IsTrue b
both_true true b e = no_true e
both_true false b e = (refl, e)

none_of : (p : Place) (earlier : List Place) (i : ℕ) → list_any (clash p) earlier ≡ false → clash p (get_or earlier i WritesOutput) ≡ false
none_of p [] i e = none_clashes p
none_of p (q ∷ more) zero e = (both_false (clash p q) (list_any (clash p) more) e).0
none_of p (q ∷ more) (suc i) e = none_of p more i (both_false (clash p q) (list_any (clash p) more) e).1

of_front : (earlier more : List Place) (i : ℕ) → i < length earlier → get_or (earlier ++ more) i WritesOutput ≡ get_or earlier i WritesOutput
of_front [] more i lt = absurd (omega (arith, lt))
of_front (p ∷ earlier) more zero lt = refl
of_front (p ∷ earlier) more (suc i) lt = of_front earlier more i (omega (arith, lt))

-- a later place does not clash with an earlier one
later_clashes : (earlier places : List Place) → IsTrue (are_apart earlier places) → (i j : ℕ) → i < length earlier + j → clash (get_or places j WritesOutput) (get_or (earlier ++ places) i WritesOutput) ≡ false
later_clashes earlier [] apart i j lt = output_clashes (get_or (earlier ++ []) i WritesOutput)
later_clashes earlier (p ∷ more) apart i zero lt =
    let here = both_true (list_any (clash p) earlier) (are_apart (earlier ++ p ∷ []) more) apart in
    ap (clash p) (of_front earlier (p ∷ more) i (omega (arith, lt))) ∙ none_of p earlier i here.0
later_clashes earlier (p ∷ more) apart i (suc j) lt =
    let here = both_true (list_any (clash p) earlier) (are_apart (earlier ++ p ∷ []) more) apart in
    ap (λ l. clash (get_or more j WritesOutput) (get_or l i WritesOutput)) (sym (append_assoc earlier (p ∷ []) more))
    ∙ later_clashes (earlier ++ p ∷ []) more here.1 i j (longer earlier p i j lt) where
      longer : (l : List Place) (p : Place) (i j : ℕ) → i < length l + suc j → i < length (l ++ p ∷ []) + j
      longer [] p i j lt = omega (arith, lt)
      longer (q ∷ l) p zero j lt = omega arith
      longer (q ∷ l) p (suc i) j lt = let more = longer l p i j (omega (arith, lt)) in omega (arith, more)

place_clashes : (places : List Place) → IsTrue (are_apart [] places) → (s t : ℕ) → t < s → clash (place_in places s) (place_in places t) ≡ false
place_clashes places apart zero t lt = absurd (omega (arith, lt))
place_clashes places apart (suc s) zero lt = none_clashes (get_or places s WritesOutput)
place_clashes places apart (suc s) (suc t) lt = later_clashes [] places apart t s (omega (arith, lt))

-- of two places of which one writes or marks a name and one reads it
reads_first : (p q : Place) (name other : List ℕ) → p ≡ Reads name → (q ≡ Writes other) ⊎ (q ≡ Marks other) → clash p q ≡ false → other ≢ name
reads_first p q name other e (inl f) none same = no_true (sym none ∙ clash_is e f) where
  clash_is : p ≡ Reads name → q ≡ Writes other → clash p q ≡ true
  clash_is e f = ap (λ x. clash x q) e ∙ ap (clash (Reads name)) f ∙ (bytes_eq-Decides name other).1 (sym same)
reads_first p q name other e (inr f) none same = no_true (sym none ∙ clash_is e f) where
  clash_is : p ≡ Reads name → q ≡ Marks other → clash p q ≡ true
  clash_is e f = ap (λ x. clash x q) e ∙ ap (clash (Reads name)) f ∙ (bytes_eq-Decides name other).1 (sym same)

writes_first : (p q : Place) (name other : List ℕ) → p ≡ Reads name → (q ≡ Writes other) ⊎ (q ≡ Marks other) → clash q p ≡ false → other ≢ name
writes_first p q name other e (inl f) none same = no_true (sym none ∙ clash_is e f) where
  clash_is : p ≡ Reads name → q ≡ Writes other → clash q p ≡ true
  clash_is e f = ap (clash q) e ∙ ap (λ x. clash x (Reads name)) f ∙ (bytes_eq-Decides other name).1 same
writes_first p q name other e (inr f) none same = no_true (sym none ∙ clash_is e f) where
  clash_is : p ≡ Reads name → q ≡ Marks other → clash q p ≡ true
  clash_is e f = ap (clash q) e ∙ ap (λ x. clash x (Reads name)) f ∙ (bytes_eq-Decides other name).1 same

apart_or : (s t : ℕ) → (s ≡ t) ⊎ ((s < t) ⊎ (t < s))
apart_or s t = by (cases_lt s t) (cases_lt t s) where
  by : (s < t) ⊎ (t ≤ s) → (t < s) ⊎ (s ≤ t) → (s ≡ t) ⊎ ((s < t) ⊎ (t < s))
  by (inl a) b = inr (inl a)
  by (inr a) (inl b) = inr (inr b)
  by (inr a) (inr b) = inl (omega (arith, a, b))

pub separate_places : (places : List Place) → IsTrue (are_apart [] places) → AreSeparate (place_in places)
separate_places places apart = record {
  names = λ s t name other e f. names_by s t name other e f (apart_or s t);
  one_input = λ s t e f. input_by s t e f (apart_or s t);
} where
  is_writes : Place → Type 0
  is_writes (Writes name) = Unit {0}
  is_writes (Marks name) = Unit {0}
  is_writes (Reads name) = ⊥
  is_writes ReadsInput = ⊥
  is_writes WritesOutput = ⊥

  not_both : (p : Place) (name other : List ℕ) → p ≡ Reads name → (p ≡ Writes other) ⊎ (p ≡ Marks other) → ⊥
  not_both p name other e (inl f) = subst is_writes (sym f ∙ e) tt
  not_both p name other e (inr f) = subst is_writes (sym f ∙ e) tt

  names_by : (s t : ℕ) (name other : List ℕ) → place_in places s ≡ Reads name → (place_in places t ≡ Writes other) ⊎ (place_in places t ≡ Marks other) → (s ≡ t) ⊎ ((s < t) ⊎ (t < s)) → other ≢ name
  names_by s t name other e f (inl same) = absurd (not_both (place_in places t) name other (sym (ap (place_in places) same) ∙ e) f)
  names_by s t name other e f (inr (inl lt)) = writes_first (place_in places s) (place_in places t) name other e f (place_clashes places apart t s lt)
  names_by s t name other e f (inr (inr lt)) = reads_first (place_in places s) (place_in places t) name other e f (place_clashes places apart s t lt)

  input_clash : (p q : Place) → p ≡ ReadsInput → q ≡ ReadsInput → clash p q ≡ true
  input_clash p q e f = ap (λ x. clash x q) e ∙ ap (clash ReadsInput) f

  input_by : (s t : ℕ) → place_in places s ≡ ReadsInput → place_in places t ≡ ReadsInput → (s ≡ t) ⊎ ((s < t) ⊎ (t < s)) → s ≡ t
  input_by s t e f (inl same) = same
  input_by s t e f (inr (inl lt)) = no_true (sym (place_clashes places apart t s lt) ∙ input_clash (place_in places t) (place_in places s) f e)
  input_by s t e f (inr (inr lt)) = no_true (sym (place_clashes places apart s t lt) ∙ input_clash (place_in places s) (place_in places t) e f)

-- ---- the beginning

nothing : (h : Held) → Contains [] h → ⊥
nothing h has = omega (arith, has.1)

pub begun : (g : Setting) (m : Seen → Run) (t : List Held) (left : List ℕ) (w : Outside) → t ≡ [] → OpensOnce m → AreSeparate g.place → ((s : ℕ) → s < length left → get_or left s 0 ≡ g.limit + 1) → Going g m t left (behind m) w w
begun g m t left w none once separate full = subst (λ l. Going g m l left (behind m) w w) (sym none) (record {
  calls = [];
  log = sym (append-nil w.log);
  due = each_nil (Due m);
  fits = each_nil (Fits g);
  clean = each_nil GoesOn;
  standing = refl;
  stands = λ z. refl;
  once = once;
  counted = record { counts = λ s lt. inr (refl, let f = full s lt in omega (arith, f)); unread = λ s e z. refl };
  filed = λ tells. record {
    more = λ s. bytes_at w.files.contents w.files.input (g.place s);
    fronts = λ s. record { front = refl; whole = λ e. let no : ⊥ = cc in absurd no };
    comes = λ s. ap (λ n. told_whole n (bytes_at w.files.contents w.files.input (g.place s))) (omega arith);
    here = λ h has. absurd (nothing h has);
    contents = λ s name reads. refl;
    input = λ s reads. refl;
    apart = tt;
    separate = separate;
  };
})

files_few : (places : List Place) → files_in places ≤ length places
files_few [] = omega arith
files_few (Reads name ∷ more) = let h = files_few more in omega (arith, h)
files_few (ReadsInput ∷ more) = let h = files_few more in omega (arith, h)
files_few (Writes name ∷ more) = let h = files_few more in omega (arith, h)
files_few (WritesOutput ∷ more) = let h = files_few more in omega (arith, h)
files_few (Marks name ∷ more) = let h = files_few more in omega (arith, h)

-- before the first statement no key is held
pub first_run : (script : List Stmt) (r : Runner) → IsReady script r → IsScoped script → ((s : ℕ) → s < length (left_of r) → get_or (left_of r) s 0 ≡ limit_of r + 1) → room_of r ≡ length (script_places script) → HasRun script 0 first_state (λ name. false) r
first_run script r ready scoped full room = record {
  ready = ready;
  site = omega arith;
  uses = scoped;
  kept = λ name is. no_true is;
  apart = λ a b x y e. no_true x;
  fresh = λ s le lt. full s lt;
  room = let few = files_few (script_places script) in omega (arith, few, room);
}

pub none_open : (place : ℕ → Place) (t : List Held) (live : List Open) → t ≡ [] → IsOpen place live t live
none_open place t live e = subst (λ x. IsOpen place live x live) (sym e) (sym (append-nil live))

-- ---- the end

-- nothing was called
pub never_begun : {T : Type 0} (g : Setting) (m : Seen → Run) (result : Result T RunFault) (w : Outside) → result ≡ Err NoMemory → Ran g m result w w
never_begun g m result w is = subst (λ r. Ran g m r w w) (sym is) (record {
  calls = [];
  closes = [];
  log = sym (append-nil w.log);
  due = each_nil (Due m);
  fits = each_nil (Fits g);
  closing = tt;
  outcome = inl (each_nil GoesOn, λ z. (_, refl));
  whole = λ tells. tt;
})

fault_rose : (f : RunFault) (before middle now : ℕ) → CountedBy f before middle → ((n : ℕ) → Rose n middle → Rose n now) → IsCaused {T = Unit {0}} before now (Err f)
fault_rose (Decode f) before middle now counted up = tt
fault_rose (AcquireFault s) before middle now counted up = up before (omega (arith, counted))
fault_rose (ReadFault s) before middle now counted up = up before (omega (arith, counted))
fault_rose (WriteFault s) before middle now counted up = up before (omega (arith, counted))
fault_rose (CloseFault s) before middle now counted up = up before (omega (arith, counted))
fault_rose (TooLong s) before middle now counted up = tt
fault_rose NoMemory before middle now counted up = tt

rose_fault : (f : RunFault) (before now : ℕ) → Rose before now → IsCaused {T = Unit {0}} before now (Err f)
rose_fault (Decode f) before now rose = tt
rose_fault (AcquireFault s) before now rose = rose
rose_fault (ReadFault s) before now rose = rose
rose_fault (WriteFault s) before now rose = rose
rose_fault (CloseFault s) before now rose = rose
rose_fault (TooLong s) before now rose = tt
rose_fault NoMemory before now rose = tt

-- what a run and its end say of the count
pub caused : (answer result : Result (Unit {0}) RunFault) (before middle now : ℕ) → HasFault before middle answer → RoseAtEnd answer result middle now → IsCaused before now result
caused (Ok x) (Ok y) before middle now counted rose = rose ∙ counted
caused (Ok x) (Err f) before middle now counted rose = rose_fault f before now (subst (λ n. Rose n now) counted rose)
caused (Err f) result before middle now counted rose = subst (λ r. IsCaused before now r) (sym rose.0) (fault_rose f before middle now counted rose.1)
