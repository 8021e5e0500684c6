-- Plain fusion keeps what every run obeys, and is associative.
use Rattle.std.proofs.Common.{◌≡◌, ℕ, zero, suc, ◌≤◌, ◌<◌, ◌⊎◌, inl, inr, List, [], ◌∷◌, ◌++◌, length, refl, ap, sym, ◌∙◌, subst, arith}
use Rattle.std.proofs.lemmas.Bool.{le-leb, lt-leb, cases_lt}
use Rattle.cd_meaning.specs.Stream.{Item, Halt, End, Halted, Ending, Done, Halts, Act, Out, Do, Effect}
use Rattle.cd_meaning.specs.Run.{Stamp, start, Run, Then, Ends, Component, outs, ending, end_of, last}
use Rattle.cd_meaning.specs.Fusion.{effects_to, between, place, woven, fed, fuse_at, fuse}
use Rattle.cd_meaning.specs.Laws.{Rising, cut, EachStamp, IsStamp, IsRun}
use Rattle.cd_meaning.proofs.Cut.{cut_all, AtMost, at_most_last}
use Rattle.cd_meaning.proofs.Weaves.Steps.{fuse_rising}
use Rattle.cd_meaning.proofs.Weaves.Inputs.{fuse_weave, each_weave, fuse_cut, asked, fuse_at_assoc}

-- ---- what a cut run gives

pub cut_outs : (n : ℕ) (h : Halt) (a : Run) → (o : List Item) × (outs a ≡ outs (cut n h a) ++ o)
cut_outs n h (Then s (Out x) a) = by_need n h s x a (cut_outs n h a) (cases_lt n s.need) where
  by_need : (n : ℕ) (h : Halt) (s : Stamp) (x : Item) (a : Run) → (o : List Item) × (outs a ≡ outs (cut n h a) ++ o) → (n < s.need) ⊎ (s.need ≤ n)
      → (o : List Item) × (x ∷ outs a ≡ outs (cut n h (Then s (Out x) a)) ++ o)
  by_need n h s x a i (inl l) = (x ∷ outs a, rw (lt-leb s.need n l))
  by_need n h s x a i (inr l) = (i.0, rw (le-leb s.need n l) (ap (λ t. x ∷ t) i.1))
cut_outs n h (Then s (Do e) a) = by_need n h s e a (cut_outs n h a) (cases_lt n s.need) where
  by_need : (n : ℕ) (h : Halt) (s : Stamp) (e : Effect) (a : Run) → (o : List Item) × (outs a ≡ outs (cut n h a) ++ o) → (n < s.need) ⊎ (s.need ≤ n)
      → (o : List Item) × (outs a ≡ outs (cut n h (Then s (Do e) a)) ++ o)
  by_need n h s e a i (inl l) = (outs a, rw (lt-leb s.need n l))
  by_need n h s e a i (inr l) = (i.0, rw (le-leb s.need n l) i.1)
cut_outs n h (Ends s e) = by_need n h s e (cases_lt n s.need) where
  by_need : (n : ℕ) (h : Halt) (s : Stamp) (e : Ending) → (n < s.need) ⊎ (s.need ≤ n) → (o : List Item) × ([] ≡ outs (cut n h (Ends s e)) ++ o)
  by_need n h s e (inl l) = ([], rw (lt-leb s.need n l))
  by_need n h s e (inr l) = ([], rw (le-leb s.need n l))

pub cut_ends : (n : ℕ) (h : Halt) (a : Run) → n < (last a).need → end_of (cut n h a) ≡ Halted h
cut_ends n h (Then s x a) l = by_need n h s x a (cut_ends n h a l) (cases_lt n s.need) where
  by_need : (n : ℕ) (h : Halt) (s : Stamp) (x : Act) (a : Run) → end_of (cut n h a) ≡ Halted h → (n < s.need) ⊎ (s.need ≤ n) → end_of (cut n h (Then s x a)) ≡ Halted h
  by_need n h s x a i (inl l) = rw (lt-leb s.need n l)
  by_need n h s x a i (inr l) = rw (le-leb s.need n l) i
cut_ends n h (Ends s e) l = rw (lt-leb s.need n l)

-- ---- fusion

-- what b does on what is known of a, where that is not all
pub fed_known : (a : Run) (b : Component) (n : ℕ) (h : Halt) → IsRun b → n < (last a).need → fed (cut n h a) b ≡ cut (length (outs (cut n h a))) h (fed a b)
fed_known a b n h kb l =
    let o = outs (cut n h a) in
    let w = cut_outs n h a in
    ap (b o) (cut_ends n h a l) ∙ kb.known o w.0 h (end_of a) ∙ ap (λ q. cut (length o) h (b q (end_of a))) (sym w.1)

fuse_known : (a : Run) (b : Component) (n : ℕ) (h : Halt) → Rising 0 a → IsRun b → (n < (last a).need) ⊎ ((last a).need ≤ n)
    → fuse_at start (cut n h a) (fed (cut n h a) b) ≡ cut n h (fuse_at start a (fed a b))
fuse_known a b n h ja kb (inl l) =
    let o = outs (cut n h a) in
    let e1 : fed (cut n h a) b ≡ cut (length o) h (fed a b) = fed_known a b n h kb l in
    ap (fuse_at start (cut n h a)) e1
    ∙ fuse_cut n (length o) h start a (fed a b) (omega arith) ja (kb.rising (outs a) (end_of a)) (subst (Rising 0) e1 (kb.rising o (end_of (cut n h a)))) l refl
fuse_known a b n h ja kb (inr l) =
    let e : cut n h a ≡ a = cut_all n h a (at_most_last n 0 a ja l) in
    ap (λ r. fuse_at start r (fed r b)) e
    ∙ sym (cut_all n h (fuse_at start a (fed a b)) (subst (EachStamp (AtMost n)) (sym (fuse_weave start a (fed a b) (kb.rising (outs a) (end_of a))))
    (each_weave (AtMost n) start a (asked 0 (fed a b)) (zero_le n) (at_most_last n 0 a ja l)))) where
      zero_le : (n : ℕ) → 0 ≤ n
      zero_le n = omega arith

pub start_is : (n : ℕ) → IsStamp n start
start_is n = record { asked = omega arith; there = omega arith; taken = omega arith; one_back = omega arith }

pub fuse_is_run : (a b : Component) → IsRun a → IsRun b → IsRun (fuse a b)
fuse_is_run a b ka kb = record {
  rising = λ xs e. fuse_rising start (a xs e) (fed (a xs e) b) (ka.rising xs e) (kb.rising _ _);
  stamps = λ xs e. subst (EachStamp (IsStamp (length xs))) (sym (fuse_weave start (a xs e) (fed (a xs e) b) (kb.rising _ _)))
      (each_weave (IsStamp (length xs)) start (a xs e) _ (start_is (length xs)) (ka.stamps xs e));
  known = λ xs ys h e.
      ap (λ r. fuse_at start r (fed r b)) (ka.known xs ys h e)
      ∙ fuse_known (a (xs ++ ys) e) b (length xs) h (ka.rising (xs ++ ys) e) kb (cases_lt (length xs) (last (a (xs ++ ys) e)).need);
}

-- ---- associativity

outs_effects : (j : ℕ) (a r : Run) → outs (effects_to j a r) ≡ outs r
outs_effects zero a r = refl
outs_effects (suc j) (Then s (Out x) a) r = outs_effects j a r
outs_effects (suc j) (Then s (Do e) a) r = outs_effects (suc j) a r
outs_effects (suc j) (Ends s e) r = refl

outs_between : (i j : ℕ) (a r : Run) → outs (between i j a r) ≡ outs r
outs_between zero j a r = outs_effects j a r
outs_between (suc i) zero a r = refl
outs_between (suc i) (suc j) (Then s (Out x) a) r = outs_between i j a r
outs_between (suc i) (suc j) (Then s (Do e) a) r = outs_between (suc i) (suc j) a r
outs_between (suc i) (suc j) (Ends s e) r = refl

ending_effects : (j : ℕ) (a r : Run) → ending (effects_to j a r) ≡ ending r
ending_effects zero a r = refl
ending_effects (suc j) (Then s (Out x) a) r = ending_effects j a r
ending_effects (suc j) (Then s (Do e) a) r = ending_effects (suc j) a r
ending_effects (suc j) (Ends s e) r = refl

ending_between : (i j : ℕ) (a r : Run) → ending (between i j a r) ≡ ending r
ending_between zero j a r = ending_effects j a r
ending_between (suc i) zero a r = refl
ending_between (suc i) (suc j) (Then s (Out x) a) r = ending_between i j a r
ending_between (suc i) (suc j) (Then s (Do e) a) r = ending_between (suc i) (suc j) a r
ending_between (suc i) (suc j) (Ends s e) r = refl

woven_outs : (at : ℕ → Stamp) (a : Run) (i : ℕ) (b : Run) → outs (woven at (λ t v. Ends (at t.need) (Done v)) a i b) ≡ outs b
woven_outs at a i (Then t (Out x) b) = outs_between i t.need a _ ∙ ap (λ l. x ∷ l) (woven_outs at a t.need b)
woven_outs at a i (Then t (Do e) b) = outs_between i t.need a _ ∙ woven_outs at a t.need b
woven_outs at a i (Ends t (Done v)) = outs_between i t.need a _
woven_outs at a i (Ends t (Halts h)) = outs_between i t.need a _

pub woven_ending : (at : ℕ → Stamp) (a : Run) (i : ℕ) (b : Run) → ending (woven at (λ t v. Ends (at t.need) (Done v)) a i b) ≡ ending b
woven_ending at a i (Then t x b) = ending_between i t.need a _ ∙ woven_ending at a t.need b
woven_ending at a i (Ends t (Done v)) = ending_between i t.need a _
woven_ending at a i (Ends t (Halts h)) = ending_between i t.need a _

-- the weave is associative in acts, values and stamps
pub fuse_assoc : (a b c : Component) → IsRun b → IsRun c → (xs : List Item) (e : End) → fuse (fuse a b) c xs e ≡ fuse a (fuse b c) xs e
fuse_assoc a b c kb kc xs e =
    let r = a xs e in
    let m = fed r b in
    let e1 : fed (fuse_at start r m) c ≡ fed m c = rw (woven_outs (λ j. place start j r) r 0 m, woven_ending (λ j. place start j r) r 0 m) in
    ap (fuse_at start (fuse_at start r m)) e1
    ∙ fuse_at_assoc start r m (fed m c) (kb.rising _ _) (kc.rising _ _) ((fuse_is_run b c kb kc).rising _ _)
