-- Fusions with results are runs where their parts are: the weave with any finish that reads no more of the first part than was asked for.
use Rattle.std.proofs.Common.{◌≡◌, ℕ, zero, suc, ◌≤◌, ◌<◌, ◌⊎◌, inl, inr, List, ◌∷◌, ◌++◌, length, drop, take, refl, ap, sym, ◌∙◌, subst, arith}
use Rattle.std.proofs.lemmas.Bool.{le-leb, lt-leb, le-ltb, cases_lt}
use Rattle.cd_meaning.specs.Stream.{Item, Value, absent, Halt, End, Halted, Ending, Done, Halts, Out, Do, Effect}
use Rattle.cd_meaning.specs.Run.{Stamp, start, Run, Then, Ends, Component, outs, ending, last, follow}
use Rattle.cd_meaning.specs.Fusion.{effects_to, between, after, place, woven, fed, fuse_at, fuse, fuse_by, returned, fuse_return, drain, drained, fuse_drained, second_value, asked, told, fuse_asked}
use Rattle.cd_meaning.specs.Sections.{exactly, one_line, line}
use Rattle.cd_meaning.specs.ElementWords.{taken}
use Rattle.cd_meaning.specs.Laws.{Rising, cut, EachStamp, IsStamp, IsRun}
use Rattle.cd_meaning.proofs.Rising.{rising_less, le_self}
use Rattle.cd_meaning.proofs.Cut.{cut_last, cut_none, cut_all, AtMost, at_most_last}
use Rattle.cd_meaning.proofs.Follow.{each_follow, follow_rising, follow_cut}
use Rattle.cd_meaning.proofs.Weaves.Steps.{place_any}
use Rattle.cd_meaning.proofs.Weaves.Laws.{start_is, fed_known, fuse_is_run}
use Rattle.cd_meaning.proofs.Runs.Elements.{taken_is_run, one_line_is_run}

-- ---- the weave with a finish is plain fusion, with the finish behind it

follow_effects : (j : ℕ) (a r : Run) (k : Stamp → Value → Run) → follow (effects_to j a r) k ≡ effects_to j a (follow r k)
follow_effects zero a r k = refl
follow_effects (suc j) (Then s (Out x) a) r k = follow_effects j a r k
follow_effects (suc j) (Then s (Do e) a) r k = ap (λ q. Then s (Do e) q) (follow_effects (suc j) a r k)
follow_effects (suc j) (Ends s e) r k = refl

follow_between : (i j : ℕ) (a r : Run) (k : Stamp → Value → Run) → follow (between i j a r) k ≡ between i j a (follow r k)
follow_between zero j a r k = follow_effects j a r k
follow_between (suc i) zero a r k = refl
follow_between (suc i) (suc j) (Then s (Out x) a) r k = follow_between i j a r k
follow_between (suc i) (suc j) (Then s (Do e) a) r k = follow_between (suc i) (suc j) a r k
follow_between (suc i) (suc j) (Ends s e) r k = refl

pub woven_follow : (at : ℕ → Stamp) (fin : Stamp → Value → Run) (a : Run) (i : ℕ) (b : Run)
    → woven at fin a i b ≡ follow (woven at (λ t v. Ends (at t.need) (Done v)) a i b) (λ s v. fin (last b) v)
woven_follow at fin a i (Then t x b) = ap (λ r. between i t.need a (Then (at t.need) x r)) (woven_follow at fin a t.need b) ∙ sym (follow_between i t.need a _ _)
woven_follow at fin a i (Ends t (Done v)) = sym (follow_between i t.need a _ _)
woven_follow at fin a i (Ends t (Halts h)) = sym (follow_between i t.need a _ _)

last_effects : (j : ℕ) (a r : Run) → last (effects_to j a r) ≡ last r
last_effects zero a r = refl
last_effects (suc j) (Then s (Out x) a) r = last_effects j a r
last_effects (suc j) (Then s (Do e) a) r = last_effects (suc j) a r
last_effects (suc j) (Ends s e) r = refl

last_between : (i j : ℕ) (a r : Run) → last (between i j a r) ≡ last r
last_between zero j a r = last_effects j a r
last_between (suc i) zero a r = refl
last_between (suc i) (suc j) (Then s (Out x) a) r = last_between i j a r
last_between (suc i) (suc j) (Then s (Do e) a) r = last_between (suc i) (suc j) a r
last_between (suc i) (suc j) (Ends s e) r = refl

pub woven_last : (at : ℕ → Stamp) (a : Run) (i : ℕ) (b : Run) → last (woven at (λ t v. Ends (at t.need) (Done v)) a i b) ≡ at (last b).need
woven_last at a i (Then t x b) = last_between i t.need a _ ∙ woven_last at a t.need b
woven_last at a i (Ends t (Done v)) = last_between i t.need a _
woven_last at a i (Ends t (Halts h)) = last_between i t.need a _

-- ---- what is known of a run, where no more was asked for

pub place_least : (m : ℕ) (s : Stamp) (j : ℕ) (a : Run) → m ≤ s.need → Rising m a → m ≤ (place s j a).need
place_least m s zero a h k = h
place_least m s (suc j) (Then t (Out x) a) h k = place_least m t j a k.0 (rising_less m t.need a k.0 k.1)
place_least m s (suc j) (Then t (Do e) a) h k = place_least m s (suc j) a h (rising_less m t.need a k.0 k.1)
place_least m s (suc j) (Ends t e) h k = k

-- at most n is needed up to and with the j-th output, and there is one
abbrev pub Front : ℕ → ℕ → Run → Type 0
Front n zero a = Unit {0}
Front n (suc j) (Then s (Out x) a) = (s.need ≤ n) × Front n j a
Front n (suc j) (Then s (Do e) a) = (s.need ≤ n) × Front n (suc j) a
Front n (suc j) (Ends s e) = ⊥

-- a place of such a need is such a front
pub place_front : (n : ℕ) (s : Stamp) (j : ℕ) (a : Run) → Rising s.need a → n < (last a).need → (place s j a).need ≤ n → Front n j a
place_front n s zero a k l p = tt
place_front n s (suc j) (Then t (Out x) a) k l p = (le_trans t.need (place t j a).need n (place_least t.need t j a (le_self t.need) k.1) p, place_front n t j a k.1 l p) where
  le_trans : (a b c : ℕ) → a ≤ b → b ≤ c → a ≤ c
  le_trans a b c h k = omega arith
place_front n s (suc j) (Then t (Do e) a) k l p = (
  le_trans t.need (place s (suc j) a).need n (subst (λ q. t.need ≤ q.need) (place_any t s (suc j) a (omega arith)) (place_least t.need t (suc j) a (le_self t.need) k.1)) p,
  place_front n s (suc j) a (rising_less s.need t.need a k.0 k.1) l p,
) where
  le_trans : (a b c : ℕ) → a ≤ b → b ≤ c → a ≤ c
  le_trans a b c h k = omega arith
place_front n s (suc j) (Ends t e) k l p = absurd (omega arith)

place_cut : (n : ℕ) (h : Halt) (s : Stamp) (j : ℕ) (a : Run) → Front n j a → place s j (cut n h a) ≡ place s j a
place_cut n h s zero a k = refl
place_cut n h s (suc j) (Then t (Out x) a) k = rw (le-leb t.need n k.0) (place_cut n h t j a k.1)
place_cut n h s (suc j) (Then t (Do e) a) k = rw (le-leb t.need n k.0) (place_cut n h s (suc j) a k.1)
place_cut n h s (suc j) (Ends t e) k = absurd k

after_cut : (n : ℕ) (h : Halt) (j : ℕ) (a : Run) → Front n j a → after j (cut n h a) ≡ cut n h (after j a)
after_cut n h zero a k = refl
after_cut n h (suc j) (Then t (Out x) a) k = rw (le-leb t.need n k.0) (after_cut n h j a k.1)
after_cut n h (suc j) (Then t (Do e) a) k = rw (le-leb t.need n k.0) (after_cut n h (suc j) a k.1)
after_cut n h (suc j) (Ends t e) k = absurd k

take_cut : (n : ℕ) (h : Halt) (j : ℕ) (a : Run) → Front n j a → take j (outs (cut n h a)) ≡ take j (outs a)
take_cut n h zero a k = refl
take_cut n h (suc j) (Then t (Out x) a) k = rw (le-leb t.need n k.0) (ap (λ l. x ∷ l) (take_cut n h j a k.1))
take_cut n h (suc j) (Then t (Do e) a) k = rw (le-leb t.need n k.0) (take_cut n h (suc j) a k.1)
take_cut n h (suc j) (Ends t e) k = absurd k

front_known : (n : ℕ) (h : Halt) (j : ℕ) (a : Run) → Front n j a → j ≤ length (outs (cut n h a))
front_known n h zero a k = omega arith
front_known n h (suc j) (Then t (Out x) a) k = rw (le-leb t.need n k.0) (one_more (front_known n h j a k.1)) where
  one_more : {i j : ℕ} → i ≤ j → suc i ≤ suc j
  one_more h = omega arith
front_known n h (suc j) (Then t (Do e) a) k = rw (le-leb t.need n k.0) (front_known n h (suc j) a k.1)
front_known n h (suc j) (Ends t e) k = absurd k

front_there : (n j : ℕ) (a : Run) → Front n j a → j ≤ length (outs a)
front_there n zero a k = omega arith
front_there n (suc j) (Then t (Out x) a) k = (let i = front_there n j a k.1 in omega arith)
front_there n (suc j) (Then t (Do e) a) k = front_there n (suc j) a k.1
front_there n (suc j) (Ends t e) k = absurd k

-- ---- finishes

pub record FinishIsRun (finish : Run → Stamp → Value → Run) : Type 1 where
  -- it goes on where the weave is
  pub rising : (a : Run) (t : Stamp) (v : Value) → Rising 0 a → Rising (place start t.need a).need (finish a t v)
  -- its stamps are the first part's
  pub each : (P : Stamp → Type 0) (a : Run) (t : Stamp) (v : Value) → P start → EachStamp P a → EachStamp P (finish a t v)
  -- it reads the outputs that were asked for, and goes on through what stands behind them
  pub known : (n : ℕ) (h : Halt) (a : Run) (t : Stamp) (v : Value) → Rising 0 a → (place start t.need a).need ≤ n → Front n t.need a
      → finish (cut n h a) t v ≡ cut n h (finish a t v)

module _ (finish : Run → Stamp → Value → Run) (F : FinishIsRun finish) where
  pub by_follow : (a b : Component) (xs : List Item) (e : End) → fuse_by finish a b xs e ≡ follow (fuse a b xs e) (λ s v. finish (a xs e) (last (fed (a xs e) b)) v)
  by_follow a b xs e = woven_follow (λ j. place start j (a xs e)) (finish (a xs e)) (a xs e) 0 (fed (a xs e) b)

  pub rising_finish : (a : Run) (b : Component) (v : Value) → Rising 0 a → Rising (last (fuse_at start a (fed a b))).need (finish a (last (fed a b)) v)
  rising_finish a b v k = subst (λ q. Rising q.need (finish a (last (fed a b)) v)) (sym (woven_last (λ j. place start j a) a 0 (fed a b))) (F.rising a (last (fed a b)) v k)

  finish_known : (n : ℕ) (h : Halt) (a : Run) (b : Component) (v : Value) → Rising 0 a → IsRun b → (place start (last (fed a b)).need a).need ≤ n
      → (n < (last a).need) ⊎ ((last a).need ≤ n) → finish (cut n h a) (last (fed (cut n h a) b)) v ≡ cut n h (finish a (last (fed a b)) v)
  finish_known n h a b v ka kb p (inl l) =
      let t = last (fed a b) in
      let m = length (outs (cut n h a)) in
      let f = place_front n start t.need a ka l p in
      let e = fed_known a b n h kb l ∙ cut_all m h (fed a b) (at_most_last m 0 (fed a b) (kb.rising _ _) (front_known n h t.need a f)) in
      ap (λ q. finish (cut n h a) (last q) v) e ∙ F.known n h a t v ka p f
  finish_known n h a b v ka kb p (inr l) =
      let g = at_most_last n 0 a ka l in
      ap (λ q. finish q (last (fed q b)) v) (cut_all n h a g)
      ∙ sym (cut_all n h (finish a (last (fed a b)) v) (F.each (AtMost n) a (last (fed a b)) v (omega arith) g))

  pub fuse_by_is_run : (a b : Component) → IsRun a → IsRun b → IsRun (fuse_by finish a b)
  fuse_by_is_run a b ka kb = record {
    rising = λ xs e. subst (Rising 0) (sym (by_follow a b xs e)) (follow_rising 0 (fuse a b xs e) _ ((fuse_is_run a b ka kb).rising xs e) (λ v. rising_finish (a xs e) b v (ka.rising xs e)));
    stamps = λ xs e. subst (EachStamp (IsStamp (length xs))) (sym (by_follow a b xs e))
        (each_follow (IsStamp (length xs)) (fuse a b xs e) _ (λ s v p. F.each (IsStamp (length xs)) (a xs e) _ v (start_is (length xs)) (ka.stamps xs e)) ((fuse_is_run a b ka kb).stamps xs e));
    known = λ xs ys h e.
        let n = length xs in
        let r = a (xs ++ ys) e in
        let w = fuse a b (xs ++ ys) e in
        by_follow a b xs (Halted h)
        ∙ ap (λ q. follow q (λ s v. finish (a xs (Halted h)) (last (fed (a xs (Halted h)) b)) v)) ((fuse_is_run a b ka kb).known xs ys h e)
        ∙ follow_cut n h w _ (λ s v. finish r (last (fed r b)) v)
        (λ v i l.
        ap (λ q. finish q (last (fed q b)) v) (ka.known xs ys h e)
        ∙ finish_known n h r b v (ka.rising (xs ++ ys) e) kb (subst (λ q. q.need ≤ n) (woven_last (λ j. place start j r) r 0 (fed r b)) l) (cases_lt n (last r).need))
        (λ v. rising_finish r b v (ka.rising (xs ++ ys) e))
        ∙ ap (cut n h) (sym (by_follow a b (xs ++ ys) e));
  }

-- ---- `|&`, `|<`, `exactly` and `line`: what the first part still does

pub after_rising : (s : Stamp) (j : ℕ) (a : Run) → Rising s.need a → Rising (place s j a).need (after j a)
after_rising s zero a k = k
after_rising s (suc j) (Then t (Out x) a) k = after_rising t j a k.1
after_rising s (suc j) (Then t (Do e) a) k =
    subst (λ q. Rising q.need (after (suc j) a)) (place_any t s (suc j) a (omega arith)) (after_rising t (suc j) a k.1)
after_rising s (suc j) (Ends t e) k = le_self t.need

pub drain_rising : (pair : Value → Value) (n : ℕ) (a : Run) → Rising n a → Rising n (drain pair a)
drain_rising pair n (Then s (Out x) a) k = drain_rising pair n a (rising_less n s.need a k.0 k.1)
drain_rising pair n (Then s (Do e) a) k = (k.0, drain_rising pair s.need a k.1)
drain_rising pair n (Ends s (Done v)) k = k
drain_rising pair n (Ends s (Halts h)) k = k

each_after : (P : Stamp → Type 0) (j : ℕ) (a : Run) → EachStamp P a → EachStamp P (after j a)
each_after P zero a k = k
each_after P (suc j) (Then t (Out x) a) k = each_after P j a k.1
each_after P (suc j) (Then t (Do e) a) k = each_after P (suc j) a k.1
each_after P (suc j) (Ends t e) k = k

each_drain : (P : Stamp → Type 0) (pair : Value → Value) (a : Run) → EachStamp P a → EachStamp P (drain pair a)
each_drain P pair (Then s (Out x) a) k = each_drain P pair a k.1
each_drain P pair (Then s (Do e) a) k = (k.0, each_drain P pair a k.1)
each_drain P pair (Ends s (Done v)) k = k
each_drain P pair (Ends s (Halts h)) k = k

drain_cut : (n : ℕ) (h : Halt) (pair : Value → Value) (m : ℕ) (a : Run) → Rising m a → drain pair (cut n h a) ≡ cut n h (drain pair a)
drain_cut n h pair m (Then s (Out x) a) k = by_need n h pair s x a k.1 (drain_cut n h pair s.need a k.1) (cases_lt n s.need) where
  by_need : (n : ℕ) (h : Halt) (pair : Value → Value) (s : Stamp) (x : Item) (a : Run) → Rising s.need a → drain pair (cut n h a) ≡ cut n h (drain pair a)
      → (n < s.need) ⊎ (s.need ≤ n) → drain pair (cut n h (Then s (Out x) a)) ≡ cut n h (drain pair a)
  by_need n h pair s x a k i (inl l) = rw (lt-leb s.need n l) (sym (cut_none n h (drain pair a) (rising_less (suc n) s.need _ l (drain_rising pair s.need a k))))
  by_need n h pair s x a k i (inr l) = rw (le-leb s.need n l) i
drain_cut n h pair m (Then s (Do e) a) k = by_need n h pair s e a (drain_cut n h pair s.need a k.1) (cases_lt n s.need) where
  by_need : (n : ℕ) (h : Halt) (pair : Value → Value) (s : Stamp) (e : Effect) (a : Run) → drain pair (cut n h a) ≡ cut n h (drain pair a)
      → (n < s.need) ⊎ (s.need ≤ n) → drain pair (cut n h (Then s (Do e) a)) ≡ cut n h (Then s (Do e) (drain pair a))
  by_need n h pair s e a i (inl l) = rw (lt-leb s.need n l)
  by_need n h pair s e a i (inr l) = rw (le-leb s.need n l) (ap (λ q. Then s (Do e) q) i)
drain_cut n h pair m (Ends s (Done v)) k = by_need n h pair s v (cases_lt n s.need) where
  by_need : (n : ℕ) (h : Halt) (pair : Value → Value) (s : Stamp) (v : Value)
      → (n < s.need) ⊎ (s.need ≤ n) → drain pair (cut n h (Ends s (Done v))) ≡ cut n h (Ends s (Done (pair v)))
  by_need n h pair s v (inl l) = rw (lt-leb s.need n l)
  by_need n h pair s v (inr l) = rw (le-leb s.need n l)
drain_cut n h pair m (Ends s (Halts g)) k = by_need n h pair s g (cases_lt n s.need) where
  by_need : (n : ℕ) (h : Halt) (pair : Value → Value) (s : Stamp) (g : Halt)
      → (n < s.need) ⊎ (s.need ≤ n) → drain pair (cut n h (Ends s (Halts g))) ≡ cut n h (Ends s (Halts g))
  by_need n h pair s g (inl l) = rw (lt-leb s.need n l)
  by_need n h pair s g (inr l) = rw (le-leb s.need n l)

pub drained_is_run : (pair : Value → Value → Value) → FinishIsRun (drained pair)
drained_is_run pair = record {
  rising = λ a t v k. drain_rising (λ u. pair u v) (place start t.need a).need (after t.need a) (after_rising start t.need a k);
  each = λ P a t v p k. each_drain P (λ u. pair u v) (after t.need a) (each_after P t.need a k);
  known = λ n h a t v k p f.
      ap (drain (λ u. pair u v)) (after_cut n h t.need a f)
      ∙ drain_cut n h (λ u. pair u v) (place start t.need a).need (after t.need a) (after_rising start t.need a k);
}

pub fuse_drained_is_run : (pair : Value → Value → Value) (a b : Component) → IsRun a → IsRun b → IsRun (fuse_drained pair a b)
fuse_drained_is_run pair a b ka kb = fuse_by_is_run (drained pair) (drained_is_run pair) a b ka kb

pub exactly_is_run : (n : ℕ) (b : Component) → IsRun b → IsRun (exactly n b)
exactly_is_run n b k = fuse_drained_is_run second_value (taken n) b (taken_is_run n) k

pub line_is_run : (b : Component) → IsRun b → IsRun (line b)
line_is_run b k = fuse_drained_is_run second_value one_line b one_line_is_run k

-- ---- `|+` and `|?`: the ending is where the weave is

each_place : (P : Stamp → Type 0) (s : Stamp) (j : ℕ) (a : Run) → P s → EachStamp P a → P (place s j a)
each_place P s zero a p k = p
each_place P s (suc j) (Then t (Out x) a) p k = each_place P t j a k.0 k.1
each_place P s (suc j) (Then t (Do e) a) p k = each_place P s (suc j) a p k.1
each_place P s (suc j) (Ends t e) p k = k

-- a finish that ends at once, with a value that does not change where more of a is known
ends_is_run : (value : Run → Stamp → Value → Value)
    → ((n : ℕ) (h : Halt) (a : Run) (t : Stamp) (v : Value) → Front n t.need a → value (cut n h a) t v ≡ value a t v)
    → FinishIsRun (λ a t v. Ends (place start t.need a) (Done (value a t v)))
ends_is_run value f = record {
  rising = λ a t v k. le_self (place start t.need a).need;
  each = λ P a t v p k. each_place P start t.need a p k;
  known = λ n h a t v k p i.
      ap (λ q. Ends q (Done (value (cut n h a) t v))) (place_cut n h start t.need a i)
      ∙ ap (λ u. Ends (place start t.need a) (Done u)) (f n h a t v i)
      ∙ sym (cut_last n h (place start t.need a) (Done (value a t v)) p);
}

pub returned_is_run : (list : List Item → Value) → FinishIsRun (returned list)
returned_is_run list = ends_is_run _ (λ n h a t v i. ap (λ l. Value.Pair v (list (drop t.net l))) (take_cut n h t.need a i))

pub fuse_return_is_run : (list : List Item → Value) (a b : Component) → IsRun a → IsRun b → IsRun (fuse_return list a b)
fuse_return_is_run list a b ka kb = fuse_by_is_run (returned list) (returned_is_run list) a b ka kb

-- no more was asked for than there is
pub asked_within : (j n : ℕ) (e : Ending) (v : Value) → j ≤ n → asked j n e v ≡ Value.Pair absent v
asked_within j n (Done u) v h = rw (le-ltb n j h)
asked_within j n (Halts g) v h = refl

pub told_is_run : FinishIsRun told
told_is_run = ends_is_run _ (λ n h a t v i.
    asked_within t.need (length (outs (cut n h a))) (ending (cut n h a)) v (front_known n h t.need a i)
    ∙ sym (asked_within t.need (length (outs a)) (ending a) v (front_there n t.need a i)))

pub fuse_asked_is_run : (a b : Component) → IsRun a → IsRun b → IsRun (fuse_asked a b)
fuse_asked_is_run a b ka kb = fuse_by_is_run told told_is_run a b ka kb
