-- Zips, and what stands behind a map, go on where the parts do.
use Rattle.std.proofs.Common.{Bool, true, ◌≡◌, ℕ, suc, ◌≤◌, ◌<◌, ◌⊎◌, inl, inr, List, [], length, map, refl, ap, sym, ◌∙◌, subst, arith}
use Rattle.std.proofs.lemmas.Bool.{cases_lt}
use Rattle.cd_meaning.specs.Stream.{Item, Halt, More, Reading, Ended, Done, Halts, Act, Out, Do}
use Rattle.cd_meaning.specs.Run.{Stamp, start, Run, Then, Ends, Component}
use Rattle.cd_meaning.specs.ElementWords.{passed}
use Rattle.cd_meaning.specs.Fusion.{fuse_keep}
use Rattle.cd_meaning.specs.Zips.{no_value, paired, zip_runs, zip_source, merge, zip_sink, tee}
use Rattle.cd_meaning.specs.Laws.{Rising, EachStamp, IsRun}
use Rattle.cd_meaning.specs.Further.{Begins, GoesOn}
use Rattle.cd_meaning.proofs.Runs.Sources.{AtStart, start_rising}
use Rattle.cd_meaning.proofs.Runs.Elements.{passed_is_run}
use Rattle.cd_meaning.proofs.Runs.Keeps.{IsMap, keep_on_mapped}
use Rattle.cd_meaning.proofs.Zips.Runs.{zip_start, paired_start, bounded, Later, later, merge_first, merge_first_halts, merge_second, merge_second_halts, rising_left, rising_right, merge_rising}
use Rattle.cd_meaning.proofs.Begins.Laws.{act_same, begins_same, begins_rising, begins_trans, goes_on_refl}

-- ---- `|=`

pub fuse_keep_goes_on : (sites : ℕ → Bool) (a b b' : Component) → IsMap a → GoesOn sites b b' → GoesOn sites (fuse_keep a b) (fuse_keep a b')
fuse_keep_goes_on sites a b b' m g xs e =
    subst (λ q. Begins sites q (fuse_keep a b' xs e)) (sym (keep_on_mapped a b m xs e))
    (subst (Begins sites (b (map m.value xs) e)) (sym (keep_on_mapped a b' m xs e)) (g (map m.value xs) e))

-- ---- `zipSource`

paired_begins : (sites : ℕ → Bool) (separator : List ℕ) (x : Item) (rest rest' : Run → Run) (b b' : Run)
    → ((c c' : Run) → Begins sites c c' → Begins sites (rest c) (rest' c')) → ((c : Run) → EachStamp AtStart (rest' c))
    → Begins sites b b' → Begins sites (paired separator x rest b) (paired separator x rest' b')
paired_begins sites separator x rest rest' (Then s (Out y) b) (Then t z b') f g k =
    subst (λ q. Begins sites (paired separator x rest (Then s (Out y) b)) (paired separator x rest' (Then t q b'))) k.1 (refl, refl, f b b' k.2)
paired_begins sites separator x rest rest' (Then s (Do d) b) (Then t z b') f g k =
    subst (λ q. Begins sites (paired separator x rest (Then s (Do d) b)) (paired separator x rest' (Then t q b'))) k.1 (refl, refl, paired_begins sites separator x rest rest' b b' f g k.2)
paired_begins sites separator x rest rest' (Then s y b) (Ends t e) f g k = absurd k
paired_begins sites separator x rest rest' (Ends s e) b' f g (inl k) = inl (ap (paired separator x rest') k)
paired_begins sites separator x rest rest' (Ends s e) b' f g (inr k) =
    inr ((k.0.0, k.0.1, ap no_value k.0.2), start_rising (paired separator x rest' b') (paired_start separator x rest' b' g))

zip_begins : (sites : ℕ → Bool) (separator : List ℕ) (a a' b b' : Run) → Begins sites a a' → Begins sites b b' → Begins sites (zip_runs separator a b) (zip_runs separator a' b')
zip_begins sites separator (Then s (Out x) a) (Then t y a') b b' k j =
    subst (λ q. Begins sites (paired separator x (zip_runs separator a) b) (zip_runs separator (Then t q a') b')) k.1
    (paired_begins sites separator x (zip_runs separator a) (zip_runs separator a') b b' (λ c c' i. zip_begins sites separator a a' c c' k.2 i) (λ c. zip_start separator a' c) j)
zip_begins sites separator (Then s (Do d) a) (Then t y a') b b' k j =
    subst (λ q. Begins sites (Then start (Do d) (zip_runs separator a b)) (zip_runs separator (Then t q a') b')) k.1 (refl, refl, zip_begins sites separator a a' b b' k.2 j)
zip_begins sites separator (Then s x a) (Ends t e) b b' k j = absurd k
zip_begins sites separator (Ends s e) a' b b' (inl k) j = inl (ap (λ q. zip_runs separator q b') k)
zip_begins sites separator (Ends s e) a' b b' (inr k) j = inr ((k.0.0, k.0.1, ap no_value k.0.2), start_rising (zip_runs separator a' b') (zip_start separator a' b'))

pub zip_source_goes_on : (sites : ℕ → Bool) (separator : List ℕ) (a a' b b' : Component) → GoesOn sites a a' → GoesOn sites b b' → GoesOn sites (zip_source separator a b) (zip_source separator a' b')
zip_source_goes_on sites separator a a' b b' ga gb xs e = zip_begins sites separator (a [] Ended) (a' [] Ended) (b [] Ended) (b' [] Ended) (ga [] Ended) (gb [] Ended)

-- ---- the merge

abbrev Merged : (ℕ → Bool) → ℕ → Run → Run → Run → Run → Type 0
Merged sites n a b a' b' = Begins sites (merge n a b) (merge n a' b')

-- both go on by the same act of the first, or of the second
both_first : (sites : ℕ → Bool) (n : ℕ) (s : Stamp) (x : Act) (a a' b b' : Run) → Later s.need b → Later s.need b' → Merged sites n a b a' b' → Merged sites n (Then s x a) b (Then s x a') b'
both_first sites n s x a a' b b' l l' k =
    subst (λ q. Begins sites q (merge n (Then s x a') b')) (sym (merge_first n s x a b l))
    (subst (Begins sites (Then (bounded n s) x (merge n a b))) (sym (merge_first n s x a' b' l')) (refl, refl, k))

both_second : (sites : ℕ → Bool) (n : ℕ) (t : Stamp) (y : Act) (a a' b b' : Run) → Later (suc t.need) a → Later (suc t.need) a' → Merged sites n a b a' b' → Merged sites n a (Then t y b) a' (Then t y b')
both_second sites n t y a a' b b' l l' k =
    subst (λ q. Begins sites q (merge n a' (Then t y b'))) (sym (merge_second n t y a b l))
    (subst (Begins sites (Then (bounded n t) y (merge n a b))) (sym (merge_second n t y a' b' l')) (refl, refl, k))

-- it stops by a fault of the one side, whatever the other one still does
first_stops : (sites : ℕ → Bool) (g : Halt) (n : ℕ) (s : Stamp) (b b' : Run) → Later s.need b → Later s.need b' → Merged sites n (Ends s (Halts g)) b (Ends s (Halts g)) b'
first_stops sites g n s b b' l l' = begins_same sites _ _ (merge_first_halts n s g b l ∙ sym (merge_first_halts n s g b' l'))

second_stops : (sites : ℕ → Bool) (g : Halt) (n : ℕ) (t : Stamp) (a a' : Run) → Later (suc t.need) a → Later (suc t.need) a' → Merged sites n a (Ends t (Halts g)) a' (Ends t (Halts g))
second_stops sites g n t a a' l l' = begins_same sites _ _ (merge_second_halts n t g a l ∙ sym (merge_second_halts n t g a' l'))

-- it waits where the one side does, and goes on from there
first_waits : (sites : ℕ → Bool) (m : ℕ) (p : sites m ≡ true) (n : ℕ) (s : Stamp) (b q : Run) → Later s.need b → Rising s.need q → Begins sites (merge n (Ends s (Halts (More (Reading m)))) b) q
first_waits sites m p n s b q l k = subst (λ r. Begins sites r q) (sym (merge_first_halts n s (More (Reading m)) b l)) (inr ((m, p, refl), k))

second_waits : (sites : ℕ → Bool) (m : ℕ) (p : sites m ≡ true) (n : ℕ) (t : Stamp) (a q : Run) → Later (suc t.need) a → Rising t.need q → Begins sites (merge n a (Ends t (Halts (More (Reading m))))) q
second_waits sites m p n t a q l k = subst (λ r. Begins sites r q) (sym (merge_second_halts n t (More (Reading m)) a l)) (inr ((m, p, refl), k))

below : (t s : ℕ) → t < s → t ≤ s
below t s l = omega arith

-- which side is first
by_order : (s t : ℕ) (P : Type 0) → (s ≤ t → P) → (t < s → P) → P
by_order s t P f g = by_case s t P f g (cases_lt t s) where
  by_case : (s t : ℕ) (P : Type 0) → (s ≤ t → P) → (t < s → P) → (t < s) ⊎ (s ≤ t) → P
  by_case s t P f g (inl l) = g l
  by_case s t P f g (inr l) = f l

-- the first side waits, and goes on as a'
left_waits : (sites : ℕ → Bool) (m : ℕ) (p : sites m ≡ true) (n i : ℕ) (s : Stamp) (a' b : Run) → Rising s.need a' → Rising i b → Begins sites (merge n (Ends s (Halts (More (Reading m)))) b) (merge n a' b)
left_waits sites m p n i s a' (Then t y b) ka kb =
    by_order s.need t.need _
    (λ l. first_waits sites m p n s (Then t y b) (merge n a' (Then t y b)) l (merge_rising n s.need a' (Then t y b) ka (l, kb.1)))
    (λ l. both_second sites n t y (Ends s (Halts (More (Reading m)))) a' b b l (later (suc t.need) s.need a' l ka) (left_waits sites m p n t.need s a' b ka kb.1))
left_waits sites m p n i s a' (Ends t (Done v)) ka kb = inr ((m, p, refl), rising_left n s.need t v a' ka)
left_waits sites m p n i s a' (Ends t (Halts g)) ka kb =
    by_order s.need t.need _
    (λ l. first_waits sites m p n s (Ends t (Halts g)) (merge n a' (Ends t (Halts g))) l (merge_rising n s.need a' (Ends t (Halts g)) ka l))
    (λ l. second_stops sites g n t (Ends s (Halts (More (Reading m)))) a' l (later (suc t.need) s.need a' l ka))

merge_left_begins : (sites : ℕ → Bool) (n i j : ℕ) (a a' b : Run) → Begins sites a a' → Rising i a → Rising j b → Begins sites (merge n a b) (merge n a' b)
merge_left_begins sites n i j (Then s x a) (Then s' x' a') (Then t y b) k ka kb =
    subst (λ q. Begins sites (merge n (Then s x a) (Then t y b)) (merge n q (Then t y b))) (act_same _ _ _ _ _ k.0 k.1)
    (by_order s.need t.need _
    (λ l. both_first sites n s x a a' (Then t y b) (Then t y b) l l (merge_left_begins sites n s.need j a a' (Then t y b) k.2 ka.1 kb))
    (λ l. both_second sites n t y (Then s x a) (Then s x a') b b l l (subst (λ q. Begins sites (merge n (Then s x a) b) (merge n q b)) (sym (act_same _ _ _ _ _ k.0 k.1)) (merge_left_begins sites n i t.need (Then s x a) (Then s' x' a') b k ka kb.1))))
merge_left_begins sites n i j (Then s x a) (Then s' x' a') (Ends t (Done v)) k ka kb =
    subst (λ q. Begins sites (merge n (Then s x a) (Ends t (Done v))) (merge n q (Ends t (Done v)))) (act_same _ _ _ _ _ k.0 k.1)
    (refl, refl, merge_left_begins sites n s.need j a a' (Ends t (Done v)) k.2 ka.1 kb)
merge_left_begins sites n i j (Then s x a) (Then s' x' a') (Ends t (Halts g)) k ka kb =
    subst (λ q. Begins sites (merge n (Then s x a) (Ends t (Halts g))) (merge n q (Ends t (Halts g)))) (act_same _ _ _ _ _ k.0 k.1)
    (by_order s.need t.need _
    (λ l. both_first sites n s x a a' (Ends t (Halts g)) (Ends t (Halts g)) l l (merge_left_begins sites n s.need j a a' (Ends t (Halts g)) k.2 ka.1 kb))
    (λ l. second_stops sites g n t (Then s x a) (Then s x a') l l))
merge_left_begins sites n i j (Then s x a) (Ends s' e) b k ka kb = absurd k
merge_left_begins sites n i j (Ends s e) a' b (inl k) ka kb = begins_same sites _ _ (ap (λ q. merge n q b) (sym k))
merge_left_begins sites n i j (Ends s e) a' b (inr k) ka kb = subst (λ q. Begins sites (merge n (Ends s q) b) (merge n a' b)) (sym k.0.2) (left_waits sites k.0.0 k.0.1 n j s a' b k.1 kb)

-- the second side waits, and goes on as b'
right_waits : (sites : ℕ → Bool) (m : ℕ) (p : sites m ≡ true) (n i : ℕ) (t : Stamp) (a b' : Run) → Rising i a → Rising t.need b' → Begins sites (merge n a (Ends t (Halts (More (Reading m))))) (merge n a b')
right_waits sites m p n i t (Then s x a) b' ka kb =
    by_order s.need t.need _
    (λ l. both_first sites n s x a a (Ends t (Halts (More (Reading m)))) b' l (later s.need t.need b' l kb) (right_waits sites m p n s.need t a b' ka.1 kb))
    (λ l. second_waits sites m p n t (Then s x a) (merge n (Then s x a) b') l (merge_rising n t.need (Then s x a) b' (below t.need s.need l, ka.1) kb))
right_waits sites m p n i t (Ends s (Done u)) b' ka kb = inr ((m, p, refl), rising_right n t.need s u b' kb)
right_waits sites m p n i t (Ends s (Halts g)) b' ka kb =
    by_order s.need t.need _
    (λ l. first_stops sites g n s (Ends t (Halts (More (Reading m)))) b' l (later s.need t.need b' l kb))
    (λ l. second_waits sites m p n t (Ends s (Halts g)) (merge n (Ends s (Halts g)) b') l (merge_rising n t.need (Ends s (Halts g)) b' (below t.need s.need l) kb))

merge_right_begins : (sites : ℕ → Bool) (n i j : ℕ) (a b b' : Run) → Begins sites b b' → Rising i a → Rising j b → Begins sites (merge n a b) (merge n a b')
merge_right_begins sites n i j (Then s x a) (Then t y b) (Then t' y' b') k ka kb =
    subst (λ q. Begins sites (merge n (Then s x a) (Then t y b)) (merge n (Then s x a) q)) (act_same _ _ _ _ _ k.0 k.1)
    (by_order s.need t.need _
    (λ l. both_first sites n s x a a (Then t y b) (Then t y b') l l (subst (λ q. Begins sites (merge n a (Then t y b)) (merge n a q)) (sym (act_same _ _ _ _ _ k.0 k.1)) (merge_right_begins sites n s.need j a (Then t y b) (Then t' y' b') k ka.1 kb)))
    (λ l. both_second sites n t y (Then s x a) (Then s x a) b b' l l (merge_right_begins sites n i t.need (Then s x a) b b' k.2 ka kb.1)))
merge_right_begins sites n i j (Ends s (Done u)) (Then t y b) (Then t' y' b') k ka kb =
    subst (λ q. Begins sites (merge n (Ends s (Done u)) (Then t y b)) (merge n (Ends s (Done u)) q)) (act_same _ _ _ _ _ k.0 k.1)
    (refl, refl, merge_right_begins sites n i t.need (Ends s (Done u)) b b' k.2 ka kb.1)
merge_right_begins sites n i j (Ends s (Halts g)) (Then t y b) (Then t' y' b') k ka kb =
    subst (λ q. Begins sites (merge n (Ends s (Halts g)) (Then t y b)) (merge n (Ends s (Halts g)) q)) (act_same _ _ _ _ _ k.0 k.1)
    (by_order s.need t.need _
    (λ l. first_stops sites g n s (Then t y b) (Then t y b') l l)
    (λ l. both_second sites n t y (Ends s (Halts g)) (Ends s (Halts g)) b b' l l (merge_right_begins sites n i t.need (Ends s (Halts g)) b b' k.2 ka kb.1)))
merge_right_begins sites n i j a (Then t y b) (Ends t' e) k ka kb = absurd k
merge_right_begins sites n i j a (Ends t e) b' (inl k) ka kb = begins_same sites _ _ (ap (merge n a) (sym k))
merge_right_begins sites n i j a (Ends t e) b' (inr k) ka kb = subst (λ q. Begins sites (merge n a (Ends t q)) (merge n a b')) (sym k.0.2) (right_waits sites k.0.0 k.0.1 n i t a b' ka k.1)

-- ---- `zipSink`, `zipConduit` and `tee`

pub zip_sink_goes_on : (sites : ℕ → Bool) (a a' b b' : Component) → IsRun a → IsRun b → GoesOn sites a a' → GoesOn sites b b' → GoesOn sites (zip_sink a b) (zip_sink a' b')
zip_sink_goes_on sites a a' b b' ka kb ga gb xs e =
    let n = length xs in
    begins_trans sites (merge n (a xs e) (b xs e)) (merge n (a' xs e) (b xs e)) (merge n (a' xs e) (b' xs e))
    (merge_left_begins sites n 0 0 (a xs e) (a' xs e) (b xs e) (ga xs e) (ka.rising xs e) (kb.rising xs e))
    (merge_right_begins sites n 0 0 (a' xs e) (b xs e) (b' xs e) (gb xs e) (begins_rising sites 0 (a xs e) (a' xs e) (ga xs e) (ka.rising xs e)) (kb.rising xs e))

pub tee_goes_on : (sites : ℕ → Bool) (a a' : Component) → IsRun a → GoesOn sites a a' → GoesOn sites (tee a) (tee a')
tee_goes_on sites a a' k g = zip_sink_goes_on sites a a' passed passed k passed_is_run g (goes_on_refl sites passed)
