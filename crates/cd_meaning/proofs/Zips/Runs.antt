-- Zips are runs where their parts are.
use Rattle.std.proofs.Common.{◌≡◌, ℕ, suc, ◌≤◌, ◌<◌, ◌⊎◌, inl, inr, Bool, true, false, if◌then◌else◌, min, max, nat_le, List, [], ◌++◌, length, refl, ap, sym, ◌∙◌, subst, arith, length-append}
use Rattle.std.proofs.lemmas.Bool.{le-leb, lt-leb, cases_lt}
use Rattle.cd_meaning.specs.Stream.{Item, Value, Halt, Halted, Ended, Done, Halts, Act, Out, Do}
use Rattle.cd_meaning.specs.Run.{Stamp, stamp, Run, Then, Ends, Component}
use Rattle.cd_meaning.specs.ElementWords.{passed}
use Rattle.cd_meaning.specs.Fusion.{both}
use Rattle.cd_meaning.specs.Zips.{paired, zip_runs, zip_source, merge, zip_sink, tee}
use Rattle.cd_meaning.specs.Laws.{Rising, cut, EachStamp, IsStamp, IsRun}
use Rattle.cd_meaning.proofs.Rising.{le_self}
use Rattle.cd_meaning.proofs.Cut.{cut_act, cut_last, cut_none}
use Rattle.cd_meaning.proofs.Stamps.{each_stamp}
use Rattle.cd_meaning.proofs.Runs.Sources.{AtStart, source_is_run}
use Rattle.cd_meaning.proofs.Runs.Elements.{passed_is_run}

-- ---- `zipSource`, which ignores its input

pub paired_start : (separator : List ℕ) (x : Item) (rest : Run → Run) (b : Run) → ((c : Run) → EachStamp AtStart (rest c)) → EachStamp AtStart (paired separator x rest b)
paired_start separator x rest (Then s (Out y) b) k = (refl, k b)
paired_start separator x rest (Then s (Do e) b) k = (refl, paired_start separator x rest b k)
paired_start separator x rest (Ends s e) k = refl

pub zip_start : (separator : List ℕ) (a b : Run) → EachStamp AtStart (zip_runs separator a b)
zip_start separator (Then s (Out x) a) b = paired_start separator x (zip_runs separator a) b (λ c. zip_start separator a c)
zip_start separator (Then s (Do e) a) b = (refl, zip_start separator a b)
zip_start separator (Ends s e) b = refl

pub zip_source_is_run : (separator : List ℕ) (a b : Component) → IsRun (zip_source separator a b)
zip_source_is_run separator a b = source_is_run _ (zip_start separator (a [] Ended) (b [] Ended))

-- ---- the merge, by which side is next

-- the stamp of a merge
abbrev pub bounded : ℕ → Stamp → Stamp
bounded n s = stamp s.need (min s.need n)

-- nothing of this side comes before need m: a value is no reason to end
abbrev pub Later : ℕ → Run → Type 0
Later m (Then t y b) = m ≤ t.need
Later m (Ends t (Done v)) = Unit {0}
Later m (Ends t (Halts h)) = m ≤ t.need

pub later : (m i : ℕ) (r : Run) → m ≤ i → Rising i r → Later m r
later m i (Then s a r) l k = (let k0 = k.0 in omega arith)
later m i (Ends s (Done v)) l k = tt
later m i (Ends s (Halts h)) l k = omega arith

pub merge_first : (n : ℕ) (s : Stamp) (x : Act) (a b : Run) → Later s.need b → merge n (Then s x a) b ≡ Then (bounded n s) x (merge n a b)
merge_first n s x a (Then t y b) k = rw (le-leb s.need t.need k)
merge_first n s x a (Ends t (Done v)) k = refl
merge_first n s x a (Ends t (Halts h)) k = rw (le-leb s.need t.need k)

pub merge_first_halts : (n : ℕ) (s : Stamp) (g : Halt) (b : Run) → Later s.need b → merge n (Ends s (Halts g)) b ≡ Ends (bounded n s) (Halts g)
merge_first_halts n s g (Then t y b) k = rw (le-leb s.need t.need k)
merge_first_halts n s g (Ends t (Done v)) k = refl
merge_first_halts n s g (Ends t (Halts h)) k = rw (le-leb s.need t.need k)

pub merge_second : (n : ℕ) (t : Stamp) (y : Act) (a b : Run) → Later (suc t.need) a → merge n a (Then t y b) ≡ Then (bounded n t) y (merge n a b)
merge_second n t y (Then s x a) b k = rw (lt-leb s.need t.need k)
merge_second n t y (Ends s (Done u)) b k = refl
merge_second n t y (Ends s (Halts g)) b k = rw (lt-leb s.need t.need k)

pub merge_second_halts : (n : ℕ) (t : Stamp) (h : Halt) (a : Run) → Later (suc t.need) a → merge n a (Ends t (Halts h)) ≡ Ends (bounded n t) (Halts h)
merge_second_halts n t h (Then s x a) k = rw (lt-leb s.need t.need k)
merge_second_halts n t h (Ends s (Done u)) k = refl
merge_second_halts n t h (Ends s (Halts g)) k = rw (lt-leb s.need t.need k)

-- ---- needs of a merge never fall

-- one side is done
pub rising_left : (n m : ℕ) (t : Stamp) (v : Value) (a : Run) → Rising m a → Rising m (merge n a (Ends t (Done v)))
rising_left n m t v (Then s x a) k = (k.0, rising_left n s.need t v a k.1)
rising_left n m t v (Ends s (Done u)) k = omega arith
rising_left n m t v (Ends s (Halts g)) k = k

pub rising_right : (n m : ℕ) (s : Stamp) (u : Value) (b : Run) → Rising m b → Rising m (merge n (Ends s (Done u)) b)
rising_right n m s u (Then t y b) k = (k.0, rising_right n t.need s u b k.1)
rising_right n m s u (Ends t (Done v)) k = omega arith
rising_right n m s u (Ends t (Halts h)) k = k

pub merge_rising : (n m : ℕ) (a b : Run) → Rising m a → Rising m b → Rising m (merge n a b)
merge_rising n m (Then s x a) (Then t y b) ka kb =
    by_need n m s t x y a b ka.0 kb.0 (λ l. merge_rising n s.need a (Then t y b) ka.1 (l, kb.1)) (λ l. merge_rising n t.need (Then s x a) b (l, ka.1) kb.1) (cases_lt t.need s.need) where
      by_need : (n m : ℕ) (s t : Stamp) (x y : Act) (a b : Run) → m ≤ s.need → m ≤ t.need → (s.need ≤ t.need → Rising s.need (merge n a (Then t y b)))
          → (t.need ≤ s.need → Rising t.need (merge n (Then s x a) b)) → (t.need < s.need) ⊎ (s.need ≤ t.need) → Rising m (merge n (Then s x a) (Then t y b))
      by_need n m s t x y a b h k i j (inl l) = subst (Rising m) (sym (merge_second n t y (Then s x a) b l)) (k, j (omega arith))
      by_need n m s t x y a b h k i j (inr l) = subst (Rising m) (sym (merge_first n s x a (Then t y b) l)) (h, i l)
merge_rising n m (Then s x a) (Ends t (Done v)) ka kb = rising_left n m t v (Then s x a) ka
merge_rising n m (Then s x a) (Ends t (Halts h)) ka kb =
    by_need n m s t x h a ka.0 kb (λ l. merge_rising n s.need a (Ends t (Halts h)) ka.1 l) (cases_lt t.need s.need) where
      by_need : (n m : ℕ) (s t : Stamp) (x : Act) (h : Halt) (a : Run) → m ≤ s.need → m ≤ t.need → (s.need ≤ t.need → Rising s.need (merge n a (Ends t (Halts h))))
          → (t.need < s.need) ⊎ (s.need ≤ t.need) → Rising m (merge n (Then s x a) (Ends t (Halts h)))
      by_need n m s t x h a f k i (inl l) = subst (Rising m) (sym (merge_second_halts n t h (Then s x a) l)) k
      by_need n m s t x h a f k i (inr l) = subst (Rising m) (sym (merge_first n s x a (Ends t (Halts h)) l)) (f, i l)
merge_rising n m (Ends s (Done u)) b ka kb = rising_right n m s u b kb
merge_rising n m (Ends s (Halts g)) (Then t y b) ka kb =
    by_need n m s t g y b ka kb.0 (λ l. merge_rising n t.need (Ends s (Halts g)) b l kb.1) (cases_lt t.need s.need) where
      by_need : (n m : ℕ) (s t : Stamp) (g : Halt) (y : Act) (b : Run) → m ≤ s.need → m ≤ t.need → (t.need ≤ s.need → Rising t.need (merge n (Ends s (Halts g)) b))
          → (t.need < s.need) ⊎ (s.need ≤ t.need) → Rising m (merge n (Ends s (Halts g)) (Then t y b))
      by_need n m s t g y b h k i (inl l) = subst (Rising m) (sym (merge_second n t y (Ends s (Halts g)) b l)) (k, i (omega arith))
      by_need n m s t g y b h k i (inr l) = subst (Rising m) (sym (merge_first_halts n s g (Then t y b) l)) h
merge_rising n m (Ends s (Halts g)) (Ends t (Done v)) ka kb = ka
merge_rising n m (Ends s (Halts g)) (Ends t (Halts h)) ka kb = by_need n m s t g h ka kb (cases_lt t.need s.need) where
  by_need : (n m : ℕ) (s t : Stamp) (g h : Halt) → m ≤ s.need → m ≤ t.need → (t.need < s.need) ⊎ (s.need ≤ t.need) → Rising m (merge n (Ends s (Halts g)) (Ends t (Halts h)))
  by_need n m s t g h i k (inl l) = subst (Rising m) (sym (merge_second_halts n t h (Ends s (Halts g)) l)) k
  by_need n m s t g h i k (inr l) = subst (Rising m) (sym (merge_first_halts n s g (Ends t (Halts h)) l)) i

-- ---- its stamps

bounded_stamp : (n j : ℕ) → j ≤ suc n → IsStamp n (stamp j (min j n))
bounded_stamp n j h = record { asked = h; there = omega arith; taken = omega arith; one_back = omega arith }

each_if : (P : Stamp → Type 0) (b : Bool) (r q : Run) → EachStamp P r → EachStamp P q → EachStamp P (if b then r else q)
each_if P true r q k j = k
each_if P false r q k j = j

-- at most one value more than there are is asked for
abbrev pub OneMore : ℕ → Stamp → Type 0
OneMore n s = s.need ≤ suc n

pub merge_stamps : (n : ℕ) (a b : Run) → EachStamp (OneMore n) a → EachStamp (OneMore n) b → EachStamp (IsStamp n) (merge n a b)
merge_stamps n (Then s x a) (Then t y b) ka kb =
    each_if (IsStamp n) (nat_le s.need t.need) _ _ (bounded_stamp n s.need ka.0, merge_stamps n a (Then t y b) ka.1 kb) (bounded_stamp n t.need kb.0, merge_stamps n (Then s x a) b ka kb.1)
merge_stamps n (Then s x a) (Ends t (Done v)) ka kb = (bounded_stamp n s.need ka.0, merge_stamps n a (Ends t (Done v)) ka.1 kb)
merge_stamps n (Then s x a) (Ends t (Halts h)) ka kb =
    each_if (IsStamp n) (nat_le s.need t.need) _ _ (bounded_stamp n s.need ka.0, merge_stamps n a (Ends t (Halts h)) ka.1 kb) (bounded_stamp n t.need kb)
merge_stamps n (Ends s (Done u)) (Then t y b) ka kb = (bounded_stamp n t.need kb.0, merge_stamps n (Ends s (Done u)) b ka kb.1)
merge_stamps n (Ends s (Done u)) (Ends t (Done v)) ka kb = bounded_stamp n (max s.need t.need) (omega arith)
merge_stamps n (Ends s (Done u)) (Ends t (Halts h)) ka kb = bounded_stamp n t.need kb
merge_stamps n (Ends s (Halts g)) (Then t y b) ka kb =
    each_if (IsStamp n) (nat_le s.need t.need) _ _ (bounded_stamp n s.need ka) (bounded_stamp n t.need kb.0, merge_stamps n (Ends s (Halts g)) b ka kb.1)
merge_stamps n (Ends s (Halts g)) (Ends t (Done v)) ka kb = bounded_stamp n s.need ka
merge_stamps n (Ends s (Halts g)) (Ends t (Halts h)) ka kb = each_if (IsStamp n) (nat_le s.need t.need) _ _ (bounded_stamp n s.need ka) (bounded_stamp n t.need kb)

-- ---- what is known of a merge

later_cut : (m n : ℕ) (h : Halt) (b : Run) → m ≤ suc n → Later m b → Later m (cut n h b)
later_cut m n h (Then t y b) l k = by_need m n h t y b l k (cases_lt n t.need) where
  by_need : (m n : ℕ) (h : Halt) (t : Stamp) (y : Act) (b : Run) → m ≤ suc n → m ≤ t.need → (n < t.need) ⊎ (t.need ≤ n) → Later m (cut n h (Then t y b))
  by_need m n h t y b l k (inl i) = rw (lt-leb t.need n i) l
  by_need m n h t y b l k (inr i) = rw (le-leb t.need n i) k
later_cut m n h (Ends t (Done v)) l k = by_need m n h t v l (cases_lt n t.need) where
  by_need : (m n : ℕ) (h : Halt) (t : Stamp) (v : Value) → m ≤ suc n → (n < t.need) ⊎ (t.need ≤ n) → Later m (cut n h (Ends t (Done v)))
  by_need m n h t v l (inl i) = rw (lt-leb t.need n i) l
  by_need m n h t v l (inr i) = rw (le-leb t.need n i) tt
later_cut m n h (Ends t (Halts g)) l k = by_need m n h t g l k (cases_lt n t.need) where
  by_need : (m n : ℕ) (h : Halt) (t : Stamp) (g : Halt) → m ≤ suc n → m ≤ t.need → (n < t.need) ⊎ (t.need ≤ n) → Later m (cut n h (Ends t (Halts g)))
  by_need m n h t g l k (inl i) = rw (lt-leb t.need n i) l
  by_need m n h t g l k (inr i) = rw (le-leb t.need n i) k

-- on n values and more, a stamp of which no more are needed is that on n
bounded_same : (n n' : ℕ) (s : Stamp) → s.need ≤ n → n ≤ n' → bounded n s ≡ bounded n' s
bounded_same n n' s h k = (let e : min s.need n ≡ min s.need n' = omega arith in rw e)

abbrev Same : ℕ → ℕ → Halt → Run → Run → Type 0
Same n n' h a b = merge n (cut n h a) (cut n h b) ≡ cut n h (merge n' a b)

same_first : (n n' : ℕ) (h : Halt) (s : Stamp) (x : Act) (a b : Run) → n ≤ n' → s.need ≤ n → Later s.need b → Same n n' h a b → Same n n' h (Then s x a) b
same_first n n' h s x a b g l k i =
    ap (λ q. merge n q (cut n h b)) (cut_act n h s x a l)
    ∙ merge_first n s x (cut n h a) (cut n h b) (later_cut s.need n h b (omega arith) k)
    ∙ ap (λ q. Then q x (merge n (cut n h a) (cut n h b))) (bounded_same n n' s l g)
    ∙ ap (Then (bounded n' s) x) i
    ∙ sym (cut_act n h (bounded n' s) x (merge n' a b) l)
    ∙ ap (cut n h) (sym (merge_first n' s x a b k))

same_second : (n n' : ℕ) (h : Halt) (t : Stamp) (y : Act) (a b : Run) → n ≤ n' → t.need ≤ n → Later (suc t.need) a → Same n n' h a b → Same n n' h a (Then t y b)
same_second n n' h t y a b g l k i =
    ap (λ q. merge n (cut n h a) q) (cut_act n h t y b l)
    ∙ merge_second n t y (cut n h a) (cut n h b) (later_cut (suc t.need) n h a (omega arith) k)
    ∙ ap (λ q. Then q y (merge n (cut n h a) (cut n h b))) (bounded_same n n' t l g)
    ∙ ap (Then (bounded n' t) y) i
    ∙ sym (cut_act n h (bounded n' t) y (merge n' a b) l)
    ∙ ap (cut n h) (sym (merge_second n' t y a b k))

same_first_halts : (n n' : ℕ) (h : Halt) (s : Stamp) (g : Halt) (b : Run) → n ≤ n' → s.need ≤ n → Later s.need b → Same n n' h (Ends s (Halts g)) b
same_first_halts n n' h s g b f l k =
    ap (λ q. merge n q (cut n h b)) (cut_last n h s (Halts g) l)
    ∙ merge_first_halts n s g (cut n h b) (later_cut s.need n h b (omega arith) k)
    ∙ ap (λ q. Ends q (Halts g)) (bounded_same n n' s l f)
    ∙ sym (cut_last n h (bounded n' s) (Halts g) l)
    ∙ ap (cut n h) (sym (merge_first_halts n' s g b k))

same_second_halts : (n n' : ℕ) (h : Halt) (t : Stamp) (g : Halt) (a : Run) → n ≤ n' → t.need ≤ n → Later (suc t.need) a → Same n n' h a (Ends t (Halts g))
same_second_halts n n' h t g a f l k =
    ap (λ q. merge n (cut n h a) q) (cut_last n h t (Halts g) l)
    ∙ merge_second_halts n t g (cut n h a) (later_cut (suc t.need) n h a (omega arith) k)
    ∙ ap (λ q. Ends q (Halts g)) (bounded_same n n' t l f)
    ∙ sym (cut_last n h (bounded n' t) (Halts g) l)
    ∙ ap (cut n h) (sym (merge_second_halts n' t g a k))

-- nothing is known
abbrev unknown : ℕ → Halt → Run
unknown n h = Ends (stamp (suc n) n) (Halts h)

unknown_both : (n : ℕ) (h : Halt) → merge n (unknown n h) (unknown n h) ≡ unknown n h
unknown_both n h = (let e : min (suc n) n ≡ n = omega arith in rw (le-leb (suc n) (suc n) (le_self (suc n)), e))

unknown_done : (n : ℕ) (h : Halt) → Ends (bounded n (stamp (suc n) n)) (Halts h) ≡ unknown n h
unknown_done n h = (let e : min (suc n) n ≡ n = omega arith in rw e)

same_none : (n n' : ℕ) (h : Halt) (a b : Run) → Rising (suc n) a → Rising (suc n) b → Same n n' h a b
same_none n n' h a b ka kb =
    ap (λ q. merge n q (cut n h b)) (cut_none n h a ka)
    ∙ ap (merge n (unknown n h)) (cut_none n h b kb)
    ∙ unknown_both n h
    ∙ sym (cut_none n h (merge n' a b) (merge_rising n' (suc n) a b ka kb))

same_left : (n n' : ℕ) (h : Halt) (a : Run) (t : Stamp) (v : Value) → Rising (suc n) a → t.need ≤ n → Same n n' h a (Ends t (Done v))
same_left n n' h a t v ka l =
    ap (λ q. merge n q (cut n h (Ends t (Done v)))) (cut_none n h a ka)
    ∙ ap (merge n (unknown n h)) (cut_last n h t (Done v) l)
    ∙ unknown_done n h
    ∙ sym (cut_none n h (merge n' a (Ends t (Done v))) (rising_left n' (suc n) t v a ka))

same_right : (n n' : ℕ) (h : Halt) (s : Stamp) (u : Value) (b : Run) → Rising (suc n) b → s.need ≤ n → Same n n' h (Ends s (Done u)) b
same_right n n' h s u b kb l =
    ap (λ q. merge n q (cut n h b)) (cut_last n h s (Done u) l)
    ∙ ap (merge n (Ends s (Done u))) (cut_none n h b kb)
    ∙ unknown_done n h
    ∙ sym (cut_none n h (merge n' (Ends s (Done u)) b) (rising_right n' (suc n) s u b kb))

same_done : (n n' : ℕ) (h : Halt) (s t : Stamp) (u v : Value) → n ≤ n' → s.need ≤ n → t.need ≤ n → Same n n' h (Ends s (Done u)) (Ends t (Done v))
same_done n n' h s t u v g k l =
    ap (λ q. merge n q (cut n h (Ends t (Done v)))) (cut_last n h s (Done u) k)
    ∙ ap (merge n (Ends s (Done u))) (cut_last n h t (Done v) l)
    ∙ (let e : min (max s.need t.need) n ≡ min (max s.need t.need) n' = omega arith in ap (λ q. Ends (stamp (max s.need t.need) q) (Done (both u v))) e)
    ∙ sym (cut_last n h (bounded n' (stamp (max s.need t.need) 0)) (Done (both u v)) (omega arith))

-- which side is first, and whether it is known
pub by_first : (n s t : ℕ) (P : Type 0) → (s ≤ t → s ≤ n → P) → (t < s → t ≤ n → P) → (n < s → n < t → P) → P
by_first n s t P f g k = by_cases n s t P f g k (cases_lt t s) (cases_lt n s) (cases_lt n t) where
  by_cases : (n s t : ℕ) (P : Type 0) → (s ≤ t → s ≤ n → P) → (t < s → t ≤ n → P) → (n < s → n < t → P) → (t < s) ⊎ (s ≤ t) → (n < s) ⊎ (s ≤ n) → (n < t) ⊎ (t ≤ n) → P
  by_cases n s t P f g k (inl i) q (inr l) = g i l
  by_cases n s t P f g k (inl i) q (inl l) = k (omega arith) l
  by_cases n s t P f g k (inr i) (inr l) q = f i l
  by_cases n s t P f g k (inr i) (inl l) q = k l (omega arith)

-- whether a side is known, and the other one, which is done
by_known : (n s t : ℕ) (P : Type 0) → (s ≤ n → P) → (n < s → t ≤ n → P) → (n < s → n < t → P) → P
by_known n s t P f g k = by_cases n s t P f g k (cases_lt n s) (cases_lt n t) where
  by_cases : (n s t : ℕ) (P : Type 0) → (s ≤ n → P) → (n < s → t ≤ n → P) → (n < s → n < t → P) → (n < s) ⊎ (s ≤ n) → (n < t) ⊎ (t ≤ n) → P
  by_cases n s t P f g k (inr l) q = f l
  by_cases n s t P f g k (inl l) (inr i) = g l i
  by_cases n s t P f g k (inl l) (inl i) = k l i

pub merge_known : (n n' : ℕ) (h : Halt) (a b : Run) (i j : ℕ) → n ≤ n' → Rising i a → Rising j b → merge n (cut n h a) (cut n h b) ≡ cut n h (merge n' a b)
merge_known n n' h (Then s x a) (Then t y b) i j g ka kb =
    let ia = merge_known n n' h a (Then t y b) s.need j g ka.1 kb in
    let ib = merge_known n n' h (Then s x a) b i t.need g ka kb.1 in
    by_first n s.need t.need _
    (λ l k. same_first n n' h s x a (Then t y b) g k l ia)
    (λ l k. same_second n n' h t y (Then s x a) b g k l ib)
    (λ k l. same_none n n' h (Then s x a) (Then t y b) (k, ka.1) (l, kb.1))
merge_known n n' h (Then s x a) (Ends t (Done v)) i j g ka kb =
    let ia = merge_known n n' h a (Ends t (Done v)) s.need j g ka.1 kb in
    by_known n s.need t.need _
    (λ k. same_first n n' h s x a (Ends t (Done v)) g k tt ia)
    (λ k l. same_left n n' h (Then s x a) t v (k, ka.1) l)
    (λ k l. same_none n n' h (Then s x a) (Ends t (Done v)) (k, ka.1) l)
merge_known n n' h (Then s x a) (Ends t (Halts f)) i j g ka kb =
    let ia = merge_known n n' h a (Ends t (Halts f)) s.need j g ka.1 kb in
    by_first n s.need t.need _
    (λ l k. same_first n n' h s x a (Ends t (Halts f)) g k l ia)
    (λ l k. same_second_halts n n' h t f (Then s x a) g k l)
    (λ k l. same_none n n' h (Then s x a) (Ends t (Halts f)) (k, ka.1) l)
merge_known n n' h (Ends s (Done u)) (Then t y b) i j g ka kb =
    let ib = merge_known n n' h (Ends s (Done u)) b i t.need g ka kb.1 in
    by_known n t.need s.need _
    (λ k. same_second n n' h t y (Ends s (Done u)) b g k tt ib)
    (λ k l. same_right n n' h s u (Then t y b) (k, kb.1) l)
    (λ k l. same_none n n' h (Ends s (Done u)) (Then t y b) l (k, kb.1))
merge_known n n' h (Ends s (Done u)) (Ends t (Done v)) i j g ka kb =
    by_known n s.need t.need _
    (λ k. by_done n n' h s t u v g k (cases_lt n t.need))
    (λ k l. same_left n n' h (Ends s (Done u)) t v k l)
    (λ k l. same_none n n' h (Ends s (Done u)) (Ends t (Done v)) k l) where
      by_done : (n n' : ℕ) (h : Halt) (s t : Stamp) (u v : Value) → n ≤ n' → s.need ≤ n → (n < t.need) ⊎ (t.need ≤ n) → Same n n' h (Ends s (Done u)) (Ends t (Done v))
      by_done n n' h s t u v g k (inl l) = same_right n n' h s u (Ends t (Done v)) l k
      by_done n n' h s t u v g k (inr l) = same_done n n' h s t u v g k l
merge_known n n' h (Ends s (Done u)) (Ends t (Halts f)) i j g ka kb =
    by_known n t.need s.need _
    (λ k. same_second_halts n n' h t f (Ends s (Done u)) g k tt)
    (λ k l. same_right n n' h s u (Ends t (Halts f)) k l)
    (λ k l. same_none n n' h (Ends s (Done u)) (Ends t (Halts f)) l k)
merge_known n n' h (Ends s (Halts f)) (Then t y b) i j g ka kb =
    let ib = merge_known n n' h (Ends s (Halts f)) b i t.need g ka kb.1 in
    by_first n s.need t.need _
    (λ l k. same_first_halts n n' h s f (Then t y b) g k l)
    (λ l k. same_second n n' h t y (Ends s (Halts f)) b g k l ib)
    (λ k l. same_none n n' h (Ends s (Halts f)) (Then t y b) k (l, kb.1))
merge_known n n' h (Ends s (Halts f)) (Ends t (Done v)) i j g ka kb =
    by_known n s.need t.need _
    (λ k. same_first_halts n n' h s f (Ends t (Done v)) g k tt)
    (λ k l. same_left n n' h (Ends s (Halts f)) t v k l)
    (λ k l. same_none n n' h (Ends s (Halts f)) (Ends t (Done v)) k l)
merge_known n n' h (Ends s (Halts f)) (Ends t (Halts f')) i j g ka kb =
    by_first n s.need t.need _
    (λ l k. same_first_halts n n' h s f (Ends t (Halts f')) g k l)
    (λ l k. same_second_halts n n' h t f' (Ends s (Halts f)) g k l)
    (λ k l. same_none n n' h (Ends s (Halts f)) (Ends t (Halts f')) k l)

-- ---- `zipSink`, `zipConduit` and `tee`

each_one_more : (n : ℕ) (r : Run) → EachStamp (IsStamp n) r → EachStamp (OneMore n) r
each_one_more n r k = each_stamp (IsStamp n) (OneMore n) r (λ s p. p.asked) k

pub zip_sink_is_run : (a b : Component) → IsRun a → IsRun b → IsRun (zip_sink a b)
zip_sink_is_run a b ka kb = record {
  rising = λ xs e. merge_rising (length xs) 0 (a xs e) (b xs e) (ka.rising xs e) (kb.rising xs e);
  stamps = λ xs e. merge_stamps (length xs) (a xs e) (b xs e) (each_one_more (length xs) _ (ka.stamps xs e)) (each_one_more (length xs) _ (kb.stamps xs e));
  known = λ xs ys h e.
      let n = length xs in
      ap (λ q. merge n q (b xs (Halted h))) (ka.known xs ys h e)
      ∙ ap (merge n (cut n h (a (xs ++ ys) e))) (kb.known xs ys h e)
      ∙ merge_known n (length (xs ++ ys)) h (a (xs ++ ys) e) (b (xs ++ ys) e) 0 0 (longer xs ys) (ka.rising _ _) (kb.rising _ _);
} where
  longer : (xs ys : List Item) → length xs ≤ length (xs ++ ys)
  longer xs ys = omega (arith, length-append xs ys)

pub tee_is_run : (a : Component) → IsRun a → IsRun (tee a)
tee_is_run a k = zip_sink_is_run a passed k passed_is_run
