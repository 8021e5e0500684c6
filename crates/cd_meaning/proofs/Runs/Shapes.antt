-- The shapes of words are runs: each formula is a scan.
use Rattle.std.proofs.Common.{◌≡◌, ℕ, zero, suc, ◌+◌, ◌≤◌, ◌<◌, ◌⊎◌, inl, inr, List, [], ◌∷◌, ◌++◌, length, take, map, refl, ap, sym, ◌∙◌, subst, Bool, true, false, Option, Some, None, nat_le, ◌==◌, if◌then◌else◌, arith, append_assoc}
use Rattle.std.proofs.lemmas.Bool.{le-leb, lt-leb, cases_lt}
use Rattle.std.proofs.lemmas.List.{append-nil}
use Rattle.std.proofs.Math.Dec.{eqb-suc-suc, eqb-zero-suc}
use Rattle.cd_meaning.specs.Stream.{Item, Value, End, Ended, Halted, Done, Act, Out}
use Rattle.cd_meaning.specs.Run.{Stamp, stamp, Run, Then, Ends, Component, acts_at, outs_at, past}
use Rattle.cd_meaning.specs.RunShapes.{each, each_to_end, first, front, while, whole}
use Rattle.cd_meaning.specs.Laws.{IsRun}
use Rattle.cd_meaning.specs.Scan.{Reply, Go, Back, Scan, replied, closed, scan}
use Rattle.cd_meaning.proofs.Runs.Scans.{scan_is_run}

-- a component with the same runs as one that obeys the laws obeys them
funext2 : (f g : Component) → ((xs : List Item) (e : End) → f xs e ≡ g xs e) → f ≡ g
funext2 f g h i xs e = h xs e i

pub is_run_by : (f g : Component) → ((xs : List Item) (e : End) → f xs e ≡ g xs e) → IsRun g → IsRun f
is_run_by f g h k = subst IsRun (sym (funext2 f g h)) k

-- a component with the runs of a scan
pub is_run_as : {S : Type 0} (f : Component) (w : Scan S) (st : S) → ((xs : List Item) (e : End) → f xs e ≡ scan w 0 st xs e) → IsRun f
is_run_as f w st h = is_run_by f (scan w 0 st) h (scan_is_run w st)

-- a word that always asks for a further value
abbrev pub never : {S : Type 0} → S → Option Value
never s = None

pub past_closed : (i : ℕ) (v : Value) (e : End) → past i e v ≡ closed i [] (Done v) e
past_closed i v Ended = refl
past_closed i v (Halted h) = refl

-- ---- acts at one stamp

pub acts_append : (s : Stamp) (xs ys : List Act) (r : Run) → acts_at s (xs ++ ys) r ≡ acts_at s xs (acts_at s ys r)
acts_append s [] ys r = refl
acts_append s (x ∷ xs) ys r = ap (Then s x) (acts_append s xs ys r)

pub outs_acts : (s : Stamp) (xs : List Item) (r : Run) → outs_at s xs r ≡ acts_at s (map Out xs) r
outs_acts s [] r = refl
outs_acts s (x ∷ xs) r = ap (Then s (Out x)) (outs_acts s xs r)

-- ---- words that answer each value

abbrev pub each_scan : (Item → List Act) → Scan (Unit {0})
each_scan f = record { ready = never; step = λ s x. Go (f x) tt; close = λ s. []; ending = λ s. Done Value.Unit }

each_is : (f : Item → List Act) (i : ℕ) (xs : List Item) (e : End) (n : ℕ) → n ≡ i + length xs → each f i xs (past n e Value.Unit) ≡ scan (each_scan f) i tt xs e
each_is f i [] e n h = (let k : n ≡ i = omega (arith, h) in rw k (past_closed i Value.Unit e))
each_is f i (x ∷ xs) e n h = ap (acts_at (stamp (suc i) (suc i)) (f x)) (each_is f (suc i) xs e n (omega (arith, h)))

pub each_is_scan : (f : Item → List Act) (xs : List Item) (e : End) → each_to_end f xs e ≡ scan (each_scan f) 0 tt xs e
each_is_scan f xs e = each_is f 0 xs e (length xs) (omega arith)

pub each_is_run : (f : Item → List Act) → IsRun (each_to_end f)
each_is_run f = is_run_as _ (each_scan f) tt (each_is_scan f)

-- ---- words of the first n values

abbrev pub first_ready : (List Item → Value) → ℕ × List Item → Option Value
first_ready v (zero, l) = Some (v l)
first_ready v (suc k, l) = None

abbrev pub first_step : (Item → List Act) → ℕ × List Item → Item → Reply (ℕ × List Item)
first_step f (zero, l) x = Go [] (zero, l)
first_step f (suc k, l) x = Go (f x) (k, l ++ x ∷ [])

abbrev pub first_scan : (Item → List Act) → (List Item → Value) → Scan (ℕ × List Item)
first_scan f v = record { ready = first_ready v; step = first_step f; close = λ s. []; ending = λ s. Done (v s.1) }

abbrev first_end : ℕ → ℕ → (List Item → Value) → List Item → List Item → End → Run
first_end i k v l xs e = if nat_le k (length xs) then Ends (stamp (i + k) (i + k)) (Done (v (l ++ take k xs))) else past (i + length xs) e (v (l ++ xs))

pub nat_le_suc : (k n : ℕ) → nat_le (suc k) (suc n) ≡ nat_le k n
nat_le_suc k n = by_cases k n (cases_lt n k) where
  by_cases : (k n : ℕ) → (n < k) ⊎ (k ≤ n) → nat_le (suc k) (suc n) ≡ nat_le k n
  by_cases k n (inl h) = lt-leb (suc k) (suc n) (omega arith) ∙ sym (lt-leb k n h)
  by_cases k n (inr h) = le-leb (suc k) (suc n) (omega arith) ∙ sym (le-leb k n h)

first_is : (f : Item → List Act) (v : List Item → Value) (i k : ℕ) (l xs : List Item) (e : End) → each f i (take k xs) (first_end i k v l xs e) ≡ scan (first_scan f v) i (k, l) xs e
first_is f v i zero l [] e = (let h : i + 0 ≡ i = omega arith in rw (append-nil l, h))
first_is f v i zero l (x ∷ xs) e = (let h : i + 0 ≡ i = omega arith in rw (le-leb 0 (suc (length xs)) (omega arith), append-nil l, h))
first_is f v i (suc k) l [] e = (let h : i + 0 ≡ i = omega arith in rw (lt-leb (suc k) 0 (omega arith), append-nil l, h) (past_closed i (v l) e))
first_is f v i (suc k) l (x ∷ xs) e =
    let h1 : i + suc k ≡ suc i + k = omega arith in
    let h2 : i + suc (length xs) ≡ suc i + length xs = omega arith in
    rw (nat_le_suc k (length xs), h1, h2, ← (append_assoc l (x ∷ []) (take k xs)), ← (append_assoc l (x ∷ []) xs))
    (ap (acts_at (stamp (suc i) (suc i)) (f x)) (first_is f v (suc i) k (l ++ x ∷ []) xs e))

pub first_is_scan : (n : ℕ) (f : Item → List Act) (v : List Item → Value) (xs : List Item) (e : End) → first n f v xs e ≡ scan (first_scan f v) 0 (n, []) xs e
first_is_scan n f v xs e = ap (each f 0 (take n xs)) (at_zero n xs e) ∙ first_is f v 0 n [] xs e where
  at_zero : (n : ℕ) (xs : List Item) (e : End) → (if nat_le n (length xs) then Ends (stamp n n) (Done (v (take n xs))) else past (length xs) e (v xs)) ≡ first_end 0 n v [] xs e
  at_zero n xs e = (let h1 : 0 + n ≡ n = omega arith in let h2 : 0 + length xs ≡ length xs = omega arith in rw (h1, h2))

pub first_is_run : (n : ℕ) (f : Item → List Act) (v : List Item → Value) → IsRun (first n f v)
first_is_run n f v = is_run_as _ (first_scan f v) (n, []) (first_is_scan n f v)

-- ---- words of the longest front of values that pass

-- such a word met the end of its input, or a value at which it stops
abbrev pub front_end : (ℕ → Run) → ℕ → ℕ → ℕ → End → Run
front_end stop i k n e = if k == n then past (i + k) e Value.Unit else stop (i + k)

front_end_suc : (stop : ℕ → Run) (i k n : ℕ) (e : End) → front_end stop i (suc k) (suc n) e ≡ front_end stop (suc i) k n e
front_end_suc stop i k n e = (let h : i + suc k ≡ suc i + k = omega arith in rw (h, eqb-suc-suc k n))

-- a scan that goes on at each value that passes, and else stops
pub front_is : {S : Type 0} (w : Scan S) (st : S) (p : Item → Bool) (f : Item → List Act) (stop : ℕ → Run)
    → ((i : ℕ) (e : End) → past i e Value.Unit ≡ scan w i st [] e)
    → ((i : ℕ) (x : Item) (xs : List Item) (e : End) → (if p x then acts_at (stamp (suc i) (suc i)) (f x) (scan w (suc i) st xs e) else stop i) ≡ scan w i st (x ∷ xs) e)
    → (i : ℕ) (xs : List Item) (e : End) → each f i (front p xs) (front_end stop i (length (front p xs)) (length xs) e) ≡ scan w i st xs e
front_is w st p f stop h1 h2 i [] e = (let h : i + 0 ≡ i = omega arith in rw h (h1 i e))
front_is w st p f stop h1 h2 i (x ∷ xs) e = by_test (p x) i x xs e (scan w (suc i) st xs e) (front_is w st p f stop h1 h2 (suc i) xs e) ∙ h2 i x xs e where
  by_test : (b : Bool) (i : ℕ) (x : Item) (xs : List Item) (e : End) (r : Run) → each f (suc i) (front p xs) (front_end stop (suc i) (length (front p xs)) (length xs) e) ≡ r
      → each f i (if b then x ∷ front p xs else []) (front_end stop i (length (if b then x ∷ front p xs else [])) (suc (length xs)) e)
      ≡ (if b then acts_at (stamp (suc i) (suc i)) (f x) r else stop i)
  by_test true i x xs e r h = ap (acts_at (stamp (suc i) (suc i)) (f x)) (ap (each f (suc i) (front p xs)) (front_end_suc stop i (length (front p xs)) (length xs) e) ∙ h)
  by_test false i x xs e r h = (let k : i + 0 ≡ i = omega arith in rw (k, eqb-zero-suc (length xs)))

-- the same, where no value stands before
pub front_is_scan : {S : Type 0} (w : Scan S) (st : S) (p : Item → Bool) (f : Item → List Act) (stop : ℕ → Run)
    → ((i : ℕ) (e : End) → past i e Value.Unit ≡ scan w i st [] e)
    → ((i : ℕ) (x : Item) (xs : List Item) (e : End) → (if p x then acts_at (stamp (suc i) (suc i)) (f x) (scan w (suc i) st xs e) else stop i) ≡ scan w i st (x ∷ xs) e)
    → (xs : List Item) (e : End) → each f 0 (front p xs) (if length (front p xs) == length xs then past (length (front p xs)) e Value.Unit else stop (length (front p xs))) ≡ scan w 0 st xs e
front_is_scan w st p f stop h1 h2 xs e = ap (each f 0 (front p xs)) (at_zero (length (front p xs)) (length xs) e) ∙ front_is w st p f stop h1 h2 0 xs e where
  at_zero : (k n : ℕ) (e : End) → (if k == n then past k e Value.Unit else stop k) ≡ front_end stop 0 k n e
  at_zero k n e = (let h : 0 + k ≡ k = omega arith in rw h)

abbrev pub while_reply : Bool → (Item → List Act) → Item → Reply (Unit {0})
while_reply true f x = Go (f x) tt
while_reply false f x = Back Value.Unit

abbrev pub while_scan : (Item → Bool) → (Item → List Act) → Scan (Unit {0})
while_scan p f = record { ready = never; step = λ s x. while_reply (p x) f x; close = λ s. []; ending = λ s. Done Value.Unit }

pub while_is_scan : (p : Item → Bool) (f : Item → List Act) (xs : List Item) (e : End) → while p f xs e ≡ scan (while_scan p f) 0 tt xs e
while_is_scan p f =
    front_is_scan (while_scan p f) tt p f (λ k. Ends (stamp (suc k) k) (Done Value.Unit)) (λ i e. past_closed i Value.Unit e)
    (λ i x xs e. by_test (p x) i x (λ t. scan (while_scan p f) (suc i) t xs e)) where
      by_test : (b : Bool) (i : ℕ) (x : Item) (k : Unit {0} → Run)
          → (if b then acts_at (stamp (suc i) (suc i)) (f x) (k tt) else Ends (stamp (suc i) i) (Done Value.Unit)) ≡ replied i (while_reply b f x) k
      by_test true i x k = refl
      by_test false i x k = refl

pub while_is_run : (p : Item → Bool) (f : Item → List Act) → IsRun (while p f)
while_is_run p f = is_run_as _ (while_scan p f) tt (while_is_scan p f)

-- ---- words of the whole input

abbrev pub whole_scan : (List Item → Value) → Scan (List Item)
whole_scan v = record { ready = never; step = λ l x. Go [] (l ++ x ∷ []); close = λ l. []; ending = λ l. Done (v l) }

whole_is : (v : List Item → Value) (i : ℕ) (l xs : List Item) (e : End) → past (i + length xs) e (v (l ++ xs)) ≡ scan (whole_scan v) i l xs e
whole_is v i l [] e = (let h : i + 0 ≡ i = omega arith in rw (append-nil l, h) (past_closed i (v l) e))
whole_is v i l (x ∷ xs) e =
    let h : i + suc (length xs) ≡ suc i + length xs = omega arith in
    rw (h, ← (append_assoc l (x ∷ []) xs)) (whole_is v (suc i) (l ++ x ∷ []) xs e)

pub whole_is_scan : (v : List Item → Value) (xs : List Item) (e : End) → whole v xs e ≡ scan (whole_scan v) 0 [] xs e
whole_is_scan v xs e = ap (λ n. past n e (v xs)) (at_zero (length xs)) ∙ whole_is v 0 [] xs e where
  at_zero : (n : ℕ) → n ≡ 0 + n
  at_zero n = omega arith

pub whole_is_run : (v : List Item → Value) → IsRun (whole v)
whole_is_run v = is_run_as _ (whole_scan v) [] (whole_is_scan v)

-- ---- words that act on each value until one decides what they answer

-- acts on a value, what it decides, and the answer where none decides
abbrev pub answer_scan : (Item → List Act) → (Item → Option Value) → Value → Scan (Option Value)
answer_scan f g v = record { ready = λ s. s; step = λ s x. Go (f x) (g x); close = λ s. []; ending = λ s. Done v }

pub answered : (f : Item → List Act) (g : Item → Option Value) (v u : Value) (i : ℕ) (xs : List Item) (e : End) → scan (answer_scan f g v) i (Some u) xs e ≡ Ends (stamp i i) (Done u)
answered f g v u i [] e = refl
answered f g v u i (x ∷ xs) e = refl
