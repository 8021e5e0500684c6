-- The words on elements are runs.
use Rattle.std.proofs.Common.{◌≡◌, ℕ, zero, suc, ◌+◌, ◌-◌, ◌^◌, min, List, [], ◌∷◌, ◌++◌, length, replicate, refl, ap, sym, ◌∙◌, Bool, true, false, not, ◌==◌, Option, Some, None, if◌then◌else◌, arith, length-append}
use Rattle.cd_meaning.specs.Stream.{Item, Value, absent, present, End, Done, Act, Out}
use Rattle.cd_meaning.specs.Run.{stamp, Run, Ends, acts_at}
use Rattle.cd_meaning.specs.RunShapes.{passes, drops, first, unit_of, whole, number, as_count}
use Rattle.cd_meaning.specs.ElementWords.{passed, taken, taken_while, kept, filtered, mapped, repeated, dropped, dropped_while, head, peek, last_of, latest, counted, sum_of, summed, all_from, any_from, all, any, none, collected, ignored}
use Rattle.cd_meaning.specs.Sections.{one_line}
use Rattle.cd_meaning.specs.Laws.{IsRun}
use Rattle.cd_meaning.specs.Scan.{Reply, Go, Back, Scan, scan}
use Rattle.cd_meaning.proofs.Runs.Scans.{carried, scan_by}
use Rattle.cd_meaning.proofs.Runs.Shapes.{is_run_as, never, past_closed, each_is_run, first_ready, first_step, first_scan, first_is_scan, first_is_run, front_is_scan, while_is_run, whole_scan, whole_is_scan, whole_is_run, answer_scan, answered, each_scan, each_is_scan, while_scan, while_is_scan}

-- ---- words that answer each value

pub passed_is_scan : (xs : List Item) (e : End) → passed xs e ≡ scan (each_scan passes) 0 tt xs e
passed_is_scan = each_is_scan passes

pub passed_is_run : IsRun passed
passed_is_run = each_is_run passes

pub filtered_is_scan : (p : Item → Bool) (xs : List Item) (e : End) → filtered p xs e ≡ scan (each_scan (kept p)) 0 tt xs e
filtered_is_scan p = each_is_scan (kept p)

pub filtered_is_run : (p : Item → Bool) → IsRun (filtered p)
filtered_is_run p = each_is_run (kept p)

pub mapped_is_scan : (f : Item → Item) (xs : List Item) (e : End) → mapped f xs e ≡ scan (each_scan (λ x. Out (f x) ∷ [])) 0 tt xs e
mapped_is_scan f = each_is_scan (λ x. Out (f x) ∷ [])

pub mapped_is_run : (f : Item → Item) → IsRun (mapped f)
mapped_is_run f = each_is_run (λ x. Out (f x) ∷ [])

pub repeated_is_scan : (n : ℕ) (xs : List Item) (e : End) → repeated n xs e ≡ scan (each_scan (λ x. replicate n (Out x))) 0 tt xs e
repeated_is_scan n = each_is_scan (λ x. replicate n (Out x))

pub repeated_is_run : (n : ℕ) → IsRun (repeated n)
repeated_is_run n = each_is_run (λ x. replicate n (Out x))

pub ignored_is_scan : (xs : List Item) (e : End) → ignored xs e ≡ scan (each_scan drops) 0 tt xs e
ignored_is_scan = each_is_scan drops

pub ignored_is_run : IsRun ignored
ignored_is_run = each_is_run drops

-- ---- words of the first n values

-- they carry how many are left, where their value is unit
abbrev pub left_ready : ℕ → Option Value
left_ready zero = Some Value.Unit
left_ready (suc k) = None

abbrev pub left_step : (Item → List Act) → ℕ → Item → Reply ℕ
left_step f zero x = Go [] zero
left_step f (suc k) x = Go (f x) k

abbrev pub left_scan : (Item → List Act) → Scan ℕ
left_scan f = record { ready = left_ready; step = left_step f; close = λ s. []; ending = λ s. Done Value.Unit }

left_is_scan : (n : ℕ) (f : Item → List Act) (xs : List Item) (e : End) → first n f unit_of xs e ≡ scan (left_scan f) 0 n xs e
left_is_scan n f xs e = first_is_scan n f unit_of xs e ∙ scan_by (first_scan f unit_of) (left_scan f) (λ s. s.0) (λ s. same_ready s.0 s.1) (λ s. same_step s.0 s.1) (λ s. refl) (λ s. refl) 0 (n, []) xs e where
  same_ready : (k : ℕ) (l : List Item) → first_ready unit_of (k, l) ≡ left_ready k
  same_ready zero l = refl
  same_ready (suc k) l = refl

  same_step : (k : ℕ) (l : List Item) (x : Item) → carried (λ s. s.0) (first_step f (k, l) x) ≡ left_step f k x
  same_step zero l x = refl
  same_step (suc k) l x = refl

pub taken_is_scan : (n : ℕ) (xs : List Item) (e : End) → taken n xs e ≡ scan (left_scan passes) 0 n xs e
taken_is_scan n = left_is_scan n passes

pub dropped_is_scan : (n : ℕ) (xs : List Item) (e : End) → dropped n xs e ≡ scan (left_scan drops) 0 n xs e
dropped_is_scan n = left_is_scan n drops

pub taken_is_run : (n : ℕ) → IsRun (taken n)
taken_is_run n = first_is_run n passes unit_of

pub dropped_is_run : (n : ℕ) → IsRun (dropped n)
dropped_is_run n = first_is_run n drops unit_of

pub collected_is_scan : (list : List Item → Value) (n : ℕ) (xs : List Item) (e : End) → collected list n xs e ≡ scan (first_scan drops list) 0 (n, []) xs e
collected_is_scan list n = first_is_scan n drops list

pub collected_is_run : (list : List Item → Value) (n : ℕ) → IsRun (collected list n)
collected_is_run list n = first_is_run n drops list

-- ---- words of the longest front of values that pass

pub taken_while_is_scan : (p : Item → Bool) (xs : List Item) (e : End) → taken_while p xs e ≡ scan (while_scan p passes) 0 tt xs e
taken_while_is_scan p = while_is_scan p passes

pub taken_while_is_run : (p : Item → Bool) → IsRun (taken_while p)
taken_while_is_run p = while_is_run p passes

pub dropped_while_is_scan : (p : Item → Bool) (xs : List Item) (e : End) → dropped_while p xs e ≡ scan (while_scan p drops) 0 tt xs e
dropped_while_is_scan p = while_is_scan p drops

pub dropped_while_is_run : (p : Item → Bool) → IsRun (dropped_while p)
dropped_while_is_run p = while_is_run p drops

-- ---- words of the whole input

-- what they carry goes on by step, and value is their value of it
abbrev pub carry_scan : {S : Type 0} → (S → Item → S) → (S → Value) → Scan S
carry_scan step value = record { ready = never; step = λ s x. Go [] (step s x); close = λ s. []; ending = λ s. Done (value s) }

-- h is what they carry of the values
carry_is_scan : {S : Type 0} (v : List Item → Value) (step : S → Item → S) (value : S → Value) (h : List Item → S)
    → ((l : List Item) (x : Item) → h (l ++ x ∷ []) ≡ step (h l) x) → ((l : List Item) → v l ≡ value (h l))
    → (xs : List Item) (e : End) → whole v xs e ≡ scan (carry_scan step value) 0 (h []) xs e
carry_is_scan v step value h h1 h2 xs e =
    whole_is_scan v xs e
    ∙ scan_by (whole_scan v) (carry_scan step value) h (λ l. refl) (λ l x. ap (λ s. Go [] s) (h1 l x)) (λ l. refl) (λ l. ap (λ u. Done u) (h2 l)) 0 [] xs e

-- the last value
abbrev pub last_item : List Item → Option Item
last_item [] = None
last_item (x ∷ []) = Some x
last_item (x ∷ y ∷ ys) = last_item (y ∷ ys)

abbrev pub latest_value : (Item → Value) → Option Item → Value
latest_value v None = absent
latest_value v (Some x) = present (v x)

abbrev pub latest_scan : (Item → Value) → Scan (Option Item)
latest_scan v = carry_scan (λ s x. Some x) (latest_value v)

last_item-append : (l : List Item) (x : Item) → last_item (l ++ x ∷ []) ≡ Some x
last_item-append [] x = refl
last_item-append (a ∷ []) x = refl
last_item-append (a ∷ b ∷ l) x = last_item-append (b ∷ l) x

last_of-item : (v : Item → Value) (l : List Item) → last_of v l ≡ latest_value v (last_item l)
last_of-item v [] = refl
last_of-item v (x ∷ []) = refl
last_of-item v (x ∷ y ∷ l) = last_of-item v (y ∷ l)

pub latest_is_scan : (v : Item → Value) (xs : List Item) (e : End) → latest v xs e ≡ scan (latest_scan v) 0 None xs e
latest_is_scan v = carry_is_scan (last_of v) (λ s x. Some x) (latest_value v) last_item last_item-append (last_of-item v)

pub latest_is_run : (v : Item → Value) → IsRun (latest v)
latest_is_run v = whole_is_run (last_of v)

-- counts and sums stay at the greatest count
stays : (n k : ℕ) → as_count (n + k) ≡ as_count (as_count n + k)
stays n k = at_most n k (2 ^ 64 - 1) where
  at_most : (n k m : ℕ) → min (n + k) m ≡ min (min n m + k) m
  at_most n k m = omega arith

abbrev pub counted_scan : Scan ℕ
counted_scan = carry_scan (λ n x. as_count (n + 1)) (λ n. Value.Num n)

pub counted_is_scan : (xs : List Item) (e : End) → counted xs e ≡ scan counted_scan 0 0 xs e
counted_is_scan =
    carry_is_scan _ (λ n x. as_count (n + 1)) (λ n. Value.Num n) (λ l. as_count (length l))
    (λ l x. ap as_count (length-append l (x ∷ [])) ∙ stays (length l) 1) (λ l. refl)

pub counted_is_run : IsRun counted
counted_is_run = whole_is_run _

abbrev pub summed_scan : Scan ℕ
summed_scan = carry_scan (λ n x. as_count (n + number x)) (λ n. Value.Num n)

sum_of-append : (l : List Item) (x : Item) → sum_of (l ++ x ∷ []) ≡ sum_of l + number x
sum_of-append [] x = omega arith
sum_of-append (a ∷ l) x = ap (λ n. number a + n) (sum_of-append l x) ∙ omega arith

pub summed_is_scan : (xs : List Item) (e : End) → summed xs e ≡ scan summed_scan 0 0 xs e
summed_is_scan =
    carry_is_scan _ (λ n x. as_count (n + number x)) (λ n. Value.Num n) (λ l. as_count (sum_of l))
    (λ l x. ap as_count (sum_of-append l x) ∙ stays (sum_of l) (number x)) (λ l. refl)

pub summed_is_run : IsRun summed
summed_is_run = whole_is_run _

-- ---- words of the first value

abbrev pub head_scan : (Item → Value) → Scan (Option Value)
head_scan v = answer_scan drops (λ x. Some (present (v x))) absent

pub head_is_scan : (v : Item → Value) (xs : List Item) (e : End) → head v xs e ≡ scan (head_scan v) 0 None xs e
head_is_scan v [] e = past_closed 0 absent e
head_is_scan v (x ∷ xs) e = sym (answered drops (λ x. Some (present (v x))) absent (present (v x)) 1 xs e)

pub head_is_run : (v : Item → Value) → IsRun (head v)
head_is_run v = is_run_as _ (head_scan v) None (head_is_scan v)

-- they give the first value back: its answer, and the answer where there is none
abbrev pub back_scan : (Item → Value) → Value → Scan (Unit {0})
back_scan f v = record { ready = never; step = λ s x. Back (f x); close = λ s. []; ending = λ s. Done v }

abbrev pub peek_scan : (Item → Value) → Scan (Unit {0})
peek_scan v = back_scan (λ x. present (v x)) absent

pub peek_is_scan : (v : Item → Value) (xs : List Item) (e : End) → peek v xs e ≡ scan (peek_scan v) 0 tt xs e
peek_is_scan v [] e = past_closed 0 absent e
peek_is_scan v (x ∷ xs) e = refl

pub peek_is_run : (v : Item → Value) → IsRun (peek v)
peek_is_run v = is_run_as _ (peek_scan v) tt (peek_is_scan v)

abbrev pub none_scan : Scan (Unit {0})
none_scan = back_scan (λ x. Value.Bool false) (Value.Bool true)

pub none_is_scan : (xs : List Item) (e : End) → none xs e ≡ scan none_scan 0 tt xs e
none_is_scan [] e = past_closed 0 (Value.Bool true) e
none_is_scan (x ∷ xs) e = refl

pub none_is_run : IsRun none
none_is_run = is_run_as _ none_scan tt none_is_scan

-- ---- words of the first value that decides

abbrev pub all_answer : Bool → Option Value
all_answer b = if b then None else Some (Value.Bool false)

abbrev pub all_scan : (Item → Bool) → Scan (Option Value)
all_scan p = answer_scan drops (λ x. all_answer (p x)) (Value.Bool true)

all_is : (p : Item → Bool) (i : ℕ) (xs : List Item) (e : End) → all_from p i xs e ≡ scan (all_scan p) i None xs e
all_is p i [] e = past_closed i (Value.Bool true) e
all_is p i (x ∷ xs) e = by_test (p x) (all_is p (suc i) xs e) where
  by_test : (b : Bool) {r : Run} → r ≡ scan (all_scan p) (suc i) None xs e
      → (if b then r else Ends (stamp (suc i) (suc i)) (Done (Value.Bool false))) ≡ scan (all_scan p) (suc i) (all_answer b) xs e
  by_test true h = h
  by_test false h = sym (answered drops (λ x. all_answer (p x)) (Value.Bool true) (Value.Bool false) (suc i) xs e)

pub all_is_scan : (p : Item → Bool) (xs : List Item) (e : End) → all p xs e ≡ scan (all_scan p) 0 None xs e
all_is_scan p xs e = all_is p 0 xs e

pub all_is_run : (p : Item → Bool) → IsRun (all p)
all_is_run p = is_run_as _ (all_scan p) None (all_is_scan p)

abbrev pub any_answer : Bool → Option Value
any_answer b = if b then Some (Value.Bool true) else None

abbrev pub any_scan : (Item → Bool) → Scan (Option Value)
any_scan p = answer_scan drops (λ x. any_answer (p x)) (Value.Bool false)

any_is : (p : Item → Bool) (i : ℕ) (xs : List Item) (e : End) → any_from p i xs e ≡ scan (any_scan p) i None xs e
any_is p i [] e = past_closed i (Value.Bool false) e
any_is p i (x ∷ xs) e = by_test (p x) (any_is p (suc i) xs e) where
  by_test : (b : Bool) {r : Run} → r ≡ scan (any_scan p) (suc i) None xs e
      → (if b then Ends (stamp (suc i) (suc i)) (Done (Value.Bool true)) else r) ≡ scan (any_scan p) (suc i) (any_answer b) xs e
  by_test true h = sym (answered drops (λ x. any_answer (p x)) (Value.Bool false) (Value.Bool true) (suc i) xs e)
  by_test false h = h

pub any_is_scan : (p : Item → Bool) (xs : List Item) (e : End) → any p xs e ≡ scan (any_scan p) 0 None xs e
any_is_scan p xs e = any_is p 0 xs e

pub any_is_run : (p : Item → Bool) → IsRun (any p)
any_is_run p = is_run_as _ (any_scan p) None (any_is_scan p)

-- ---- the elements before a newline, which is taken

abbrev pub line_acts : Bool → Item → List Act
line_acts b x = if b then [] else Out x ∷ []

abbrev pub line_answer : Bool → Option Value
line_answer b = if b then Some Value.Unit else None

abbrev pub one_line_scan : Scan (Option Value)
one_line_scan = answer_scan (λ x. line_acts (number x == 10) x) (λ x. line_answer (number x == 10)) Value.Unit

pub one_line_is_scan : (xs : List Item) (e : End) → one_line xs e ≡ scan one_line_scan 0 None xs e
one_line_is_scan =
    front_is_scan one_line_scan None (λ x. not (number x == 10)) passes (λ k. Ends (stamp (suc k) (suc k)) (Done Value.Unit)) (λ i e. past_closed i Value.Unit e)
    (λ i x xs e. by_test (number x == 10) i x xs e) where
      by_test : (b : Bool) (i : ℕ) (x : Item) (xs : List Item) (e : End)
          → (if not b then acts_at (stamp (suc i) (suc i)) (passes x) (scan one_line_scan (suc i) None xs e) else Ends (stamp (suc i) (suc i)) (Done Value.Unit))
          ≡ acts_at (stamp (suc i) (suc i)) (line_acts b x) (scan one_line_scan (suc i) (line_answer b) xs e)
      by_test true i x xs e = sym (answered _ _ Value.Unit Value.Unit (suc i) xs e)
      by_test false i x xs e = refl

pub one_line_is_run : IsRun one_line
one_line_is_run = is_run_as _ one_line_scan None one_line_is_scan

-- of words with nothing behind them
pub ruleset plain_runs = (passed_is_run, latest_is_run, counted_is_run, summed_is_run, head_is_run, peek_is_run, none_is_run, ignored_is_run)
