-- Each word's run is that of its scan, from what it carries at first.
use Rattle.std.proofs.Common.{◌≡◌, ℕ, zero, suc, Bool, true, false, not, List, [], ◌∷◌, ◌++◌, map, replicate, refl, ap, sym, ◌∙◌, Option, Some, None, IsTrue, if◌then◌else◌}
use Rattle.cd_elem.specs.Chunks.{is_cut}
use Rattle.cd_elem.specs.declared.word.Class.{Class}
use Rattle.cd_elem.specs.declared.word.ElemWord.{ElemWord}
use Rattle.cd_meaning.specs.Stream.{Sort, Item, Value, absent, present, End, Done, Act, Out}
use Rattle.cd_meaning.specs.Run.{stamp, Run, Ends}
use Rattle.cd_meaning.specs.RunShapes.{Seen, number, passes, drops}
use Rattle.cd_meaning.specs.Classes.{of_class, of_element, is_named}
use Rattle.cd_meaning.specs.Sorts.{value_of, list_of}
use Rattle.cd_meaning.specs.ElementWords.{kept, head, latest, collected, all_from, any_from}
use Rattle.cd_meaning.specs.Scan.{Go, replied, scan}
use Rattle.cd_meaning.specs.WordMeanings.{element_word}
use Rattle.cd_meaning.proofs.Runs.Scans.{carried as carried_by, scan_by, scan_ready}
use Rattle.cd_meaning.proofs.Runs.Shapes.{past_closed, each_scan, first_scan, while_scan, while_reply}
use Rattle.cd_meaning.proofs.Runs.Elements.{passed_is_scan, filtered_is_scan, mapped_is_scan, repeated_is_scan, ignored_is_scan, taken_while_is_scan, dropped_while_is_scan, taken_is_scan, dropped_is_scan, collected_is_scan, left_scan, latest_is_scan, latest_scan, latest_value, counted_is_scan, counted_scan, summed_is_scan, summed_scan, peek_is_scan, peek_scan, none_is_scan, none_scan}
use Rattle.cd_meaning.proofs.Moves.Own.{scan_fresh}
use Rattle.cd_step.specs.Reading.{scan_rest}
use Rattle.cd_elemwise.specs.declared.state.WordState.{WordState}
use Rattle.cd_elemwise.specs.declared.state.WordState.TheVariants as state
use Rattle.cd_elemwise.specs.Carried.{Carried, Doing, Answered, HasType, first_state, opposite, or_back, or_answer, bound_of, list_value, single_of, state_ready, state_step, state_value, word_scan}
use Rattle.cd_elemwise.specs.Stages.{StateFits, may_carry}

-- the run of a state with an empty list
abbrev from_state : Sort → WordState → List Item → End → Run
from_state k st xs e = scan (word_scan k) 0 (Doing st []) xs e

-- ---- each word

each_by : (k : Sort) (st : WordState) (f : Item → List Act) → ((x : Item) → state_step k st [] x ≡ Go (f x) (Doing st [])) → state_ready k st [] ≡ None → state_value k st [] ≡ Value.Unit
    → (xs : List Item) (e : End) → scan (each_scan f) 0 tt xs e ≡ from_state k st xs e
each_by k st f h r v xs e = scan_by (each_scan f) (word_scan k) (λ s. Doing st []) (λ s. sym r) (λ s x. sym (h x)) (λ s. refl) (λ s. ap Done (sym v)) 0 tt xs e

left_by : (k : Sort) (f : Item → List Act) (st : ℕ → WordState)
    → ((n : ℕ) → (left_scan f).ready n ≡ state_ready k (st n) []) → ((n : ℕ) (x : Item) → carried_by (λ s. Doing (st s) []) ((left_scan f).step n x) ≡ state_step k (st n) [] x) → ((n : ℕ) → state_value k (st n) [] ≡ Value.Unit)
    → (n : ℕ) (xs : List Item) (e : End) → scan (left_scan f) 0 n xs e ≡ from_state k (st n) xs e
left_by k f st r h v n xs e = scan_by (left_scan f) (word_scan k) (λ s. Doing (st s) []) r h (λ s. refl) (λ s. ap Done (sym (v s))) 0 n xs e

take_ready : (k : Sort) (n : ℕ) → (left_scan passes).ready n ≡ state_ready k (state.Take n) []
take_ready k zero = refl
take_ready k (suc n) = refl

take_step : (k : Sort) (n : ℕ) (x : Item) → carried_by (λ s. Doing (state.Take s) []) ((left_scan passes).step n x) ≡ state_step k (state.Take n) [] x
take_step k zero x = refl
take_step k (suc n) x = refl

drop_ready : (k : Sort) (n : ℕ) → (left_scan drops).ready n ≡ state_ready k (state.Drop n) []
drop_ready k zero = refl
drop_ready k (suc n) = refl

drop_step : (k : Sort) (n : ℕ) (x : Item) → carried_by (λ s. Doing (state.Drop s) []) ((left_scan drops).step n x) ≡ state_step k (state.Drop n) [] x
drop_step k zero x = refl
drop_step k (suc n) x = refl

while_by : (b : Bool) (f : Item → List Act) (x : Item) (t : Carried) → carried_by (λ s. t) (while_reply b f x) ≡ or_back b (f x) t
while_by true f x t = refl
while_by false f x t = refl

in_opposite : (c : Class) (x : Item) → of_class (opposite c) x ≡ not (of_class c x)
in_opposite c x = by_test c.negated (is_named c.what (number x)) where
  by_test : (n b : Bool) → (if not n then not b else b) ≡ not (if n then not b else b)
  by_test true true = refl
  by_test true false = refl
  by_test false true = refl
  by_test false false = refl

-- the answer of a word that has read the element which decides it
answered : (k : Sort) (i : ℕ) (v : Value) (xs : List Item) (e : End) → Ends (stamp i i) (Done v) ≡ scan (word_scan k) i (Answered v) xs e
answered k i v xs e = sym (scan_ready (word_scan k) i (Answered v) xs e v refl)

head_by : (k : Sort) (xs : List Item) (e : End) → head (value_of k) xs e ≡ from_state k state.Head xs e
head_by k [] e = past_closed 0 absent e
head_by k (x ∷ xs) e = answered k 1 (present (value_of k x)) xs e

all_by : (k : Sort) (c : Class) (i : ℕ) (xs : List Item) (e : End) → all_from (of_class c) i xs e ≡ scan (word_scan k) i (Doing (state.All c false) []) xs e
all_by k c i [] e = past_closed i (Value.Bool true) e
all_by k c i (x ∷ xs) e = by_test (of_class c x) (all_by k c (suc i) xs e) where
  by_test : (b : Bool) {r : Run} → r ≡ scan (word_scan k) (suc i) (Doing (state.All c false) []) xs e
      → (if b then r else Ends (stamp (suc i) (suc i)) (Done (Value.Bool false))) ≡ replied i (or_answer b (Doing (state.All c false) []) (Value.Bool false)) (λ t. scan (word_scan k) (suc i) t xs e)
  by_test true h = h
  by_test false h = answered k (suc i) (Value.Bool false) xs e

any_by : (k : Sort) (c : Class) (i : ℕ) (xs : List Item) (e : End) → any_from (of_class c) i xs e ≡ scan (word_scan k) i (Doing (state.All (opposite c) true) []) xs e
any_by k c i [] e = past_closed i (Value.Bool false) e
any_by k c i (x ∷ xs) e = by_test (of_class c x) (any_by k c (suc i) xs e) ∙ ap (λ b. replied i (or_answer b (Doing (state.All (opposite c) true) []) (Value.Bool true)) (λ t. scan (word_scan k) (suc i) t xs e)) (sym (in_opposite c x)) where
  by_test : (b : Bool) {r : Run} → r ≡ scan (word_scan k) (suc i) (Doing (state.All (opposite c) true) []) xs e
      → (if b then Ends (stamp (suc i) (suc i)) (Done (Value.Bool true)) else r) ≡ replied i (or_answer (not b) (Doing (state.All (opposite c) true) []) (Value.Bool true)) (λ t. scan (word_scan k) (suc i) t xs e)
  by_test true h = answered k (suc i) (Value.Bool true) xs e
  by_test false h = h

-- the last element
abbrev last_state : Sort → Option Item → Carried
last_state k None = Doing (state.Last None) []
last_state k (Some x) = Doing (state.Last (Some (single_of k (number x)))) []

last_ready : (k : Sort) (o : Option Item) → None ≡ (word_scan k).ready (last_state k o)
last_ready k None = refl
last_ready k (Some x) = refl

last_step : (k : Sort) (o : Option Item) (x : Item) → Go [] (last_state k (Some x)) ≡ (word_scan k).step (last_state k o) x
last_step k None x = refl
last_step k (Some y) x = refl

last_close : (k : Sort) (o : Option Item) → [] ≡ (word_scan k).close (last_state k o)
last_close k o = refl

last_ending : (k : Sort) → IsTrue (is_cut k) → (o : Option Item) → Done (latest_value (value_of k) o) ≡ (word_scan k).ending (last_state k o)
last_ending k h None = refl
last_ending Sort.Bytes h (Some x) = refl
last_ending Sort.Chars h (Some x) = refl
last_ending Sort.Block h (Some x) = cc
last_ending Sort.Text h (Some x) = cc

last_by : (k : Sort) → IsTrue (is_cut k) → (xs : List Item) (e : End) → latest (value_of k) xs e ≡ from_state k (state.Last None) xs e
last_by k h xs e = latest_is_scan (value_of k) xs e ∙ scan_by (latest_scan (value_of k)) (word_scan k) (last_state k) (last_ready k) (last_step k) (last_close k) (last_ending k h) 0 None xs e

-- the first elements
abbrev list_state : ℕ × List Item → Carried
list_state s = Doing (state.Collect s.0) (map number s.1)

list_value_is : (k : Sort) (l : List Item) → IsTrue (is_cut k) → list_of k l ≡ list_value k (map number l)
list_value_is Sort.Bytes l h = refl
list_value_is Sort.Chars l h = refl
list_value_is Sort.Block l h = cc
list_value_is Sort.Text l h = cc

map_append : (l : List Item) (x : Item) → map number (l ++ x ∷ []) ≡ map number l ++ number x ∷ []
map_append [] x = refl
map_append (y ∷ l) x = ap (λ u. number y ∷ u) (map_append l x)

collect_ready : (k : Sort) → IsTrue (is_cut k) → (n : ℕ) (l : List Item) → (first_scan drops (list_of k)).ready (n, l) ≡ (word_scan k).ready (list_state (n, l))
collect_ready k h zero l = ap Some (list_value_is k l h)
collect_ready k h (suc n) l = refl

collect_step : (k : Sort) (n : ℕ) (l : List Item) (x : Item) → carried_by list_state ((first_scan drops (list_of k)).step (n, l) x) ≡ (word_scan k).step (list_state (n, l)) x
collect_step k zero l x = refl
collect_step k (suc n) l x = ap (λ u. Go [] (Doing (state.Collect n) u)) (map_append l x)

collect_by : (k : Sort) → IsTrue (is_cut k) → (n : ℕ) (xs : List Item) (e : End) → collected (list_of k) n xs e ≡ from_state k (state.Collect n) xs e
collect_by k h n xs e =
    collected_is_scan (list_of k) n xs e
    ∙ scan_by (first_scan drops (list_of k)) (word_scan k) list_state (λ s. collect_ready k h s.0 s.1) (λ s x. collect_step k s.0 s.1 x) (λ s. refl) (λ s. ap Done (list_value_is k s.1 h)) 0 (n, []) xs e

while_to : (k : Sort) (c : Class) (f : Item → List Act) (st : WordState) → state_ready k st [] ≡ None → ((x : Item) → or_back (of_class c x) (f x) (Doing st []) ≡ state_step k st [] x) → state_value k st [] ≡ Value.Unit
    → (xs : List Item) (e : End) → scan (while_scan (of_class c) f) 0 tt xs e ≡ from_state k st xs e
while_to k c f st r h v xs e = scan_by (while_scan (of_class c) f) (word_scan k) (λ s. Doing st []) (λ s. sym r) (λ s x. while_by (of_class c x) f x (Doing st []) ∙ h x) (λ s. refl) (λ s. ap Done (sym v)) 0 tt xs e

pub word_is_scan : (w : ElemWord) (k : Sort) → HasType w k → (site : ℕ) (seen : Seen) (xs : List Item) (e : End) → (element_word w).run (Some k) site seen xs e ≡ scan (word_scan k) 0 (Doing (first_state w) []) xs e
word_is_scan ElemWord.PassE k h site seen xs e = passed_is_scan xs e ∙ each_by k state.Pass passes (λ x. refl) refl refl xs e
word_is_scan (ElemWord.TakeE n) k h site seen xs e = taken_is_scan n xs e ∙ left_by k passes state.Take (take_ready k) (take_step k) (λ m. refl) n xs e
word_is_scan (ElemWord.TakeWhileE c) k h site seen xs e = taken_while_is_scan (of_class c) xs e ∙ while_to k c passes (state.TakeWhile c) refl (λ x. refl) refl xs e
word_is_scan (ElemWord.FilterE c) k h site seen xs e = filtered_is_scan (of_class c) xs e ∙ each_by k (state.Filter c) (kept (of_class c)) (λ x. refl) refl refl xs e
word_is_scan (ElemWord.MapE by) k h site seen xs e = mapped_is_scan (of_element by) xs e ∙ each_by k (state.Map by) (λ x. Out (of_element by x) ∷ []) (λ x. refl) refl refl xs e
word_is_scan (ElemWord.RepeatE n) k h site seen xs e = repeated_is_scan n xs e ∙ each_by k (state.Repeat n) (λ x. replicate n (Out x)) (λ x. refl) refl refl xs e
word_is_scan (ElemWord.DropE n) k h site seen xs e = dropped_is_scan n xs e ∙ left_by k drops state.Drop (drop_ready k) (drop_step k) (λ m. refl) n xs e
word_is_scan (ElemWord.DropWhileE c) k h site seen xs e = dropped_while_is_scan (of_class c) xs e ∙ while_to k c drops (state.DropWhile c) refl (λ x. refl) refl xs e
word_is_scan ElemWord.HeadE k h site seen xs e = head_by k xs e
word_is_scan ElemWord.PeekE k h site seen xs e = peek_is_scan (value_of k) xs e ∙ scan_by (peek_scan (value_of k)) (word_scan k) (λ s. Doing state.Peek []) (λ s. refl) (λ s x. refl) (λ s. refl) (λ s. refl) 0 tt xs e
word_is_scan ElemWord.LastE k h site seen xs e = last_by k h xs e
word_is_scan ElemWord.LengthE k h site seen xs e = counted_is_scan xs e ∙ scan_by counted_scan (word_scan k) (λ n. Doing (state.Length n) []) (λ s. refl) (λ s x. refl) (λ s. refl) (λ s. refl) 0 0 xs e
word_is_scan ElemWord.SumE k h site seen xs e = summed_is_scan xs e ∙ scan_by summed_scan (word_scan k) (λ n. Doing (state.Sum n) []) (λ s. refl) (λ s x. refl) (λ s. refl) (λ s. refl) 0 0 xs e
word_is_scan (ElemWord.AllE c) k h site seen xs e = all_by k c 0 xs e
word_is_scan (ElemWord.AnyE c) k h site seen xs e = any_by k c 0 xs e
word_is_scan ElemWord.NullE k h site seen xs e = none_is_scan xs e ∙ scan_by none_scan (word_scan k) (λ s. Doing state.Null []) (λ s. refl) (λ s x. refl) (λ s. refl) (λ s. refl) 0 tt xs e
word_is_scan (ElemWord.CollectE n) k h site seen xs e = collect_by k h.0 n xs e
word_is_scan ElemWord.SinkNull k h site seen xs e = ignored_is_scan xs e ∙ each_by k state.SinkNull drops (λ x. refl) refl refl xs e

-- the run of a stage that has not begun
pub first_run : (w : ElemWord) (k : Sort) → HasType w k → (site : ℕ) (seen : Seen) (xs : List Item) (e : End)
    → (scan_rest (word_scan k) false (Doing (first_state w) []) []).run xs e ≡ (element_word w).run (Some k) site seen xs e
first_run w k h site seen xs e = scan_fresh (word_scan k) (Doing (first_state w) []) xs e ∙ sym (word_is_scan w k h site seen xs e)

-- ---- at first

pub first_fits : (w : ElemWord) (k listed : Sort) → HasType w k → (IsTrue (is_cut k) → listed ≡ k) → StateFits (first_state w) k listed
first_fits (ElemWord.TakeWhileE c) k listed h l = h.0
first_fits (ElemWord.FilterE c) k listed h l = h.0
first_fits (ElemWord.DropWhileE c) k listed h l = h.0
first_fits (ElemWord.AllE c) k listed h l = h.0
first_fits (ElemWord.AnyE c) k listed h l = h.0
first_fits (ElemWord.CollectE n) k listed h l = (h.0, l h.0)
first_fits _ k listed h l = h

pub first_within : (w : ElemWord) → may_carry (first_state w) ≡ bound_of w
first_within ElemWord.LastE = refl
first_within _ = refl
