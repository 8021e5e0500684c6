-- Each word's run is that of its scan, from what it carries at first.
use Rattle.std.proofs.Common.{◌≡◌, ℕ, zero, suc, ◌+◌, ◌*◌, ◌≤◌, Bool, true, false, not, List, [], ◌∷◌, ◌++◌, length, map, max, replicate, refl, ap, sym, ◌∙◌, subst, Option, Some, None, if◌then◌else◌, arith}
use Rattle.cd_elem.specs.Chunks.{is_cut}
use Rattle.cd_elem.specs.declared.kind.Kind.{Kind}
use Rattle.cd_elem.specs.declared.kind.Kind.TheVariants.{Bytes, Chars, Blocks, Texts}
use Rattle.cd_elem.specs.declared.value.Value.{Value as Result}
use Rattle.cd_elem.specs.declared.word.ElemWord.{ElemWord}
use Rattle.cd_elem.specs.declared.word.PieceWord.{PieceWord}
use Rattle.cd_elem.specs.declared.word.PieceMap.{PieceMap}
use Rattle.cd_elem.specs.declared.word.PieceTest.{PieceTest}
use Rattle.cd_elem.specs.declared.word.TestName.{TestName}
use Rattle.cd_meaning.specs.Stream.{Sort, Item, Piece, Value, present, End, Done, Act, Out}
use Rattle.cd_meaning.specs.Run.{Run}
use Rattle.cd_meaning.specs.RunShapes.{Seen, elements, passes as gives_it, drops}
use Rattle.cd_meaning.specs.Classes.{begins_with, ends_with, holds_of, passes_test, of_test, piece_mapped, of_piece}
use Rattle.cd_meaning.specs.Sorts.{value_of, list_of, each_value, literal_at, piece_at}
use Rattle.cd_meaning.specs.ElementWords.{kept, head}
use Rattle.cd_meaning.specs.Scan.{Go, scan}
use Rattle.cd_meaning.specs.Values.{value_meaning, values_of, bytes_are, text_is}
use Rattle.cd_meaning.specs.WordMeanings.{element_word, piece_word}
use Rattle.cd_meaning.proofs.Runs.Scans.{carried as carried_by, scan_by, scan_ready}
use Rattle.cd_meaning.proofs.Runs.Shapes.{past_closed, each_scan, first_scan, while_scan, while_reply}
use Rattle.cd_meaning.proofs.Runs.Elements.{passed_is_scan, filtered_is_scan, mapped_is_scan, repeated_is_scan, ignored_is_scan, taken_while_is_scan, dropped_while_is_scan, taken_is_scan, dropped_is_scan, collected_is_scan, left_scan, latest_is_scan, latest_scan, latest_value, counted_is_scan, counted_scan, peek_is_scan, peek_scan, none_is_scan, none_scan}
use Rattle.cd_meaning.proofs.Runs.Pieces.{interspersed_is_scan, interspersed_scan, interspersed_step}
use Rattle.cd_meaning.proofs.Moves.Own.{scan_fresh}
use Rattle.cd_step.specs.Parts.{sort_at, bound_at}
use Rattle.cd_step.specs.Reading.{scan_rest}
use Rattle.cd_step.proofs.PieceChunks.{piece_sort}
use Rattle.cd_pieces.specs.declared.state.WordState.{WordState}
use Rattle.cd_pieces.specs.declared.state.WordState.TheVariants as state
use Rattle.cd_pieces.specs.declared.state.Sifting.TheVariants as sift
use Rattle.cd_pieces.specs.declared.state.Answering.TheVariants as answer
use Rattle.cd_pieces.specs.declared.state.Keeping.TheVariants as keep
use Rattle.cd_pieces.specs.declared.state.Making.TheVariants as make
use Rattle.cd_pieces.specs.Spelling.{spelled, spelled_for, IsSpelledFor, answers, passes, question_for, test_for, QuestionFits, changed, change_for, ChangeFits}
use Rattle.cd_pieces.specs.Values.{result_at}
use Rattle.cd_pieces.specs.Carried.{Carried, Doing, Answered, HasType, MayFlow, bound_of, widened, word_gives, first_state, gives_of, list_value, or_back, state_ready, state_step, state_value, word_scan}
use Rattle.cd_pieces.specs.Stages.{StateFits, may_carry}

-- the run of a state
abbrev from_state : Sort → WordState → List Item → End → Run
from_state k st xs e = scan (word_scan k) 0 (Doing st) xs e

-- ---- literals, tests and maps

pub spelled_is : (k : Sort) (bytes : List ℕ) → spelled (spelled_for k bytes) ≡ literal_at k bytes
spelled_is Sort.Bytes bytes = refl
spelled_is Sort.Chars bytes = refl
spelled_is Sort.Block bytes = refl
spelled_is Sort.Text bytes = refl

spelled_fits : (k : Sort) (bytes : List ℕ) → IsSpelledFor k (spelled_for k bytes)
spelled_fits Sort.Bytes bytes = refl
spelled_fits Sort.Chars bytes = refl
spelled_fits Sort.Block bytes = refl
spelled_fits Sort.Text bytes = refl

question_same : (k : Sort) (w : TestName) (numbers : List ℕ) → answers (question_for k w) numbers ≡ holds_of w k numbers
question_same k TestName.Empty numbers = refl
question_same k (TestName.Begins literal) numbers = ap (λ l. begins_with l numbers) (spelled_is k literal)
question_same k (TestName.Ends literal) numbers = ap (λ l. ends_with l numbers) (spelled_is k literal)
question_same k (TestName.Shorter n) numbers = refl

question_fits : (k : Sort) (w : TestName) → QuestionFits k (question_for k w)
question_fits k TestName.Empty = tt
question_fits k (TestName.Begins literal) = spelled_fits k literal
question_fits k (TestName.Ends literal) = spelled_fits k literal
question_fits k (TestName.Shorter n) = tt

test_same : (k : Sort) (t : PieceTest) (numbers : List ℕ) → passes_test t k numbers ≡ passes (test_for k t) numbers
test_same k t numbers = ap (λ b. if t.negated then not b else b) (sym (question_same k t.what numbers))

change_same : (k : Sort) (m : PieceMap) (numbers : List ℕ) → piece_mapped m k numbers ≡ changed (change_for k m) numbers
change_same k (PieceMap.Prefix literal) numbers = ap (λ l. l ++ numbers) (sym (spelled_is k literal))
change_same k (PieceMap.Suffix literal) numbers = ap (λ l. numbers ++ l) (sym (spelled_is k literal))
change_same k PieceMap.Reverse numbers = refl

change_fits : (k : Sort) (m : PieceMap) → ChangeFits k (change_for k m)
change_fits k (PieceMap.Prefix literal) = spelled_fits k literal
change_fits k (PieceMap.Suffix literal) = spelled_fits k literal
change_fits k PieceMap.Reverse = tt

-- ---- each word

each_by : (k : Sort) (st : WordState) (f : Item → List Act) → ((x : Item) → Go (f x) (Doing st) ≡ state_step k st x) → None ≡ state_ready st → Value.Unit ≡ state_value st
    → (xs : List Item) (e : End) → scan (each_scan f) 0 tt xs e ≡ from_state k st xs e
each_by k st f h r v xs e = scan_by (each_scan f) (word_scan k) (λ s. Doing st) (λ s. r) (λ s x. h x) (λ s. refl) (λ s. ap Done v) 0 tt xs e

left_by : (k : Sort) (f : Item → List Act) (st : ℕ → WordState)
    → ((n : ℕ) → (left_scan f).ready n ≡ state_ready (st n)) → ((n : ℕ) (x : Item) → carried_by (λ s. Doing (st s)) ((left_scan f).step n x) ≡ state_step k (st n) x) → ((n : ℕ) → Value.Unit ≡ state_value (st n))
    → (n : ℕ) (xs : List Item) (e : End) → scan (left_scan f) 0 n xs e ≡ from_state k (st n) xs e
left_by k f st r h v n xs e = scan_by (left_scan f) (word_scan k) (λ s. Doing (st s)) r h (λ s. refl) (λ s. ap Done (v s)) 0 n xs e

take_ready : (n : ℕ) → (left_scan gives_it).ready n ≡ state_ready (state.Sift (sift.Take n))
take_ready zero = refl
take_ready (suc n) = refl

take_step : (k : Sort) (n : ℕ) (x : Item) → carried_by (λ s. Doing (state.Sift (sift.Take s))) ((left_scan gives_it).step n x) ≡ state_step k (state.Sift (sift.Take n)) x
take_step k zero x = refl
take_step k (suc n) x = refl

drop_ready : (n : ℕ) → (left_scan drops).ready n ≡ state_ready (state.Sift (sift.Drop n))
drop_ready zero = refl
drop_ready (suc n) = refl

drop_step : (k : Sort) (n : ℕ) (x : Item) → carried_by (λ s. Doing (state.Sift (sift.Drop s))) ((left_scan drops).step n x) ≡ state_step k (state.Sift (sift.Drop n)) x
drop_step k zero x = refl
drop_step k (suc n) x = refl

while_by : (b : Bool) (f : Item → List Act) (x : Item) (t : Carried) → carried_by (λ s. t) (while_reply b f x) ≡ or_back b (f x) t
while_by true f x t = refl
while_by false f x t = refl

while_to : (k : Sort) (p : Item → Bool) (f : Item → List Act) (st : WordState) → None ≡ state_ready st → ((x : Item) → or_back (p x) (f x) (Doing st) ≡ state_step k st x) → Value.Unit ≡ state_value st
    → (xs : List Item) (e : End) → scan (while_scan p f) 0 tt xs e ≡ from_state k st xs e
while_to k p f st r h v xs e = scan_by (while_scan p f) (word_scan k) (λ s. Doing st) (λ s. r) (λ s x. while_by (p x) f x (Doing st) ∙ h x) (λ s. refl) (λ s. ap Done v) 0 tt xs e

-- the answer of a word that has read the piece which decides it
head_by : (k : Sort) (xs : List Item) (e : End) → head (value_of k) xs e ≡ from_state k (state.Answer answer.Head) xs e
head_by k [] e = past_closed 0 _ e
head_by k (x ∷ xs) e = sym (scan_ready (word_scan k) 1 (Answered (present (value_of k x))) xs e (present (value_of k x)) refl)

-- the last piece
abbrev last_state : Sort → Option Item → Carried
last_state k None = Doing (state.Keep (keep.Last None))
last_state k (Some x) = Doing (state.Keep (keep.Last (Some (k, elements x))))

last_ready : (k : Sort) (o : Option Item) → None ≡ (word_scan k).ready (last_state k o)
last_ready k None = refl
last_ready k (Some x) = refl

last_step : (k : Sort) (o : Option Item) (x : Item) → Go [] (last_state k (Some x)) ≡ (word_scan k).step (last_state k o) x
last_step k None x = refl
last_step k (Some y) x = refl

last_ending : (k : Sort) → is_cut k ≡ false → (o : Option Item) → Done (latest_value (value_of k) o) ≡ (word_scan k).ending (last_state k o)
last_ending k h None = refl
last_ending Sort.Bytes h (Some x) = cc
last_ending Sort.Chars h (Some x) = cc
last_ending Sort.Block h (Some x) = refl
last_ending Sort.Text h (Some x) = refl

last_by : (k : Sort) → is_cut k ≡ false → (xs : List Item) (e : End) → scan (latest_scan (value_of k)) 0 None xs e ≡ from_state k (state.Keep (keep.Last None)) xs e
last_by k h xs e = scan_by (latest_scan (value_of k)) (word_scan k) (last_state k) (last_ready k) (last_step k) (λ s. refl) (last_ending k h) 0 None xs e

-- the first pieces
abbrev results : Sort → List Item → List Result
results k l = map (λ x. result_at k (elements x)) l

abbrev list_state : Sort → ℕ × List Item → Carried
list_state k s = Doing (state.Keep (keep.Collect (s.0, results k s.1)))

result_value : (k : Sort) (x : Item) → is_cut k ≡ false → value_of k x ≡ value_meaning (result_at k (elements x))
result_value Sort.Bytes x h = cc
result_value Sort.Chars x h = cc
result_value Sort.Block x h = sym (bytes_are (elements x))
result_value Sort.Text x h = sym (text_is (elements x))

values_same : (k : Sort) (l : List Item) → is_cut k ≡ false → each_value k l ≡ values_of (map value_meaning (results k l))
values_same k [] h = refl
values_same k (x ∷ l) h = rw (result_value k x h, values_same k l h) refl

list_same : (k : Sort) (l : List Item) → is_cut k ≡ false → list_of k l ≡ list_value (results k l)
list_same Sort.Bytes l h = cc
list_same Sort.Chars l h = cc
list_same Sort.Block l h = ap Value.ListV (values_same Sort.Block l h)
list_same Sort.Text l h = ap Value.ListV (values_same Sort.Text l h)

results_append : (k : Sort) (l : List Item) (x : Item) → results k (l ++ x ∷ []) ≡ results k l ++ result_at k (elements x) ∷ []
results_append k [] x = refl
results_append k (y ∷ l) x = ap (λ u. result_at k (elements y) ∷ u) (results_append k l x)

collect_ready : (k : Sort) → is_cut k ≡ false → (n : ℕ) (l : List Item) → (first_scan drops (list_of k)).ready (n, l) ≡ (word_scan k).ready (list_state k (n, l))
collect_ready k h zero l = ap Some (list_same k l h)
collect_ready k h (suc n) l = refl

collect_step : (k : Sort) (n : ℕ) (l : List Item) (x : Item) → carried_by (list_state k) ((first_scan drops (list_of k)).step (n, l) x) ≡ (word_scan k).step (list_state k (n, l)) x
collect_step k zero l x = refl
collect_step k (suc n) l x = ap (λ u. Go [] (Doing (state.Keep (keep.Collect (n, u))))) (results_append k l x)

collect_by : (k : Sort) → is_cut k ≡ false → (n : ℕ) (xs : List Item) (e : End) → scan (first_scan drops (list_of k)) 0 (n, []) xs e ≡ from_state k (state.Keep (keep.Collect (n, []))) xs e
collect_by k h n xs e = scan_by (first_scan drops (list_of k)) (word_scan k) (list_state k) (λ s. collect_ready k h s.0 s.1) (λ s x. collect_step k s.0 s.1 x) (λ s. refl) (λ s. ap Done (list_same k s.1 h)) 0 (n, []) xs e

-- the literal in turns with the pieces
between_step : (k : Sort) (literal : List ℕ) (first : Bool) (x : Item) → carried_by (λ s. Doing (state.Make (make.Intersperse (spelled_for k literal) s))) (interspersed_step (piece_at k literal) first x) ≡ state_step k (state.Make (make.Intersperse (spelled_for k literal) first)) x
between_step k literal true x = refl
between_step k literal false x = ap (λ l. Go (Out (Piece l) ∷ Out x ∷ []) (Doing (state.Make (make.Intersperse (spelled_for k literal) false)))) (sym (spelled_is k literal))

pub word_is_scan : (w : PieceWord) (k : Sort) → is_cut k ≡ false → (site : ℕ) (seen : Seen) (xs : List Item) (e : End) → (piece_word w).run (Some k) site seen xs e ≡ scan (word_scan k) 0 (Doing (first_state w k)) xs e
word_is_scan PieceWord.Pass k h site seen xs e = passed_is_scan xs e ∙ each_by k (state.Sift sift.Pass) gives_it (λ x. refl) refl refl xs e
word_is_scan (PieceWord.Take n) k h site seen xs e = taken_is_scan n xs e ∙ left_by k gives_it (λ m. state.Sift (sift.Take m)) take_ready (take_step k) (λ m. refl) n xs e
word_is_scan (PieceWord.TakeWhile t) k h site seen xs e =
    taken_while_is_scan (of_test t k) xs e ∙ while_to k (of_test t k) gives_it (state.Sift (sift.TakeWhile (test_for k t))) refl (λ x. ap (λ b. or_back b (gives_it x) (Doing (state.Sift (sift.TakeWhile (test_for k t))))) (test_same k t (elements x))) refl xs e
word_is_scan (PieceWord.Filter t) k h site seen xs e =
    filtered_is_scan (of_test t k) xs e ∙ each_by k (state.Sift (sift.Filter (test_for k t))) (kept (of_test t k)) (λ x. ap (λ b. Go (if b then Out x ∷ [] else []) (Doing (state.Sift (sift.Filter (test_for k t))))) (test_same k t (elements x))) refl refl xs e
word_is_scan (PieceWord.Repeat n) k h site seen xs e = repeated_is_scan n xs e ∙ each_by k (state.Make (make.Repeat n)) (λ x. replicate n (Out x)) (λ x. refl) refl refl xs e
word_is_scan (PieceWord.Map m) k h site seen xs e =
    mapped_is_scan (of_piece m k) xs e ∙ each_by k (state.Make (make.Change (change_for k m))) (λ x. Out (of_piece m k x) ∷ []) (λ x. ap (λ l. Go (Out (Piece l) ∷ []) (Doing (state.Make (make.Change (change_for k m))))) (change_same k m (elements x))) refl refl xs e
word_is_scan (PieceWord.Intersperse literal) k h site seen xs e =
    interspersed_is_scan (piece_at k literal) xs e
    ∙ scan_by (interspersed_scan (piece_at k literal)) (word_scan k) (λ s. Doing (state.Make (make.Intersperse (spelled_for k literal) s))) (λ s. refl) (between_step k literal) (λ s. refl) (λ s. refl) 0 true xs e
word_is_scan (PieceWord.Drop n) k h site seen xs e = dropped_is_scan n xs e ∙ left_by k drops (λ m. state.Sift (sift.Drop m)) drop_ready (drop_step k) (λ m. refl) n xs e
word_is_scan (PieceWord.DropWhile t) k h site seen xs e =
    dropped_while_is_scan (of_test t k) xs e ∙ while_to k (of_test t k) drops (state.Sift (sift.DropWhile (test_for k t))) refl (λ x. ap (λ b. or_back b [] (Doing (state.Sift (sift.DropWhile (test_for k t))))) (test_same k t (elements x))) refl xs e
word_is_scan PieceWord.Head k h site seen xs e = head_by k xs e
word_is_scan PieceWord.Peek k h site seen xs e = peek_is_scan (value_of k) xs e ∙ scan_by (peek_scan (value_of k)) (word_scan k) (λ s. Doing (state.Answer answer.Peek)) (λ s. refl) (λ s x. refl) (λ s. refl) (λ s. refl) 0 tt xs e
word_is_scan PieceWord.Last k h site seen xs e = latest_is_scan (value_of k) xs e ∙ last_by k h xs e
word_is_scan PieceWord.Length k h site seen xs e = counted_is_scan xs e ∙ scan_by counted_scan (word_scan k) (λ n. Doing (state.Sift (sift.Length n))) (λ s. refl) (λ s x. refl) (λ s. refl) (λ s. refl) 0 0 xs e
word_is_scan PieceWord.Null k h site seen xs e = none_is_scan xs e ∙ scan_by none_scan (word_scan k) (λ s. Doing (state.Sift sift.Null)) (λ s. refl) (λ s x. refl) (λ s. refl) (λ s. refl) 0 tt xs e
word_is_scan (PieceWord.Collect n) k h site seen xs e = collected_is_scan (list_of k) n xs e ∙ collect_by k h n xs e

-- the run of a stage that has not begun
pub first_run : (w : PieceWord) (k : Kind) → HasType w k → (site : ℕ) (seen : Seen) (xs : List Item) (e : End)
    → (scan_rest (word_scan (sort_at k)) false (Doing (first_state w (sort_at k))) []).run xs e ≡ (piece_word w).run (Some (sort_at k)) site seen xs e
first_run w k h site seen xs e = scan_fresh (word_scan (sort_at k)) (Doing (first_state w (sort_at k))) xs e ∙ sym (word_is_scan w (sort_at k) (piece_sort k h.0) site seen xs e)

-- that of the element word `sinkNull` on pieces
pub sink_run : (k : Sort) (site : ℕ) (seen : Seen) (xs : List Item) (e : End)
    → (scan_rest (word_scan k) false (Doing (state.Sift sift.SinkNull)) []).run xs e ≡ (element_word ElemWord.SinkNull).run (Some k) site seen xs e
sink_run k site seen xs e = scan_fresh (word_scan k) (Doing (state.Sift sift.SinkNull)) xs e ∙ sym (ignored_is_scan xs e ∙ each_by k (state.Sift sift.SinkNull) drops (λ x. refl) refl refl xs e)

-- ---- at first

widened_none : (k : Kind) → widened k (bound_at k + 0) ≡ k
widened_none Bytes = refl
widened_none Chars = refl
widened_none (Blocks m) = (let h : m + 0 ≡ m = omega arith in ap Blocks h)
widened_none (Texts m) = (let h : m + 0 ≡ m = omega arith in ap Texts h)

pub first_gives : (w : PieceWord) (k : Kind) → gives_of (first_state w (sort_at k)) k ≡ word_gives w k
first_gives (PieceWord.Map (PieceMap.Prefix literal)) k = ap (λ l. Some (widened k (bound_at k + length l))) (spelled_is (sort_at k) literal)
first_gives (PieceWord.Map (PieceMap.Suffix literal)) k = ap (λ l. Some (widened k (bound_at k + length l))) (spelled_is (sort_at k) literal)
first_gives (PieceWord.Map PieceMap.Reverse) k = ap Some (widened_none k)
first_gives (PieceWord.Intersperse literal) k = ap (λ l. Some (widened k (max (bound_at k) (length l)))) (spelled_is (sort_at k) literal)
first_gives _ k = refl

pub first_fits : (w : PieceWord) (k : Kind) → HasType w k → StateFits k (first_state w (sort_at k))
first_fits (PieceWord.TakeWhile t) k h = question_fits (sort_at k) t.what
first_fits (PieceWord.Filter t) k h = question_fits (sort_at k) t.what
first_fits (PieceWord.DropWhile t) k h = question_fits (sort_at k) t.what
first_fits (PieceWord.Repeat n) k h = (tt, h.2)
first_fits (PieceWord.Map m) k h = (change_fits (sort_at k) m, subst MayFlow (sym (first_gives (PieceWord.Map m) k)) h.2)
first_fits (PieceWord.Intersperse literal) k h = (spelled_fits (sort_at k) literal, subst MayFlow (sym (first_gives (PieceWord.Intersperse literal) k)) h.2)
first_fits _ k h = tt

pub first_within : (w : PieceWord) (k : Kind) → may_carry k (first_state w (sort_at k)) ≤ bound_of w k
first_within PieceWord.Last k = omega arith
first_within (PieceWord.Collect n) k = plus_none (n * (bound_at k + 1)) where
  plus_none : (m : ℕ) → m + 0 ≤ m
  plus_none m = omega arith
first_within _ k = omega arith
