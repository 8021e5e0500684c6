-- What each word does with its chunk is its plan.
use Rattle.std.proofs.Common.{◌≡◌, ◌≢◌, ℕ, zero, suc, ◌+◌, ◌-◌, ◌*◌, ◌/◌, ◌≤◌, ◌<◌, min, Bool, true, false, cond, List, [], ◌∷◌, ◌++◌, length, map, filter, replicate, take, drop, sum, get_or, refl, ap, ap₂, sym, ◌∙◌, subst, Option, Some, None, IsTrue, arith, length-append}
use Rattle.std.proofs.lemmas.List.{length-take, length-take-le, length-replicate}
use Rattle.std.proofs.Math.Seq.{take-length}
use Rattle.std.proofs.Math.Nat.{le-div_iff_mul-le}
use Rattle.std.specs.List.{prefix_len, flat_map}
use Rattle.cd_elem.specs.Limits.{chunk_limit, repeat_limit}
use Rattle.cd_elem.specs.Chunks.{is_cut, HasSize}
use Rattle.cd_elem.specs.declared.value.Value.{Value as Result}
use Rattle.cd_elem.specs.declared.value.Value.TheVariants as result
use Rattle.cd_elem.specs.declared.word.Class.{Class}
use Rattle.cd_elem.specs.declared.word.ByteMap.{ByteMap}
use Rattle.cd_meaning.specs.Stream.{Sort, Elem, Value, present}
use Rattle.cd_meaning.specs.Values.{value_meaning, unit_is, bool_is, some_is}
use Rattle.cd_meaning.specs.RunShapes.{as_count}
use Rattle.cd_meaning.specs.Classes.{is_in_class, element_mapped}
use Rattle.cd_meaning.specs.Sorts.{value_of}
use Rattle.cd_step.specs.Parts.{Chunk}
use Rattle.cd_step.specs.Reading.{IsRead, IsDone}
use Rattle.cd_elemwise.specs.declared.plan.ChunkPlan.TheVariants.{Need, Pass, Give, End}
use Rattle.cd_elemwise.specs.declared.state.Gathered.{Gathered}
use Rattle.cd_elemwise.specs.declared.state.Single.{Single}
use Rattle.cd_elemwise.specs.declared.state.WordState.{WordState}
use Rattle.cd_elemwise.specs.declared.state.WordState.TheVariants as state
use Rattle.cd_elemwise.specs.Carried.{Carried, Doing, Emits, IsChunkOf, MapFits, gathered, list_sort, single_of, single_plain, single_value, list_value, carried_ready, word_scan}
use Rattle.cd_elemwise.specs.Plans.{IsPlan}
use Rattle.cd_elemwise.specs.Stages.{IsPlain, StateFits}
use Rattle.cd_step.specs.CutChunks.{elems}
use Rattle.cd_elemwise.proofs.WordReads.{outs, read_pass, read_take, read_while, read_filter, read_map, read_repeat, silent_repeat, silent_filter, silent_drop, silent_collect, silent_length, silent_sum, silent_last, silent_while, silent_all, done_take_while, done_drop_while, done_all, done_head, done_peek, done_null, done_drop, done_collect}

-- ---- results

pub single_result : (v : Result) (single : Single) → value_meaning v ≡ single_plain single → value_meaning (result.Maybe (Some v)) ≡ single_value single
single_result v single h = some_is v ∙ ap present h

single_is : (k : Sort) (n : ℕ) → IsTrue (is_cut k) → single_value (single_of k n) ≡ present (value_of k (Elem n))
single_is Sort.Bytes n h = refl
single_is Sort.Chars n h = refl
single_is Sort.Block n h = cc
single_is Sort.Text n h = cc

done_by : (k : Sort) (s : Carried) (read rest : List _) (u v : Value) → u ≡ v → IsDone (word_scan k) s read rest v → IsDone (word_scan k) s read rest u
done_by k s read rest u v h d = subst (λ x. IsDone (word_scan k) s read rest x) (sym h) d

-- ---- chunks

pub owned_is : (c : Chunk) (l m : Gathered) → l ≡ m → gathered l ≡ c.1 → list_sort l ≡ c.0 → c ≡ (list_sort m, gathered m)
owned_is c l m h e f = subst (λ x. c ≡ (list_sort x, gathered x)) h (ap₂ (λ k numbers. (k, numbers)) (sym f) (sym e))

pub map_cut : (by : ByteMap) (k : Sort) → MapFits by k → IsTrue (is_cut k)
map_cut by Sort.Bytes h = refl
map_cut by Sort.Chars h = refl
map_cut by Sort.Block h = absurd h
map_cut by Sort.Text h = absurd h

pub plain_cut : (s : WordState) (k listed : Sort) → IsPlain s → StateFits s k listed → IsTrue (is_cut k)
plain_cut (state.Map by) k listed p f = absurd p
plain_cut (state.Repeat n) k listed p f = f.0
plain_cut (state.Sum n) k listed p f = rw f refl
plain_cut (state.Collect n) k listed p f = absurd p
plain_cut state.SinkNull k listed p f = absurd p
plain_cut _ k listed p f = f

pub some_len : (s : WordState) (k : Sort) (len : ℕ) → IsPlain s → StateFits s k k → HasSize k len → 0 < len
some_len s k len p f h = h.some (plain_cut s k k p f)

-- ---- lengths

pub filter_fits : (p : ℕ → Bool) (numbers : List ℕ) → length (filter p numbers) ≤ length numbers
filter_fits p [] = omega arith
filter_fits p (x ∷ numbers) = by_test (p x) (filter_fits p numbers) where
  by_test : (b : Bool) → length (filter p numbers) ≤ length numbers → length (cond b (x ∷ filter p numbers) (filter p numbers)) ≤ suc (length numbers)
  by_test true h = omega (arith, h)
  by_test false h = omega (arith, h)

pub filtered_fits : (p : ℕ → Bool) (numbers l : List ℕ) (c : Chunk) (k : Sort) (len : ℕ) → c ≡ (k, numbers) → len ≡ length c.1 → len ≤ chunk_limit → l ≡ filter p numbers → length l ≤ chunk_limit
filtered_fits p numbers l c k len e h m i = let n = filter_fits p numbers in let e1 = ap (λ y. length y.1) e in let i1 = ap length i in omega (arith, n, e1, i1, h, m)

-- ---- words that give elements

all_pass : (k : Sort) (s t : Carried) (numbers : List ℕ) (len : ℕ) → Emits k t → len ≡ length numbers → 0 < len → IsRead (word_scan k) s (elems numbers) (outs numbers) t → IsPlan k s numbers (Pass len) t
all_pass k s t numbers len g h f r = (g, f, omega (arith, h), subst (λ l. IsRead (word_scan k) s (elems l) (outs l) t) (sym (take-length numbers) ∙ ap (λ n. take n numbers) (sym h)) r)

pub pass_plan : (k : Sort) (l numbers : List ℕ) (len : ℕ) → len ≡ length numbers → 0 < len → IsPlan k (Doing state.Pass l) numbers (Pass len) (Doing state.Pass l)
pass_plan k l numbers len h f = all_pass k (Doing state.Pass l) (Doing state.Pass l) numbers len refl h f (read_pass k l numbers)

pub take_all_plan : (k : Sort) (l numbers : List ℕ) (left len : ℕ) → len ≡ length numbers → 0 < len → len ≤ left → IsPlan k (Doing (state.Take left) l) numbers (Pass len) (Doing (state.Take (left - len)) l)
take_all_plan k l numbers left len h f m = all_pass k (Doing (state.Take left) l) (Doing (state.Take (left - len)) l) numbers len refl h f (read_take k l numbers (left - len) left (omega (arith, h, m)))

pub take_front_plan : (k : Sort) (l numbers : List ℕ) (left : ℕ) → left ≤ length numbers → left ≢ 0 → IsPlan k (Doing (state.Take left) l) numbers (Pass left) (Doing (state.Take 0) l)
take_front_plan k l numbers left h f = (refl, omega (arith, f), h, read_take k l (take left numbers) 0 left (let e = length-take-le left numbers h in omega (arith, e)))

pub take_while_plan : (k : Sort) (c : Class) (l numbers : List ℕ) (count : ℕ) → count ≡ prefix_len (is_in_class c) numbers → count ≤ length numbers → count ≢ 0
    → IsPlan k (Doing (state.TakeWhile c) l) numbers (Pass count) (Doing (state.TakeWhile c) l)
take_while_plan k c l numbers count h m f =
    (refl, omega (arith, f), m, subst (λ n. IsRead (word_scan k) (Doing (state.TakeWhile c) l) (elems (take n numbers)) (outs (take n numbers)) (Doing (state.TakeWhile c) l)) (sym h) (read_while k c l numbers))

pub take_while_end : (k : Sort) (c : Class) (l numbers : List ℕ) (count : ℕ) → count ≡ prefix_len (is_in_class c) numbers → 0 < length numbers → count ≡ 0
    → IsPlan k (Doing (state.TakeWhile c) l) numbers (End result.Unit 0) (Doing (state.TakeWhile c) l)
take_while_end k c l numbers count h f z = (omega arith, done_by k _ _ _ _ _ unit_is (done_take_while k c l numbers f (sym h ∙ z)))

all_given : (k : Sort) (s t : Carried) (numbers : List ℕ) (made : Chunk) (len : ℕ) (given : List ℕ) → Emits k t → len ≡ length numbers → 0 < len → made ≡ (k, given) → 0 < length given → length given ≤ chunk_limit
    → IsRead (word_scan k) s (elems numbers) (outs given) t → IsPlan k s numbers (Give made len) t
all_given k s t numbers made len given g h f e p m r = rw e (
  g,
  f,
  omega (arith, h),
  refl,
  p,
  m,
  subst (λ l. IsRead (word_scan k) s (elems l) (outs given) t) (sym (take-length numbers) ∙ ap (λ n. take n numbers) (sym h)) r,
)

pub filter_plan : (k : Sort) (c : Class) (l numbers : List ℕ) (made : Chunk) (len : ℕ) → len ≡ length numbers → 0 < len → IsChunkOf k (filter (is_in_class c) numbers) (Some made)
    → IsPlan k (Doing (state.Filter c) l) numbers (Give made len) (Doing (state.Filter c) l)
filter_plan k c l numbers made len h f i = all_given k (Doing (state.Filter c) l) (Doing (state.Filter c) l) numbers made len (filter (is_in_class c) numbers) refl h f i.0 i.1 i.2 (read_filter k c l numbers)

pub filter_none : (k : Sort) (c : Class) (l numbers : List ℕ) → filter (is_in_class c) numbers ≡ [] → IsPlan k (Doing (state.Filter c) l) numbers Need (Doing (state.Filter c) l)
filter_none k c l numbers h = (silent_filter k c l numbers h, refl)

length_mapped : (f : ℕ → ℕ) (numbers : List ℕ) → length (map f numbers) ≡ length numbers
length_mapped f [] = refl
length_mapped f (x ∷ numbers) = ap suc (length_mapped f numbers)

pub map_plan : (k : Sort) (by : ByteMap) (l numbers : List ℕ) (made : Chunk) (len : ℕ) → len ≡ length numbers → 0 < len → len ≤ chunk_limit → made ≡ (k, map (element_mapped by) numbers)
    → IsPlan k (Doing (state.Map by) l) numbers (Give made len) (Doing (state.Map by) l)
map_plan k by l numbers made len h f m e =
    let n = length_mapped (element_mapped by) numbers in
    all_given k (Doing (state.Map by) l) (Doing (state.Map by) l) numbers made len (map (element_mapped by) numbers) refl h f e (omega (arith, n, h, f)) (omega (arith, n, h, m)) (read_map k by l numbers)

pub length_repeated : (n : ℕ) (numbers : List ℕ) → length (flat_map (λ x. replicate n x) numbers) ≡ length numbers * n
length_repeated n [] = omega arith
length_repeated n (x ∷ numbers) =
    length-append (replicate n x) (flat_map (λ x. replicate n x) numbers)
    ∙ ap (λ m. m + length (flat_map (λ x. replicate n x) numbers)) (length-replicate n x)
    ∙ ap (λ m. n + m) (length_repeated n numbers)
    ∙ grind (arith)

-- as many elements as fit
pub fits_some : (times len : ℕ) → times ≢ 0 → times ≤ repeat_limit → 0 < len → 0 < min len (chunk_limit / times)
fits_some times len z h f = let e = (le-div_iff_mul-le {k = times} {x = 1} {y = chunk_limit} (omega (arith, z))).1 (omega (arith, h)) in omega (arith, e, f)

pub fits_most : (times len : ℕ) → times ≢ 0 → min len (chunk_limit / times) * times ≤ chunk_limit
fits_most times len z = (le-div_iff_mul-le {k = times} {x = min len (chunk_limit / times)} {y = chunk_limit} (omega (arith, z))).0 (omega arith)

pub repeat_plan : (k : Sort) (times : ℕ) (l numbers : List ℕ) (made : Chunk) (count : ℕ) → count ≤ length numbers → 0 < count → times ≢ 0 → count * times ≤ chunk_limit → made ≡ (k, flat_map (λ x. replicate times x) (take count numbers))
    → IsPlan k (Doing (state.Repeat times) l) numbers (Give made count) (Doing (state.Repeat times) l)
repeat_plan k times l numbers made count h f z m e =
    let n = length_repeated times (take count numbers) in
    let j = length-take-le count numbers h in
    let n1 : length (flat_map (λ x. replicate times x) (take count numbers)) ≡ count * times = n ∙ ap (λ i. i * times) j in
    rw e (refl, f, h, refl, some_times n1 f z, subst (λ i. i ≤ chunk_limit) (sym n1) m, read_repeat k times l (take count numbers)) where
      some_times : {a b c : ℕ} → a ≡ b * c → 0 < b → c ≢ 0 → 0 < a
      some_times {b = zero} e f z = absurd (omega (arith, f))
      some_times {b = suc b} {c = zero} e f z = absurd (z refl)
      some_times {b = suc b} {c = suc c} e f z = grind (arith)

pub repeated_fits : (times count n : ℕ) (numbers l : List ℕ) → l ≡ flat_map (λ x. replicate times x) (take n numbers) → n ≤ count → count * times ≤ chunk_limit → length l ≤ chunk_limit
repeated_fits times count n numbers l e h m =
    let e1 = ap length e ∙ length_repeated times (take n numbers) in
    let e2 = length-take n numbers in
    le_trans e1 (mul_mono times (let z : length (take n numbers) ≤ count = omega (arith, e2, h) in z)) m where
      le_trans : {a b c : ℕ} → a ≡ b → b ≤ c → c ≤ chunk_limit → a ≤ chunk_limit
      le_trans e h m = omega (arith, e, h, m)

      mul_mono : {a b : ℕ} (k : ℕ) → a ≤ b → a * k ≤ b * k
      mul_mono k h = grind (arith, h)

pub repeat_none : (k : Sort) (times : ℕ) (l numbers : List ℕ) → times ≡ 0 → IsPlan k (Doing (state.Repeat times) l) numbers Need (Doing (state.Repeat times) l)
repeat_none k times l numbers h = rw h (silent_repeat k l numbers, refl)

-- ---- words that skip elements

ready_drop : (k : Sort) (l : List ℕ) (n : ℕ) → 0 < n → carried_ready k (Doing (state.Drop n) l) ≡ None
ready_drop k l zero h = absurd (omega (arith, h))
ready_drop k l (suc n) h = refl

ready_collect : (k : Sort) (l : List ℕ) (n : ℕ) → 0 < n → carried_ready k (Doing (state.Collect n) l) ≡ None
ready_collect k l zero h = absurd (omega (arith, h))
ready_collect k l (suc n) h = refl

pub drop_all_plan : (k : Sort) (l numbers : List ℕ) (left len : ℕ) → len ≡ length numbers → len < left → IsPlan k (Doing (state.Drop left) l) numbers Need (Doing (state.Drop (left - len)) l)
drop_all_plan k l numbers left len h m = (silent_drop k l numbers (left - len) left (omega (arith, h, m)), ready_drop k l (left - len) (omega (arith, m)))

pub drop_end : (k : Sort) (l numbers : List ℕ) (left : ℕ) → left ≤ length numbers → IsPlan k (Doing (state.Drop left) l) numbers (End result.Unit left) (Doing (state.Drop left) l)
drop_end k l numbers left h = (h, done_by k _ _ _ _ _ unit_is (done_drop k l numbers left h))

pub drop_while_all : (k : Sort) (c : Class) (l numbers : List ℕ) (count len : ℕ) → count ≡ prefix_len (is_in_class c) numbers → len ≡ length numbers → count ≡ len
    → IsPlan k (Doing (state.DropWhile c) l) numbers Need (Doing (state.DropWhile c) l)
drop_while_all k c l numbers count len h e z = (silent_while k c l numbers (sym h ∙ z ∙ e), refl)

pub drop_while_end : (k : Sort) (c : Class) (l numbers : List ℕ) (count : ℕ) → count ≡ prefix_len (is_in_class c) numbers → count < length numbers
    → IsPlan k (Doing (state.DropWhile c) l) numbers (End result.Unit count) (Doing (state.DropWhile c) l)
drop_while_end k c l numbers count h m =
    (omega (arith, m), done_by k _ _ _ _ _ unit_is (subst (λ n. IsDone (word_scan k) (Doing (state.DropWhile c) l) (elems (take n numbers)) (elems (drop n numbers)) Value.Unit) (sym h) (done_drop_while k c l numbers (omega (arith, m, h)))))

pub all_plan : (k : Sort) (c : Class) (a : Bool) (l numbers : List ℕ) (count len : ℕ) → count ≡ prefix_len (is_in_class c) numbers → len ≡ length numbers → count ≡ len
    → IsPlan k (Doing (state.All c a) l) numbers Need (Doing (state.All c a) l)
all_plan k c a l numbers count len h e z = (silent_all k c a l numbers (sym h ∙ z ∙ e), refl)

pub all_end : (k : Sort) (c : Class) (a : Bool) (l numbers : List ℕ) (count : ℕ) → count ≡ prefix_len (is_in_class c) numbers → count < length numbers
    → IsPlan k (Doing (state.All c a) l) numbers (End (result.Bool a) (count + 1)) (Doing (state.All c a) l)
all_end k c a l numbers count h m =
    (omega (arith, m), done_by k _ _ _ _ _ (bool_is a) (subst (λ n. IsDone (word_scan k) (Doing (state.All c a) l) (elems (take (n + 1) numbers)) (elems (drop (n + 1) numbers)) (Value.Bool a)) (sym h) (done_all k c a l numbers (omega (arith, m, h)))))

-- ---- words of the first element

pub head_plan : (k : Sort) (l numbers : List ℕ) (v : Result) (single : Single) → IsTrue (is_cut k) → 0 < length numbers → value_meaning v ≡ single_value single → ((d : ℕ) → single ≡ single_of k (get_or numbers 0 d))
    → IsPlan k (Doing state.Head l) numbers (End v 1) (Doing state.Head l)
head_plan k l numbers v single c f h e = (f, done_by k _ _ _ _ _ (h ∙ ap single_value (e 0) ∙ single_is k (get_or numbers 0 0) c) (done_head k l numbers 0 f))

pub peek_plan : (k : Sort) (l numbers : List ℕ) (v : Result) (single : Single) → IsTrue (is_cut k) → 0 < length numbers → value_meaning v ≡ single_value single → ((d : ℕ) → single ≡ single_of k (get_or numbers 0 d))
    → IsPlan k (Doing state.Peek l) numbers (End v 0) (Doing state.Peek l)
peek_plan k l numbers v single c f h e = (omega arith, done_by k _ _ _ _ _ (h ∙ ap single_value (e 0) ∙ single_is k (get_or numbers 0 0) c) (done_peek k l numbers 0 f))

pub null_plan : (k : Sort) (l numbers : List ℕ) → 0 < length numbers → IsPlan k (Doing state.Null l) numbers (End (result.Bool false) 0) (Doing state.Null l)
null_plan k l numbers f = (omega arith, done_by k _ _ _ _ _ (bool_is false) (done_null k l numbers f))

-- ---- words of all elements

pub last_plan : (k : Sort) (l numbers : List ℕ) (o : Option Single) (single : Single) → 0 < length numbers → ((d : ℕ) → single ≡ single_of k (get_or numbers (length numbers - 1) d))
    → IsPlan k (Doing (state.Last o) l) numbers Need (Doing (state.Last (Some single)) l)
last_plan k l numbers o single f e = rw (e 0) (silent_last k l numbers o 0 f, refl)

pub length_plan : (k : Sort) (l numbers : List ℕ) (n m len : ℕ) → len ≡ length numbers → 0 < len → m ≡ as_count (n + len) → IsPlan k (Doing (state.Length n) l) numbers Need (Doing (state.Length m) l)
length_plan k l numbers n m len h f e = (silent_length k l numbers n m (e ∙ ap (λ i. as_count (n + i)) h) (omega (arith, h, f)), refl)

pub sum_plan : (k : Sort) (l numbers : List ℕ) (n m : ℕ) → 0 < length numbers → m ≡ as_count (n + sum numbers) → IsPlan k (Doing (state.Sum n) l) numbers Need (Doing (state.Sum m) l)
sum_plan k l numbers n m f e = (silent_sum k l numbers n m e f, refl)

-- ---- the word that keeps elements

pub collect_plan : (k : Sort) (l l' numbers : List ℕ) (left len : ℕ) → len ≡ length numbers → len < left → l' ≡ l ++ take len numbers → IsPlan k (Doing (state.Collect left) l) numbers Need (Doing (state.Collect (left - len)) l')
collect_plan k l l' numbers left len h m e =
    let j : l' ≡ l ++ numbers = e ∙ ap (λ n. l ++ take n numbers) h ∙ ap (λ y. l ++ y) (take-length numbers) in
    rw j (silent_collect k l numbers (left - len) left (omega (arith, h, m)), ready_collect k (l ++ numbers) (left - len) (omega (arith, m)))

pub collect_end : (k : Sort) (l l' numbers : List ℕ) (left : ℕ) (v : Result) → left ≤ length numbers → l' ≡ l ++ take left numbers → value_meaning v ≡ list_value k l' → IsPlan k (Doing (state.Collect left) l) numbers (End v left) (Doing (state.Collect left) l)
collect_end k l l' numbers left v h e d = (h, done_by k _ _ _ _ _ (d ∙ ap (list_value k) e) (done_collect k l numbers left h))
