-- What each word reads, as its scan does.
use Rattle.std.proofs.Common.{◌≡◌, ℕ, zero, suc, ◌+◌, ◌-◌, ◌≤◌, ◌<◌, Bool, true, false, cond, List, [], ◌∷◌, ◌++◌, length, map, filter, replicate, take, drop, sum, get_or, refl, ap, sym, ◌∙◌, subst, Option, Some, arith, append_assoc}
use Rattle.std.proofs.lemmas.List.{append-nil}
use Rattle.std.proofs.lemmas.List.Sums.{sum_by-cons}
use Rattle.std.specs.List.{prefix_len, flat_map}
use Rattle.cd_elem.specs.declared.word.Class.{Class}
use Rattle.cd_elem.specs.declared.word.ByteMap.{ByteMap}
use Rattle.cd_meaning.specs.Stream.{Sort, Item, Elem, Value, present, Act, Out}
use Rattle.cd_meaning.specs.RunShapes.{as_count}
use Rattle.cd_meaning.specs.Classes.{is_in_class, element_mapped}
use Rattle.cd_meaning.specs.Sorts.{value_of}
use Rattle.cd_step.specs.CutChunks.{elems}
use Rattle.cd_step.specs.Reading.{IsRead, IsSilent, IsDone}
use Rattle.cd_step.proofs.Reading.{read_silent, done_behind, done_back, done_ready}
use Rattle.cd_elemwise.specs.declared.state.WordState.TheVariants as state
use Rattle.cd_elemwise.specs.Carried.{Doing, Answered, or_back, or_answer, single_of, list_value, word_scan}

abbrev pub outs : List ℕ → List Act
outs numbers = map Out (map Elem numbers)

outs_append : (u v : List ℕ) → outs (u ++ v) ≡ outs u ++ outs v
outs_append [] v = refl
outs_append (x ∷ u) v = ap (λ l. Out (Elem x) ∷ l) (outs_append u v)

-- ---- words that give elements

pub read_pass : (k : Sort) (l numbers : List ℕ) → IsRead (word_scan k) (Doing state.Pass l) (elems numbers) (outs numbers) (Doing state.Pass l)
read_pass k l [] = (refl, refl)
read_pass k l (x ∷ numbers) = (Out (Elem x) ∷ [], outs numbers, Doing state.Pass l, refl, refl, refl, read_pass k l numbers)

pub read_take : (k : Sort) (l numbers : List ℕ) (n m : ℕ) → m ≡ length numbers + n → IsRead (word_scan k) (Doing (state.Take m) l) (elems numbers) (outs numbers) (Doing (state.Take n) l)
read_take k l [] n m h = (let e : m ≡ n = omega (arith, h) in (refl, ap (λ i. Doing (state.Take i) l) e))
read_take k l (x ∷ numbers) n zero h = absurd (omega (arith, h))
read_take k l (x ∷ numbers) n (suc m) h = (Out (Elem x) ∷ [], outs numbers, Doing (state.Take m) l, refl, refl, refl, read_take k l numbers n m (omega (arith, h)))

pub read_while : (k : Sort) (c : Class) (l numbers : List ℕ)
    → IsRead (word_scan k) (Doing (state.TakeWhile c) l) (elems (take (prefix_len (is_in_class c) numbers) numbers)) (outs (take (prefix_len (is_in_class c) numbers) numbers)) (Doing (state.TakeWhile c) l)
read_while k c l [] = (refl, refl)
read_while k c l (x ∷ numbers) = by_test (is_in_class c x) refl (read_while k c l numbers) where
  by_test : (b : Bool) → is_in_class c x ≡ b → IsRead (word_scan k) (Doing (state.TakeWhile c) l) (elems (take (prefix_len (is_in_class c) numbers) numbers)) (outs (take (prefix_len (is_in_class c) numbers) numbers)) (Doing (state.TakeWhile c) l)
      → IsRead (word_scan k) (Doing (state.TakeWhile c) l) (elems (take (cond b (1 + prefix_len (is_in_class c) numbers) 0) (x ∷ numbers))) (outs (take (cond b (1 + prefix_len (is_in_class c) numbers) 0) (x ∷ numbers))) (Doing (state.TakeWhile c) l)
  by_test true e i =
      let n = prefix_len (is_in_class c) numbers in
      let h : 1 + n ≡ suc n = omega arith in
      rw h (Out (Elem x) ∷ [], outs (take n numbers), Doing (state.TakeWhile c) l, refl, ap (λ b. or_back b (Out (Elem x) ∷ []) (Doing (state.TakeWhile c) l)) e, refl, i)
  by_test false e i = (refl, refl)

pub read_filter : (k : Sort) (c : Class) (l numbers : List ℕ) → IsRead (word_scan k) (Doing (state.Filter c) l) (elems numbers) (outs (filter (is_in_class c) numbers)) (Doing (state.Filter c) l)
read_filter k c l [] = (refl, refl)
read_filter k c l (x ∷ numbers) = by_test (is_in_class c x) refl (read_filter k c l numbers) where
  by_test : (b : Bool) → is_in_class c x ≡ b → IsRead (word_scan k) (Doing (state.Filter c) l) (elems numbers) (outs (filter (is_in_class c) numbers)) (Doing (state.Filter c) l)
      → IsRead (word_scan k) (Doing (state.Filter c) l) (elems (x ∷ numbers)) (outs (cond b (x ∷ filter (is_in_class c) numbers) (filter (is_in_class c) numbers))) (Doing (state.Filter c) l)
  by_test true e i = (Out (Elem x) ∷ [], outs (filter (is_in_class c) numbers), Doing (state.Filter c) l, refl, rw e refl, refl, i)
  by_test false e i = ([], outs (filter (is_in_class c) numbers), Doing (state.Filter c) l, refl, rw e refl, refl, i)

pub read_map : (k : Sort) (by : ByteMap) (l numbers : List ℕ) → IsRead (word_scan k) (Doing (state.Map by) l) (elems numbers) (outs (map (element_mapped by) numbers)) (Doing (state.Map by) l)
read_map k by l [] = (refl, refl)
read_map k by l (x ∷ numbers) = (Out (Elem (element_mapped by x)) ∷ [], outs (map (element_mapped by) numbers), Doing (state.Map by) l, refl, refl, refl, read_map k by l numbers)

outs_replicate : (n x : ℕ) → outs (replicate n x) ≡ replicate n (Out (Elem x))
outs_replicate zero x = refl
outs_replicate (suc n) x = ap (λ l. Out (Elem x) ∷ l) (outs_replicate n x)

pub read_repeat : (k : Sort) (n : ℕ) (l numbers : List ℕ) → IsRead (word_scan k) (Doing (state.Repeat n) l) (elems numbers) (outs (flat_map (λ x. replicate n x) numbers)) (Doing (state.Repeat n) l)
read_repeat k n l [] = (refl, refl)
read_repeat k n l (x ∷ numbers) = (
  replicate n (Out (Elem x)),
  outs (flat_map (λ x. replicate n x) numbers),
  Doing (state.Repeat n) l,
  refl,
  refl,
  outs_append (replicate n x) (flat_map (λ x. replicate n x) numbers) ∙ ap (λ a. a ++ outs (flat_map (λ x. replicate n x) numbers)) (outs_replicate n x),
  read_repeat k n l numbers,
)

none_repeated : (numbers : List ℕ) → outs (flat_map (λ x. replicate 0 x) numbers) ≡ []
none_repeated [] = refl
none_repeated (x ∷ numbers) = none_repeated numbers

pub silent_repeat : (k : Sort) (l numbers : List ℕ) → IsSilent (word_scan k) (Doing (state.Repeat 0) l) (elems numbers) (Doing (state.Repeat 0) l)
silent_repeat k l numbers = read_silent (word_scan k) (elems numbers) (Doing (state.Repeat 0) l) (Doing (state.Repeat 0) l) _ (none_repeated numbers) (read_repeat k 0 l numbers)

pub silent_filter : (k : Sort) (c : Class) (l numbers : List ℕ) → filter (is_in_class c) numbers ≡ [] → IsSilent (word_scan k) (Doing (state.Filter c) l) (elems numbers) (Doing (state.Filter c) l)
silent_filter k c l numbers h = read_silent (word_scan k) (elems numbers) (Doing (state.Filter c) l) (Doing (state.Filter c) l) _ (ap outs h) (read_filter k c l numbers)

-- ---- words that read with no act

pub silent_drop : (k : Sort) (l numbers : List ℕ) (n m : ℕ) → m ≡ length numbers + n → IsSilent (word_scan k) (Doing (state.Drop m) l) (elems numbers) (Doing (state.Drop n) l)
silent_drop k l [] n m h = (let e : m ≡ n = omega (arith, h) in ap (λ i. Doing (state.Drop i) l) e)
silent_drop k l (x ∷ numbers) n zero h = absurd (omega (arith, h))
silent_drop k l (x ∷ numbers) n (suc m) h = (Doing (state.Drop m) l, refl, refl, silent_drop k l numbers n m (omega (arith, h)))

pub silent_collect : (k : Sort) (l numbers : List ℕ) (n m : ℕ) → m ≡ length numbers + n → IsSilent (word_scan k) (Doing (state.Collect m) l) (elems numbers) (Doing (state.Collect n) (l ++ numbers))
silent_collect k l [] n m h = (let e : m ≡ n = omega (arith, h) in rw (e, append-nil l) refl)
silent_collect k l (x ∷ numbers) n zero h = absurd (omega (arith, h))
silent_collect k l (x ∷ numbers) n (suc m) h = (
  Doing (state.Collect m) (l ++ x ∷ []),
  refl,
  refl,
  subst (λ y. IsSilent (word_scan k) (Doing (state.Collect m) (l ++ x ∷ [])) (elems numbers) (Doing (state.Collect n) y)) (append_assoc l (x ∷ []) numbers) (silent_collect k (l ++ x ∷ []) numbers n m (omega (arith, h))),
)

-- a count that has stayed below its greatest, and so every one behind the first element
stays_length : (k : Sort) (l numbers : List ℕ) (n m : ℕ) → m ≡ as_count (n + length numbers) → n ≡ as_count n → IsSilent (word_scan k) (Doing (state.Length n) l) (elems numbers) (Doing (state.Length m) l)
stays_length k l [] n m h e = (let h1 : m ≡ n = omega (arith, h, e) in ap (λ i. Doing (state.Length i) l) (sym h1))
stays_length k l (x ∷ numbers) n m h e = (Doing (state.Length (as_count (n + 1))) l, refl, refl, stays_length k l numbers (as_count (n + 1)) m (omega (arith, h, e)) (omega arith))

pub silent_length : (k : Sort) (l numbers : List ℕ) (n m : ℕ) → m ≡ as_count (n + length numbers) → 0 < length numbers → IsSilent (word_scan k) (Doing (state.Length n) l) (elems numbers) (Doing (state.Length m) l)
silent_length k l [] n m h f = absurd (omega (arith, f))
silent_length k l (x ∷ numbers) n m h f = (Doing (state.Length (as_count (n + 1))) l, refl, refl, stays_length k l numbers (as_count (n + 1)) m (omega (arith, h)) (omega arith))

stays_sum : (k : Sort) (l numbers : List ℕ) (n m : ℕ) → m ≡ as_count (n + sum numbers) → n ≡ as_count n → IsSilent (word_scan k) (Doing (state.Sum n) l) (elems numbers) (Doing (state.Sum m) l)
stays_sum k l [] n m h e = (let h1 : m ≡ n = omega (arith, h, e) in ap (λ i. Doing (state.Sum i) l) (sym h1))
stays_sum k l (x ∷ numbers) n m h e =
    let c = sum_by-cons (λ y. y) x numbers in
    (Doing (state.Sum (as_count (n + x))) l, refl, refl, stays_sum k l numbers (as_count (n + x)) m (omega (arith, h, e, c)) (omega arith))

pub silent_sum : (k : Sort) (l numbers : List ℕ) (n m : ℕ) → m ≡ as_count (n + sum numbers) → 0 < length numbers → IsSilent (word_scan k) (Doing (state.Sum n) l) (elems numbers) (Doing (state.Sum m) l)
silent_sum k l [] n m h f = absurd (omega (arith, f))
silent_sum k l (x ∷ numbers) n m h f =
    let c = sum_by-cons (λ y. y) x numbers in
    (Doing (state.Sum (as_count (n + x))) l, refl, refl, stays_sum k l numbers (as_count (n + x)) m (omega (arith, h, c)) (omega arith))

-- the last element
pub silent_last : (k : Sort) (l numbers : List ℕ) (o : Option _) (d : ℕ) → 0 < length numbers
    → IsSilent (word_scan k) (Doing (state.Last o) l) (elems numbers) (Doing (state.Last (Some (single_of k (get_or numbers (length numbers - 1) d)))) l)
silent_last k l [] o d h = absurd (omega (arith, h))
silent_last k l (x ∷ []) o d h = (Doing (state.Last (Some (single_of k x))) l, refl, refl, refl)
silent_last k l (x ∷ y ∷ numbers) o d h =
    let e : length (x ∷ y ∷ numbers) - 1 ≡ suc (length (y ∷ numbers) - 1) = omega arith in
    (Doing (state.Last (Some (single_of k x))) l, refl, refl, rw e (silent_last k l (y ∷ numbers) (Some (single_of k x)) d (omega arith)))

-- ---- words that stop at the first element that is not in the class

pub silent_while : (k : Sort) (c : Class) (l numbers : List ℕ) → prefix_len (is_in_class c) numbers ≡ length numbers → IsSilent (word_scan k) (Doing (state.DropWhile c) l) (elems numbers) (Doing (state.DropWhile c) l)
silent_while k c l [] h = refl
silent_while k c l (x ∷ numbers) h = by_test (is_in_class c x) refl (silent_while k c l numbers) h where
  by_test : (b : Bool) → is_in_class c x ≡ b → (prefix_len (is_in_class c) numbers ≡ length numbers → IsSilent (word_scan k) (Doing (state.DropWhile c) l) (elems numbers) (Doing (state.DropWhile c) l)) → cond b (1 + prefix_len (is_in_class c) numbers) 0 ≡ suc (length numbers) → IsSilent (word_scan k) (Doing (state.DropWhile c) l) (elems (x ∷ numbers)) (Doing (state.DropWhile c) l)
  by_test true e i g = (Doing (state.DropWhile c) l, refl, ap (λ b. or_back b [] (Doing (state.DropWhile c) l)) e, i (omega (arith, g)))
  by_test false e i g = absurd (omega (arith, g))

pub silent_all : (k : Sort) (c : Class) (a : Bool) (l numbers : List ℕ) → prefix_len (is_in_class c) numbers ≡ length numbers → IsSilent (word_scan k) (Doing (state.All c a) l) (elems numbers) (Doing (state.All c a) l)
silent_all k c a l [] h = refl
silent_all k c a l (x ∷ numbers) h = by_test (is_in_class c x) refl (silent_all k c a l numbers) h where
  by_test : (b : Bool) → is_in_class c x ≡ b → (prefix_len (is_in_class c) numbers ≡ length numbers → IsSilent (word_scan k) (Doing (state.All c a) l) (elems numbers) (Doing (state.All c a) l)) → cond b (1 + prefix_len (is_in_class c) numbers) 0 ≡ suc (length numbers) → IsSilent (word_scan k) (Doing (state.All c a) l) (elems (x ∷ numbers)) (Doing (state.All c a) l)
  by_test true e i g = (Doing (state.All c a) l, refl, ap (λ b. or_answer b (Doing (state.All c a) l) (Value.Bool a)) e, i (omega (arith, g)))
  by_test false e i g = absurd (omega (arith, g))

-- it takes none, and gives back what is next
pub done_take_while : (k : Sort) (c : Class) (l numbers : List ℕ) → 0 < length numbers → prefix_len (is_in_class c) numbers ≡ 0 → IsDone (word_scan k) (Doing (state.TakeWhile c) l) [] (elems numbers) Value.Unit
done_take_while k c l [] f h = absurd (omega (arith, f))
done_take_while k c l (x ∷ numbers) f h = by_test (is_in_class c x) refl h where
  by_test : (b : Bool) → is_in_class c x ≡ b → cond b (1 + prefix_len (is_in_class c) numbers) 0 ≡ 0 → IsDone (word_scan k) (Doing (state.TakeWhile c) l) [] (elems (x ∷ numbers)) Value.Unit
  by_test true e g = absurd (omega (arith, g))
  by_test false e g = done_back (word_scan k) (Elem x) (elems numbers) (Doing (state.TakeWhile c) l) Value.Unit refl (ap (λ b. or_back b (Out (Elem x) ∷ []) (Doing (state.TakeWhile c) l)) e)

pub done_drop_while : (k : Sort) (c : Class) (l numbers : List ℕ) → prefix_len (is_in_class c) numbers < length numbers
    → IsDone (word_scan k) (Doing (state.DropWhile c) l) (elems (take (prefix_len (is_in_class c) numbers) numbers)) (elems (drop (prefix_len (is_in_class c) numbers) numbers)) Value.Unit
done_drop_while k c l [] h = absurd (omega (arith, h))
done_drop_while k c l (x ∷ numbers) h = by_test (is_in_class c x) refl (done_drop_while k c l numbers) h where
  by_test : (b : Bool) → is_in_class c x ≡ b
      → (prefix_len (is_in_class c) numbers < length numbers → IsDone (word_scan k) (Doing (state.DropWhile c) l) (elems (take (prefix_len (is_in_class c) numbers) numbers)) (elems (drop (prefix_len (is_in_class c) numbers) numbers)) Value.Unit)
      → cond b (1 + prefix_len (is_in_class c) numbers) 0 < suc (length numbers)
      → IsDone (word_scan k) (Doing (state.DropWhile c) l) (elems (take (cond b (1 + prefix_len (is_in_class c) numbers) 0) (x ∷ numbers))) (elems (drop (cond b (1 + prefix_len (is_in_class c) numbers) 0) (x ∷ numbers))) Value.Unit
  by_test true e i g =
      let n = prefix_len (is_in_class c) numbers in
      let h : 1 + n ≡ suc n = omega arith in
      rw h (done_behind (word_scan k) (Elem x) (elems (take n numbers)) (elems (drop n numbers)) (Doing (state.DropWhile c) l) (Doing (state.DropWhile c) l) Value.Unit refl (ap (λ b. or_back b [] (Doing (state.DropWhile c) l)) e) (i (omega (arith, g))))
  by_test false e i g = done_back (word_scan k) (Elem x) (elems numbers) (Doing (state.DropWhile c) l) Value.Unit refl (ap (λ b. or_back b [] (Doing (state.DropWhile c) l)) e)

-- the first element that is not in the class is read too
pub done_all : (k : Sort) (c : Class) (a : Bool) (l numbers : List ℕ) → prefix_len (is_in_class c) numbers < length numbers
    → IsDone (word_scan k) (Doing (state.All c a) l) (elems (take (prefix_len (is_in_class c) numbers + 1) numbers)) (elems (drop (prefix_len (is_in_class c) numbers + 1) numbers)) (Value.Bool a)
done_all k c a l [] h = absurd (omega (arith, h))
done_all k c a l (x ∷ numbers) h = by_test (is_in_class c x) refl (done_all k c a l numbers) h where
  by_test : (b : Bool) → is_in_class c x ≡ b
      → (prefix_len (is_in_class c) numbers < length numbers → IsDone (word_scan k) (Doing (state.All c a) l) (elems (take (prefix_len (is_in_class c) numbers + 1) numbers)) (elems (drop (prefix_len (is_in_class c) numbers + 1) numbers)) (Value.Bool a))
      → cond b (1 + prefix_len (is_in_class c) numbers) 0 < suc (length numbers)
      → IsDone (word_scan k) (Doing (state.All c a) l) (elems (take (cond b (1 + prefix_len (is_in_class c) numbers) 0 + 1) (x ∷ numbers))) (elems (drop (cond b (1 + prefix_len (is_in_class c) numbers) 0 + 1) (x ∷ numbers))) (Value.Bool a)
  by_test true e i g =
      let n = prefix_len (is_in_class c) numbers in
      let h : (1 + n) + 1 ≡ suc (n + 1) = omega arith in
      rw h (done_behind (word_scan k) (Elem x) (elems (take (n + 1) numbers)) (elems (drop (n + 1) numbers)) (Doing (state.All c a) l) (Doing (state.All c a) l) (Value.Bool a) refl (ap (λ b. or_answer b (Doing (state.All c a) l) (Value.Bool a)) e) (i (omega (arith, g))))
  by_test false e i g =
      done_behind (word_scan k) (Elem x) [] (elems numbers) (Doing (state.All c a) l) (Answered (Value.Bool a)) (Value.Bool a) refl (ap (λ b. or_answer b (Doing (state.All c a) l) (Value.Bool a)) e)
      (done_ready (word_scan k) (elems numbers) (Answered (Value.Bool a)) (Value.Bool a) refl)

-- ---- words of the first element

pub done_head : (k : Sort) (l numbers : List ℕ) (d : ℕ) → 0 < length numbers
    → IsDone (word_scan k) (Doing state.Head l) (elems (take 1 numbers)) (elems (drop 1 numbers)) (present (value_of k (Elem (get_or numbers 0 d))))
done_head k l [] d h = absurd (omega (arith, h))
done_head k l (x ∷ numbers) d h =
    let v = present (value_of k (Elem x)) in
    done_behind (word_scan k) (Elem x) [] (elems numbers) (Doing state.Head l) (Answered v) v refl refl (done_ready (word_scan k) (elems numbers) (Answered v) v refl)

pub done_peek : (k : Sort) (l numbers : List ℕ) (d : ℕ) → 0 < length numbers → IsDone (word_scan k) (Doing state.Peek l) [] (elems numbers) (present (value_of k (Elem (get_or numbers 0 d))))
done_peek k l [] d h = absurd (omega (arith, h))
done_peek k l (x ∷ numbers) d h = done_back (word_scan k) (Elem x) (elems numbers) (Doing state.Peek l) (present (value_of k (Elem x))) refl refl

pub done_null : (k : Sort) (l numbers : List ℕ) → 0 < length numbers → IsDone (word_scan k) (Doing state.Null l) [] (elems numbers) (Value.Bool false)
done_null k l [] h = absurd (omega (arith, h))
done_null k l (x ∷ numbers) h = done_back (word_scan k) (Elem x) (elems numbers) (Doing state.Null l) (Value.Bool false) refl refl

-- ---- words of a number

pub done_drop : (k : Sort) (l numbers : List ℕ) (n : ℕ) → n ≤ length numbers → IsDone (word_scan k) (Doing (state.Drop n) l) (elems (take n numbers)) (elems (drop n numbers)) Value.Unit
done_drop k l numbers zero h = done_ready (word_scan k) (elems numbers) (Doing (state.Drop 0) l) Value.Unit refl
done_drop k l [] (suc n) h = absurd (omega (arith, h))
done_drop k l (x ∷ numbers) (suc n) h = done_behind (word_scan k) (Elem x) (elems (take n numbers)) (elems (drop n numbers)) (Doing (state.Drop (suc n)) l) (Doing (state.Drop n) l) Value.Unit refl refl (done_drop k l numbers n (omega (arith, h)))

pub done_collect : (k : Sort) (l numbers : List ℕ) (n : ℕ) → n ≤ length numbers
    → IsDone (word_scan k) (Doing (state.Collect n) l) (elems (take n numbers)) (elems (drop n numbers)) (list_value k (l ++ take n numbers))
done_collect k l numbers zero h = done_ready (word_scan k) (elems numbers) (Doing (state.Collect 0) l) (list_value k (l ++ [])) (ap (λ y. Some (list_value k y)) (sym (append-nil l)))
done_collect k l [] (suc n) h = absurd (omega (arith, h))
done_collect k l (x ∷ numbers) (suc n) h =
    subst (λ y. IsDone (word_scan k) (Doing (state.Collect (suc n)) l) (elems (take (suc n) (x ∷ numbers))) (elems (drop n numbers)) (list_value k y)) (append_assoc l (x ∷ []) (take n numbers))
    (done_behind (word_scan k) (Elem x) (elems (take n numbers)) (elems (drop n numbers)) (Doing (state.Collect (suc n)) l) (Doing (state.Collect n) (l ++ x ∷ [])) (list_value k ((l ++ x ∷ []) ++ take n numbers)) refl refl (done_collect k (l ++ x ∷ []) numbers n (omega (arith, h))))
