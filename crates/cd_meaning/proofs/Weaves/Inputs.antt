-- The weave one input at a time: for proofs alone.
use Rattle.std.proofs.Common.{◌≡◌, ℕ, zero, suc, ◌+◌, ◌-◌, ◌≤◌, ◌<◌, ◌⊎◌, inl, inr, pred, length, refl, ap, sym, ◌∙◌, subst, arith}
use Rattle.std.proofs.lemmas.Bool.{le-leb, lt-leb, cases_lt}
use Rattle.cd_meaning.specs.Stream.{Item, Halt, Ending, Done, Halts, Act, Out, Do, Effect}
use Rattle.cd_meaning.specs.Run.{Stamp, stamp, start, Run, Then, Ends, outs, last}
use Rattle.cd_meaning.specs.Fusion.{effects_to, between, after, place, woven, fuse_at}
use Rattle.cd_meaning.specs.Laws.{Rising, cut, EachStamp}
use Rattle.cd_meaning.proofs.Rising.{rising_less, le_self}
use Rattle.cd_meaning.proofs.Cut.{cut_act, cut_last, cut_none}

-- b's acts, with a mark for each input that is asked for
pub data Asked : Type 0 where
  Ask : Asked → Asked
  Say : Act → Asked → Asked
  Fin : Ending → Asked

abbrev pub asks : ℕ → Asked → Asked
asks zero b = b
asks (suc n) b = Ask (asks n b)

-- the marks of b from need i on
abbrev pub asked : ℕ → Run → Asked
asked i (Then t x b) = asks (t.need - i) (Say x (asked t.need b))
asked i (Ends t e) = asks (t.need - i) (Fin e)

abbrev pub weave : Stamp → Run → Asked → Run
weave s a (Fin e) = Ends s e
weave s a (Say x b) = Then s x (weave s a b)
weave s (Then t (Out x) a) (Ask b) = weave t a b
weave s (Then t (Do e) a) (Ask b) = Then t (Do e) (weave s a (Ask b))
weave s (Ends t e) (Ask b) = weave t (Ends t e) b

-- ---- the weave by index is this one

weave_ends : (s t : Stamp) (e : Ending) (j : ℕ) (x : Asked) → weave t (Ends t e) (asks j x) ≡ weave t (Ends t e) x
weave_ends s t e zero x = refl
weave_ends s t e (suc j) x = weave_ends s t e j x

weave_to : (s : Stamp) (j : ℕ) (a : Run) (x : Asked) → weave s a (asks j x) ≡ effects_to j a (weave (place s j a) (after j a) x)
weave_to s zero a x = refl
weave_to s (suc j) (Then t (Out y) a) x = weave_to t j a x
weave_to s (suc j) (Then t (Do e) a) x = ap (λ r. Then t (Do e) r) (weave_to s (suc j) a x)
weave_to s (suc j) (Ends t e) x = weave_ends s t e j x

minus_suc : (i j : ℕ) → suc j - suc i ≡ j - i
minus_suc i j = omega arith

weave_between : (s : Stamp) (i j : ℕ) (a : Run) (x : Asked) → i ≤ j
    → weave (place s i a) (after i a) (asks (j - i) x) ≡ between i j a (weave (place s j a) (after j a) x)
weave_between s zero j a x h = (let e : j - 0 ≡ j = omega arith in rw e (weave_to s j a x))
weave_between s (suc i) zero a x h = absurd (omega arith)
weave_between s (suc i) (suc j) (Then t (Out y) a) x h = rw (minus_suc i j) (weave_between t i j a x (omega arith))
weave_between s (suc i) (suc j) (Then t (Do e) a) x h = weave_between s (suc i) (suc j) a x h
weave_between s (suc i) (suc j) (Ends t e) x h = weave_ends s t e (suc j - suc i) x

pub woven_weave : (s : Stamp) (a : Run) (i : ℕ) (b : Run) → Rising i b
    → woven (λ j. place s j a) (λ t v. Ends (place s t.need a) (Done v)) a i b ≡ weave (place s i a) (after i a) (asked i b)
woven_weave s a i (Then t x b) k =
    ap (λ r. between i t.need a (Then (place s t.need a) x r)) (woven_weave s a t.need b k.1)
    ∙ sym (weave_between s i t.need a (Say x (asked t.need b)) k.0)
woven_weave s a i (Ends t (Done v)) k = sym (weave_between s i t.need a (Fin (Done v)) k)
woven_weave s a i (Ends t (Halts h)) k = sym (weave_between s i t.need a (Fin (Halts h)) k)

pub fuse_weave : (s : Stamp) (a b : Run) → Rising 0 b → fuse_at s a b ≡ weave s a (asked 0 b)
fuse_weave s a b k = woven_weave s a 0 b k

-- ---- associativity

-- the weave of two marked parts
abbrev pub weave_asked : Asked → Asked → Asked
weave_asked b (Fin e) = Fin e
weave_asked b (Say x c) = Say x (weave_asked b c)
weave_asked (Say (Out y) b) (Ask c) = weave_asked b c
weave_asked (Say (Do e) b) (Ask c) = Say (Do e) (weave_asked b (Ask c))
weave_asked (Ask b) (Ask c) = Ask (weave_asked b (Ask c))
weave_asked (Fin e) (Ask c) = weave_asked (Fin e) c

pub weave_any : (s t : Stamp) (a : Run) (c : Asked) → weave s a (Ask c) ≡ weave t a (Ask c)
weave_any s t (Then u (Out x) a) c = refl
weave_any s t (Then u (Do e) a) c = ap (λ r. Then u (Do e) r) (weave_any s t a c)
weave_any s t (Ends u e) c = refl

pub weave_assoc : (s : Stamp) (a : Run) (b c : Asked) → weave s (weave s a b) c ≡ weave s a (weave_asked b c)
weave_assoc s a b (Fin e) = refl
weave_assoc s a b (Say x c) = ap (λ r. Then s x r) (weave_assoc s a b c)
weave_assoc s a (Say (Out y) b) (Ask c) = weave_assoc s a b c
weave_assoc s a (Say (Do e) b) (Ask c) = ap (λ r. Then s (Do e) r) (weave_assoc s a b (Ask c))
weave_assoc s (Then t (Out x) a) (Ask b) (Ask c) =
    weave_any s t (weave t a b) c ∙ weave_assoc t a b (Ask c)
weave_assoc s (Then t (Do e) a) (Ask b) (Ask c) = ap (λ r. Then t (Do e) r) (weave_assoc s a (Ask b) (Ask c))
weave_assoc s (Ends t e) (Ask b) (Ask c) = weave_any s t (weave t (Ends t e) b) c ∙ weave_assoc t (Ends t e) b (Ask c)
weave_assoc s a (Fin e) (Ask c) = weave_assoc s a (Fin e) c

pub weave_rising : (s : Stamp) (a : Run) (c : Asked) → Rising s.need a → Rising s.need (weave s a c)
weave_rising s a (Fin e) k = omega arith
weave_rising s a (Say x c) k = (omega arith, weave_rising s a c k)
weave_rising s (Then t (Out x) a) (Ask c) k = rising_less s.need t.need _ k.0 (weave_rising t a c k.1)
weave_rising s (Then t (Do e) a) (Ask c) k = (k.0, subst (Rising t.need) (weave_any t s a c) (weave_rising t a (Ask c) k.1))
weave_rising s (Ends t e) (Ask c) k = rising_less s.need t.need _ k (weave_rising t (Ends t e) c (omega arith))

asks_add : (m n : ℕ) (x : Asked) → asks (m + n) x ≡ asks m (asks n x)
asks_add zero n x = (let e : 0 + n ≡ n = omega arith in rw e)
asks_add (suc m) n x = (let e : suc m + n ≡ suc (m + n) = omega arith in rw e (ap Ask (asks_add m n x)))

asks_split : (i j k : ℕ) (x : Asked) → i ≤ j → j ≤ k → asks (k - i) x ≡ asks (j - i) (asks (k - j) x)
asks_split i j k x h1 h2 = (let e : k - i ≡ (j - i) + (k - j) = omega arith in rw e (asks_add (j - i) (k - j) x))

-- marks may be counted from a later need
pub asked_from : (i j : ℕ) (r : Run) → i ≤ j → Rising j r → asked i r ≡ asks (j - i) (asked j r)
asked_from i j (Then t x r) h k = asks_split i j t.need _ h k.0
asked_from i j (Ends t e) h k = asks_split i j t.need _ h k

asks_self : (n : ℕ) (x : Asked) → asks (n - n) x ≡ x
asks_self n x = (let e : n - n ≡ 0 = omega arith in rw e)

weave_asked_asks : (k : ℕ) (x c : Asked) → weave_asked (asks k x) (Ask c) ≡ asks k (weave_asked x (Ask c))
weave_asked_asks zero x c = refl
weave_asked_asks (suc k) x c = ap Ask (weave_asked_asks k x c)

pub asked_weave : (s : Stamp) (b : Run) (c : Asked) → Rising s.need b → asked s.need (weave s b c) ≡ weave_asked (asked s.need b) c
asked_weave s b (Fin e) k = asks_self s.need (Fin e)
asked_weave s b (Say x c) k = asks_self s.need _ ∙ ap (Say x) (asked_weave s b c k)
asked_weave s (Then t (Out x) b) (Ask c) k =
    asked_from s.need t.need (weave t b c) k.0 (weave_rising t b c k.1)
    ∙ ap (asks (t.need - s.need)) (asked_weave t b c k.1)
    ∙ sym (weave_asked_asks (t.need - s.need) (Say (Out x) (asked t.need b)) c)
asked_weave s (Then t (Do e) b) (Ask c) k =
    ap (λ r. asks (t.need - s.need) (Say (Do e) (asked t.need r))) (weave_any s t b c)
    ∙ ap (λ r. asks (t.need - s.need) (Say (Do e) r)) (asked_weave t b (Ask c) k.1)
    ∙ sym (weave_asked_asks (t.need - s.need) (Say (Do e) (asked t.need b)) c)
asked_weave s (Ends t e) (Ask c) k =
    asked_from s.need t.need (weave t (Ends t e) c) k (weave_rising t (Ends t e) c (omega arith))
    ∙ ap (asks (t.need - s.need)) (asked_weave t (Ends t e) c (omega arith) ∙ ap (λ x. weave_asked x c) (asks_self t.need (Fin e)))
    ∙ sym (weave_asked_asks (t.need - s.need) (Fin e) c)

pub fuse_at_assoc : (s : Stamp) (a b c : Run) → Rising 0 b → Rising 0 c → Rising 0 (fuse_at start b c)
    → fuse_at s (fuse_at s a b) c ≡ fuse_at s a (fuse_at start b c)
fuse_at_assoc s a b c kb kc kd =
    fuse_weave s (fuse_at s a b) c kc
    ∙ ap (λ r. weave s r (asked 0 c)) (fuse_weave s a b kb)
    ∙ weave_assoc s a (asked 0 b) (asked 0 c)
    ∙ ap (weave s a) (sym (asked_weave start b (asked 0 c) kb))
    ∙ ap (λ r. weave s a (asked 0 r)) (sym (fuse_weave start b c kc))
    ∙ sym (fuse_weave s a (fuse_at start b c) kd)

-- ---- what is known of a weave

abbrev pub if_more : ℕ → Asked → Asked → Asked
if_more zero x y = x
if_more (suc n) x y = y

-- marks of a cut run
abbrev pub cut_asked : ℕ → Halt → Asked → Asked
cut_asked m h (Ask b) = Ask (if_more m (Fin (Halts h)) (cut_asked (pred m) h b))
cut_asked m h (Say x b) = Say x (cut_asked m h b)
cut_asked m h (Fin e) = Fin e

cut_weave_ask : (n : ℕ) (h : Halt) (s : Stamp) (a : Run) (b : Asked) → n < s.need → Rising s.need a → cut n h (weave s a b) ≡ Ends (stamp (suc n) n) (Halts h)
cut_weave_ask n h s a b k j = cut_none n h (weave s a b) (rising_less (suc n) s.need (weave s a b) k (weave_rising s a b j))

at_out : (n : ℕ) (h : Halt) (s t : Stamp) (x : Item) (a : Run) (b : Asked) → (s.need ≤ t.need) × Rising t.need a
    → (t.need ≤ n → weave t (cut n h a) (cut_asked (length (outs (cut n h a))) h b) ≡ cut n h (weave t a b))
    → (n < t.need) ⊎ (t.need ≤ n)
    → weave s (cut n h (Then t (Out x) a)) (cut_asked (length (outs (cut n h (Then t (Out x) a)))) h (Ask b)) ≡ cut n h (weave t a b)
at_out n h s t x a b j i (inl l) = rw (lt-leb t.need n l) (sym (cut_weave_ask n h t a b l j.1))
at_out n h s t x a b j i (inr l) = rw (le-leb t.need n l) (i l)

at_do : (n : ℕ) (h : Halt) (s t : Stamp) (e : Effect) (a : Run) (b : Asked)
    → (t.need ≤ n → weave t (cut n h a) (cut_asked (length (outs (cut n h a))) h (Ask b)) ≡ cut n h (weave t a (Ask b)))
    → (n < t.need) ⊎ (t.need ≤ n)
    → weave s (cut n h (Then t (Do e) a)) (cut_asked (length (outs (cut n h (Then t (Do e) a)))) h (Ask b)) ≡ cut n h (Then t (Do e) (weave s a (Ask b)))
at_do n h s t e a b i (inl l) = rw (lt-leb t.need n l)
at_do n h s t e a b i (inr l) =
    rw (le-leb t.need n l) (ap (Then t (Do e)) (weave_any s t (cut n h a) _ ∙ i l ∙ ap (cut n h) (weave_any t s a b)))

pub weave_cut : (n : ℕ) (h : Halt) (s : Stamp) (a : Run) (b : Asked) → s.need ≤ n → Rising s.need a → n < (last a).need
    → weave s (cut n h a) (cut_asked (length (outs (cut n h a))) h b) ≡ cut n h (weave s a b)
weave_cut n h s a (Fin e) k j l = sym (cut_last n h s e k)
weave_cut n h s a (Say x b) k j l = ap (Then s x) (weave_cut n h s a b k j l) ∙ sym (cut_act n h s x (weave s a b) k)
weave_cut n h s (Then t (Out x) a) (Ask b) k j l = at_out n h s t x a b j (λ i. weave_cut n h t a b i j.1 l) (cases_lt n t.need)
weave_cut n h s (Then t (Do e) a) (Ask b) k j l =
    at_do n h s t e a b (λ i. weave_cut n h t a (Ask b) i j.1 l) (cases_lt n t.need)
weave_cut n h s (Ends t e) (Ask b) k j l = rw (lt-leb t.need n l) (sym (cut_weave_ask n h t (Ends t e) b l (le_self t.need)))

cut_asked_in : (k n : ℕ) (h : Halt) (x : Asked) → n ≤ k → cut_asked k h (asks n x) ≡ asks n (cut_asked (k - n) h x)
cut_asked_in k zero h x i = (let e : k - 0 ≡ k = omega arith in rw e)
cut_asked_in zero (suc n) h x i = absurd (omega arith)
cut_asked_in (suc k) (suc n) h x i = rw (minus_suc n k) (ap Ask (cut_asked_in k n h x (omega arith)))

cut_asked_out : (k n : ℕ) (h : Halt) (x : Asked) → k < n → cut_asked k h (asks n x) ≡ asks (suc k) (Fin (Halts h))
cut_asked_out k zero h x i = absurd (omega arith)
cut_asked_out zero (suc n) h x i = refl
cut_asked_out (suc k) (suc n) h x i = ap Ask (cut_asked_out k n h x (omega arith))

asked_end : (i m : ℕ) (h : Halt) → i ≤ m → asked i (Ends (stamp (suc m) m) (Halts h)) ≡ asks (suc (m - i)) (Fin (Halts h))
asked_end i m h k = (let e : suc m - i ≡ suc (m - i) = omega arith in rw e)

minus_minus : (m i t : ℕ) → i ≤ t → t ≤ m → (m - i) - (t - i) ≡ m - t
minus_minus m i t h k = omega arith

asked_cut_act : (m i : ℕ) (h : Halt) (t : Stamp) (x : Act) (b : Run) → i ≤ m → i ≤ t.need
    → (t.need ≤ m → asked t.need (cut m h b) ≡ cut_asked (m - t.need) h (asked t.need b)) → (m < t.need) ⊎ (t.need ≤ m)
    → asked i (cut m h (Then t x b)) ≡ cut_asked (m - i) h (asked i (Then t x b))
asked_cut_act m i h t x b k j ih (inl l) =
    rw (lt-leb t.need m l) (asked_end i m h k ∙ sym (cut_asked_out (m - i) (t.need - i) h _ (omega arith)))
asked_cut_act m i h t x b k j ih (inr l) =
    rw (le-leb t.need m l)
    (ap (λ r. asks (t.need - i) (Say x r)) (ih l)
    ∙ ap (λ n. asks (t.need - i) (cut_asked n h (Say x (asked t.need b)))) (sym (minus_minus m i t.need j l))
    ∙ sym (cut_asked_in (m - i) (t.need - i) h (Say x (asked t.need b)) (omega arith)))

asked_cut_end : (m i : ℕ) (h : Halt) (t : Stamp) (e : Ending) → i ≤ m → i ≤ t.need → (m < t.need) ⊎ (t.need ≤ m)
    → asked i (cut m h (Ends t e)) ≡ cut_asked (m - i) h (asked i (Ends t e))
asked_cut_end m i h t e k j (inl l) =
    rw (lt-leb t.need m l) (asked_end i m h k ∙ sym (cut_asked_out (m - i) (t.need - i) h _ (omega arith)))
asked_cut_end m i h t e k j (inr l) =
    rw (le-leb t.need m l) (sym (cut_asked_in (m - i) (t.need - i) h (Fin e) (omega arith)))

pub asked_cut : (m i : ℕ) (h : Halt) (b : Run) → i ≤ m → Rising i b → asked i (cut m h b) ≡ cut_asked (m - i) h (asked i b)
asked_cut m i h (Then t x b) k j = asked_cut_act m i h t x b k j.0 (λ l. asked_cut m t.need h b l j.1) (cases_lt m t.need)
asked_cut m i h (Ends t e) k j = asked_cut_end m i h t e k j (cases_lt m t.need)

-- each stamp of a weave is a's, or that of A[0]
pub each_weave : (P : Stamp → Type 0) (s : Stamp) (a : Run) (b : Asked) → P s → EachStamp P a → EachStamp P (weave s a b)
each_weave P s a (Fin e) p k = p
each_weave P s a (Say x b) p k = (p, each_weave P s a b p k)
each_weave P s (Then t (Out x) a) (Ask b) p k = each_weave P t a b k.0 k.1
each_weave P s (Then t (Do e) a) (Ask b) p k = (k.0, each_weave P s a (Ask b) p k.1)
each_weave P s (Ends t e) (Ask b) p k = each_weave P t (Ends t e) b k k

pub fuse_cut : (n m : ℕ) (h : Halt) (s : Stamp) (a b : Run) → s.need ≤ n → Rising s.need a → Rising 0 b → Rising 0 (cut m h b) → n < (last a).need → length (outs (cut n h a)) ≡ m
    → fuse_at s (cut n h a) (cut m h b) ≡ cut n h (fuse_at s a b)
fuse_cut n m h s a b k ja jb jc l e =
    fuse_weave s (cut n h a) (cut m h b) jc
    ∙ ap (weave s (cut n h a)) (asked_cut m 0 h b (omega arith) jb
    ∙ (let e1 : m - 0 ≡ length (outs (cut n h a)) = omega arith in ap (λ q. cut_asked q h (asked 0 b)) e1))
    ∙ weave_cut n h s a (asked 0 b) k ja l
    ∙ ap (cut n h) (sym (fuse_weave s a b jb))
