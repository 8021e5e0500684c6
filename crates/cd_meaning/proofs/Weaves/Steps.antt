-- The weave, step by step.
use Rattle.std.proofs.Common.{◌≡◌, ℕ, zero, suc, ◌-◌, ◌≤◌, List, [], ◌∷◌, length, map, refl, ap, sym, ◌∙◌, subst, arith}
use Rattle.cd_meaning.specs.Stream.{Item, Value, Ending, Done, Halts, Out, Do, Effect}
use Rattle.cd_meaning.specs.Run.{Stamp, stamp, Run, Then, Ends, acts_at, restamp}
use Rattle.cd_meaning.specs.Fusion.{effects_to, between, place, woven, fuse_at}
use Rattle.cd_meaning.specs.Laws.{Rising, less_by}
use Rattle.cd_meaning.proofs.Rising.{rising_less, le_self}
use Rattle.cd_meaning.proofs.Restamp.{one_less, lowered_1, restamp_twice, restamp_same, restamp_id, less_by_0}

pub between_out : (s : Stamp) (x : Item) (a : Run) (i j : ℕ) (r : Run) → i ≤ j → between i j (Then s (Out x) a) r ≡ between (one_less i) (one_less j) a r
between_out s x a zero zero r h = refl
between_out s x a zero (suc j) r h = refl
between_out s x a (suc i) zero r h = absurd (omega arith)
between_out s x a (suc i) (suc j) r h = refl

pub place_out : (s : Stamp) (x : Item) (a : Run) (j : ℕ) → place s j (Then s (Out x) a) ≡ place s (one_less j) a
place_out s x a zero = refl
place_out s x a (suc j) = refl

-- An Out of a that stands first is one input of b less.
pub woven_out : (at at' : ℕ → Stamp) (fin fin' : Stamp → Value → Run) (s : Stamp) (x : Item) (a : Run) (i : ℕ) (b : Run)
    → ((j : ℕ) → at j ≡ at' (one_less j)) → ((t : Stamp) (v : Value) → fin t v ≡ fin' (lowered_1 t) v) → Rising i b
    → woven at fin (Then s (Out x) a) i b ≡ woven at' fin' a (one_less i) (restamp lowered_1 b)
woven_out at at' fin fin' s x a i (Then t act b) h1 h2 k =
    rw (between_out s x a i t.need _ k.0, h1 t.need, woven_out at at' fin fin' s x a t.need b h1 h2 k.1)
woven_out at at' fin fin' s x a i (Ends t (Done v)) h1 h2 k =
    rw (between_out s x a i t.need _ k, h2 t v)
woven_out at at' fin fin' s x a i (Ends t (Halts h)) h1 h2 k =
    rw (between_out s x a i t.need _ k, h1 t.need)

-- ---- what the weave reads of its parts

-- only the stamps of A[j] from n on are read, where b asks for n values first
pub woven_same : (at at' : ℕ → Stamp) (fin fin' : Stamp → Value → Run) (n : ℕ) (a : Run) (i : ℕ) (b : Run)
    → ((j : ℕ) → n ≤ j → at j ≡ at' j) → ((t : Stamp) (v : Value) → n ≤ t.need → fin t v ≡ fin' t v) → Rising n b
    → woven at fin a i b ≡ woven at' fin' a i b
woven_same at at' fin fin' n a i (Then t act b) h1 h2 k =
    rw (h1 t.need k.0, woven_same at at' fin fin' n a t.need b h1 h2 (rising_less n t.need b k.0 k.1))
woven_same at at' fin fin' n a i (Ends t (Done v)) h1 h2 k = rw (h2 t v k)
woven_same at at' fin fin' n a i (Ends t (Halts h)) h1 h2 k = rw (h1 t.need k)

-- ---- other stamps for a

pub effects_to_restamp : (g : Stamp → Stamp) (j : ℕ) (a r : Run) → restamp g (effects_to j a r) ≡ effects_to j (restamp g a) (restamp g r)
effects_to_restamp g zero a r = refl
effects_to_restamp g (suc j) (Then s (Out x) a) r = effects_to_restamp g j a r
effects_to_restamp g (suc j) (Then s (Do e) a) r = ap (λ t. Then (g s) (Do e) t) (effects_to_restamp g (suc j) a r)
effects_to_restamp g (suc j) (Ends s e) r = refl

pub between_restamp : (g : Stamp → Stamp) (i j : ℕ) (a r : Run) → restamp g (between i j a r) ≡ between i j (restamp g a) (restamp g r)
between_restamp g zero j a r = effects_to_restamp g j a r
between_restamp g (suc i) zero a r = refl
between_restamp g (suc i) (suc j) (Then s (Out x) a) r = between_restamp g i j a r
between_restamp g (suc i) (suc j) (Then s (Do e) a) r = between_restamp g (suc i) (suc j) a r
between_restamp g (suc i) (suc j) (Ends s e) r = refl

pub place_restamp : (g : Stamp → Stamp) (s : Stamp) (j : ℕ) (a : Run) → place (g s) j (restamp g a) ≡ g (place s j a)
place_restamp g s zero a = refl
place_restamp g s (suc j) (Then t (Out x) a) = place_restamp g t j a
place_restamp g s (suc j) (Then t (Do e) a) = place_restamp g s (suc j) a
place_restamp g s (suc j) (Ends t e) = refl

-- a's stamps are carried along as they are
pub woven_restamp : (at at' : ℕ → Stamp) (fin fin' : Stamp → Value → Run) (g : Stamp → Stamp) (a : Run) (i : ℕ) (b : Run)
    → ((j : ℕ) → at' j ≡ g (at j)) → ((t : Stamp) (v : Value) → fin' t v ≡ restamp g (fin t v))
    → woven at' fin' (restamp g a) i b ≡ restamp g (woven at fin a i b)
woven_restamp at at' fin fin' g a i (Then t act b) h1 h2 =
    rw (between_restamp g i t.need a _, h1 t.need, woven_restamp at at' fin fin' g a t.need b h1 h2)
woven_restamp at at' fin fin' g a i (Ends t (Done v)) h1 h2 = rw (between_restamp g i t.need a _, h2 t v)
woven_restamp at at' fin fin' g a i (Ends t (Halts h)) h1 h2 = rw (between_restamp g i t.need a _, h1 t.need)

-- ---- the stamp of A[0]

pub place_any : (s t : Stamp) (j : ℕ) (a : Run) → 1 ≤ j → place s j a ≡ place t j a
place_any s t zero a h = absurd (omega arith)
place_any s t (suc j) (Then u (Out x) a) h = refl
place_any s t (suc j) (Then u (Do e) a) h = place_any s t (suc j) a h
place_any s t (suc j) (Ends u e) h = refl

-- where b asks first, the stamp of A[0] is not read
pub fuse_any : (s t : Stamp) (a b : Run) → Rising 1 b → fuse_at s a b ≡ fuse_at t a b
fuse_any s t a b k =
    woven_same _ _ _ _ 1 a 0 b (λ j h. place_any s t j a h) (λ u v h. rw (place_any s t u.need a h)) k

-- of b's stamps only the needs are read
pub woven_needs : (at : ℕ → Stamp) (fin fin' : Stamp → Value → Run) (g : Stamp → Stamp) (a : Run) (i : ℕ) (b : Run)
    → ((t : Stamp) → (g t).need ≡ t.need) → ((t : Stamp) (v : Value) → fin (g t) v ≡ fin' t v)
    → woven at fin a i (restamp g b) ≡ woven at fin' a i b
woven_needs at fin fin' g a i (Then t act b) h1 h2 = rw (h1 t, woven_needs at fin fin' g a t.need b h1 h2)
woven_needs at fin fin' g a i (Ends t (Done v)) h1 h2 = rw (h2 t v, h1 t)
woven_needs at fin fin' g a i (Ends t (Halts h)) h1 h2 = rw (h1 t)

pub fuse_needs : (g : Stamp → Stamp) (s : Stamp) (a b : Run) → ((t : Stamp) → (g t).need ≡ t.need) → fuse_at s a (restamp g b) ≡ fuse_at s a b
fuse_needs g s a b h = woven_needs _ _ _ g a 0 b h (λ t v. rw (h t))

-- ---- the moves

-- a has ended, and b was told so
pub between_ends : (i j : ℕ) (t : Stamp) (e : Ending) (r : Run) → between i j (Ends t e) r ≡ r
between_ends zero zero t e r = refl
between_ends zero (suc j) t e r = refl
between_ends (suc i) zero t e r = refl
between_ends (suc i) (suc j) t e r = refl

pub place_ends : (s t : Stamp) (j : ℕ) (e : Ending) → 1 ≤ j → place s j (Ends t e) ≡ t
place_ends s t zero e h = absurd (omega arith)
place_ends s t (suc j) e h = refl

pub woven_ended : (s t : Stamp) (e : Ending) (i : ℕ) (b : Run) → Rising 1 b
    → woven (λ j. place s j (Ends t e)) (λ u v. Ends (place s u.need (Ends t e)) (Done v)) (Ends t e) i b ≡ restamp (λ u. t) b
woven_ended s t e i (Then u act b) k =
    rw (between_ends i u.need t e _, place_ends s t u.need e k.0, woven_ended s t e u.need b (rising_less 1 u.need b k.0 k.1))
woven_ended s t e i (Ends u (Done v)) k = rw (between_ends i u.need t e _, place_ends s t u.need e k)
woven_ended s t e i (Ends u (Halts h)) k = rw (between_ends i u.need t e _, place_ends s t u.need e k)

pub fuse_ended : (s t : Stamp) (e : Ending) (b : Run) → Rising 1 b → fuse_at s (Ends t e) b ≡ restamp (λ u. t) b
fuse_ended s t e b k = woven_ended s t e 0 b k

-- a emits, b having asked
fuse_out : (s : Stamp) (x : Item) (a b : Run) → Rising 0 b → fuse_at s (Then s (Out x) a) b ≡ fuse_at s a (restamp lowered_1 b)
fuse_out s x a b k =
    woven_out _ _ _ _ s x a 0 b (λ j. place_out s x a j) (λ t v. rw (place_out s x a t.need)) k

pub one_less_le : (m n : ℕ) → m ≤ n → one_less m ≤ one_less n
one_less_le zero n h = omega arith
one_less_le (suc m) zero h = absurd (omega arith)
one_less_le (suc m) (suc n) h = omega arith

pub rising_lowered : (n : ℕ) (b : Run) → Rising n b → Rising (one_less n) (restamp lowered_1 b)
rising_lowered n (Then s a b) k = (one_less_le n s.need k.0, rising_lowered s.need b k.1)
rising_lowered n (Ends s e) k = one_less_le n s.need k

pub one_less-minus : (m n : ℕ) → one_less m - n ≡ m - suc n
one_less-minus zero n = omega arith
one_less-minus (suc m) n = omega arith

-- a emits d at the stamp of its A[0]
fuse_outs : (s : Stamp) (d : List Item) (a b : Run) → Rising 0 b
    → fuse_at s (acts_at s (map Out d) a) b ≡ fuse_at s a (restamp (less_by (length d)) b)
fuse_outs s [] a b k = ap (fuse_at s a) (sym (restamp_id (less_by 0) b (λ t. less_by_0 t)))
fuse_outs s (x ∷ d) a b k =
    fuse_out s x (acts_at s (map Out d) a) b k
    ∙ fuse_outs s d a (restamp lowered_1 b) (rising_lowered 0 b k)
    ∙ ap (fuse_at s a) (restamp_twice (less_by (length d)) lowered_1 b
    ∙ restamp_same _ _ b (λ t. ap (λ n. stamp n t.net) (one_less-minus t.need (length d))))

-- a emits d at any stamp, where b asks first
pub fuse_up_emits : (s s1 : Stamp) (d : List Item) (a b : Run) → Rising 1 b
    → fuse_at s (acts_at s1 (map Out d) a) b ≡ fuse_at s1 a (restamp (less_by (length d)) b)
fuse_up_emits s s1 d a b k = fuse_any s s1 _ b k ∙ fuse_outs s1 d a b (rising_less 0 1 b (omega arith) k)

-- a has effects, where b asks first
pub between_do : (t : Stamp) (e : Effect) (a : Run) (i j : ℕ) (r : Run) → 1 ≤ i → i ≤ j → between i j (Then t (Do e) a) r ≡ between i j a r
between_do t e a zero j r h1 h2 = absurd (omega arith)
between_do t e a (suc i) zero r h1 h2 = absurd (omega arith)
between_do t e a (suc i) (suc j) r h1 h2 = refl

pub place_do : (s t : Stamp) (e : Effect) (j : ℕ) (a : Run) → place s j (Then t (Do e) a) ≡ place s j a
place_do s t e zero a = refl
place_do s t e (suc j) a = refl

pub woven_do : (at at' : ℕ → Stamp) (fin fin' : Stamp → Value → Run) (t : Stamp) (e : Effect) (a : Run) (i : ℕ) (b : Run)
    → ((j : ℕ) → at j ≡ at' j) → ((u : Stamp) (v : Value) → fin u v ≡ fin' u v) → 1 ≤ i → Rising i b
    → woven at fin (Then t (Do e) a) i b ≡ woven at' fin' a i b
woven_do at at' fin fin' t e a i (Then u act b) h1 h2 h k =
    rw (between_do t e a i u.need _ h k.0, h1 u.need, woven_do at at' fin fin' t e a u.need b h1 h2 (let k0 = k.0 in omega arith) k.1)
woven_do at at' fin fin' t e a i (Ends u (Done v)) h1 h2 h k = rw (between_do t e a i u.need _ h k, h2 u v)
woven_do at at' fin fin' t e a i (Ends u (Halts g)) h1 h2 h k = rw (between_do t e a i u.need _ h k, h1 u.need)

pub effects_to_do : (t : Stamp) (e : Effect) (a : Run) (j : ℕ) (r : Run) → 1 ≤ j → effects_to j (Then t (Do e) a) r ≡ Then t (Do e) (effects_to j a r)
effects_to_do t e a zero r h = absurd (omega arith)
effects_to_do t e a (suc j) r h = refl

pub fuse_up_does : (s t : Stamp) (e : Effect) (a b : Run) → Rising 1 b → fuse_at s (Then t (Do e) a) b ≡ Then t (Do e) (fuse_at s a b)
fuse_up_does s t e a (Then u act b) k =
    rw (
      effects_to_do t e a u.need _ k.0,
      place_do s t e u.need a,
      woven_do _ _ _ _ t e a u.need b (λ j. place_do s t e j a) (λ x v. ap (λ q. Ends q (Done v)) (place_do s t e x.need a)) k.0 k.1,
    )
fuse_up_does s t e a (Ends u (Done v)) k = rw (effects_to_do t e a u.need _ k, place_do s t e u.need a)
fuse_up_does s t e a (Ends u (Halts h)) k = rw (effects_to_do t e a u.need _ k, place_do s t e u.need a)

-- ---- needs of the weave never fall

pub effects_to_rising : (s : Stamp) (j : ℕ) (a r : Run) → Rising s.need a → Rising (place s j a).need r → Rising s.need (effects_to j a r)
effects_to_rising s zero a r ka kr = kr
effects_to_rising s (suc j) (Then t (Out x) a) r ka kr = rising_less s.need t.need _ ka.0 (effects_to_rising t j a r ka.1 kr)
effects_to_rising s (suc j) (Then t (Do e) a) r ka kr =
    (ka.0, effects_to_rising t (suc j) a r ka.1 (subst (λ q. Rising q.need r) (place_any s t (suc j) a (omega arith)) kr))
effects_to_rising s (suc j) (Ends t e) r ka kr = rising_less s.need t.need r ka kr

pub between_rising : (s : Stamp) (i j : ℕ) (a r : Run) → i ≤ j → Rising s.need a → Rising (place s j a).need r → Rising (place s i a).need (between i j a r)
between_rising s zero j a r h ka kr = effects_to_rising s j a r ka kr
between_rising s (suc i) zero a r h ka kr = absurd (omega arith)
between_rising s (suc i) (suc j) (Then t (Out x) a) r h ka kr = between_rising t i j a r (omega arith) ka.1 kr
between_rising s (suc i) (suc j) (Then t (Do e) a) r h ka kr =
    subst (λ q. Rising q.need (between (suc i) (suc j) a r)) (place_any t s (suc i) a (omega arith))
    (between_rising t (suc i) (suc j) a r h ka.1 (subst (λ q. Rising q.need r) (place_any s t (suc j) a (omega arith)) kr))
between_rising s (suc i) (suc j) (Ends t e) r h ka kr = kr

pub woven_rising : (s : Stamp) (a : Run) (i : ℕ) (b : Run) → Rising s.need a → Rising i b
    → Rising (place s i a).need (woven (λ j. place s j a) (λ t v. Ends (place s t.need a) (Done v)) a i b)
woven_rising s a i (Then t act b) ka kb =
    between_rising s i t.need a _ kb.0 ka (le_self (place s t.need a).need, woven_rising s a t.need b ka kb.1)
woven_rising s a i (Ends t (Done v)) ka kb = between_rising s i t.need a _ kb ka (le_self (place s t.need a).need)
woven_rising s a i (Ends t (Halts h)) ka kb = between_rising s i t.need a _ kb ka (le_self (place s t.need a).need)

pub fuse_rising : (s : Stamp) (a b : Run) → Rising s.need a → Rising 0 b → Rising s.need (fuse_at s a b)
fuse_rising s a b ka kb = woven_rising s a 0 b ka kb
