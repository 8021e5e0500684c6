-- A zip of two runs is what the rule says of their acts.
use Rattle.std.proofs.Common.{◌≡◌, ℕ, zero, suc, ◌+◌, ◌≤◌, ◌<◌, inl, inr, max, List, [], ◌∷◌, ◌++◌, length, refl, ap, sym, ◌∙◌, arith}
use Rattle.std.proofs.lemmas.Bool.{cases_lt, cases_eq, eq-eqb, ne_eqb}
use Rattle.std.specs.List.{flat_map, range_with_len}
use Rattle.cd_meaning.specs.Stream.{Item, Halt, End, Done, Halts, Act}
use Rattle.cd_meaning.specs.Run.{Stamp, Run, Then, Ends, Component, at_need, ending, last}
use Rattle.cd_meaning.specs.Zips.{merge, zip_sink}
use Rattle.cd_meaning.specs.PlainZips.{Does, Stops, DeedAt, deed_at, deeds, of_need, by_need, does_so, both_endings, plain_merge, plain_zip}
use Rattle.cd_meaning.specs.Laws.{Rising, EachStamp, IsStamp, IsRun}
use Rattle.cd_meaning.proofs.Rising.{rising_less}
use Rattle.cd_meaning.proofs.Stamps.{each_stamp}
use Rattle.cd_meaning.proofs.Zips.Runs.{merge_first, merge_first_halts, merge_second, merge_second_halts}

-- each need is at least m
abbrev Least : ℕ → List DeedAt → Type 0
Least m [] = Unit {0}
Least m (d ∷ ds) = (m ≤ d.need) × Least m ds

less : (m k : ℕ) (ds : List DeedAt) → m ≤ k → Least k ds → Least m ds
less m k [] l h = tt
less m k (d ∷ ds) l h = (let h0 = h.0 in omega arith, less m k ds l h.1)

rising_least : (m : ℕ) (r : Run) → Rising m r → Least m (deeds r)
rising_least m (Then s a r) h = (h.0, less m s.need (deeds r) h.0 (rising_least s.need r h.1))
rising_least m (Ends s (Done v)) h = tt
rising_least m (Ends s (Halts g)) h = (h, tt)

of_it : (i : ℕ) (d : DeedAt) (ds : List DeedAt) → d.need ≡ i → of_need i (d ∷ ds) ≡ d ∷ of_need i ds
of_it i d ds h = rw (eq-eqb d.need i h)

not_of : (i : ℕ) (d : DeedAt) (ds : List DeedAt) → (d.need ≡ i → ⊥) → of_need i (d ∷ ds) ≡ of_need i ds
not_of i d ds h = rw (ne_eqb d.need i h)

none_of : (i : ℕ) (ds : List DeedAt) → Least (suc i) ds → of_need i ds ≡ []
none_of i [] h = refl
none_of i (d ∷ ds) h = (let h0 = h.0 in not_of i d ds (λ e. omega arith) ∙ none_of i ds h.1)

-- ---- the needs from i on

abbrev from : ℕ → ℕ → List DeedAt → List DeedAt → List DeedAt
from i k a b = flat_map (λ need. of_need need a ++ of_need need b) (range_with_len i k)

-- no need is one of none
from_none : (i k : ℕ) → from i k [] [] ≡ []
from_none i zero = refl
from_none i (suc k) = from_none (i + 1) k

-- one that is of none of these needs
past_first : (i k : ℕ) (d : DeedAt) (a b : List DeedAt) → d.need < i → from i k (d ∷ a) b ≡ from i k a b
past_first i zero d a b h = refl
past_first i (suc k) d a b h = rw (not_of i d a (λ e. omega arith), past_first (i + 1) k d a b (omega arith))

past_second : (i k : ℕ) (d : DeedAt) (a b : List DeedAt) → d.need < i → from i k a (d ∷ b) ≡ from i k a b
past_second i zero d a b h = refl
past_second i (suc k) d a b h = rw (not_of i d b (λ e. omega arith), past_second (i + 1) k d a b (omega arith))

-- the next deed of one side, where it is first of all
first_first : (i k : ℕ) (d : DeedAt) (a b : List DeedAt) → i ≤ d.need → d.need < i + k → Least d.need a → Least d.need b → from i k (d ∷ a) b ≡ d ∷ from i k a b
first_first i zero d a b h l ka kb = absurd (omega arith)
first_first i (suc k) d a b h l ka kb = elim (cases_eq d.need i) [
  | inl e ↦ rw (of_it i d a e, past_first (i + 1) k d a b (omega arith))
  | inr e ↦
      let n : suc i ≤ d.need = omega (arith, e) in
      rw (not_of i d a e, first_first (i + 1) k d a b (omega arith) (omega arith) ka kb, none_of i a (less (suc i) d.need a n ka), none_of i b (less (suc i) d.need b n kb))
]

second_first : (i k : ℕ) (d : DeedAt) (a b : List DeedAt) → i ≤ d.need → d.need < i + k → Least (suc d.need) a → Least d.need b → from i k a (d ∷ b) ≡ d ∷ from i k a b
second_first i zero d a b h l ka kb = absurd (omega arith)
second_first i (suc k) d a b h l ka kb = elim (cases_eq d.need i) [
  | inl e ↦ rw (of_it i d b e, past_second (i + 1) k d a b (omega arith), none_of i a (less (suc i) (suc d.need) a (omega arith) ka))
  | inr e ↦
      let n : suc i ≤ d.need = omega (arith, e) in
      rw (not_of i d b e, second_first (i + 1) k d a b (omega arith) (omega arith) ka kb, none_of i a (less (suc i) (suc d.need) a (omega arith) ka), none_of i b (less (suc i) d.need b n kb))
]

-- ---- the merge

-- each need is below the bound
abbrev Below : ℕ → Run → Type 0
Below bound r = EachStamp (λ s. s.need < bound) r

-- how both end
abbrev finish : ℕ → Run → Run → Run
finish n a b = Ends (at_need n (max (last a).need (last b).need)) (both_endings (ending a) (ending b))

abbrev in_turn : ℕ → ℕ → Run → Run → Run
in_turn n bound a b = does_so n (by_need bound (deeds a) (deeds b)) (finish n a b)

takes_first : (n bound : ℕ) (s : Stamp) (x : Act) (a b : Run) → s.need < bound → Rising s.need a → Least s.need (deeds b) → in_turn n bound (Then s x a) b ≡ Then (at_need n s.need) x (in_turn n bound a b)
takes_first n bound s x a b l ka kb =
    ap (λ ds. does_so n ds (finish n a b)) (first_first 0 bound (deed_at s.need (Does x)) (deeds a) (deeds b) (omega arith) (omega arith) (rising_least s.need a ka) kb)

takes_second : (n bound : ℕ) (t : Stamp) (y : Act) (a b : Run) → t.need < bound → Least (suc t.need) (deeds a) → Rising t.need b → in_turn n bound a (Then t y b) ≡ Then (at_need n t.need) y (in_turn n bound a b)
takes_second n bound t y a b l ka kb =
    ap (λ ds. does_so n ds (finish n a b)) (second_first 0 bound (deed_at t.need (Does y)) (deeds a) (deeds b) (omega arith) (omega arith) ka (rising_least t.need b kb))

stops_first : (n bound : ℕ) (s : Stamp) (g : Halt) (b : Run) → s.need < bound → Least s.need (deeds b) → in_turn n bound (Ends s (Halts g)) b ≡ Ends (at_need n s.need) (Halts g)
stops_first n bound s g b l kb =
    ap (λ ds. does_so n ds (finish n (Ends s (Halts g)) b)) (first_first 0 bound (deed_at s.need (Stops g)) [] (deeds b) (omega arith) (omega arith) tt kb)

stops_second : (n bound : ℕ) (t : Stamp) (h : Halt) (a : Run) → t.need < bound → Least (suc t.need) (deeds a) → in_turn n bound a (Ends t (Halts h)) ≡ Ends (at_need n t.need) (Halts h)
stops_second n bound t h a l ka =
    ap (λ ds. does_so n ds (finish n a (Ends t (Halts h)))) (second_first 0 bound (deed_at t.need (Stops h)) (deeds a) [] (omega arith) (omega arith) ka tt)

merge_plain : (n bound : ℕ) (a b : Run) → Rising 0 a → Rising 0 b → Below bound a → Below bound b → merge n a b ≡ in_turn n bound a b
merge_plain n bound (Then s x a) (Then t y b) ka kb la lb = elim (cases_lt t.need s.need) [
  | inl l ↦
      merge_second n t y (Then s x a) b l
      ∙ ap (Then (at_need n t.need) y) (merge_plain n bound (Then s x a) b ka (rising_less 0 t.need b kb.0 kb.1) la lb.1)
      ∙ sym (takes_second n bound t y (Then s x a) b lb.0 (rising_least (suc t.need) (Then s x a) (l, ka.1)) kb.1)
  | inr l ↦
      merge_first n s x a (Then t y b) l
      ∙ ap (Then (at_need n s.need) x) (merge_plain n bound a (Then t y b) (rising_less 0 s.need a ka.0 ka.1) kb la.1 lb)
      ∙ sym (takes_first n bound s x a (Then t y b) la.0 ka.1 (rising_least s.need (Then t y b) (l, kb.1)))
]
merge_plain n bound (Then s x a) (Ends t (Done v)) ka kb la lb =
    ap (Then (at_need n s.need) x) (merge_plain n bound a (Ends t (Done v)) (rising_less 0 s.need a ka.0 ka.1) kb la.1 lb)
    ∙ sym (takes_first n bound s x a (Ends t (Done v)) la.0 ka.1 tt)
merge_plain n bound (Then s x a) (Ends t (Halts h)) ka kb la lb = elim (cases_lt t.need s.need) [
  | inl l ↦ merge_second_halts n t h (Then s x a) l ∙ sym (stops_second n bound t h (Then s x a) lb (rising_least (suc t.need) (Then s x a) (l, ka.1)))
  | inr l ↦
      merge_first n s x a (Ends t (Halts h)) l
      ∙ ap (Then (at_need n s.need) x) (merge_plain n bound a (Ends t (Halts h)) (rising_less 0 s.need a ka.0 ka.1) kb la.1 lb)
      ∙ sym (takes_first n bound s x a (Ends t (Halts h)) la.0 ka.1 (l, tt))
]
merge_plain n bound (Ends s (Done u)) (Then t y b) ka kb la lb =
    ap (Then (at_need n t.need) y) (merge_plain n bound (Ends s (Done u)) b ka (rising_less 0 t.need b kb.0 kb.1) la lb.1)
    ∙ sym (takes_second n bound t y (Ends s (Done u)) b lb.0 tt kb.1)
merge_plain n bound (Ends s (Done u)) (Ends t (Done v)) ka kb la lb = rw (from_none 0 bound)
merge_plain n bound (Ends s (Done u)) (Ends t (Halts h)) ka kb la lb = sym (stops_second n bound t h (Ends s (Done u)) lb tt)
merge_plain n bound (Ends s (Halts g)) (Then t y b) ka kb la lb = elim (cases_lt t.need s.need) [
  | inl l ↦
      merge_second n t y (Ends s (Halts g)) b l
      ∙ ap (Then (at_need n t.need) y) (merge_plain n bound (Ends s (Halts g)) b ka (rising_less 0 t.need b kb.0 kb.1) la lb.1)
      ∙ sym (takes_second n bound t y (Ends s (Halts g)) b lb.0 (l, tt) kb.1)
  | inr l ↦ merge_first_halts n s g (Then t y b) l ∙ sym (stops_first n bound s g (Then t y b) la (rising_least s.need (Then t y b) (l, kb.1)))
]
merge_plain n bound (Ends s (Halts g)) (Ends t (Done v)) ka kb la lb = sym (stops_first n bound s g (Ends t (Done v)) la tt)
merge_plain n bound (Ends s (Halts g)) (Ends t (Halts h)) ka kb la lb = elim (cases_lt t.need s.need) [
  | inl l ↦ merge_second_halts n t h (Ends s (Halts g)) l ∙ sym (stops_second n bound t h (Ends s (Halts g)) lb (l, tt))
  | inr l ↦ merge_first_halts n s g (Ends t (Halts h)) l ∙ sym (stops_first n bound s g (Ends t (Halts h)) la (l, tt))
]

asked_below : (n : ℕ) (s : Stamp) → IsStamp n s → s.need < n + 2
asked_below n s h = (let k = h.asked in omega arith)

-- of two runs whose needs never fall and are at most n + 1
pub merge_is_plain : (n : ℕ) (a b : Run) → Rising 0 a → Rising 0 b → EachStamp (IsStamp n) a → EachStamp (IsStamp n) b → merge n a b ≡ plain_merge n a b
merge_is_plain n a b ka kb la lb =
    merge_plain n (n + 2) a b ka kb (each_stamp (IsStamp n) (λ s. s.need < n + 2) a (asked_below n) la) (each_stamp (IsStamp n) (λ s. s.need < n + 2) b (asked_below n) lb)

pub zip_is_plain : (a b : Component) → IsRun a → IsRun b → (xs : List Item) (e : End) → zip_sink a b xs e ≡ plain_zip a b xs e
zip_is_plain a b ka kb xs e = merge_is_plain (length xs) (a xs e) (b xs e) (ka.rising xs e) (kb.rising xs e) (ka.stamps xs e) (kb.stamps xs e)
