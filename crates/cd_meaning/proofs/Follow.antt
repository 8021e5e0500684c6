-- A run, and what stands behind its value.
use Rattle.std.proofs.Common.{ap, List, [], ◌∷◌, ◌≡◌, ℕ, suc, ◌≤◌, ◌<◌, ◌⊎◌, inl, inr, refl, sym}
use Rattle.std.proofs.lemmas.Bool.{le-leb, lt-leb, cases_lt}
use Rattle.cd_meaning.specs.Stream.{Value, Halt, Done, Halts, Act}
use Rattle.cd_meaning.specs.Run.{Stamp, Run, Then, Ends, ending, last, acts_at, restamp, follow}
use Rattle.cd_meaning.specs.Laws.{Rising, cut, EachStamp}
use Rattle.cd_meaning.proofs.Rising.{rising_less}
use Rattle.cd_meaning.proofs.Cut.{cut_none}

pub each_follow : (P : Stamp → Type 0) (r : Run) (k : Stamp → Value → Run) → ((s : Stamp) (v : Value) → P s → EachStamp P (k s v)) → EachStamp P r → EachStamp P (follow r k)
each_follow P (Then s a r) k f j = (j.0, each_follow P r k f j.1)
each_follow P (Ends s (Done v)) k f j = f s v j
each_follow P (Ends s (Halts h)) k f j = j

pub follow_rising : (n : ℕ) (r : Run) (k : Stamp → Value → Run) → Rising n r → ((v : Value) → Rising (last r).need (k (last r) v)) → Rising n (follow r k)
follow_rising n (Then s a r) k j f = (j.0, follow_rising s.need r k j.1 f)
follow_rising n (Ends s (Done v)) k j f = rising_less n s.need (k s v) j (f v)
follow_rising n (Ends s (Halts h)) k j f = j

-- what is known of it: where the run is, what is known of what stands behind it
pub follow_cut : (n : ℕ) (h : Halt) (r : Run) (k k' : Stamp → Value → Run)
    → ((v : Value) → ending r ≡ Done v → (last r).need ≤ n → k (last r) v ≡ cut n h (k' (last r) v))
    → ((v : Value) → Rising (last r).need (k' (last r) v))
    → follow (cut n h r) k ≡ cut n h (follow r k')
follow_cut n h (Then s a r) k k' f g = by_need n h s a r k k' (follow_cut n h r k k' f g) (cases_lt n s.need) where
  by_need : (n : ℕ) (h : Halt) (s : Stamp) (a : Act) (r : Run) (k k' : Stamp → Value → Run) → follow (cut n h r) k ≡ cut n h (follow r k')
      → (n < s.need) ⊎ (s.need ≤ n) → follow (cut n h (Then s a r)) k ≡ cut n h (Then s a (follow r k'))
  by_need n h s a r k k' i (inl l) = rw (lt-leb s.need n l)
  by_need n h s a r k k' i (inr l) = rw (le-leb s.need n l, i)
follow_cut n h (Ends s (Done v)) k k' f g = by_need n h s v k k' (f v refl) (g v) (cases_lt n s.need) where
  by_need : (n : ℕ) (h : Halt) (s : Stamp) (v : Value) (k k' : Stamp → Value → Run) → (s.need ≤ n → k s v ≡ cut n h (k' s v)) → Rising s.need (k' s v)
      → (n < s.need) ⊎ (s.need ≤ n) → follow (cut n h (Ends s (Done v))) k ≡ cut n h (k' s v)
  by_need n h s v k k' i j (inl l) = rw (lt-leb s.need n l) (sym (cut_none n h (k' s v) (rising_less (suc n) s.need (k' s v) l j)))
  by_need n h s v k k' i j (inr l) = rw (le-leb s.need n l) (i l)
follow_cut n h (Ends s (Halts g1)) k k' f g = by_need n h s g1 k (cases_lt n s.need) where
  by_need : (n : ℕ) (h : Halt) (s : Stamp) (g1 : Halt) (k : Stamp → Value → Run)
      → (n < s.need) ⊎ (s.need ≤ n) → follow (cut n h (Ends s (Halts g1))) k ≡ cut n h (Ends s (Halts g1))
  by_need n h s g1 k (inl l) = rw (lt-leb s.need n l)
  by_need n h s g1 k (inr l) = rw (le-leb s.need n l)

pub follow_acts : (s : Stamp) (acts : List Act) (r : Run) (k : Stamp → Value → Run) → follow (acts_at s acts r) k ≡ acts_at s acts (follow r k)
follow_acts s [] r k = refl
follow_acts s (x ∷ acts) r k = ap (λ t. Then s x t) (follow_acts s acts r k)

pub follow_restamp : (f : Stamp → Stamp) (r : Run) (k k' : Stamp → Value → Run) → ((s : Stamp) (v : Value) → k (f s) v ≡ restamp f (k' s v))
    → follow (restamp f r) k ≡ restamp f (follow r k')
follow_restamp f (Then s a r) k k' h = ap (λ t. Then (f s) a t) (follow_restamp f r k k' h)
follow_restamp f (Ends s (Done v)) k k' h = h s v
follow_restamp f (Ends s (Halts e)) k k' h = refl

-- what stands behind a value is read where the run is done
pub follow_at_last : (r : Run) (k k' : Stamp → Value → Run) → ((v : Value) → ending r ≡ Done v → k (last r) v ≡ k' (last r) v) → follow r k ≡ follow r k'
follow_at_last (Then s a r) k k' h = ap (Then s a) (follow_at_last r k k' h)
follow_at_last (Ends s (Done v)) k k' h = h v refl
follow_at_last (Ends s (Halts g)) k k' h = refl
