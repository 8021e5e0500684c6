-- Runs with other stamps.
use Rattle.std.proofs.Common.{◌≡◌, ℕ, zero, suc, ◌-◌, ◌∷◌, refl, ap, arith, List, []}
use Rattle.cd_meaning.specs.Stream.{Act, Out, Do}
use Rattle.cd_meaning.specs.Laws.{less_by}
use Rattle.cd_meaning.specs.Run.{Stamp, stamp, Run, Then, Ends, outs, ending, restamp, acts_at}

pub restamp_twice : (f g : Stamp → Stamp) (r : Run) → restamp f (restamp g r) ≡ restamp (λ s. f (g s)) r
restamp_twice f g (Then s a r) = ap (λ t. Then (f (g s)) a t) (restamp_twice f g r)
restamp_twice f g (Ends s e) = refl

pub restamp_same : (f g : Stamp → Stamp) (r : Run) → ((s : Stamp) → f s ≡ g s) → restamp f r ≡ restamp g r
restamp_same f g (Then s a r) h = rw (h s, restamp_same f g r h)
restamp_same f g (Ends s e) h = rw (h s)

abbrev pub one_less : ℕ → ℕ
one_less zero = zero
one_less (suc n) = n

abbrev pub lowered_1 : Stamp → Stamp
lowered_1 s = stamp (one_less s.need) s.net

pub restamp_id : (f : Stamp → Stamp) (r : Run) → ((s : Stamp) → f s ≡ s) → restamp f r ≡ r
restamp_id f (Then s a r) h = rw (h s, restamp_id f r h)
restamp_id f (Ends s e) h = rw (h s)

pub less_by_0 : (s : Stamp) → less_by 0 s ≡ s
less_by_0 s = let e : s.need - 0 ≡ s.need = omega arith in rw e

pub restamp_acts : (g : Stamp → Stamp) (s : Stamp) (acts : List Act) (r : Run) → restamp g (acts_at s acts r) ≡ acts_at (g s) acts (restamp g r)
restamp_acts g s [] r = refl
restamp_acts g s (x ∷ acts) r = ap (λ t. Then (g s) x t) (restamp_acts g s acts r)

pub outs_restamp : (g : Stamp → Stamp) (r : Run) → outs (restamp g r) ≡ outs r
outs_restamp g (Then s (Out x) r) = ap (λ l. x ∷ l) (outs_restamp g r)
outs_restamp g (Then s (Do e) r) = outs_restamp g r
outs_restamp g (Ends s e) = refl

pub ending_restamp : (g : Stamp → Stamp) (r : Run) → ending (restamp g r) ≡ ending r
ending_restamp g (Then s a r) = ending_restamp g r
ending_restamp g (Ends s e) = refl

pub stamp_same : (a b c d : ℕ) → a ≡ b → c ≡ d → stamp a c ≡ stamp b d
stamp_same a b c d h k = rw (h, k)
