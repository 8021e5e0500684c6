-- What moves do to runs.
use Rattle.std.proofs.Common.{Bool, true, false, ◌≡◌, ℕ, zero, suc, ◌+◌, List, [], ◌∷◌, ◌++◌, map, refl, ap, arith}
use Rattle.cd_meaning.specs.Stream.{Item, End, Ended, Act, Out, Do, Effect, end_of_ending}
use Rattle.cd_meaning.specs.Run.{Stamp, stamp, Run, outs, end_of, acts_at, restamp}
use Rattle.cd_meaning.specs.Rest.{IsToCome, past_by, net_if}
use Rattle.cd_meaning.proofs.Restamp.{ending_restamp}

-- ---- what may come
pub to_come : (f : ℕ) (ys : List Item) (e : End) → f ≡ 0 → IsToCome f ys e
to_come zero ys e h = tt
to_come (suc n) ys e h = absurd (omega arith)

pub end_to_come : (f : ℕ) → IsToCome f [] Ended
end_to_come zero = tt
end_to_come (suc n) = (refl, refl)

-- ---- what a view keeps

pub past_by_0 : (s : Stamp) → past_by 0 s ≡ s
past_by_0 s = let e : 0 + s.net ≡ s.net = omega arith in rw e

pub outs_emitted : (s : Stamp) (d : List Item) (r : Run) → outs (acts_at s (map Out d) r) ≡ d ++ outs r
outs_emitted s [] r = refl
outs_emitted s (x ∷ d) r = ap (λ l. x ∷ l) (outs_emitted s d r)

pub end_acts : (s : Stamp) (acts : List Act) (r : Run) → end_of (acts_at s acts r) ≡ end_of r
end_acts s [] r = refl
end_acts s (x ∷ acts) r = end_acts s acts r

pub outs_does : (s : Stamp) (es : List Effect) (r : Run) → outs (acts_at s (map Do es) r) ≡ outs r
outs_does s [] r = refl
outs_does s (x ∷ es) r = outs_does s es r

pub end_restamp : (g : Stamp → Stamp) (r : Run) → end_of (restamp g r) ≡ end_of r
end_restamp g r = ap end_of_ending (ending_restamp g r)

pub past_start : (k f : ℕ) → past_by k (stamp f 0) ≡ stamp f k
past_start k f = let e : k + 0 ≡ k = omega arith in rw e

pub net_if_twice : (b : Bool) (s : Stamp) → net_if b (net_if b s) ≡ net_if b s
net_if_twice true s = refl
net_if_twice false s = refl
