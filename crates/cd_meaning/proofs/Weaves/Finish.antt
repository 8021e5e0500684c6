-- The weave with any finish, step by step.
use Rattle.std.proofs.Common.{◌≡◌, ℕ, zero, suc, ◌≤◌, List, [], ◌∷◌, length, map, refl, ap, sym, ◌∙◌, subst, arith}
use Rattle.cd_meaning.specs.Stream.{Item, Value, Done, Halts, Out, Do, Effect}
use Rattle.cd_meaning.specs.Run.{Stamp, stamp, Run, Then, Ends, acts_at, restamp, follow}
use Rattle.cd_meaning.specs.Fusion.{after, place, woven}
use Rattle.cd_meaning.specs.Laws.{Rising, less_by}
use Rattle.cd_meaning.proofs.Restamp.{one_less, lowered_1, restamp_twice, restamp_same, restamp_id, less_by_0}
use Rattle.cd_meaning.proofs.Rising.{rising_less, le_self}
use Rattle.cd_meaning.proofs.Runs.Results.{after_rising, drain_rising}
use Rattle.cd_meaning.specs.Rest.{weave_by, drained_finish}
use Rattle.cd_meaning.specs.Fusion.{drain}
use Rattle.cd_meaning.proofs.Weaves.Steps.{woven_out, woven_same, place_any, woven_restamp, woven_needs, place_out, place_restamp, between_ends, place_ends, rising_lowered, one_less-minus, place_do, woven_do, effects_to_do, between_rising}

-- what a finish may read of a
pub record IsFinish (finish : Stamp → Run → ℕ → Value → Run) : Type 0 where
  pub out : (s : Stamp) (x : Item) (a : Run) (j : ℕ) (v : Value) → finish s (Then s (Out x) a) j v ≡ finish s a (one_less j) v
  pub any : (s t : Stamp) (a : Run) (j : ℕ) (v : Value) → 1 ≤ j → finish s a j v ≡ finish t a j v
  pub does : (s t : Stamp) (e : Effect) (a : Run) (j : ℕ) (v : Value) → 1 ≤ j → finish s (Then t (Do e) a) j v ≡ finish s a j v
  pub stamps : (g : Stamp → Stamp) (s : Stamp) (a : Run) (j : ℕ) (v : Value) → finish (g s) (restamp g a) j v ≡ restamp g (finish s a j v)
  pub rising : (s : Stamp) (a : Run) (j : ℕ) (v : Value) → Rising s.need a → Rising (place s j a).need (finish s a j v)

module _ (finish : Stamp → Run → ℕ → Value → Run) (F : IsFinish finish) where
  pub by_any : (s t : Stamp) (a b : Run) → Rising 1 b → weave_by finish s a b ≡ weave_by finish t a b
  by_any s t a b k = woven_same _ _ _ _ 1 a 0 b (λ j h. place_any s t j a h) (λ u v h. F.any s t a u.need v h) k

  pub by_restamp : (g : Stamp → Stamp) (s : Stamp) (a b : Run) → weave_by finish (g s) (restamp g a) b ≡ restamp g (weave_by finish s a b)
  by_restamp g s a b = woven_restamp _ _ _ _ g a 0 b (λ j. place_restamp g s j a) (λ t v. F.stamps g s a t.need v)

  pub by_needs : (g : Stamp → Stamp) (s : Stamp) (a b : Run) → ((t : Stamp) → (g t).need ≡ t.need) → weave_by finish s a (restamp g b) ≡ weave_by finish s a b
  by_needs g s a b h = woven_needs _ _ _ g a 0 b h (λ t v. ap (λ n. finish s a n v) (h t))

  by_out : (s : Stamp) (x : Item) (a b : Run) → Rising 0 b → weave_by finish s (Then s (Out x) a) b ≡ weave_by finish s a (restamp lowered_1 b)
  by_out s x a b k = woven_out _ _ _ _ s x a 0 b (λ j. place_out s x a j) (λ t v. F.out s x a t.need v) k

  by_outs : (s : Stamp) (d : List Item) (a b : Run) → Rising 0 b
      → weave_by finish s (acts_at s (map Out d) a) b ≡ weave_by finish s a (restamp (less_by (length d)) b)
  by_outs s [] a b k = ap (weave_by finish s a) (sym (restamp_id (less_by 0) b (λ t. less_by_0 t)))
  by_outs s (x ∷ d) a b k =
      by_out s x (acts_at s (map Out d) a) b k
      ∙ by_outs s d a (restamp lowered_1 b) (rising_lowered 0 b k)
      ∙ ap (weave_by finish s a) (restamp_twice (less_by (length d)) lowered_1 b
      ∙ restamp_same _ _ b (λ t. ap (λ n. stamp n t.net) (one_less-minus t.need (length d))))

  pub by_up_emits : (s s1 : Stamp) (d : List Item) (a b : Run) → Rising 1 b
      → weave_by finish s (acts_at s1 (map Out d) a) b ≡ weave_by finish s1 a (restamp (less_by (length d)) b)
  by_up_emits s s1 d a b k = by_any s s1 _ b k ∙ by_outs s1 d a b (rising_less 0 1 b (omega arith) k)

  by_does : (s t : Stamp) (e : Effect) (a : Run) (i : ℕ) (b : Run) → 1 ≤ i → Rising i b
      → woven (λ j. place s j (Then t (Do e) a)) (λ u v. finish s (Then t (Do e) a) u.need v) (Then t (Do e) a) i b
      ≡ woven (λ j. place s j a) (λ u v. finish s a u.need v) a i b
  by_does s t e a i b h k =
      woven_same _ (λ j. place s j a) _ (λ u v. finish s a u.need v) 1 (Then t (Do e) a) i b
      (λ j l. place_do s t e j a) (λ u v l. F.does s t e a u.need v l) (rising_less 1 i b h k)
      ∙ woven_do _ _ _ _ t e a i b (λ j. refl) (λ u v. refl) h k

  pub by_up_does : (s t : Stamp) (e : Effect) (a b : Run) → Rising 1 b → weave_by finish s (Then t (Do e) a) b ≡ Then t (Do e) (weave_by finish s a b)
  by_up_does s t e a (Then u act b) k =
      rw (effects_to_do t e a u.need _ k.0, place_do s t e u.need a, by_does s t e a u.need b k.0 k.1)
  by_up_does s t e a (Ends u (Done v)) k = rw (effects_to_do t e a u.need _ k, F.does s t e a u.need v k)
  by_up_does s t e a (Ends u (Halts h)) k = rw (effects_to_do t e a u.need _ k, place_do s t e u.need a)

  pub by_up_does_all : (s t : Stamp) (es : List Effect) (a b : Run) → Rising 1 b
      → weave_by finish s (acts_at t (map Do es) a) b ≡ acts_at t (map Do es) (weave_by finish s a b)
  by_up_does_all s t [] a b k = refl
  by_up_does_all s t (e ∷ es) a b k = by_up_does s t e _ b k ∙ ap (λ r. Then t (Do e) r) (by_up_does_all s t es a b k)

  by_rising_from : (s : Stamp) (a : Run) (i : ℕ) (b : Run) → Rising s.need a → Rising i b
      → Rising (place s i a).need (woven (λ j. place s j a) (λ t v. finish s a t.need v) a i b)
  by_rising_from s a i (Then t act b) ka kb =
      between_rising s i t.need a _ kb.0 ka (le_self (place s t.need a).need, by_rising_from s a t.need b ka kb.1)
  by_rising_from s a i (Ends t (Done v)) ka kb = between_rising s i t.need a _ kb ka (F.rising s a t.need v ka)
  by_rising_from s a i (Ends t (Halts h)) ka kb = between_rising s i t.need a _ kb ka (le_self (place s t.need a).need)

  pub by_rising : (s : Stamp) (a b : Run) → Rising s.need a → Rising 0 b → Rising s.need (weave_by finish s a b)
  by_rising s a b ka kb = by_rising_from s a 0 b ka kb

  pub by_asks : (s : Stamp) (a b : Run) → Rising 1 a → Rising 1 b → Rising 1 (weave_by finish s a b)
  by_asks s a b ka kb =
      subst (Rising 1) (by_any (stamp 1 0) s a b kb) (by_rising (stamp 1 0) a b ka (rising_less 0 1 b (omega arith) kb))

  woven_finished : (s t : Stamp) (r : Value) (pair : Value → Value) (i : ℕ) (b : Run)
      → ((j : ℕ) (v : Value) → 1 ≤ j → finish s (Ends t (Done r)) j v ≡ Ends t (Done (pair v))) → Rising 1 b
      → woven (λ j. place s j (Ends t (Done r))) (λ u v. finish s (Ends t (Done r)) u.need v) (Ends t (Done r)) i b
      ≡ follow (restamp (λ u. t) b) (λ u v. Ends u (Done (pair v)))
  woven_finished s t r pair i (Then u act b) h k =
      rw (between_ends i u.need t (Done r) _, place_ends s t u.need (Done r) k.0, woven_finished s t r pair u.need b h (rising_less 1 u.need b k.0 k.1))
  woven_finished s t r pair i (Ends u (Done v)) h k = rw (between_ends i u.need t (Done r) _, h u.need v k)
  woven_finished s t r pair i (Ends u (Halts g)) h k = rw (between_ends i u.need t (Done r) _, place_ends s t u.need (Done r) k)

  -- a has ended with r, and b was told so
  pub by_ended : (s t : Stamp) (r : Value) (pair : Value → Value) (b : Run)
      → ((j : ℕ) (v : Value) → 1 ≤ j → finish s (Ends t (Done r)) j v ≡ Ends t (Done (pair v))) → Rising 1 b
      → weave_by finish s (Ends t (Done r)) b ≡ follow (restamp (λ u. t) b) (λ u v. Ends u (Done (pair v)))
  by_ended s t r pair b h k = woven_finished s t r pair 0 b h k

-- ---- the finishes

drain_out : (pair : Value → Value → Value) (s : Stamp) (x : Item) (a : Run) (j : ℕ) (v : Value) → drained_finish pair s (Then s (Out x) a) j v ≡ drained_finish pair s a (one_less j) v
drain_out pair s x a zero v = refl
drain_out pair s x a (suc j) v = refl

drain_does : (pair : Value → Value → Value) (s t : Stamp) (e : Effect) (a : Run) (j : ℕ) (v : Value) → 1 ≤ j → drained_finish pair s (Then t (Do e) a) j v ≡ drained_finish pair s a j v
drain_does pair s t e a zero v h = absurd (omega arith)
drain_does pair s t e a (suc j) v h = refl

pub drain_restamp : (pair : Value → Value) (g : Stamp → Stamp) (a : Run) → drain pair (restamp g a) ≡ restamp g (drain pair a)
drain_restamp pair g (Then s (Out x) a) = drain_restamp pair g a
drain_restamp pair g (Then s (Do e) a) = ap (Then (g s) (Do e)) (drain_restamp pair g a)
drain_restamp pair g (Ends s (Done v)) = refl
drain_restamp pair g (Ends s (Halts h)) = refl

after_restamp : (g : Stamp → Stamp) (j : ℕ) (a : Run) → after j (restamp g a) ≡ restamp g (after j a)
after_restamp g zero a = refl
after_restamp g (suc j) (Then s (Out x) a) = after_restamp g j a
after_restamp g (suc j) (Then s (Do e) a) = after_restamp g (suc j) a
after_restamp g (suc j) (Ends s e) = refl

pub drained_is_finish : (pair : Value → Value → Value) → IsFinish (drained_finish pair)
drained_is_finish pair = record {
  out = drain_out pair;
  any = λ s t a j v h. refl;
  does = drain_does pair;
  stamps = λ g s a j v. ap (drain (λ u. pair u v)) (after_restamp g j a) ∙ drain_restamp (λ u. pair u v) g (after j a);
  rising = λ s a j v k. drain_rising (λ u. pair u v) (place s j a).need (after j a) (after_rising s j a k);
}
