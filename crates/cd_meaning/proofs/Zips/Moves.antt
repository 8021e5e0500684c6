-- Each turn of a zip on pieces is a step of the merge.
use Rattle.std.proofs.Common.{◌≡◌, ℕ, zero, suc, ◌+◌, ◌-◌, ◌≤◌, ◌<◌, ◌⊎◌, inl, inr, min, max, List, [], ◌∷◌, length, refl, ap, sym, ◌∙◌, Bool, true, false, nat_le, if◌then◌else◌, arith}
use Rattle.std.proofs.lemmas.Bool.{le-leb, lt-leb, cases_lt}
use Rattle.cd_meaning.specs.Stream.{Item, Value, End, Ending, Done, Halts, Act}
use Rattle.cd_meaning.specs.Run.{Stamp, stamp, Run, Then, Ends, acts_at, restamp}
use Rattle.cd_meaning.specs.Zips.{placed, ended, merge}
use Rattle.cd_meaning.specs.Fusion.{both}
use Rattle.cd_meaning.specs.Laws.{Rising}
use Rattle.cd_meaning.specs.Rest.{Rest, Grade, needs, net_if, view, IsToCome, past_by, Moves, Gets, Asks, Finishes, reads_first, pending, zipped}
use Rattle.cd_meaning.proofs.Rising.{rising_less, le_self}
use Rattle.cd_meaning.proofs.Restamp.{restamp_same, restamp_id, stamp_same}
use Rattle.cd_meaning.proofs.Zips.Runs.{later, merge_first, merge_second, merge_rising}
use Rattle.cd_meaning.proofs.Moves.Laws.{to_come, past_by_0}
use Rattle.cd_meaning.proofs.Moves.Fused.{nets_view}

-- ---- which act is first

pub left_acts : (n : ℕ) (s : Stamp) (acts : List Act) (a b : Run) → Rising s.need b → merge n (acts_at s acts a) b ≡ acts_at (stamp s.need (min s.need n)) acts (merge n a b)
left_acts n s [] a b h = refl
left_acts n s (x ∷ acts) a b h = merge_first n s x _ b (later s.need s.need b (le_self s.need) h) ∙ ap (Then (stamp s.need (min s.need n)) x) (left_acts n s acts a b h)

pub right_acts : (n : ℕ) (t : Stamp) (acts : List Act) (a b : Run) → Rising (suc t.need) a → merge n a (acts_at t acts b) ≡ acts_at (stamp t.need (min t.need n)) acts (merge n a b)
right_acts n t [] a b h = refl
right_acts n t (x ∷ acts) a b h = merge_second n t x a _ (later (suc t.need) (suc t.need) a (le_self (suc t.need)) h) ∙ ap (Then (stamp t.need (min t.need n)) x) (right_acts n t acts a b h)

-- ---- only needs are read

module _ (f : Stamp → Stamp) (F : (s : Stamp) → (f s).need ≡ s.need) where
  placed_needs : (n : ℕ) (s : Stamp) (x : Act) (k k' : Run → Run) (b : Run) → ((r : Run) → k r ≡ k' r) → placed n (f s) x k b ≡ placed n s x k' b
  placed_needs n s x k k' (Then t y b) h = rw (F s, h (Then t y b), placed_needs n s x k k' b h)
  placed_needs n s x k k' (Ends t (Done v)) h = rw (F s, h (Ends t (Done v)))
  placed_needs n s x k k' (Ends t (Halts g)) h = rw (F s, h (Ends t (Halts g)))

  ended_needs : (n : ℕ) (s : Stamp) (e : Ending) (b : Run) → ended n (f s) e b ≡ ended n s e b
  ended_needs n s (Done u) (Then t y b) = ap (Then (stamp t.need (min t.need n)) y) (ended_needs n s (Done u) b)
  ended_needs n s (Done u) (Ends t (Done v)) = rw (F s)
  ended_needs n s (Done u) (Ends t (Halts h)) = refl
  ended_needs n s (Halts g) (Then t y b) = rw (F s, ended_needs n s (Halts g) b)
  ended_needs n s (Halts g) (Ends t (Done v)) = rw (F s)
  ended_needs n s (Halts g) (Ends t (Halts h)) = rw (F s)

  pub merge_left : (n : ℕ) (a b : Run) → merge n (restamp f a) b ≡ merge n a b
  merge_left n (Then s x a) b = placed_needs n s x (merge n (restamp f a)) (merge n a) b (λ r. merge_left n a r)
  merge_left n (Ends s e) b = ended_needs n s e b

  placed_right : (n : ℕ) (s : Stamp) (x : Act) (k k' : Run → Run) (b : Run) → ((r : Run) → k (restamp f r) ≡ k' r) → placed n s x k (restamp f b) ≡ placed n s x k' b
  placed_right n s x k k' (Then t y b) h = rw (h (Then t y b), F t, placed_right n s x k k' b h)
  placed_right n s x k k' (Ends t (Done v)) h = rw (h (Ends t (Done v)))
  placed_right n s x k k' (Ends t (Halts g)) h = rw (h (Ends t (Halts g)), F t)

  ended_right : (n : ℕ) (s : Stamp) (e : Ending) (b : Run) → ended n s e (restamp f b) ≡ ended n s e b
  ended_right n s (Done u) (Then t y b) = rw (F t, ended_right n s (Done u) b)
  ended_right n s (Done u) (Ends t (Done v)) = rw (F t)
  ended_right n s (Done u) (Ends t (Halts h)) = rw (F t)
  ended_right n s (Halts g) (Then t y b) = rw (F t, ended_right n s (Halts g) b)
  ended_right n s (Halts g) (Ends t (Done v)) = refl
  ended_right n s (Halts g) (Ends t (Halts h)) = rw (F t)

  pub merge_right : (n : ℕ) (a b : Run) → merge n a (restamp f b) ≡ merge n a b
  merge_right n (Then s x a) b = placed_right n s x (merge n a) (merge n a) b (λ r. merge_right n a r)
  merge_right n (Ends s e) b = ended_right n s e b

-- runs of the same needs have the same merge
pub merge_same : (n : ℕ) (a a' b b' : Run) → view needs a ≡ view needs a' → view needs b ≡ view needs b' → merge n a b ≡ merge n a' b'
merge_same n a a' b b' ha hb =
    sym (merge_left (net_if false) (λ s. refl) n a b)
    ∙ ap (λ r. merge n r b) (sym (nets_view false a) ∙ ha ∙ nets_view false a')
    ∙ merge_left (net_if false) (λ s. refl) n a' b
    ∙ sym (merge_right (net_if false) (λ s. refl) n a' b)
    ∙ ap (merge n a') (sym (nets_view false b) ∙ hb ∙ nets_view false b')
    ∙ merge_right (net_if false) (λ s. refl) n a' b'

-- ---- one value more is taken in

-- one value is in hand
abbrev pub lower : Stamp → Stamp
lower s = stamp (s.need - 1) s.net

one_more : (j n : ℕ) → 1 ≤ j → stamp (j - 1) (min j (suc n)) ≡ past_by 1 (stamp (j - 1) (min (j - 1) n))
one_more j n h = stamp_same (j - 1) (j - 1) (min j (suc n)) (1 + min (j - 1) n) refl (omega arith)

le_down : (i j : ℕ) → 1 ≤ i → 1 ≤ j → nat_le i j ≡ nat_le (i - 1) (j - 1)
le_down i j h k = by_cases i j h k (cases_lt j i) where
  by_cases : (i j : ℕ) → 1 ≤ i → 1 ≤ j → (j < i) ⊎ (i ≤ j) → nat_le i j ≡ nat_le (i - 1) (j - 1)
  by_cases i j h k (inl c) = lt-leb i j c ∙ sym (lt-leb (i - 1) (j - 1) (omega arith))
  by_cases i j h k (inr c) = le-leb i j c ∙ sym (le-leb (i - 1) (j - 1) (omega arith))

choose : (b c : Bool) (p q p' q' : Run) → b ≡ c → restamp lower p ≡ restamp (past_by 1) p' → restamp lower q ≡ restamp (past_by 1) q'
    → restamp lower (if b then p else q) ≡ restamp (past_by 1) (if c then p' else q')
choose true true p q p' q' e h1 h2 = h1
choose false false p q p' q' e h1 h2 = h2
choose true false p q p' q' e h1 h2 = cc
choose false true p q p' q' e h1 h2 = cc

then_more : (n j : ℕ) (x : Act) (r r' : Run) → 1 ≤ j → restamp lower r ≡ restamp (past_by 1) r'
    → restamp lower (Then (stamp j (min j (suc n))) x r) ≡ restamp (past_by 1) (Then (stamp (j - 1) (min (j - 1) n)) x r')
then_more n j x r r' h e = ap (λ q. Then q x (restamp lower r)) (one_more j n h) ∙ ap (Then (past_by 1 (stamp (j - 1) (min (j - 1) n))) x) e

ends_more : (n j : ℕ) (e : Ending) → 1 ≤ j → restamp lower (Ends (stamp j (min j (suc n))) e) ≡ restamp (past_by 1) (Ends (stamp (j - 1) (min (j - 1) n)) e)
ends_more n j e h = ap (λ q. Ends q e) (one_more j n h)

placed_down : (n : ℕ) (s : Stamp) (x : Act) (k k' : Run → Run) (b : Run) → 1 ≤ s.need → Rising 1 b
    → ((r : Run) → Rising 1 r → restamp lower (k r) ≡ restamp (past_by 1) (k' (restamp lower r)))
    → restamp lower (placed (suc n) s x k b) ≡ restamp (past_by 1) (placed n (lower s) x k' (restamp lower b))
placed_down n s x k k' (Then t y b) h j f =
    choose (nat_le s.need t.need) (nat_le (s.need - 1) (t.need - 1)) _ _ _ _ (le_down s.need t.need h j.0)
    (then_more n s.need x _ _ h (f (Then t y b) j))
    (then_more n t.need y _ _ j.0 (placed_down n s x k k' b h (rising_less 1 t.need b j.0 j.1) f))
placed_down n s x k k' (Ends t (Done v)) h j f = then_more n s.need x _ _ h (f (Ends t (Done v)) j)
placed_down n s x k k' (Ends t (Halts g)) h j f =
    choose (nat_le s.need t.need) (nat_le (s.need - 1) (t.need - 1)) _ _ _ _ (le_down s.need t.need h j)
    (then_more n s.need x _ _ h (f (Ends t (Halts g)) j)) (ends_more n t.need (Halts g) j)

max_down : (i j : ℕ) → 1 ≤ i → 1 ≤ j → max i j - 1 ≡ max (i - 1) (j - 1)
max_down i j h k = omega arith

ended_down : (n : ℕ) (s : Stamp) (e : Ending) (b : Run) → 1 ≤ s.need → Rising 1 b → restamp lower (ended (suc n) s e b) ≡ restamp (past_by 1) (ended n (lower s) e (restamp lower b))
ended_down n s (Done u) (Then t y b) h j = then_more n t.need y _ _ j.0 (ended_down n s (Done u) b h (rising_less 1 t.need b j.0 j.1))
ended_down n s (Done u) (Ends t (Done v)) h j =
    ends_more n (max s.need t.need) (Done (both u v)) (omega arith)
    ∙ ap (λ i. restamp (past_by 1) (Ends (stamp i (min i n)) (Done (both u v)))) (max_down s.need t.need h j)
ended_down n s (Done u) (Ends t (Halts g)) h j = ends_more n t.need (Halts g) j
ended_down n s (Halts g) (Then t y b) h j =
    choose (nat_le s.need t.need) (nat_le (s.need - 1) (t.need - 1)) _ _ _ _ (le_down s.need t.need h j.0)
    (ends_more n s.need (Halts g) h) (then_more n t.need y _ _ j.0 (ended_down n s (Halts g) b h (rising_less 1 t.need b j.0 j.1)))
ended_down n s (Halts g) (Ends t (Done v)) h j = ends_more n s.need (Halts g) h
ended_down n s (Halts g) (Ends t (Halts k)) h j =
    choose (nat_le s.need t.need) (nat_le (s.need - 1) (t.need - 1)) _ _ _ _ (le_down s.need t.need h j)
    (ends_more n s.need (Halts g) h) (ends_more n t.need (Halts k) j)

-- both parts ask for a value, and one more is there
pub merge_down : (n : ℕ) (a b : Run) → Rising 1 a → Rising 1 b → restamp lower (merge (suc n) a b) ≡ restamp (past_by 1) (merge n (restamp lower a) (restamp lower b))
merge_down n (Then s x a) b h j = placed_down n s x (merge (suc n) a) (merge n (restamp lower a)) b h.0 j (λ r k. merge_down n a r (rising_less 1 s.need a h.0 h.1) k)
merge_down n (Ends s e) b h j = ended_down n s e b h j

-- ---- the moves

pub min_to_come : (f : ℕ) (ys : List Item) (e : End) → IsToCome f ys e → min f (length ys) ≡ 0
min_to_come zero ys e i = omega arith
min_to_come (suc f) ys e i = rw i.0 (omega arith)

-- the left part moves
pub zip_left : (g : Grade) (acts : List Act) (a a' b : Rest) → ((ys : List Item) (e : End) → IsToCome a.floor ys e → Rising a.floor (b.run ys e))
    → Moves needs acts a a' → Moves g acts (zipped a.floor a b) (zipped a.floor a' b)
zip_left g acts a a' b h m = record {
  read = [];
  unread = refl;
  floor = refl;
  run = λ ys e i.
      let k = length m.read in
      let s = stamp a.floor k in
      let n = length ys in
      let r = a'.run ys e in
      let w = merge n r (b.run ys e) in
      ap (view g) (
      merge_same n (a.run ys e) (acts_at s acts (restamp (past_by k) r)) (b.run ys e) (b.run ys e) (m.run ys e i) refl
      ∙ left_acts n s acts (restamp (past_by k) r) (b.run ys e) (h ys e i)
      ∙ ap (λ t. acts_at (stamp a.floor t) acts (merge n (restamp (past_by k) r) (b.run ys e))) (min_to_come a.floor ys e i)
      ∙ ap (acts_at (stamp a.floor 0) acts) (merge_left (past_by k) (λ t. refl) n r (b.run ys e) ∙ sym (restamp_id (past_by 0) w past_by_0)));
}

-- the right part moves, and the left one waits
pub zip_right : (g : Grade) (acts : List Act) (a b b' : Rest) → Asks a → b.floor ≡ 0 → Moves needs acts b b' → Moves g acts (zipped 0 a b) (zipped 0 a b')
zip_right g acts a b b' q z m = record {
  read = [];
  unread = refl;
  floor = refl;
  run = λ ys e i.
      let k = length m.read in
      let n = length ys in
      let r = b'.run ys e in
      let w = merge n (a.run ys e) r in
      ap (view g) (
      merge_same n (a.run ys e) (a.run ys e) (b.run ys e) (acts_at (stamp 0 k) acts (restamp (past_by k) r)) refl
      (m.run ys e (to_come b.floor ys e z) ∙ ap (λ f. view needs (acts_at (stamp f k) acts (restamp (past_by k) r))) z)
      ∙ right_acts n (stamp 0 k) acts (a.run ys e) (restamp (past_by k) r) (q.first ys e)
      ∙ ap (λ t. acts_at (stamp 0 t) acts (merge n (a.run ys e) (restamp (past_by k) r))) (min_to_come 0 ys e tt)
      ∙ ap (acts_at (stamp 0 0) acts) (merge_right (past_by k) (λ t. refl) n (a.run ys e) r ∙ sym (restamp_id (past_by 0) w past_by_0)));
}

-- both ask: the whole asks
pub zip_asks : (a b : Rest) → Asks a → Asks b → Asks (zipped 0 a b)
zip_asks a b p q = record {
  not_told = refl;
  first = λ ys e. merge_rising (length ys) 1 (a.run ys e) (b.run ys e) (p.first ys e) (q.first ys e);
  halted = λ h. (0, rw ((p.halted h).1, (q.halted h).1));
}

-- a value is in hand: the left part takes it, and it waits for the right one
pub zip_given : (g : Grade) (c : Item) (a a' b : Rest) → Asks a → Asks b → Gets needs (c ∷ []) a a'
    → Moves g [] (pending (c ∷ []) 0 (zipped 0 a b)) (zipped 0 a' (pending (c ∷ []) 0 b))
zip_given g c a a' b p q m = record {
  read = c ∷ [];
  unread = refl;
  floor = refl;
  run = λ ys e i.
      let n = length ys in
      let ra = a.run (c ∷ ys) e in
      let rb = b.run (c ∷ ys) e in
      ap (view g) (
      restamp_same (reads_first 0 1) lower (merge (suc n) ra rb) (λ s. stamp_same (max 0 (s.need - 1)) (s.need - 1) s.net s.net (omega arith) refl)
      ∙ merge_down n ra rb (p.first (c ∷ ys) e) (q.first (c ∷ ys) e)
      ∙ ap (restamp (past_by 1)) (
      merge_same n (restamp lower ra) (a'.run ys e) (restamp lower rb) (restamp (reads_first 0 1) rb) (sym (m.run ys e))
      (ap (view needs) (restamp_same lower (reads_first 0 1) rb (λ s. stamp_same (s.need - 1) (max 0 (s.need - 1)) s.net s.net (omega arith) refl)))));
}

-- both have ended
pub zip_finishes : (g : Grade) (u v : Value) (x y : List Item) (f : ℕ) (a b : Rest) → max a.floor b.floor ≡ f → Finishes needs u x a → Finishes needs v y b
    → ((ys : List Item) (e : End) → IsToCome f ys e → IsToCome a.floor ys e × IsToCome b.floor ys e) → Finishes g (both u v) [] (zipped f a b)
zip_finishes g u v x y f a b z m n t = record {
  read = [];
  unread = refl;
  run = λ ys e i.
      let i2 = t ys e i in
      ap (view g) (
      merge_same (length ys) (a.run ys e) (Ends (stamp a.floor (length m.read)) (Done u)) (b.run ys e) (Ends (stamp b.floor (length n.read)) (Done v)) (m.run ys e i2.0) (n.run ys e i2.1)
      ∙ ap (λ j. Ends (stamp j (min j (length ys))) (Done (both u v))) z
      ∙ ap (λ j. Ends (stamp f j) (Done (both u v))) (min_to_come f ys e i));
}
