-- Each scan is a run.
use Rattle.std.proofs.Common.{◌≡◌, ℕ, suc, ◌+◌, ◌≤◌, List, [], ◌∷◌, ◌++◌, length, refl, ap, sym, ◌∙◌, Option, Some, None, arith}
use Rattle.cd_meaning.specs.Stream.{Item, Value, Halt, Stop, End, Ended, Halted, Ending, Done, Halts, Act}
use Rattle.cd_meaning.specs.Run.{Stamp, stamp, Run, Then, Ends, acts_at, restamp}
use Rattle.cd_meaning.specs.Laws.{Rising, cut, EachStamp, IsStamp, IsRun}
use Rattle.cd_meaning.specs.Scan.{Reply, Go, Back, Fail, Scan, at_ready, replied, closed, scan}
use Rattle.cd_meaning.proofs.Rising.{rising_less, le_self}
use Rattle.cd_meaning.proofs.Cut.{cut_act, cut_last, cut_none}
use Rattle.cd_meaning.proofs.Restamp.{restamp_acts}

pub acts_rising : (n : ℕ) (s : Stamp) (acts : List Act) (r : Run) → n ≤ s.need → Rising s.need r → Rising n (acts_at s acts r)
acts_rising n s [] r h k = rising_less n s.need r h k
acts_rising n s (a ∷ acts) r h k = (h, acts_rising s.need s acts r (le_self s.need) k)

ready_rising : (n i : ℕ) (o : Option Value) (r : Run) → n ≤ i → Rising n r → Rising n (at_ready o i r)
ready_rising n i (Some v) r h k = h
ready_rising n i None r h k = k

pub closed_rising : (i : ℕ) (acts : List Act) (v : Ending) (e : End) → Rising (suc i) (closed i acts v e)
closed_rising i acts v Ended = acts_rising (suc i) (stamp (suc i) i) acts _ (le_self (suc i)) (le_self (suc i))
closed_rising i acts v (Halted h) = le_self (suc i)

-- where one value more stands before
abbrev pub later : Stamp → Stamp
later s = stamp (suc s.need) (suc s.net)

module _ {S : Type 0} (w : Scan S) where
  replied_rising : (i : ℕ) (p : Reply S) (k : S → Run) → ((t : S) → Rising (suc i) (k t)) → Rising (suc i) (replied i p k)
  replied_rising i (Go acts t) k h = acts_rising (suc i) (stamp (suc i) (suc i)) acts (k t) (le_self (suc i)) (h t)
  replied_rising i (Back v) k h = le_self (suc i)
  replied_rising i (Fail f) k h = le_self (suc i)

  pub scan_rising : (i : ℕ) (st : S) (xs : List Item) (e : End) → Rising i (scan w i st xs e)
  scan_rising i st [] e = ready_rising i i (w.ready st) _ (le_self i) (rising_less i (suc i) _ (omega arith) (closed_rising i (w.close st) (w.ending st) e))
  scan_rising i st (x ∷ xs) e =
      ready_rising i i (w.ready st) _ (le_self i) (rising_less i (suc i) _ (omega arith) (replied_rising i (w.step st x) _ (λ t. scan_rising (suc i) t xs e)))

  -- where a value is asked for, it is asked for first
  pub scan_asks : (i : ℕ) (st : S) (xs : List Item) (e : End) → w.ready st ≡ None → Rising (suc i) (scan w i st xs e)
  scan_asks i st [] e h = rw h (closed_rising i (w.close st) (w.ending st) e)
  scan_asks i st (x ∷ xs) e h = rw h (replied_rising i (w.step st x) _ (λ t. scan_rising (suc i) t xs e))

  cut_acts : (n : ℕ) (h : Halt) (s : Stamp) (acts : List Act) (r : Run) → s.need ≤ n → cut n h (acts_at s acts r) ≡ acts_at s acts (cut n h r)
  cut_acts n h s [] r k = refl
  cut_acts n h s (a ∷ acts) r k = cut_act n h s a _ k ∙ ap (Then s a) (cut_acts n h s acts r k)

  ready_known : (i : ℕ) (h : Halt) (o : Option Value) (r : Run) → Rising (suc i) r → at_ready o i (Ends (stamp (suc i) i) (Halts h)) ≡ cut i h (at_ready o i r)
  ready_known i h (Some v) r k = sym (cut_last i h (stamp i i) (Done v) (le_self i))
  ready_known i h None r k = sym (cut_none i h r k)

  front_known : (i : ℕ) (st : S) (ys : List Item) (h : Halt) (e : End) → scan w i st [] (Halted h) ≡ cut i h (scan w i st ys e)
  front_known i st [] h e = ready_known i h (w.ready st) _ (closed_rising i (w.close st) (w.ending st) e)
  front_known i st (y ∷ ys) h e = ready_known i h (w.ready st) _ (replied_rising i (w.step st y) _ (λ t. scan_rising (suc i) t ys e))

  ready_cut : (n i : ℕ) (h : Halt) (o : Option Value) (r r' : Run) → i ≤ n → r ≡ cut n h r' → at_ready o i r ≡ cut n h (at_ready o i r')
  ready_cut n i h (Some v) r r' k e = sym (cut_last n h (stamp i i) (Done v) k)
  ready_cut n i h None r r' k e = e

  replied_cut : (n i : ℕ) (h : Halt) (p : Reply S) (k k' : S → Run) → suc i ≤ n → ((t : S) → k t ≡ cut n h (k' t)) → replied i p k ≡ cut n h (replied i p k')
  replied_cut n i h (Go acts t) k k' j f = ap (acts_at (stamp (suc i) (suc i)) acts) (f t) ∙ sym (cut_acts n h (stamp (suc i) (suc i)) acts (k' t) j)
  replied_cut n i h (Back v) k k' j f = sym (cut_last n h (stamp (suc i) i) (Done v) j)
  replied_cut n i h (Fail g) k k' j f = sym (cut_last n h (stamp (suc i) (suc i)) (Halts (Stop g)) j)

  pub scan_known : (n i : ℕ) (st : S) (xs ys : List Item) (h : Halt) (e : End) → n ≡ i + length xs → scan w i st xs (Halted h) ≡ cut n h (scan w i st (xs ++ ys) e)
  scan_known n i st [] ys h e m = (let e1 : n ≡ i = omega (arith, m) in rw e1 (front_known i st ys h e))
  scan_known n i st (x ∷ xs) ys h e m =
      let m1 : n ≡ suc i + length xs = omega (arith, m) in
      ready_cut n i h (w.ready st) _ _ (omega (arith, m)) (replied_cut n i h (w.step st x) _ _ (omega (arith, m)) (λ t. scan_known n (suc i) t xs ys h e m1))

  acts_each : (P : Stamp → Type 0) (s : Stamp) (acts : List Act) (r : Run) → P s → EachStamp P r → EachStamp P (acts_at s acts r)
  acts_each P s [] r p k = k
  acts_each P s (a ∷ acts) r p k = (p, acts_each P s acts r p k)

  ready_each : (P : Stamp → Type 0) (i : ℕ) (o : Option Value) (r : Run) → P (stamp i i) → EachStamp P r → EachStamp P (at_ready o i r)
  ready_each P i (Some v) r p k = p
  ready_each P i None r p k = k

  closed_each : (P : Stamp → Type 0) (i : ℕ) (acts : List Act) (v : Ending) (e : End) → P (stamp (suc i) i) → EachStamp P (closed i acts v e)
  closed_each P i acts v Ended p = acts_each P _ acts _ p p
  closed_each P i acts v (Halted h) p = p

  replied_each : (P : Stamp → Type 0) (i : ℕ) (p : Reply S) (k : S → Run) → P (stamp (suc i) (suc i)) → P (stamp (suc i) i) → ((t : S) → EachStamp P (k t)) → EachStamp P (replied i p k)
  replied_each P i (Go acts t) k p q h = acts_each P _ acts (k t) p (h t)
  replied_each P i (Back v) k p q h = q
  replied_each P i (Fail f) k p q h = p

  pub scan_stamps : (n i : ℕ) (st : S) (xs : List Item) (e : End) → n ≡ i + length xs → EachStamp (IsStamp n) (scan w i st xs e)
  scan_stamps n i st [] e m =
      ready_each (IsStamp n) i (w.ready st) _ (record { asked = omega (arith, m); there = omega (arith, m); taken = omega arith; one_back = omega arith })
      (closed_each (IsStamp n) i _ _ e (record { asked = omega (arith, m); there = omega (arith, m); taken = omega arith; one_back = omega arith }))
  scan_stamps n i st (x ∷ xs) e m =
      let m1 : n ≡ suc i + length xs = omega (arith, m) in
      ready_each (IsStamp n) i (w.ready st) _ (record { asked = omega (arith, m); there = omega (arith, m); taken = omega arith; one_back = omega arith })
      (replied_each (IsStamp n) i (w.step st x) _
      (record { asked = omega (arith, m); there = omega (arith, m); taken = omega arith; one_back = omega arith })
      (record { asked = omega (arith, m); there = omega (arith, m); taken = omega arith; one_back = omega arith })
      (λ t. scan_stamps n (suc i) t xs e m1))

  pub scan_is_run : (st : S) → IsRun (scan w 0 st)
  scan_is_run st = record {
    rising = λ xs e. scan_rising 0 st xs e;
    stamps = λ xs e. scan_stamps (length xs) 0 st xs e (omega arith);
    known = λ xs ys h e. scan_known (length xs) 0 st xs ys h e (omega arith);
  }

  -- ---- one value later

  ready_later : (i : ℕ) (o : Option Value) (r r' : Run) → r ≡ restamp later r' → at_ready o (suc i) r ≡ restamp later (at_ready o i r')
  ready_later i (Some v) r r' h = refl
  ready_later i None r r' h = h

  closed_later : (i : ℕ) (acts : List Act) (v : Ending) (e : End) → closed (suc i) acts v e ≡ restamp later (closed i acts v e)
  closed_later i acts v Ended = sym (restamp_acts later (stamp (suc i) i) acts (Ends (stamp (suc i) i) v))
  closed_later i acts v (Halted h) = refl

  replied_later : (i : ℕ) (p : Reply S) (k k' : S → Run) → ((t : S) → k t ≡ restamp later (k' t)) → replied (suc i) p k ≡ restamp later (replied i p k')
  replied_later i (Go acts t) k k' h = ap (acts_at _ acts) (h t) ∙ sym (restamp_acts later (stamp (suc i) (suc i)) acts (k' t))
  replied_later i (Back v) k k' h = refl
  replied_later i (Fail f) k k' h = refl

  pub scan_later : (i : ℕ) (st : S) (xs : List Item) (e : End) → scan w (suc i) st xs e ≡ restamp later (scan w i st xs e)
  scan_later i st [] e = ready_later i (w.ready st) _ _ (closed_later i (w.close st) (w.ending st) e)
  scan_later i st (x ∷ xs) e = ready_later i (w.ready st) _ _ (replied_later i (w.step st x) _ _ (λ t. scan_later (suc i) t xs e))

  pub scan_ready : (i : ℕ) (st : S) (xs : List Item) (e : End) (v : Value) → w.ready st ≡ Some v → scan w i st xs e ≡ Ends (stamp i i) (Done v)
  scan_ready i st [] e v h = rw h
  scan_ready i st (x ∷ xs) e v h = rw h

-- ---- the same runs, where less is carried

abbrev pub carried : {S T : Type 0} → (S → T) → Reply S → Reply T
carried h (Go acts st) = Go acts (h st)
carried h (Back v) = Back v
carried h (Fail f) = Fail f

replied_by : {S T : Type 0} (h : S → T) (i : ℕ) (p : Reply S) (k : S → Run) (k' : T → Run) → ((st : S) → k st ≡ k' (h st)) → replied i p k ≡ replied i (carried h p) k'
replied_by h i (Go acts st) k k' f = ap (acts_at (stamp (suc i) (suc i)) acts) (f st)
replied_by h i (Back v) k k' f = refl
replied_by h i (Fail g) k k' f = refl

-- h is what u carries of what w carries
pub scan_by : {S T : Type 0} (w : Scan S) (u : Scan T) (h : S → T)
    → ((st : S) → w.ready st ≡ u.ready (h st)) → ((st : S) (x : Item) → carried h (w.step st x) ≡ u.step (h st) x)
    → ((st : S) → w.close st ≡ u.close (h st)) → ((st : S) → w.ending st ≡ u.ending (h st))
    → (i : ℕ) (st : S) (xs : List Item) (e : End) → scan w i st xs e ≡ scan u i (h st) xs e
scan_by w u h h1 h2 h3 h4 i st [] e = rw (h1 st, h3 st, h4 st)
scan_by w u h h1 h2 h3 h4 i st (x ∷ xs) e =
    rw (h1 st) (ap (at_ready (u.ready (h st)) i)
    (replied_by h i (w.step st x) _ _ (λ t. scan_by w u h h1 h2 h3 h4 (suc i) t xs e) ∙ ap (λ p. replied i p (λ t. scan u (suc i) t xs e)) (h2 st x)))
