-- Zips on pieces that are told the end, that stop, or of which one part has ended.
use Rattle.std.proofs.Common.{◌≡◌, ℕ, suc, ◌-◌, ◌≤◌, min, max, List, [], ◌∷◌, length, refl, ap, sym, ◌∙◌, subst, arith}
use Rattle.cd_meaning.specs.Stream.{Item, Value, Halt, End, Ended, Done, Halts, Act}
use Rattle.cd_meaning.specs.Run.{Stamp, stamp, Run, Then, Ends, acts_at, restamp}
use Rattle.cd_meaning.specs.Zips.{merge}
use Rattle.cd_meaning.specs.Laws.{Rising}
use Rattle.cd_meaning.specs.Rest.{Rest, Grade, needs, view, IsToCome, past_by, Moves, Gets, GetsEnd, Asks, Finishes, Stuck, reads_first, pending, over, zipped}
use Rattle.cd_meaning.proofs.Rising.{le_self}
use Rattle.cd_meaning.proofs.Restamp.{restamp_same, restamp_id, stamp_same}
use Rattle.cd_meaning.proofs.Moves.Laws.{past_by_0}
use Rattle.cd_meaning.proofs.Zips.Runs.{bounded, later, merge_first_halts, merge_second_halts, rising_left, rising_right}
use Rattle.cd_meaning.proofs.Zips.Moves.{lower, merge_down, merge_right, merge_same, min_to_come, zip_left}

-- ---- one side is done: where it was, at most where the other one is, makes no difference

first_done_any : (n m : ℕ) (s s' : Stamp) (u : Value) (b : Run) → s.need ≤ m → s'.need ≤ m → Rising m b → merge n (Ends s (Done u)) b ≡ merge n (Ends s' (Done u)) b
first_done_any n m s s' u (Then t y b) h h' k =
    (let k0 = k.0 in ap (Then (bounded n t) y) (first_done_any n t.need s s' u b (omega arith) (omega arith) k.1))
first_done_any n m s s' u (Ends t (Done v)) h h' k = (let e : max s.need t.need ≡ max s'.need t.need = omega arith in rw e)
first_done_any n m s s' u (Ends t (Halts g)) h h' k = refl

second_done_any : (n m : ℕ) (t t' : Stamp) (v : Value) (a : Run) → t.need ≤ m → t'.need ≤ m → Rising m a → merge n a (Ends t (Done v)) ≡ merge n a (Ends t' (Done v))
second_done_any n m t t' v (Then s x a) h h' k =
    (let k0 = k.0 in ap (Then (bounded n s) x) (second_done_any n s.need t t' v a (omega arith) (omega arith) k.1))
second_done_any n m t t' v (Ends s (Done u)) h h' k = (let e : max s.need t.need ≡ max s.need t'.need = omega arith in rw e)
second_done_any n m t t' v (Ends s (Halts g)) h h' k = refl

-- ---- a part ends

pub zip_first_over : (g : Grade) (u : Value) (rest : List Item) (f : ℕ) (a b : Rest) → a.floor ≡ f → ((ys : List Item) (e : End) → IsToCome f ys e → IsToCome a.floor ys e)
    → Finishes needs u rest a → Moves g [] (zipped f a b) (zipped f (over u [] f) b)
zip_first_over g u rest f a b z t m = record {
  read = [];
  unread = refl;
  floor = refl;
  run = λ ys e i.
      let n = length ys in
      let d = b.run ys e in
      let w = merge n (Ends (stamp f 0) (Done u)) d in
      ap (view g) (
      merge_same n (a.run ys e) (Ends (stamp f 0) (Done u)) d d (m.run ys e (t ys e i) ∙ ap (λ j. Ends (stamp j 0) (Done u)) z) refl
      ∙ sym (restamp_id (past_by 0) w past_by_0));
}

pub zip_second_over : (g : Grade) (v : Value) (rest : List Item) (f : ℕ) (a b : Rest) → b.floor ≡ f → ((ys : List Item) (e : End) → IsToCome f ys e → IsToCome b.floor ys e)
    → Finishes needs v rest b → Moves g [] (zipped f a b) (zipped f a (over v [] f))
zip_second_over g v rest f a b z t m = record {
  read = [];
  unread = refl;
  floor = refl;
  run = λ ys e i.
      let n = length ys in
      let r = a.run ys e in
      let w = merge n r (Ends (stamp f 0) (Done v)) in
      ap (view g) (
      merge_same n r r (b.run ys e) (Ends (stamp f 0) (Done v)) refl (m.run ys e (t ys e i) ∙ ap (λ j. Ends (stamp j 0) (Done v)) z)
      ∙ sym (restamp_id (past_by 0) w past_by_0));
}

-- ---- the other one goes on alone

done_acts : (n : ℕ) (s t : Stamp) (u : Value) (acts : List Act) (b : Run) → merge n (Ends s (Done u)) (acts_at t acts b) ≡ acts_at (bounded n t) acts (merge n (Ends s (Done u)) b)
done_acts n s t u [] b = refl
done_acts n s t u (x ∷ acts) b = ap (Then (bounded n t) x) (done_acts n s t u acts b)

pub zip_first_alone : (g : Grade) (acts : List Act) (v : Value) (back : List Item) (a a' : Rest) → Moves needs acts a a'
    → Moves g acts (zipped a.floor a (over v back a.floor)) (zipped a.floor a' (over v back a.floor))
zip_first_alone g acts v back a a' m = zip_left g acts a a' (over v back a.floor) (λ ys e i. le_self a.floor) m

pub zip_second_alone : (g : Grade) (acts : List Act) (u : Value) (back : List Item) (b b' : Rest) → Moves needs acts b b'
    → Moves g acts (zipped b.floor (over u back b.floor) b) (zipped b.floor (over u back b.floor) b')
zip_second_alone g acts u back b b' m = record {
  read = [];
  unread = refl;
  floor = refl;
  run = λ ys e i.
      let k = length m.read in
      let n = length ys in
      let s = stamp b.floor 0 in
      let t = stamp b.floor k in
      let r = b'.run ys e in
      let done = Ends s (Done u) in
      let w = merge n done r in
      ap (view g) (
      merge_same n done done (b.run ys e) (acts_at t acts (restamp (past_by k) r)) refl (m.run ys e i)
      ∙ done_acts n s t u acts (restamp (past_by k) r)
      ∙ ap (λ j. acts_at (stamp b.floor j) acts (merge n done (restamp (past_by k) r))) (min_to_come b.floor ys e i)
      ∙ ap (acts_at s acts) (merge_right (past_by k) (λ t. refl) n done r ∙ sym (restamp_id (past_by 0) w past_by_0)));
}

pub zip_first_asks : (v : Value) (back : List Item) (a : Rest) → Asks a → Asks (zipped 0 a (over v back 0))
zip_first_asks v back a q = record {
  not_told = refl;
  first = λ ys e. rising_left (length ys) 1 (stamp 0 0) v (a.run ys e) (q.first ys e);
  halted = λ h. (0, rw (q.halted h).1);
}

pub zip_second_asks : (u : Value) (back : List Item) (b : Rest) → Asks b → Asks (zipped 0 (over u back 0) b)
zip_second_asks u back b q = record {
  not_told = refl;
  first = λ ys e. rising_right (length ys) 1 (stamp 0 0) u (b.run ys e) (q.first ys e);
  halted = λ h. (0, rw (q.halted h).1);
}

-- a value is in hand, and the part that is left takes it
lowered : (r : Run) → restamp (reads_first 0 1) r ≡ restamp lower r
lowered r = restamp_same (reads_first 0 1) lower r (λ s. stamp_same (max 0 (s.need - 1)) (s.need - 1) s.net s.net (omega arith) refl)

pub zip_first_given : (g : Grade) (c : Item) (v : Value) (back : List Item) (a a' : Rest) → Asks a → Gets needs (c ∷ []) a a'
    → Moves g [] (pending (c ∷ []) 0 (zipped 0 a (over v back 0))) (zipped 0 a' (over v back 0))
zip_first_given g c v back a a' q m = record {
  read = c ∷ [];
  unread = refl;
  floor = refl;
  run = λ ys e i.
      let n = length ys in
      let r = a.run (c ∷ ys) e in
      let done = Ends (stamp 0 0) (Done v) in
      ap (view g) (
      lowered (merge (suc n) r done)
      ∙ ap (restamp lower) (second_done_any (suc n) 1 (stamp 0 0) (stamp 1 0) v r (omega arith) (omega arith) (q.first (c ∷ ys) e))
      ∙ merge_down n r (Ends (stamp 1 0) (Done v)) (q.first (c ∷ ys) e) (le_self 1)
      ∙ ap (restamp (past_by 1)) (merge_same n (restamp lower r) (a'.run ys e) done done (sym (m.run ys e)) refl));
}

pub zip_second_given : (g : Grade) (c : Item) (u : Value) (back : List Item) (b b' : Rest) → Asks b → Gets needs (c ∷ []) b b'
    → Moves g [] (pending (c ∷ []) 0 (zipped 0 (over u back 0) b)) (zipped 0 (over u back 0) b')
zip_second_given g c u back b b' q m = record {
  read = c ∷ [];
  unread = refl;
  floor = refl;
  run = λ ys e i.
      let n = length ys in
      let r = b.run (c ∷ ys) e in
      let done = Ends (stamp 0 0) (Done u) in
      ap (view g) (
      lowered (merge (suc n) done r)
      ∙ ap (restamp lower) (first_done_any (suc n) 1 (stamp 0 0) (stamp 1 0) u r (omega arith) (omega arith) (q.first (c ∷ ys) e))
      ∙ merge_down n (Ends (stamp 1 0) (Done u)) r (le_self 1) (q.first (c ∷ ys) e)
      ∙ ap (restamp (past_by 1)) (merge_same n done done (restamp lower r) (b'.run ys e) refl (sym (m.run ys e))));
}

-- ---- the whole is told the end: the first part at once, and the second one later

pub zip_told : (g : Grade) (a a' b : Rest) → GetsEnd needs a a' → GetsEnd g (zipped 0 a b) (zipped 1 a' b)
zip_told g a a' b m = record {
  unread = refl;
  floor = refl;
  run = ap (view g) (merge_same 0 (a'.run [] Ended) (a.run [] Ended) (b.run [] Ended) (b.run [] Ended) m.run refl);
}

pub zip_second_told : (g : Grade) (a b b' : Rest) → GetsEnd needs b b' → Moves g [] (zipped 1 a b) (zipped 1 a b')
zip_second_told g a b b' m = record {
  read = [];
  unread = refl;
  floor = refl;
  run = λ ys e i.
      ap (λ l. view g (merge (length l) (a.run l e) (b.run l e))) i.0
      ∙ ap (λ t. view g (merge 0 (a.run [] t) (b.run [] t))) i.1
      ∙ ap (view g) (merge_same 0 (a.run [] Ended) (a.run [] Ended) (b.run [] Ended) (b'.run [] Ended) refl (sym m.run))
      ∙ ap (λ t. view g (merge 0 (a.run [] t) (b'.run [] t))) (sym i.1)
      ∙ ap (λ l. view g (merge (length l) (a.run l e) (b'.run l e))) (sym i.0)
      ∙ ap (view g) (sym (restamp_id (past_by 0) (merge (length ys) (a.run ys e) (b'.run ys e)) past_by_0));
}

pub zip_first_told_alone : (g : Grade) (v : Value) (back : List Item) (a a' : Rest) → Asks a → GetsEnd needs a a' → GetsEnd g (zipped 0 a (over v back 0)) (zipped 1 a' (over v back 1))
zip_first_told_alone g v back a a' q m = record {
  unread = refl;
  floor = refl;
  run = ap (view g) (
      merge_same 0 (a'.run [] Ended) (a.run [] Ended) (Ends (stamp 1 0) (Done v)) (Ends (stamp 1 0) (Done v)) m.run refl
      ∙ second_done_any 0 1 (stamp 1 0) (stamp 0 0) v (a.run [] Ended) (omega arith) (omega arith) (q.first [] Ended));
}

pub zip_second_told_alone : (g : Grade) (u : Value) (back : List Item) (b b' : Rest) → Asks b → GetsEnd needs b b' → GetsEnd g (zipped 0 (over u back 0) b) (zipped 1 (over u back 1) b')
zip_second_told_alone g u back b b' q m = record {
  unread = refl;
  floor = refl;
  run = ap (view g) (
      merge_same 0 (Ends (stamp 1 0) (Done u)) (Ends (stamp 1 0) (Done u)) (b'.run [] Ended) (b.run [] Ended) refl m.run
      ∙ first_done_any 0 1 (stamp 1 0) (stamp 0 0) u (b.run [] Ended) (omega arith) (omega arith) (q.first [] Ended));
}

-- ---- a part stops, and the whole with it

pub zip_first_stuck : (h : Halt) (a b : Rest) → ((ys : List Item) (e : End) → IsToCome a.floor ys e → Rising a.floor (b.run ys e)) → Stuck h a → Stuck h (zipped a.floor a b)
zip_first_stuck h a b k m = record {
  run = λ ys e i.
      let n = length ys in
      let w = m.run ys e i in (
        min a.floor n,
        ap (λ r. merge n r (b.run ys e)) w.1 ∙ merge_first_halts n (stamp a.floor w.0) h (b.run ys e) (later a.floor a.floor (b.run ys e) (le_self a.floor) (k ys e i)),
      );
}

pub zip_second_stuck : (h : Halt) (a b : Rest) → Asks a → b.floor ≡ 0 → Stuck h b → Stuck h (zipped 0 a b)
zip_second_stuck h a b q z m = record {
  run = λ ys e i.
      let n = length ys in
      let w = m.run ys e (subst (λ f. IsToCome f ys e) (sym z) i) in (
        min 0 n,
        ap (merge n (a.run ys e)) (w.1 ∙ ap (λ f. Ends (stamp f w.0) (Halts h)) z)
            ∙ merge_second_halts n (stamp 0 w.0) h (a.run ys e) (later 1 1 (a.run ys e) (le_self 1) (q.first ys e)),
      );
}

pub zip_second_stuck_alone : (h : Halt) (u : Value) (back : List Item) (b : Rest) → Stuck h b → Stuck h (zipped b.floor (over u back b.floor) b)
zip_second_stuck_alone h u back b m = record {
  run = λ ys e i.
      let w = m.run ys e i in
      (min b.floor (length ys), ap (merge (length ys) (Ends (stamp b.floor 0) (Done u))) w.1);
}
