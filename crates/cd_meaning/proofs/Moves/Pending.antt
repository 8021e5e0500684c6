-- A part that reads what was given back before the input of the whole.
use Rattle.std.proofs.Common.{◌≡◌, ℕ, ◌-◌, max, List, [], ◌++◌, length, refl, ap, sym, ◌∙◌, subst, Bool, true, false, arith, append_assoc}
use Rattle.std.proofs.lemmas.List.{append-nil}
use Rattle.cd_meaning.specs.Stream.{Item, Value, Halt, Ended, Done, Halts, Act}
use Rattle.cd_meaning.specs.Run.{Stamp, stamp, Run, Then, Ends, acts_at, restamp}
use Rattle.cd_meaning.specs.Laws.{Rising, less_by}
use Rattle.cd_meaning.specs.Rest.{Rest, Grade, net_if, view, past_by, Moves, Gets, GetsEnd, Asks, Finishes, Stuck, reads_first, pending}
use Rattle.cd_meaning.proofs.Rising.{rising_less}
use Rattle.cd_meaning.proofs.Restamp.{restamp_twice, restamp_same, restamp_id, restamp_acts, stamp_same}
use Rattle.cd_meaning.proofs.Moves.Laws.{to_come, past_by_0}

-- a change of needs alone does not depend on what is seen of nets
needs_view : (b : Bool) (f n : ℕ) (s : Stamp) → net_if b (reads_first f n s) ≡ reads_first f n (net_if b s)
needs_view true f n s = refl
needs_view false f n s = refl

first_view : (g : Grade) (f n : ℕ) (r : Run) → view g (restamp (reads_first f n) r) ≡ restamp (reads_first f n) (view g r)
first_view g f n (Then s a r) = rw (needs_view g.pieces f n s, first_view g f n r)
first_view g f n (Ends s (Done v)) = rw (needs_view g.exact f n s)
first_view g f n (Ends s (Halts h)) = rw (needs_view g.pieces f n s)

pub first_same : (g : Grade) (f n : ℕ) (r r' : Run) → view g r ≡ view g r' → view g (restamp (reads_first f n) r) ≡ view g (restamp (reads_first f n) r')
first_same g f n r r' h = first_view g f n r ∙ ap (restamp (reads_first f n)) h ∙ sym (first_view g f n r')

first_at : (f n k : ℕ) → reads_first f n (stamp 0 k) ≡ stamp f k
first_at f n k = stamp_same _ _ _ _ (omega arith) refl

pub pending_moves : (g : Grade) (acts : List Act) (c : List Item) (f : ℕ) (p p' : Rest) → p.floor ≡ 0 → Moves g acts p p' → Moves g acts (pending c f p) (pending c f p')
pending_moves g acts c f p p' z m = record {
  read = m.read;
  unread = ap (λ l. l ++ c) m.unread ∙ append_assoc m.read p'.unread c;
  floor = refl;
  run = λ ys e i.
      let k = length m.read in
      let n = length c in
      let r = p'.run (c ++ ys) e in
      first_same g f n (p.run (c ++ ys) e) (acts_at (stamp p.floor k) acts (restamp (past_by k) r)) (m.run (c ++ ys) e (to_come p.floor (c ++ ys) e z))
      ∙ ap (view g) (restamp_acts (reads_first f n) (stamp p.floor k) acts (restamp (past_by k) r)
      ∙ ap (λ t. acts_at t acts (restamp (reads_first f n) (restamp (past_by k) r))) (ap (λ x. reads_first f n (stamp x k)) z ∙ first_at f n k)
      ∙ ap (acts_at (stamp f k) acts) (restamp_twice (reads_first f n) (past_by k) r ∙ sym (restamp_twice (past_by k) (reads_first f n) r)));
}

-- the part asks, and is given what was given back
pub pending_given : (g : Grade) (c : List Item) (f : ℕ) (p p' : Rest) → Gets g c p p' → Moves g [] (pending c f p) (pending [] f p')
pending_given g c f p p' m = record {
  read = [];
  unread = sym m.unread ∙ sym (append-nil p'.unread);
  floor = refl;
  run = λ ys e i.
      let r = p.run (c ++ ys) e in
      ap (view g) (restamp_same (reads_first f (length c)) (λ s. reads_first f 0 (less_by (length c) s)) r (λ s. stamp_same _ _ _ _ (omega arith) refl)
      ∙ sym (restamp_twice (reads_first f 0) (less_by (length c)) r))
      ∙ first_same g f 0 (restamp (less_by (length c)) r) (p'.run ys e) (sym (m.run ys e))
      ∙ ap (view g) (sym (restamp_id (past_by 0) (restamp (reads_first f 0) (p'.run ys e)) past_by_0));
}

pub first_id : (f : ℕ) (r : Run) → Rising f r → restamp (reads_first f 0) r ≡ r
first_id f (Then s a r) h = rw (stamp_same (max f (s.need - 0)) s.need s.net s.net (let h0 = h.0 in omega arith) refl, first_id f r (rising_less f s.need r h.0 h.1))
first_id f (Ends s e) h = rw (stamp_same (max f (s.need - 0)) s.need s.net s.net (omega arith) refl)

rising_zero : (n : ℕ) (r : Run) → Rising n r → Rising 0 r
rising_zero n r h = rising_less 0 n r (omega arith) h

-- nothing more is given back, and the whole was told the end
pub pending_gets_end : (g : Grade) (p p' : Rest) → Asks p → GetsEnd g p p' → Moves g [] (pending [] 1 p) p'
pending_gets_end g p p' q m = record {
  read = [];
  unread = append-nil p.unread ∙ sym m.unread;
  floor = m.floor;
  run = λ ys e i.
      ap (λ l. view g (restamp (reads_first 1 0) (p.run l e))) i.0
      ∙ ap (λ t. view g (restamp (reads_first 1 0) (p.run [] t))) i.1
      ∙ ap (view g) (first_id 1 (p.run [] Ended) (q.first [] Ended))
      ∙ sym m.run
      ∙ ap (λ t. view g (p'.run [] t)) (sym i.1)
      ∙ ap (λ l. view g (p'.run l e)) (sym i.0)
      ∙ ap (view g) (sym (restamp_id (past_by 0) (p'.run ys e) past_by_0));
}

-- nothing more is given back: the part goes on as the whole
pub pending_asks : (p : Rest) → Asks p → Asks (pending [] 0 p)
pending_asks p q = record {
  not_told = refl;
  first = λ ys e. subst (Rising 1) (sym (first_id 0 (p.run ys e) (rising_zero 1 (p.run ys e) (q.first ys e)))) (q.first ys e);
  halted = λ h. ((q.halted h).0, rw (q.halted h).1);
}

pub pending_gets : (g : Grade) (c : List Item) (p p' : Rest) → Gets g c p p' → Gets g c (pending [] 0 p) (pending [] 0 p')
pending_gets g c p p' m = record {
  unread = append-nil p'.unread ∙ m.unread ∙ ap (λ l. l ++ c) (sym (append-nil p.unread));
  not_told = refl;
  floor = refl;
  run = λ ys e.
      let r = p.run (c ++ ys) e in
      first_same g 0 0 (p'.run ys e) (restamp (less_by (length c)) r) (m.run ys e)
      ∙ ap (view g) (restamp_twice (reads_first 0 0) (less_by (length c)) r
      ∙ restamp_same _ (λ s. less_by (length c) (reads_first 0 0 s)) r (λ s. stamp_same _ _ _ _ (omega arith) refl)
      ∙ sym (restamp_twice (less_by (length c)) (reads_first 0 0) r));
}

pub pending_finishes : (g : Grade) (v : Value) (rest c : List Item) (f : ℕ) (p : Rest) → p.floor ≡ 0 → Finishes g v rest p → Finishes g v (rest ++ c) (pending c f p)
pending_finishes g v rest c f p z m = record {
  read = m.read;
  unread = ap (λ l. l ++ c) m.unread ∙ append_assoc m.read rest c;
  run = λ ys e i.
      let k = length m.read in
      first_same g f (length c) (p.run (c ++ ys) e) (Ends (stamp p.floor k) (Done v)) (m.run (c ++ ys) e (to_come p.floor (c ++ ys) e z))
      ∙ ap (λ t. view g (Ends t (Done v))) (ap (λ x. reads_first f (length c) (stamp x k)) z ∙ first_at f (length c) k);
}

pub pending_stuck : (h : Halt) (c : List Item) (f : ℕ) (p : Rest) → p.floor ≡ 0 → Stuck h p → Stuck h (pending c f p)
pending_stuck h c f p z m = record {
  run = λ ys e i.
      let w = m.run (c ++ ys) e (to_come p.floor (c ++ ys) e z) in
      (w.0, ap (restamp (reads_first f (length c))) w.1 ∙ ap (λ t. Ends t (Halts h)) (ap (λ x. reads_first f (length c) (stamp x w.0)) z ∙ first_at f (length c) w.0));
}
