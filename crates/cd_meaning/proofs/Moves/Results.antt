-- Result fusions: what is left where one part has ended, and the finishes.
use Rattle.std.proofs.Common.{◌≡◌, ℕ, zero, suc, ◌≤◌, ◌<◌, List, [], ◌∷◌, ◌++◌, length, map, refl, ap, sym, ◌∙◌, Bool, nat_lt, if◌then◌else◌, ◌⊎◌, inl, inr, arith}
use Rattle.std.proofs.lemmas.Bool.{le-leb, lt-leb, cases_lt}
use Rattle.cd_meaning.specs.Stream.{Item, Value, present, absent, Halt, Ended, Ending, Done, Halts, Act, Out, Do, Effect}
use Rattle.cd_meaning.specs.Run.{Stamp, stamp, Run, Then, Ends, outs, ending, acts_at, restamp, follow}
use Rattle.cd_meaning.specs.Fusion.{after, place, drain, asked}
use Rattle.cd_meaning.specs.Laws.{less_by}
use Rattle.cd_meaning.specs.Rest.{Rest, Grade, nets, needs, net_if, view, past_by, Moves, Gets, GetsEnd, Asks, Finishes, Stuck, plain_finish, drained_finish, asked_finish, draining, ended_with}
use Rattle.cd_meaning.proofs.Rising.{le_self}
use Rattle.cd_meaning.proofs.Restamp.{restamp_twice, restamp_id, restamp_acts, outs_restamp, ending_restamp, one_less}
use Rattle.cd_meaning.proofs.Runs.Results.{drain_rising}
use Rattle.cd_meaning.proofs.Weaves.Steps.{place_any, place_out, place_do, place_restamp}
use Rattle.cd_meaning.proofs.Weaves.Finish.{IsFinish, drain_restamp}
use Rattle.cd_meaning.proofs.Moves.Laws.{end_to_come, past_by_0}
use Rattle.cd_meaning.proofs.Follow.{follow_acts}
use Rattle.cd_meaning.proofs.Moves.Fused.{nets_is_grade, same_needs, place_same}

-- ---- plain fusion

pub plain_is_finish : IsFinish plain_finish
plain_is_finish = record {
  out = λ s x a j v. ap (λ q. Ends q (Done v)) (place_out s x a j);
  any = λ s t a j v h. ap (λ q. Ends q (Done v)) (place_any s t j a h);
  does = λ s t e a j v h. ap (λ q. Ends q (Done v)) (place_do s t e j a);
  stamps = λ g s a j v. ap (λ q. Ends q (Done v)) (place_restamp g s j a);
  rising = λ s a j v k. le_self (place s j a).need;
}

-- on pieces, or where needs alone are compared
pub plain_finish_seen : (b : Bool) (s : Stamp) (a a' : Run) (j : ℕ) (v : Value) → view (nets b) a ≡ view (nets b) a' → view (nets b) (plain_finish s a j v) ≡ view (nets b) (plain_finish s a' j v)
plain_finish_seen b s a a' j v h = ap (λ q. Ends q (Done v)) (place_same (nets b) s j a a' (nets_is_grade b) h)

-- ---- a is run to its own end, and its outputs dropped

drain_view : (pair : Value → Value) (g : Grade) (r : Run) → view g (drain pair r) ≡ drain pair (view g r)
drain_view pair g (Then s (Out x) r) = drain_view pair g r
drain_view pair g (Then s (Do e) r) = ap (Then (net_if g.pieces s) (Do e)) (drain_view pair g r)
drain_view pair g (Ends s (Done v)) = refl
drain_view pair g (Ends s (Halts h)) = refl

after_view : (g : Grade) (j : ℕ) (a : Run) → after j (view g a) ≡ view g (after j a)
after_view g zero a = refl
after_view g (suc j) (Then s (Out x) a) = after_view g j a
after_view g (suc j) (Then s (Do e) a) = after_view g (suc j) a
after_view g (suc j) (Ends s (Done v)) = refl
after_view g (suc j) (Ends s (Halts h)) = refl

drain_same : (pair : Value → Value) (g : Grade) (r r' : Run) → view g r ≡ view g r' → view g (drain pair r) ≡ view g (drain pair r')
drain_same pair g r r' h = drain_view pair g r ∙ ap (drain pair) h ∙ sym (drain_view pair g r')

pub drained_finish_seen : (pair : Value → Value → Value) (g : Grade) (s : Stamp) (a a' : Run) (j : ℕ) (v : Value) → view g a ≡ view g a' → view g (drained_finish pair s a j v) ≡ view g (drained_finish pair s a' j v)
drained_finish_seen pair g s a a' j v h = drain_same (λ u. pair u v) g (after j a) (after j a') (sym (after_view g j a) ∙ ap (after j) h ∙ after_view g j a')

drain_outs : (pair : Value → Value) (s : Stamp) (d : List Item) (r : Run) → drain pair (acts_at s (map Out d) r) ≡ drain pair r
drain_outs pair s [] r = refl
drain_outs pair s (x ∷ d) r = drain_outs pair s d r

drain_effects : (pair : Value → Value) (s : Stamp) (es : List Effect) (r : Run) → drain pair (acts_at s (map Do es) r) ≡ acts_at s (map Do es) (drain pair r)
drain_effects pair s [] r = refl
drain_effects pair s (e ∷ es) r = ap (Then s (Do e)) (drain_effects pair s es r)

module _ (pair : Value → Value) (g : Grade) where
  pub draining_emits : (d : List Item) (a a' : Rest) → Moves g (map Out d) a a' → Moves g [] (draining pair a) (draining pair a')
  draining_emits d a a' m = record {
    read = m.read;
    unread = m.unread;
    floor = m.floor;
    run = λ ys e i.
        let k = length m.read in
        drain_same pair g (a.run ys e) (acts_at (stamp a.floor k) (map Out d) (restamp (past_by k) (a'.run ys e))) (m.run ys e i)
        ∙ ap (view g) (drain_outs pair (stamp a.floor k) d (restamp (past_by k) (a'.run ys e)) ∙ drain_restamp pair (past_by k) (a'.run ys e));
  }

  pub draining_does : (es : List Effect) (a a' : Rest) → Moves g (map Do es) a a' → Moves g (map Do es) (draining pair a) (draining pair a')
  draining_does es a a' m = record {
    read = m.read;
    unread = m.unread;
    floor = m.floor;
    run = λ ys e i.
        let k = length m.read in
        let s = stamp a.floor k in
        drain_same pair g (a.run ys e) (acts_at s (map Do es) (restamp (past_by k) (a'.run ys e))) (m.run ys e i)
        ∙ ap (view g) (drain_effects pair s es (restamp (past_by k) (a'.run ys e)) ∙ ap (acts_at s (map Do es)) (drain_restamp pair (past_by k) (a'.run ys e)));
  }

  pub draining_asks : (a : Rest) → Asks a → Asks (draining pair a)
  draining_asks a q = record {
    not_told = q.not_told;
    first = λ ys e. drain_rising pair 1 (a.run ys e) (q.first ys e);
    halted = λ h. ((q.halted h).0, ap (drain pair) (q.halted h).1);
  }

  pub draining_gets : (c : List Item) (a a' : Rest) → Gets g c a a' → Gets g c (draining pair a) (draining pair a')
  draining_gets c a a' m = record {
    unread = m.unread;
    not_told = m.not_told;
    floor = m.floor;
    run = λ ys e.
        drain_same pair g (a'.run ys e) (restamp (less_by (length c)) (a.run (c ++ ys) e)) (m.run ys e)
        ∙ ap (view g) (drain_restamp pair (less_by (length c)) (a.run (c ++ ys) e));
  }

  pub draining_gets_end : (a a' : Rest) → GetsEnd g a a' → GetsEnd g (draining pair a) (draining pair a')
  draining_gets_end a a' m = record { unread = m.unread; floor = m.floor; run = drain_same pair g (a'.run [] Ended) (a.run [] Ended) m.run }

  pub draining_finishes : (v : Value) (rest : List Item) (a : Rest) → Finishes g v rest a → Finishes g (pair v) rest (draining pair a)
  draining_finishes v rest a m = record {
    read = m.read;
    unread = m.unread;
    run = λ ys e i. drain_same pair g (a.run ys e) (Ends (stamp a.floor (length m.read)) (Done v)) (m.run ys e i);
  }

  pub draining_stuck : (h : Halt) (a : Rest) → Stuck h a → Stuck h (draining pair a)
  draining_stuck h a m = record { run = λ ys e i. ((m.run ys e i).0, ap (drain pair) (m.run ys e i).1) }

  -- ---- a has ended, and b goes on

  abbrev pairs : Stamp → Value → Run
  pairs s v = Ends s (Done (pair v))

  pub ended_moves : (acts : List Act) (back : List Item) (f : ℕ) (b b' : Rest) → Moves needs acts b b' → Moves g acts (ended_with pair back f b) (ended_with pair back f b')
  ended_moves acts back f b b' m = record {
    read = [];
    unread = refl;
    floor = refl;
    run = λ ys e i.
        let s = stamp f 0 in
        let k = length m.read in
        let r = b'.run [] Ended in
        ap (λ t. view g (follow t pairs)) (same_needs s (b.run [] Ended) (acts_at (stamp b.floor k) acts (restamp (past_by k) r)) (m.run [] Ended (end_to_come b.floor))
        ∙ restamp_acts (λ t. s) (stamp b.floor k) acts (restamp (past_by k) r)
        ∙ ap (acts_at s acts) (restamp_twice (λ t. s) (past_by k) r))
        ∙ ap (view g) (follow_acts s acts (restamp (λ t. s) r) pairs ∙ ap (acts_at s acts) (sym (restamp_id (past_by 0) (follow (restamp (λ t. s) r) pairs) past_by_0)));
  }

  pub ended_finishes : (v : Value) (rest back : List Item) (f : ℕ) (b : Rest) → Finishes needs v rest b → Finishes g (pair v) back (ended_with pair back f b)
  ended_finishes v rest back f b m = record {
    read = [];
    unread = refl;
    run = λ ys e i. ap (λ t. view g (follow t pairs))
        (same_needs (stamp f 0) (b.run [] Ended) (Ends (stamp b.floor (length m.read)) (Done v)) (m.run [] Ended (end_to_come b.floor)));
  }

  pub ended_stuck : (h : Halt) (back : List Item) (f : ℕ) (b : Rest) → Stuck h b → Stuck h (ended_with pair back f b)
  ended_stuck h back f b m = record { run = λ ys e i. (0, ap (λ t. follow (restamp (λ s. stamp f 0) t) pairs) (m.run [] Ended (end_to_come b.floor)).1) }

-- ---- a's result where b asked past its last output

lt_less_by : (n j k : ℕ) → k ≡ one_less j → (k < suc n) ⊎ (suc n ≤ k) → 1 ≤ j → nat_lt (suc n) j ≡ nat_lt n k
lt_less_by n zero k e c h = absurd (omega arith)
lt_less_by n (suc j) k e (inl c) h = lt-leb (suc (suc n)) (suc j) (omega (arith, e)) ∙ sym (lt-leb (suc n) k c)
lt_less_by n (suc j) k e (inr c) h = le-leb (suc (suc n)) (suc j) (omega (arith, e)) ∙ sym (le-leb (suc n) k c)

lt_less : (n j : ℕ) → nat_lt (suc n) j ≡ nat_lt n (one_less j)
lt_less n zero = lt-leb (suc (suc n)) zero (omega arith) ∙ sym (lt-leb (suc n) zero (omega arith))
lt_less n (suc j) = lt_less_by n (suc j) j refl (cases_lt j (suc n)) (omega arith)

asked_less : (n j : ℕ) (e : Ending) (v : Value) → asked j (suc n) e v ≡ asked (one_less j) n e v
asked_less n j (Done u) v = ap (λ b. Value.Pair (if b then present u else absent) v) (lt_less n j)
asked_less n j (Halts h) v = refl

pub asked_is_finish : IsFinish asked_finish
asked_is_finish = record {
  out = λ s x a j v. rw (place_out s x a j, asked_less (length (outs a)) j (ending a) v);
  any = λ s t a j v h. rw (place_any s t j a h);
  does = λ s t e a j v h. rw (place_do s t e j a);
  stamps = λ g s a j v. rw (place_restamp g s j a, outs_restamp g a, ending_restamp g a);
  rising = λ s a j v k. le_self (place s j a).need;
}

-- b was told that a has ended
pub asked_finish_ended : (s t : Stamp) (r : Value) (j : ℕ) (u : Value) → 1 ≤ j → asked_finish s (Ends t (Done r)) j u ≡ Ends t (Done (Value.Pair (present r) u))
asked_finish_ended s t r zero u h = absurd (omega arith)
asked_finish_ended s t r (suc j) u h = ap (λ b. Ends t (Done (Value.Pair (if b then present r else absent) u))) (le-leb (suc zero) (suc j) (omega arith))

-- b ends while a waits
pub asked_finish_early : (s : Stamp) (a : Run) (v : Value) → asked_finish s a 0 v ≡ Ends s (Done (Value.Pair absent v))
asked_finish_early s a v = early s a v (ending a) refl where
  early : (s : Stamp) (a : Run) (v : Value) (e : Ending) → ending a ≡ e → Ends s (Done (asked 0 (length (outs a)) (ending a) v)) ≡ Ends s (Done (Value.Pair absent v))
  early s a v (Done u) h = rw (h, lt-leb (suc (length (outs a))) 0 (omega arith))
  early s a v (Halts h1) h = rw h
