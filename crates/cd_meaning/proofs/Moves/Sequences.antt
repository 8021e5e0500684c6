-- Each turn of a sequence is a step of the sequence.
use Rattle.std.proofs.Common.{◌≡◌, ℕ, ◌+◌, ◌-◌, ◌≤◌, max, List, [], ◌++◌, length, drop, refl, ap, sym, ◌∙◌, arith, append_assoc, length-append}
use Rattle.std.proofs.Math.Seq.{drop-append-add}
use Rattle.cd_meaning.specs.Stream.{Item, Value, Halt, End, Ended, Done, Halts, Act}
use Rattle.cd_meaning.specs.Run.{Stamp, stamp, Run, Then, Ends, Component, last, acts_at, restamp, follow}
use Rattle.cd_meaning.specs.Laws.{Rising, less_by}
use Rattle.cd_meaning.specs.Rest.{Rest, Grade, to_end, net_if, view, past_by, Moves, Gets, GetsEnd, Asks, Finishes, Stuck, behind_rest, followed, reads_first, pending, fresh}
use Rattle.cd_meaning.proofs.Rising.{le_self}
use Rattle.cd_meaning.proofs.Restamp.{restamp_twice, restamp_same, stamp_same}
use Rattle.cd_meaning.proofs.Follow.{follow_acts, follow_restamp, follow_rising}
use Rattle.cd_meaning.proofs.Moves.Laws.{net_if_twice}

-- of the first part the view to its end is read
follow_of_view : (g : Grade) (r : Run) (k : Stamp → Value → Run) → view g (follow (view (to_end g) r) k) ≡ view g (follow r k)
follow_of_view g (Then s a r) k = rw (net_if_twice g.pieces s, follow_of_view g r k)
follow_of_view g (Ends s (Done v)) k = refl
follow_of_view g (Ends s (Halts h)) k = rw (net_if_twice g.pieces s)

follow_same : (g : Grade) (r : Run) (k k' : Stamp → Value → Run) → ((s : Stamp) (v : Value) → view g (k s v) ≡ view g (k' s v)) → view g (follow r k) ≡ view g (follow r k')
follow_same g (Then s a r) k k' h = ap (λ t. Then (net_if g.pieces s) a t) (follow_same g r k k' h)
follow_same g (Ends s (Done v)) k k' h = h s v
follow_same g (Ends s (Halts e)) k k' h = refl

pub follow_view : (g : Grade) (r r' : Run) (k k' : Stamp → Value → Run) → view (to_end g) r ≡ view (to_end g) r'
    → ((s : Stamp) (v : Value) → view g (k s v) ≡ view g (k' s v)) → view g (follow r k) ≡ view g (follow r' k')
follow_view g r r' k k' e h =
    sym (follow_of_view g r k) ∙ ap (λ t. view g (follow t k)) e ∙ follow_of_view g r' k ∙ follow_same g r' k k' h

-- what the second part does where the first ended at s
abbrev pub rest_of : List Item → List Item → End → Component → Stamp → Run
rest_of u ys e b s = restamp (behind_rest (length u) s) (b (drop s.net (u ++ ys)) e)

pub drop_past : (t u ys : List Item) (n : ℕ) → drop (length t + n) ((t ++ u) ++ ys) ≡ drop n (u ++ ys)
drop_past t u ys n = ap (drop (length t + n)) (append_assoc t u ys) ∙ drop-append-add t (u ++ ys) n

rest_of_past : (t u ys : List Item) (e : End) (b : Component) (s : Stamp) → rest_of (t ++ u) ys e b (past_by (length t) s) ≡ restamp (past_by (length t)) (rest_of u ys e b s)
rest_of_past t u ys e b s =
    ap (λ l. restamp (behind_rest (length (t ++ u)) (past_by (length t) s)) (b l e)) (drop_past t u ys s.net)
    ∙ restamp_same _ (λ x. past_by (length t) (behind_rest (length u) s x)) (b (drop s.net (u ++ ys)) e)
    (λ x. stamp_same _ _ _ _ (omega (arith, length-append t u)) (omega arith))
    ∙ sym (restamp_twice (past_by (length t)) (behind_rest (length u) s) (b (drop s.net (u ++ ys)) e))

-- ---- the first part moves

pub first_moves : (g : Grade) (acts : List Act) (a a' : Rest) (b : Component) → Moves (to_end g) acts a a' → Moves g acts (followed a b) (followed a' b)
first_moves g acts a a' b m = record {
  read = m.read;
  unread = m.unread;
  floor = m.floor;
  run = λ ys e i.
      let k = length m.read in
      let s = stamp a.floor k in
      let r = a'.run ys e in
      follow_view g (a.run ys e) (acts_at s acts (restamp (past_by k) r)) (λ x v. rest_of a.unread ys e b x) (λ x v. rest_of (m.read ++ a'.unread) ys e b x)
      (m.run ys e i) (λ x v. ap (λ u. view g (rest_of u ys e b x)) m.unread)
      ∙ ap (view g) (follow_acts s acts (restamp (past_by k) r) (λ x v. rest_of (m.read ++ a'.unread) ys e b x)
      ∙ ap (acts_at s acts) (follow_restamp (past_by k) r (λ x v. rest_of (m.read ++ a'.unread) ys e b x) (λ x v. rest_of a'.unread ys e b x)
      (λ x v. rest_of_past m.read a'.unread ys e b x)));
}

less_of_max : (a b c d : ℕ) → max (a - c) (b - (d + c)) ≡ max a (b - d) - c
less_of_max a b c d = omega arith

rest_of_less : (u c ys : List Item) (e : End) (b : Component) (s : Stamp) → rest_of (u ++ c) ys e b (less_by (length c) s) ≡ restamp (less_by (length c)) (rest_of u (c ++ ys) e b s)
rest_of_less u c ys e b s =
    ap (λ l. restamp (behind_rest (length (u ++ c)) (less_by (length c) s)) (b (drop s.net l) e)) (append_assoc u c ys)
    ∙ restamp_same _ (λ x. less_by (length c) (behind_rest (length u) s x)) (b (drop s.net (u ++ (c ++ ys))) e)
    (λ x. stamp_same _ _ _ _ (ap (λ n. max (s.need - length c) ((s.net + x.need) - n)) (length-append u c) ∙ less_of_max s.need (s.net + x.need) (length c) (length u)) refl)
    ∙ sym (restamp_twice (less_by (length c)) (behind_rest (length u) s) (b (drop s.net (u ++ (c ++ ys))) e))

pub first_gets : (g : Grade) (c : List Item) (a a' : Rest) (b : Component) → Gets (to_end g) c a a' → Gets g c (followed a b) (followed a' b)
first_gets g c a a' b m = record {
  unread = m.unread;
  not_told = m.not_told;
  floor = m.floor;
  run = λ ys e.
      let r = a.run (c ++ ys) e in
      follow_view g (a'.run ys e) (restamp (less_by (length c)) r) (λ x v. rest_of a'.unread ys e b x) (λ x v. rest_of (a.unread ++ c) ys e b x)
      (m.run ys e) (λ x v. ap (λ u. view g (rest_of u ys e b x)) m.unread)
      ∙ ap (view g) (follow_restamp (less_by (length c)) r (λ x v. rest_of (a.unread ++ c) ys e b x) (λ x v. rest_of a.unread (c ++ ys) e b x)
      (λ x v. rest_of_less a.unread c ys e b x));
}

pub first_gets_end : (g : Grade) (a a' : Rest) (b : Component) → GetsEnd (to_end g) a a' → GetsEnd g (followed a b) (followed a' b)
first_gets_end g a a' b m = record {
  unread = m.unread;
  floor = m.floor;
  run = follow_view g (a'.run [] Ended) (a.run [] Ended) (λ x v. rest_of a'.unread [] Ended b x) (λ x v. rest_of a.unread [] Ended b x)
      m.run (λ x v. ap (λ u. view g (rest_of u [] Ended b x)) m.unread);
}

pub rising_behind_rest : (n k : ℕ) (s : Stamp) (m : ℕ) (r : Run) → n ≤ s.need → Rising m r → Rising n (restamp (behind_rest k s) r)
rising_behind_rest n k s m (Then t a r) h j = (omega arith, rising_on k s t r j.1) where
  rising_on : (k : ℕ) (s t : Stamp) (r : Run) → Rising t.need r → Rising (max s.need ((s.net + t.need) - k)) (restamp (behind_rest k s) r)
  rising_on k s t (Then u a r) j = (let h : t.need ≤ u.need = j.0 in omega arith, rising_on k s u r j.1)
  rising_on k s t (Ends u e) j = omega arith
rising_behind_rest n k s m (Ends t e) h j = omega arith

pub first_asks : (a : Rest) (b : Component) → ((xs : List Item) (e : End) → Rising 0 (b xs e)) → Asks a → Asks (followed a b)
first_asks a b h q = record {
  not_told = q.not_told;
  first = λ ys e. follow_rising 1 (a.run ys e) _ (q.first ys e) (λ v. rising_behind_rest (last (a.run ys e)).need (length a.unread) (last (a.run ys e)) 0 _ (le_self (last (a.run ys e)).need) (h _ _));
  halted = λ x. ((q.halted x).0, rw (q.halted x).1);
}

-- the second part begins
pub first_finishes : (g : Grade) (v : Value) (rest : List Item) (a : Rest) (b : Component) → Finishes (to_end g) v rest a → Moves g [] (followed a b) (pending rest a.floor (fresh b))
first_finishes g v rest a b m = record {
  read = m.read;
  unread = m.unread;
  floor = refl;
  run = λ ys e i.
      let k = length m.read in
      let s = stamp a.floor k in
      follow_view g (a.run ys e) (Ends s (Done v)) (λ x w. rest_of a.unread ys e b x) (λ x w. rest_of (m.read ++ rest) ys e b x)
      (m.run ys e i) (λ x w. ap (λ u. view g (rest_of u ys e b x)) m.unread)
      ∙ ap (view g) (ap (λ n. rest_of (m.read ++ rest) ys e b (stamp a.floor n)) (sym (plus_0 k))
      ∙ rest_of_past m.read rest ys e b (stamp a.floor 0)
      ∙ ap (restamp (past_by k)) (restamp_same (behind_rest (length rest) (stamp a.floor 0)) (reads_first a.floor (length rest)) (b (rest ++ ys) e)
      (λ x. stamp_same _ _ _ _ (omega arith) (omega arith))));
} where
  plus_0 : (n : ℕ) → n + 0 ≡ n
  plus_0 n = omega arith

pub first_stuck : (h : Halt) (a : Rest) (b : Component) → Stuck h a → Stuck h (followed a b)
first_stuck h a b m = record { run = λ ys e i. ((m.run ys e i).0, rw (m.run ys e i).1) }
