-- Each turn of a marked body is a step of the whole.
use Rattle.std.proofs.Common.{◌≡◌, ℕ, ◌+◌, List, [], ◌∷◌, ◌++◌, length, refl, ap, sym, ◌∙◌, arith}
use Rattle.cd_meaning.specs.Stream.{Item, Value, Halt, Ended, Done, Halts, Act, Do, Open, Close}
use Rattle.cd_meaning.specs.Run.{stamp, start, Run, Then, Ends, Component, last, acts_at, restamp, follow}
use Rattle.cd_meaning.specs.Sources.{marked}
use Rattle.cd_meaning.specs.Laws.{less_by}
use Rattle.cd_meaning.specs.Rest.{Rest, Grade, view, past_by, Moves, Gets, GetsEnd, Asks, Finishes, Stuck, fresh, closes_mark, marking, over}
use Rattle.cd_meaning.proofs.Rising.{le_self}
use Rattle.cd_meaning.proofs.Restamp.{restamp_id, stamp_same}
use Rattle.cd_meaning.proofs.Follow.{follow_acts, follow_restamp, follow_rising}
use Rattle.cd_meaning.proofs.Moves.Laws.{net_if_twice, past_by_0}
use Rattle.cd_meaning.proofs.Moves.Fused.{IsGrade}

-- its first act is the opening
pub mark_opens : (g : Grade) (s : ℕ) (b : Component) → Moves g (Do (Open s) ∷ []) (fresh (marked s b)) (marking s (fresh b))
mark_opens g s b = record {
  read = [];
  unread = refl;
  floor = refl;
  run = λ ys e i. ap (λ r. view g (Then start (Do (Open s)) r)) (sym (restamp_id (past_by 0) (follow (b ys e) (closes_mark s)) past_by_0));
}

-- the closing is seen as the value is
closes_view : (g : Grade) (s : ℕ) (r : Run) → IsGrade g → view g (follow (view g r) (closes_mark s)) ≡ view g (follow r (closes_mark s))
closes_view g s (Then t a r) k = rw (net_if_twice g.pieces t, closes_view g s r k)
closes_view g s (Ends t (Done v)) k = rw (k t, net_if_twice g.exact t)
closes_view g s (Ends t (Halts h)) k = rw (net_if_twice g.pieces t)

closes_same : (g : Grade) (s : ℕ) (r q : Run) → IsGrade g → view g r ≡ view g q → view g (follow r (closes_mark s)) ≡ view g (follow q (closes_mark s))
closes_same g s r q k e = sym (closes_view g s r k) ∙ ap (λ t. view g (follow t (closes_mark s))) e ∙ closes_view g s q k

module _ (g : Grade) (s : ℕ) (k : IsGrade g) where
  pub mark_moves : (acts : List Act) (p q : Rest) → Moves g acts p q → Moves g acts (marking s p) (marking s q)
  mark_moves acts p q m = record {
    read = m.read;
    unread = m.unread;
    floor = m.floor;
    run = λ ys e i.
        let n = length m.read in
        let t = stamp p.floor n in
        closes_same g s (p.run ys e) (acts_at t acts (restamp (past_by n) (q.run ys e))) k (m.run ys e i)
        ∙ ap (view g) (follow_acts t acts (restamp (past_by n) (q.run ys e)) (closes_mark s)
        ∙ ap (acts_at t acts) (follow_restamp (past_by n) (q.run ys e) (closes_mark s) (closes_mark s) (λ u v. refl)));
  }

  pub mark_gets : (c : List Item) (p q : Rest) → Gets g c p q → Gets g c (marking s p) (marking s q)
  mark_gets c p q m = record {
    unread = m.unread;
    not_told = m.not_told;
    floor = m.floor;
    run = λ ys e.
        closes_same g s (q.run ys e) (restamp (less_by (length c)) (p.run (c ++ ys) e)) k (m.run ys e)
        ∙ ap (view g) (follow_restamp (less_by (length c)) (p.run (c ++ ys) e) (closes_mark s) (closes_mark s) (λ u v. refl));
  }

  pub mark_gets_end : (p q : Rest) → GetsEnd g p q → GetsEnd g (marking s p) (marking s q)
  mark_gets_end p q m = record { unread = m.unread; floor = m.floor; run = closes_same g s (q.run [] Ended) (p.run [] Ended) k m.run }

  -- the body is done: the site is closed, and the whole has its value to tell
  pub mark_closes : (v : Value) (rest : List Item) (p : Rest) → Finishes g v rest p → Moves g (Do (Close s) ∷ []) (marking s p) (over v rest p.floor)
  mark_closes v rest p m = record {
    read = m.read;
    unread = m.unread;
    floor = refl;
    run = λ ys e i.
        let n = length m.read in
        let t = stamp p.floor n in
        closes_same g s (p.run ys e) (Ends t (Done v)) k (m.run ys e i)
        ∙ ap (λ u. view g (Then t (Do (Close s)) (Ends u (Done v)))) (stamp_same p.floor p.floor n (n + 0) refl (omega arith));
  }

pub mark_asks : (s : ℕ) (p : Rest) → Asks p → Asks (marking s p)
mark_asks s p q = record {
  not_told = q.not_told;
  first = λ ys e. follow_rising 1 (p.run ys e) (closes_mark s) (q.first ys e) (λ v. (le_self (last (p.run ys e)).need, le_self (last (p.run ys e)).need));
  halted = λ h. ((q.halted h).0, ap (λ r. follow r (closes_mark s)) (q.halted h).1);
}

pub mark_stuck : (s : ℕ) (h : Halt) (p : Rest) → Stuck h p → Stuck h (marking s p)
mark_stuck s h p m = record { run = λ ys e i. ((m.run ys e i).0, ap (λ r. follow r (closes_mark s)) (m.run ys e i).1) }

pub over_finishes : (g : Grade) (v : Value) (back : List Item) (floor : ℕ) → Finishes g v back (over v back floor)
over_finishes g v back floor = record { read = []; unread = refl; run = λ ys e i. refl }
