-- A suspended word: what it still does, with its unread values in front.
use Rattle.std.proofs.Common.{◌≡◌, ℕ, suc, ◌+◌, ◌-◌, max, List, [], ◌∷◌, ◌++◌, length, refl, ap, sym, ◌∙◌, subst, Bool, true, false, Some, None, arith, append_assoc, length-append}
use Rattle.cd_meaning.specs.Stream.{Item, Value, Stopped, Stop, Done, Halts, Act}
use Rattle.cd_meaning.specs.Run.{Stamp, stamp, Run, Then, Ends, acts_at, restamp}
use Rattle.cd_meaning.specs.Laws.{less_by}
use Rattle.cd_meaning.specs.Rest.{Rest, Grade, net_if, view, IsToCome, past_by, Moves, Gets, GetsEnd, Asks, Finishes, Stuck, reads_first, pending, fresh}
use Rattle.cd_meaning.specs.Scan.{Go, Back, Fail, Scan, scan}
use Rattle.cd_meaning.proofs.Restamp.{restamp_twice, restamp_same, restamp_acts, stamp_same}
use Rattle.cd_meaning.proofs.Moves.Pending.{pending_asks}
use Rattle.cd_meaning.proofs.Runs.Shapes.{acts_append}
use Rattle.cd_meaning.proofs.Runs.Scans.{later, scan_asks, scan_later, scan_ready}

-- ---- moves, one after another

net_past : (b : Bool) (k : ℕ) (s : Stamp) → net_if b (past_by k (net_if b s)) ≡ net_if b (past_by k s)
net_past true k s = refl
net_past false k s = refl

view_past : (g : Grade) (k : ℕ) (r : Run) → view g (restamp (past_by k) (view g r)) ≡ view g (restamp (past_by k) r)
view_past g k (Then s a r) = rw (net_past g.pieces k s, view_past g k r)
view_past g k (Ends s (Done v)) = rw (net_past g.exact k s)
view_past g k (Ends s (Halts h)) = rw (net_past g.pieces k s)

pub past_same : (g : Grade) (k : ℕ) (r r' : Run) → view g r ≡ view g r' → view g (restamp (past_by k) r) ≡ view g (restamp (past_by k) r')
past_same g k r r' h = sym (view_past g k r) ∙ ap (λ t. view g (restamp (past_by k) t)) h ∙ view_past g k r'

view_acts : (g : Grade) (s : Stamp) (acts : List Act) (r : Run) → view g (acts_at s acts r) ≡ acts_at (net_if g.pieces s) acts (view g r)
view_acts g s [] r = refl
view_acts g s (x ∷ acts) r = ap (Then (net_if g.pieces s) x) (view_acts g s acts r)

past_twice : (j k : ℕ) (s : Stamp) → past_by j (past_by k s) ≡ past_by (j + k) s
past_twice j k s = stamp_same _ _ _ _ refl (omega arith)

-- a silent move, and then another
pub moves_after : (g : Grade) (acts : List Act) (p q r : Rest) → Moves g [] p q → Moves g acts q r → Moves g acts p r
moves_after g acts p q r m n = record {
  read = m.read ++ n.read;
  unread = m.unread ∙ ap (λ l. m.read ++ l) n.unread ∙ sym (append_assoc m.read n.read r.unread);
  floor = n.floor ∙ m.floor;
  run = λ ys e i.
      let j = length m.read in
      let k = length n.read in
      let x = r.run ys e in
      m.run ys e i
      ∙ past_same g j (q.run ys e) (acts_at (stamp q.floor k) acts (restamp (past_by k) x)) (n.run ys e (subst (λ f. IsToCome f ys e) (sym m.floor) i))
      ∙ ap (view g) (restamp_acts (past_by j) (stamp q.floor k) acts (restamp (past_by k) x)
      ∙ ap (acts_at (stamp q.floor (j + k)) acts) (restamp_twice (past_by j) (past_by k) x ∙ restamp_same _ (past_by (j + k)) x (past_twice j k))
      ∙ ap (λ f. acts_at (stamp f (j + k)) acts (restamp (past_by (j + k)) x)) m.floor
      ∙ ap (λ n. acts_at (stamp p.floor n) acts (restamp (past_by n) x)) (sym (length-append m.read n.read)));
}

-- on a stream that may be cut anywhere, acts may be joined
pub moves_join : (g : Grade) (first then : List Act) (p q r : Rest) → g.pieces ≡ false → Moves g first p q → Moves g then q r → Moves g (first ++ then) p r
moves_join g first then p q r z m n = record {
  read = m.read ++ n.read;
  unread = m.unread ∙ ap (λ l. m.read ++ l) n.unread ∙ sym (append_assoc m.read n.read r.unread);
  floor = n.floor ∙ m.floor;
  run = λ ys e i.
      let j = length m.read in
      let k = length n.read in
      let x = r.run ys e in
      let tail = restamp (past_by (length (m.read ++ n.read))) x in
      let s = stamp p.floor (length (m.read ++ n.read)) in
      m.run ys e i
      ∙ view_acts g (stamp p.floor j) first (restamp (past_by j) (q.run ys e))
      ∙ ap (acts_at (net_if g.pieces (stamp p.floor j)) first)
      (past_same g j (q.run ys e) (acts_at (stamp q.floor k) then (restamp (past_by k) x)) (n.run ys e (subst (λ f. IsToCome f ys e) (sym m.floor) i))
      ∙ ap (view g) (restamp_acts (past_by j) (stamp q.floor k) then (restamp (past_by k) x)
      ∙ ap (acts_at (stamp q.floor (j + k)) then) (restamp_twice (past_by j) (past_by k) x ∙ restamp_same _ (past_by (j + k)) x (past_twice j k))
      ∙ ap (λ f. acts_at (stamp f (j + k)) then (restamp (past_by (j + k)) x)) m.floor
      ∙ ap (λ n. acts_at (stamp p.floor n) then (restamp (past_by n) x)) (sym (length-append m.read n.read)))
      ∙ view_acts g s then tail)
      ∙ ap (λ t. acts_at t first (acts_at (net_if g.pieces s) then (view g tail))) (no_net g.pieces p.floor j (length (m.read ++ n.read)) z)
      ∙ sym (acts_append (net_if g.pieces s) first then (view g tail))
      ∙ sym (view_acts g s (first ++ then) tail);
} where
  no_net : (b : Bool) (f j k : ℕ) → b ≡ false → net_if b (stamp f j) ≡ net_if b (stamp f k)
  no_net true f j k h = cc
  no_net false f j k h = refl

-- ---- a chunk comes in

pub pending_more : (g : Grade) (u c : List Item) (p : Rest) → Gets g c (pending u 0 p) (pending (u ++ c) 0 p)
pending_more g u c p = record {
  unread = sym (append_assoc p.unread u c);
  not_told = refl;
  floor = refl;
  run = λ ys e.
      let r = p.run (u ++ (c ++ ys)) e in
      ap (view g) (ap (λ l. restamp (reads_first 0 (length (u ++ c))) (p.run l e)) (append_assoc u c ys)
      ∙ restamp_same (reads_first 0 (length (u ++ c))) (λ s. less_by (length c) (reads_first 0 (length u) s)) r
      (λ s. stamp_same _ _ _ _ (omega (arith, length-append u c)) refl)
      ∙ sym (restamp_twice (less_by (length c)) (reads_first 0 (length u)) r));
}

-- ---- a scan

module _ {S : Type 0} (w : Scan S) where
  -- the word that carries st, with u unread
  abbrev pub at_work : ℕ → List Item → S → Rest
  at_work f u st = pending u f (fresh (scan w 0 st))

  -- it reads a value, acts and goes on
  pub scan_reads : (g : Grade) (f : ℕ) (x : Item) (u : List Item) (st t : S) (acts : List Act) → w.ready st ≡ None → w.step st x ≡ Go acts t
      → Moves g acts (at_work f (x ∷ u) st) (at_work f u t)
  scan_reads g f x u st t acts h1 h2 = record {
    read = x ∷ [];
    unread = refl;
    floor = refl;
    run = λ ys e i.
        let n = length u in
        let r = scan w 0 t (u ++ ys) e in
        ap (view g) (
        (rw (h1, h2) (restamp_acts (reads_first f (suc n)) (stamp 1 1) acts (scan w 1 t (u ++ ys) e)))
        ∙ ap (λ q. acts_at q acts (restamp (reads_first f (suc n)) (scan w 1 t (u ++ ys) e))) (stamp_same (max f (1 - suc n)) f 1 1 (omega arith) refl)
        ∙ ap (λ q. acts_at (stamp f 1) acts (restamp (reads_first f (suc n)) q)) (scan_later w 0 t (u ++ ys) e)
        ∙ ap (acts_at (stamp f 1) acts) (restamp_twice (reads_first f (suc n)) later r
        ∙ restamp_same _ (λ s. past_by 1 (reads_first f n s)) r (λ s. stamp_same _ _ _ _ (omega arith) (omega arith))
        ∙ sym (restamp_twice (past_by 1) (reads_first f n) r)));
  }

  pub scan_finishes : (g : Grade) (f : ℕ) (u : List Item) (st : S) (v : Value) → w.ready st ≡ Some v → Finishes g v u (at_work f u st)
  scan_finishes g f u st v h = record {
    read = [];
    unread = refl;
    run = λ ys e i. ap (view g) (ap (restamp (reads_first f (length u))) (scan_ready w 0 st (u ++ ys) e v h)
        ∙ ap (λ q. Ends q (Done v)) (stamp_same _ _ _ _ (omega arith) refl));
  }

  pub scan_back : (g : Grade) (f : ℕ) (x : Item) (u : List Item) (st : S) (v : Value) → w.ready st ≡ None → w.step st x ≡ Back v
      → Finishes g v (x ∷ u) (at_work f (x ∷ u) st)
  scan_back g f x u st v h1 h2 = record {
    read = [];
    unread = refl;
    run = λ ys e i.
        let m : (at_work f (x ∷ u) st).run ys e ≡ Ends (stamp (max f (1 - suc (length u))) 0) (Done v) = rw (h1, h2) in
        ap (view g) (m ∙ ap (λ q. Ends q (Done v)) (stamp_same (max f (1 - suc (length u))) f 0 0 (omega arith) refl));
  }

  pub scan_fails : (f : ℕ) (x : Item) (u : List Item) (st : S) (g : Stopped) → w.ready st ≡ None → w.step st x ≡ Fail g → Stuck (Stop g) (at_work f (x ∷ u) st)
  scan_fails f x u st g h1 h2 = record {
    run = λ ys e i. (1, rw (h1, h2) (ap (λ q. Ends q (Halts (Stop g))) (stamp_same (max f (1 - suc (length u))) f 1 1 (omega arith) refl)));
  }

  pub scan_needs : (st : S) → w.ready st ≡ None → Asks (at_work 0 [] st)
  scan_needs st h = pending_asks (fresh (scan w 0 st)) (record {
    not_told = refl;
    first = λ ys e. scan_asks w 0 st ys e h;
    halted = λ x. (0, rw h refl);
  })

  -- the word that was told the end
  abbrev pub closing : S → Rest
  closing st = record { unread = []; floor = 1; run = λ ys e. acts_at (stamp 1 0) (w.close st) (Ends (stamp 1 0) (w.ending st)) }

  pub scan_ends : (g : Grade) (st : S) → w.ready st ≡ None → GetsEnd g (at_work 0 [] st) (closing st)
  scan_ends g st h = record {
    unread = refl;
    floor = refl;
    run = ap (view g) (sym (rw h (restamp_acts (reads_first 0 0) (stamp 1 0) (w.close st) (Ends (stamp 1 0) (w.ending st)))));
  }
