-- Each turn of a fusion is a step of the weave, whatever its finish.
use Rattle.std.proofs.Common.{◌≡◌, ℕ, zero, suc, ◌-◌, ◌≤◌, List, [], ◌∷◌, ◌++◌, length, map, refl, ap, sym, ◌∙◌, Bool, false, arith}
use Rattle.cd_meaning.specs.Stream.{Item, Value, Halt, End, Ended, Done, Halts, Act, Out, Do, Effect}
use Rattle.cd_meaning.specs.Run.{Stamp, stamp, Run, Then, Ends, Component, outs, end_of, acts_at, restamp, follow}
use Rattle.cd_meaning.specs.Fusion.{effects_to, between, place, woven, fed}
use Rattle.cd_meaning.specs.Laws.{less_by}
use Rattle.cd_meaning.specs.Rest.{Rest, Grade, nets, needs, net_if, view, past_by, Moves, Gets, GetsEnd, Asks, Finishes, Stuck, weave_by, fused_by, ended_with}
use Rattle.cd_meaning.proofs.Restamp.{restamp_twice, restamp_same, restamp_id, outs_restamp}
use Rattle.cd_meaning.proofs.Weaves.Finish.{IsFinish, by_any, by_restamp, by_needs, by_up_emits, by_up_does_all, by_asks, by_ended}
use Rattle.cd_meaning.proofs.Moves.Laws.{net_if_twice, to_come, past_by_0, past_start, outs_emitted, end_acts, outs_does, end_restamp}
use Rattle.cd_meaning.proofs.Follow.{follow_restamp}

-- ---- what is seen of a weave

-- nets of acts are compared only where the net of Done is
abbrev pub IsGrade : Grade → Type 0
IsGrade g = (s : Stamp) → net_if g.pieces (net_if g.exact s) ≡ net_if g.pieces s

pub nets_is_grade : (b : Bool) → IsGrade (nets b)
nets_is_grade b s = net_if_twice b s

pub nets_view : (b : Bool) (r : Run) → view (nets b) r ≡ restamp (net_if b) r
nets_view b (Then s a r) = ap (Then (net_if b s) a) (nets_view b r)
nets_view b (Ends s (Done v)) = refl
nets_view b (Ends s (Halts h)) = refl

pub outs_view : (g : Grade) (r : Run) → outs (view g r) ≡ outs r
outs_view g (Then s (Out x) r) = ap (λ l. x ∷ l) (outs_view g r)
outs_view g (Then s (Do e) r) = outs_view g r
outs_view g (Ends s (Done v)) = refl
outs_view g (Ends s (Halts h)) = refl

pub end_view : (g : Grade) (r : Run) → end_of (view g r) ≡ end_of r
end_view g (Then s a r) = end_view g r
end_view g (Ends s (Done v)) = refl
end_view g (Ends s (Halts h)) = refl

-- runs that look the same have the same outputs and the same end
pub fed_same : (g : Grade) (a a' : Run) (b : Component) → view g a ≡ view g a' → fed a b ≡ fed a' b
fed_same g a a' b h =
    let e1 : outs a ≡ outs a' = sym (outs_view g a) ∙ ap outs h ∙ outs_view g a' in
    let e2 : end_of a ≡ end_of a' = sym (end_view g a) ∙ ap end_of h ∙ end_view g a' in
    rw (e1, e2)

view_effects : (g : Grade) (j : ℕ) (a r : Run) → view g (effects_to j a r) ≡ effects_to j (view g a) (view g r)
view_effects g zero a r = refl
view_effects g (suc j) (Then s (Out x) a) r = view_effects g j a r
view_effects g (suc j) (Then s (Do e) a) r = ap (Then (net_if g.pieces s) (Do e)) (view_effects g (suc j) a r)
view_effects g (suc j) (Ends s (Done v)) r = refl
view_effects g (suc j) (Ends s (Halts h)) r = refl

view_between : (g : Grade) (i j : ℕ) (a r : Run) → view g (between i j a r) ≡ between i j (view g a) (view g r)
view_between g zero j a r = view_effects g j a r
view_between g (suc i) zero a r = refl
view_between g (suc i) (suc j) (Then s (Out x) a) r = view_between g i j a r
view_between g (suc i) (suc j) (Then s (Do e) a) r = view_between g (suc i) (suc j) a r
view_between g (suc i) (suc j) (Ends s (Done v)) r = refl
view_between g (suc i) (suc j) (Ends s (Halts h)) r = refl

place_view : (g : Grade) (s : Stamp) (j : ℕ) (a : Run) → IsGrade g → net_if g.pieces (place s j a) ≡ net_if g.pieces (place (net_if g.pieces s) j (view g a))
place_view g s zero a k = sym (net_if_twice g.pieces s)
place_view g s (suc j) (Then t (Out x) a) k = place_view g t j a k
place_view g s (suc j) (Then t (Do e) a) k = place_view g s (suc j) a k
place_view g s (suc j) (Ends t (Done v)) k = sym (k t)
place_view g s (suc j) (Ends t (Halts h)) k = sym (net_if_twice g.pieces t)

pub place_same : (g : Grade) (s : Stamp) (j : ℕ) (a a' : Run) → IsGrade g → view g a ≡ view g a' → net_if g.pieces (place s j a) ≡ net_if g.pieces (place s j a')
place_same g s j a a' k h = place_view g s j a k ∙ ap (λ r. net_if g.pieces (place (net_if g.pieces s) j r)) h ∙ sym (place_view g s j a' k)

woven_view : (g : Grade) (at at' : ℕ → Stamp) (finish finish' : Stamp → Value → Run) (a a' : Run) (i : ℕ) (b : Run) → view g a ≡ view g a'
    → ((j : ℕ) → net_if g.pieces (at j) ≡ net_if g.pieces (at' j)) → ((t : Stamp) (v : Value) → view g (finish t v) ≡ view g (finish' t v))
    → view g (woven at finish a i b) ≡ view g (woven at' finish' a' i b)
woven_view g at at' finish finish' a a' i (Then t x b) ha h1 h2 =
    view_between g i t.need a _ ∙ ap (λ q. between i t.need q (view g (Then (at t.need) x (woven at finish a t.need b)))) ha
    ∙ ap (λ q. between i t.need (view g a') (Then q x (view g (woven at finish a t.need b)))) (h1 t.need)
    ∙ ap (λ q. between i t.need (view g a') (Then (net_if g.pieces (at' t.need)) x q)) (woven_view g at at' finish finish' a a' t.need b ha h1 h2)
    ∙ sym (view_between g i t.need a' _)
woven_view g at at' finish finish' a a' i (Ends t (Done v)) ha h1 h2 =
    view_between g i t.need a _ ∙ ap (λ q. between i t.need q (view g (finish t v))) ha
    ∙ ap (λ q. between i t.need (view g a') q) (h2 t v)
    ∙ sym (view_between g i t.need a' _)
woven_view g at at' finish finish' a a' i (Ends t (Halts h)) ha h1 h2 =
    view_between g i t.need a _ ∙ ap (λ q. between i t.need q (view g (Ends (at t.need) (Halts h)))) ha
    ∙ ap (λ q. between i t.need (view g a') (Ends q (Halts h))) (h1 t.need)
    ∙ sym (view_between g i t.need a' _)

pub same_needs : (s : Stamp) (b b' : Run) → view needs b ≡ view needs b' → restamp (λ t. s) b ≡ restamp (λ t. s) b'
same_needs s b b' h =
    sym (restamp_twice (λ t. s) (net_if false) b)
    ∙ ap (restamp (λ t. s)) (sym (nets_view false b) ∙ h ∙ nets_view false b')
    ∙ restamp_twice (λ t. s) (net_if false) b'

module _ (finish : Stamp → Run → ℕ → Value → Run) (F : IsFinish finish) (g : Grade) (G : IsGrade g)
    (S : (s : Stamp) (a a' : Run) (j : ℕ) (v : Value) → view g a ≡ view g a' → view g (finish s a j v) ≡ view g (finish s a' j v)) where
  -- in view, the weave reads its parts in view
  pub by_view : (s : Stamp) (a a' b b' : Run) → view g a ≡ view g a' → view needs b ≡ view needs b' → view g (weave_by finish s a b) ≡ view g (weave_by finish s a' b')
  by_view s a a' b b' ha hb =
      woven_view g _ _ _ _ a a' 0 b ha (λ j. place_same g s j a a' G ha) (λ t v. S s a a' t.need v ha)
      ∙ ap (view g) (
      sym (by_needs finish F (net_if false) s a' b (λ t. refl))
      ∙ ap (weave_by finish s a') (sym (nets_view false b) ∙ hb ∙ nets_view false b')
      ∙ by_needs finish F (net_if false) s a' b' (λ t. refl))

  by_down_acts : (s : Stamp) (k : ℕ) (acts : List Act) (a b : Run) → weave_by finish s a (acts_at (stamp 0 k) acts b) ≡ acts_at s acts (weave_by finish s a b)
  by_down_acts s k [] a b = refl
  by_down_acts s k (x ∷ acts) a b = ap (λ r. Then s x r) (by_down_acts s k acts a b)

  pub down_moves : (acts : List Act) (a b b' : Rest) → b.floor ≡ 0 → Moves needs acts b b' → Moves g acts (fused_by finish a b) (fused_by finish a b')
  down_moves acts a b b' h m = record {
    read = [];
    unread = refl;
    floor = refl;
    run = λ ys e i.
        let s = stamp a.floor 0 in
        let r = a.run ys e in
        let k = length m.read in
        let n = fed r b'.run in
        by_view s r r (fed r b.run) (acts_at (stamp 0 k) acts (restamp (past_by k) n)) refl
        (m.run (outs r) (end_of r) (to_come b.floor (outs r) (end_of r) h) ∙ ap (λ f. view needs (acts_at (stamp f k) acts (restamp (past_by k) n))) h)
        ∙ ap (view g) (by_down_acts s k acts r (restamp (past_by k) n)
        ∙ ap (acts_at s acts) (by_needs finish F (past_by k) s r n (λ t. refl) ∙ sym (restamp_id (past_by 0) (weave_by finish s r n) past_by_0)));
  }

  pub down_stuck : (h : Halt) (a b : Rest) → b.floor ≡ 0 → Stuck h b → Stuck h (fused_by finish a b)
  down_stuck h a b z m = record {
    run = λ ys e i.
        let r = a.run ys e in
        let w = m.run (outs r) (end_of r) (to_come b.floor (outs r) (end_of r) z) in
        (0, ap (weave_by finish (stamp a.floor 0) r) (w.1 ∙ ap (λ f. Ends (stamp f w.0) (Halts h)) z));
  }

  -- ---- b waits, and a moves

  -- a's outputs go to b; the whole is silent
  pub up_emits : (d : List Item) (a a' b b' : Rest) → Asks b → Moves g (map Out d) a a' → Gets needs d b b' → Moves g [] (fused_by finish a b) (fused_by finish a' b')
  up_emits d a a' b b' q m n = record {
    read = m.read;
    unread = m.unread;
    floor = m.floor;
    run = λ ys e i.
        let s = stamp a.floor 0 in
        let k = length m.read in
        let s1 = stamp a.floor k in
        let r = a'.run ys e in
        let r1 = restamp (past_by k) r in
        let whole = acts_at s1 (map Out d) r1 in
        let below = b.run (d ++ outs r) (end_of r) in
        let e1 : fed whole b.run ≡ below = rw (outs_emitted s1 d r1, outs_restamp (past_by k) r, end_acts s1 (map Out d) r1, end_restamp (past_by k) r) in
        by_view s (a.run ys e) whole (fed (a.run ys e) b.run) below (m.run ys e i) (ap (view needs) (fed_same g (a.run ys e) whole b.run (m.run ys e i) ∙ e1))
        ∙ ap (view g) (by_up_emits finish F s s1 d r1 below (q.first (d ++ outs r) (end_of r)))
        ∙ by_view s1 r1 r1 (restamp (less_by (length d)) below) (fed r b'.run) refl (sym (n.run (outs r) (end_of r)))
        ∙ ap (λ t. view g (weave_by finish t r1 (fed r b'.run))) (sym (past_start k a.floor) ∙ ap (λ f. past_by k (stamp f 0)) (sym m.floor))
        ∙ ap (view g) (by_restamp finish F (past_by k) (stamp a'.floor 0) r (fed r b'.run));
  }

  -- a's effects are the whole's
  pub up_does : (es : List Effect) (a a' b : Rest) → Asks b → Moves g (map Do es) a a' → Moves g (map Do es) (fused_by finish a b) (fused_by finish a' b)
  up_does es a a' b q m = record {
    read = m.read;
    unread = m.unread;
    floor = m.floor;
    run = λ ys e i.
        let s = stamp a.floor 0 in
        let k = length m.read in
        let s1 = stamp a.floor k in
        let r = a'.run ys e in
        let r1 = restamp (past_by k) r in
        let whole = acts_at s1 (map Do es) r1 in
        let below = fed r b.run in
        let e1 : fed whole b.run ≡ below = rw (outs_does s1 es r1, outs_restamp (past_by k) r, end_acts s1 (map Do es) r1, end_restamp (past_by k) r) in
        by_view s (a.run ys e) whole (fed (a.run ys e) b.run) below (m.run ys e i) (ap (view needs) (fed_same g (a.run ys e) whole b.run (m.run ys e i) ∙ e1))
        ∙ ap (view g) (by_up_does_all finish F s s1 es r1 below (q.first (outs r) (end_of r))
        ∙ ap (acts_at s1 (map Do es))
        (by_any finish F s s1 r1 below (q.first (outs r) (end_of r))
        ∙ ap (λ t. weave_by finish t r1 below) (sym (past_start k a.floor) ∙ ap (λ f. past_by k (stamp f 0)) (sym m.floor))
        ∙ by_restamp finish F (past_by k) (stamp a'.floor 0) r below));
  }

  -- both ask: the whole asks
  pub both_ask : (a b : Rest) → Asks a → Asks b → Asks (fused_by finish a b)
  both_ask a b p q = record {
    not_told = p.not_told;
    first = λ ys e. by_asks finish F (stamp a.floor 0) (a.run ys e) (fed (a.run ys e) b.run) (p.first ys e) (q.first _ _);
    halted = λ h. ((p.halted h).0, rw ((p.halted h).1, (q.halted h).1));
  }

  -- a value that comes to the whole comes to a
  pub up_gets : (c : List Item) (a a' b : Rest) → Gets g c a a' → Gets g c (fused_by finish a b) (fused_by finish a' b)
  up_gets c a a' b m = record {
    unread = m.unread;
    not_told = m.not_told;
    floor = m.floor;
    run = λ ys e.
        let n = less_by (length c) in
        let r = a.run (c ++ ys) e in
        let e0 : stamp a'.floor 0 ≡ n (stamp a.floor 0) = (let e1 : a'.floor ≡ a.floor - length c = omega (arith, m.floor, m.not_told) in rw e1) in
        let e2 : fed (restamp n r) b.run ≡ fed r b.run = rw (outs_restamp n r, end_restamp n r) in
        by_view (stamp a'.floor 0) (a'.run ys e) (restamp n r) (fed (a'.run ys e) b.run) (fed r b.run) (m.run ys e)
        (ap (view needs) (fed_same g (a'.run ys e) (restamp n r) b.run (m.run ys e) ∙ e2))
        ∙ ap (view g) (ap (λ t. weave_by finish t (restamp n r) (fed r b.run)) e0 ∙ by_restamp finish F n (stamp a.floor 0) r (fed r b.run));
  }

  pub up_gets_end : (a a' b : Rest) → Asks b → GetsEnd g a a' → GetsEnd g (fused_by finish a b) (fused_by finish a' b)
  up_gets_end a a' b q m = record {
    unread = m.unread;
    floor = m.floor;
    run =
        let r = a.run [] Ended in
        let r' = a'.run [] Ended in
        by_view (stamp a'.floor 0) r' r (fed r' b.run) (fed r b.run) m.run (ap (view needs) (fed_same g r' r b.run m.run))
        ∙ ap (view g) (by_any finish F (stamp a'.floor 0) (stamp a.floor 0) r (fed r b.run) (q.first _ _));
  }

  pub up_stuck : (h : Halt) (a b : Rest) → Asks b → Stuck h a → Stuck h (fused_by finish a b)
  up_stuck h a b q m = record {
    run = λ ys e i. ((m.run ys e i).0, rw ((m.run ys e i).1, (q.halted h).1));
  }

  -- b ends while a waits: the whole goes on as the finish says
  pub down_finishes : (v : Value) (rest : List Item) (a b q : Rest) → b.floor ≡ 0 → Finishes needs v rest b → q.unread ≡ a.unread → q.floor ≡ a.floor
      → ((ys : List Item) (e : End) → q.run ys e ≡ finish (stamp a.floor 0) (a.run ys e) 0 v) → Moves g [] (fused_by finish a b) q
  down_finishes v rest a b q h m qu qf qr = record {
    read = [];
    unread = sym qu;
    floor = qf;
    run = λ ys e i.
        let s = stamp a.floor 0 in
        let r = a.run ys e in
        by_view s r r (fed r b.run) (Ends (stamp 0 (length m.read)) (Done v)) refl
        (m.run (outs r) (end_of r) (to_come b.floor (outs r) (end_of r) h) ∙ ap (λ f. view needs (Ends (stamp f (length m.read)) (Done v))) h)
        ∙ ap (view g) (sym (qr ys e) ∙ sym (restamp_id (past_by 0) (q.run ys e) past_by_0));
  }

  -- a ends, and b is told so; the whole is silent
  pub up_finishes : (v : Value) (pair : Value → Value) (rest : List Item) (a b b' : Rest)
      → ((s t : Stamp) (j : ℕ) (u : Value) → 1 ≤ j → finish s (Ends t (Done v)) j u ≡ Ends t (Done (pair u)))
      → Asks b → Finishes g v rest a → GetsEnd needs b b' → Moves g [] (fused_by finish a b) (ended_with pair rest a.floor b')
  up_finishes v pair rest a b b' h q m n = record {
    read = m.read;
    unread = m.unread;
    floor = refl;
    run = λ ys e i.
        let s = stamp a.floor 0 in
        let k = length m.read in
        let r = Ends (stamp a.floor k) (Done v) in
        let below = b.run [] Ended in
        let pairs = λ (t : Stamp) (u : Value). Ends t (Done (pair u)) in
        let tail = restamp (λ t. stamp a.floor 0) (b'.run [] Ended) in
        by_view s (a.run ys e) r (fed (a.run ys e) b.run) below (m.run ys e i) (ap (view needs) (fed_same g (a.run ys e) r b.run (m.run ys e i)))
        ∙ ap (view g) (by_ended finish F s (stamp a.floor k) v pair below (λ j u l. h s (stamp a.floor k) j u l) (q.first [] Ended)
        ∙ ap (λ t. follow t pairs) (same_needs (stamp a.floor k) below (b'.run [] Ended) (sym n.run)
        ∙ restamp_same (λ t. stamp a.floor k) (λ t. past_by k (stamp a.floor 0)) (b'.run [] Ended) (λ t. sym (past_start k a.floor))
        ∙ sym (restamp_twice (past_by k) (λ t. stamp a.floor 0) (b'.run [] Ended)))
        ∙ follow_restamp (past_by k) tail pairs pairs (λ t u. refl));
  }
