-- Each turn of `|+` is a step of the weave, and what the second part keeps back stays the same.
use Rattle.std.proofs.Common.{◌≡◌, ℕ, zero, suc, ◌+◌, ◌-◌, ◌≤◌, List, [], ◌∷◌, ◌++◌, length, take, drop, map, refl, ap, sym, ◌∙◌, subst, Bool, true, false, arith, append_assoc}
use Rattle.std.proofs.lemmas.List.{append-nil}
use Rattle.std.proofs.Math.Seq.{drop-append_seam, drop-append-add}
use Rattle.cd_meaning.specs.Stream.{Item, Value, Halt, End, Ended, Halted, Done, Halts, Act, Out, Do, Effect}
use Rattle.cd_meaning.specs.Run.{Stamp, stamp, Run, Then, Ends, outs, ending, end_of, last, acts_at, restamp, follow}
use Rattle.cd_meaning.specs.Fusion.{place, woven, fed, fuse_at}
use Rattle.cd_meaning.specs.Laws.{Rising, less_by}
use Rattle.cd_meaning.specs.Rest.{Rest, Grade, nets, needs, to_end, net_if, view, IsToCome, past_by, Moves, Gets, GetsEnd, Asks, Finishes, Stuck, fused, return_finish, fused_return, ended_return}
use Rattle.cd_meaning.proofs.Rising.{rising_less, le_self}
use Rattle.cd_meaning.proofs.Restamp.{ending_restamp, outs_restamp, restamp_twice, restamp_id, restamp_acts}
use Rattle.cd_meaning.proofs.Follow.{follow_at_last, follow_acts, follow_restamp, follow_rising}
use Rattle.cd_meaning.proofs.Weaves.Laws.{woven_ending}
use Rattle.cd_meaning.proofs.Runs.Results.{woven_follow, woven_last}
use Rattle.cd_meaning.proofs.Moves.Laws.{outs_does, end_restamp, to_come, end_to_come, past_by_0, end_acts}
use Rattle.cd_meaning.proofs.Moves.Sequences.{drop_past}
use Rattle.cd_meaning.proofs.Moves.Fused.{outs_view, fed_same, same_needs}
use Rattle.cd_meaning.proofs.Moves.Plain as by

-- ---- what is seen of a run and of its ending

-- the needs, and the net of Done
abbrev pub needs_to_end : Grade
needs_to_end = to_end needs

needs_of : (g : Grade) (r : Run) → view needs (view g r) ≡ view needs r
needs_of g (Then s a r) = rw (no_net g.pieces s, needs_of g r) where
  no_net : (b : Bool) (s : Stamp) → net_if false (net_if b s) ≡ net_if false s
  no_net true s = refl
  no_net false s = refl
needs_of g (Ends s (Done v)) = ap (λ t. Ends t (Done v)) (no_net g.exact s) where
  no_net : (b : Bool) (s : Stamp) → net_if false (net_if b s) ≡ net_if false s
  no_net true s = refl
  no_net false s = refl
needs_of g (Ends s (Halts h)) = ap (λ t. Ends t (Halts h)) (no_net g.pieces s) where
  no_net : (b : Bool) (s : Stamp) → net_if false (net_if b s) ≡ net_if false s
  no_net true s = refl
  no_net false s = refl

pub needs_same : (g : Grade) (r q : Run) → view g r ≡ view g q → view needs r ≡ view needs q
needs_same g r q e = sym (needs_of g r) ∙ ap (view needs) e ∙ needs_of g q

pub moves_needs : (g : Grade) (acts : List Act) (p q : Rest) → Moves g acts p q → Moves needs acts p q
moves_needs g acts p q m = record { read = m.read; unread = m.unread; floor = m.floor; run = λ ys e i. needs_same g _ _ (m.run ys e i) }

pub gets_needs : (g : Grade) (c : List Item) (p q : Rest) → Gets g c p q → Gets needs c p q
gets_needs g c p q m = record { unread = m.unread; not_told = m.not_told; floor = m.floor; run = λ ys e. needs_same g _ _ (m.run ys e) }

pub gets_end_needs : (g : Grade) (p q : Rest) → GetsEnd g p q → GetsEnd needs p q
gets_end_needs g p q m = record { unread = m.unread; floor = m.floor; run = needs_same g _ _ m.run }

pub finishes_needs : (g : Grade) (v : Value) (rest : List Item) (p : Rest) → Finishes g v rest p → Finishes needs v rest p
finishes_needs g v rest p m = record { read = m.read; unread = m.unread; run = λ ys e i. needs_same g (p.run ys e) (Ends (stamp p.floor (length m.read)) (Done v)) (m.run ys e i) }

ending_view : (g : Grade) (r : Run) → ending (view g r) ≡ ending r
ending_view g (Then s a r) = ending_view g r
ending_view g (Ends s (Done v)) = refl
ending_view g (Ends s (Halts h)) = refl

last_view : (g : Grade) (r : Run) (v : Value) → ending r ≡ Done v → last (view g r) ≡ net_if g.exact (last r)
last_view g (Then s a r) v e = last_view g r v e
last_view g (Ends s (Done u)) v e = refl
last_view g (Ends s (Halts h)) v e = cc

-- runs that look the same to their end are done at the same stamp
same_last : (r q : Run) (v : Value) → view needs_to_end r ≡ view needs_to_end q → ending q ≡ Done v → last r ≡ last q
same_last r q v e z =
    let y : ending r ≡ Done v = sym (ending_view needs_to_end r) ∙ ap ending e ∙ ending_view needs_to_end q ∙ z in
    sym (last_view needs_to_end r v y) ∙ ap last e ∙ last_view needs_to_end q v z

last_acts : (s : Stamp) (acts : List Act) (r : Run) → last (acts_at s acts r) ≡ last r
last_acts s [] r = refl
last_acts s (x ∷ acts) r = last_acts s acts r

last_restamp : (f : Stamp → Stamp) (r : Run) → last (restamp f r) ≡ f (last r)
last_restamp f (Then s a r) = last_restamp f r
last_restamp f (Ends s e) = refl

ending_acts : (s : Stamp) (acts : List Act) (r : Run) → ending (acts_at s acts r) ≡ ending r
ending_acts s [] r = refl
ending_acts s (x ∷ acts) r = ending_acts s acts r

-- ---- the weave is plain fusion, with another value

abbrev with_value : (Value → Value) → Stamp → Value → Run
with_value f s v = Ends s (Done (f v))

value_view : (g : Grade) (f : Value → Value) (r : Run) → view g (follow r (with_value f)) ≡ follow (view g r) (with_value f)
value_view g f (Then s a r) = ap (Then (net_if g.pieces s) a) (value_view g f r)
value_view g f (Ends s (Done v)) = refl
value_view g f (Ends s (Halts h)) = refl

value_same : (g : Grade) (f : Value → Value) (r q : Run) → view g r ≡ view g q → view g (follow r (with_value f)) ≡ view g (follow q (with_value f))
value_same g f r q e = value_view g f r ∙ ap (λ t. follow t (with_value f)) e ∙ sym (value_view g f q)

-- what b keeps back of a's outputs, and of what it had not read before
abbrev kept : Rest → Rest → List Item → End → List Item
kept a b ys e = let r = a.run ys e in let t = last (fed r b.run) in drop t.net (b.unread ++ take t.need (outs r))

abbrev made : (List Item → Value) → List Item → Value → Value
made list l v = Value.Pair v (list l)

return_is : (list : List Item → Value) (a b : Rest) (ys : List Item) (e : End)
    → (fused_return list a b).run ys e ≡ follow ((fused a b).run ys e) (with_value (made list (kept a b ys e)))
return_is list a b ys e =
    let s = stamp a.floor 0 in
    let r = a.run ys e in
    let d = fed r b.run in
    woven_follow (λ j. place s j r) (return_finish list b.unread s r) r 0 d
    ∙ follow_at_last (fuse_at s r d) _ (with_value (made list (kept a b ys e)))
    (λ v z. ap (λ t. Ends t (Done (made list (kept a b ys e) v))) (sym (woven_last (λ j. place s j r) r 0 d)))

-- a move of the fusion, along which what is kept back stays the same
return_moves : (list : List Item → Value) (c : Bool) (acts : List Act) (a a' b b' : Rest) → Moves (nets c) acts (fused a b) (fused a' b')
    → ((ys : List Item) (e : End) (v : Value) → IsToCome a.floor ys e → ending (fed (a'.run ys e) b'.run) ≡ Done v → kept a b ys e ≡ kept a' b' ys e)
    → Moves (nets c) acts (fused_return list a b) (fused_return list a' b')
return_moves list c acts a a' b b' w f = record {
  read = w.read;
  unread = w.unread;
  floor = w.floor;
  run = λ ys e i.
      let g = nets c in
      let n = length w.read in
      let t = stamp a.floor n in
      let p = (fused a b).run ys e in
      let q = (fused a' b').run ys e in
      let k = with_value (made list (kept a b ys e)) in
      let k' = with_value (made list (kept a' b' ys e)) in
      let r' = a'.run ys e in
      ap (view g) (return_is list a b ys e)
      ∙ value_same g (made list (kept a b ys e)) p (acts_at t acts (restamp (past_by n) q)) (w.run ys e i)
      ∙ ap (view g) (follow_acts t acts (restamp (past_by n) q) k
      ∙ ap (acts_at t acts) (follow_restamp (past_by n) q k k (λ u v. refl)
      ∙ ap (restamp (past_by n)) (
      follow_at_last q k k' (λ v z. ap (λ l. Ends (last q) (Done (made list l v))) (f ys e v i (sym (woven_ending (λ j. place (stamp a'.floor 0) j r') r' 0 (fed r' b'.run)) ∙ z)))
      ∙ sym (return_is list a' b' ys e))));
}

-- ---- b moves

-- b reads some of its unread values: the rest of them is what is kept back of them
kept_reads : (read u : List Item) (t : Stamp) (os : List Item) → drop (past_by (length read) t).net ((read ++ u) ++ take t.need os) ≡ drop t.net (u ++ take t.need os)
kept_reads read u t os = drop_past read u (take t.need os) t.net

pub down_moves : (list : List Item → Value) (c : Bool) (acts : List Act) (a b b' : Rest) → b.floor ≡ 0 → Moves needs_to_end acts b b' → Moves (nets c) acts (fused_return list a b) (fused_return list a b')
down_moves list c acts a b b' h m =
    return_moves list c acts a a b b' (by.down_moves c acts a b b' h (moves_needs needs_to_end acts b b' m))
    (λ ys e v i z.
    let r = a.run ys e in
    let n = length m.read in
    let d = fed r b'.run in
    let q = acts_at (stamp b.floor n) acts (restamp (past_by n) d) in
    let e1 : last (fed r b.run) ≡ past_by n (last d) =
    same_last (fed r b.run) q v (m.run (outs r) (end_of r) (to_come b.floor (outs r) (end_of r) h)) (ending_acts _ acts (restamp (past_by n) d) ∙ ending_restamp (past_by n) d ∙ z)
    ∙ last_acts _ acts (restamp (past_by n) d) ∙ last_restamp (past_by n) d in
    ap (λ t. drop t.net (b.unread ++ take t.need (outs r))) e1
    ∙ ap (λ u. drop (past_by n (last d)).net (u ++ take (last d).need (outs r))) m.unread
    ∙ kept_reads m.read b'.unread (last d) (outs r))

pub down_finishes : (list : List Item → Value) (c : Bool) (v : Value) (rest : List Item) (a b : Rest) → b.floor ≡ 0 → Finishes needs_to_end v rest b
    → Finishes (nets c) (Value.Pair v (list rest)) a.unread (fused_return list a b)
down_finishes list c v rest a b h m =
    let w = by.down_finishes c v rest a b h (finishes_needs needs_to_end v rest b m) in
    record {
      read = w.read;
      unread = w.unread;
      run = λ ys e i.
          let r = a.run ys e in
          let n = length m.read in
          let e1 : last (fed r b.run) ≡ stamp b.floor n = same_last (fed r b.run) (Ends (stamp b.floor n) (Done v)) v (m.run (outs r) (end_of r) (to_come b.floor (outs r) (end_of r) h)) refl in
          let e2 : kept a b ys e ≡ rest =
          ap (λ t. drop t.net (b.unread ++ take t.need (outs r))) e1
          ∙ ap (λ j. drop n (b.unread ++ take j (outs r))) h
          ∙ ap (drop n) (append-nil b.unread ∙ m.unread)
          ∙ drop-append_seam m.read rest in
          ap (view (nets c)) (return_is list a b ys e ∙ ap (λ l. follow ((fused a b).run ys e) (with_value (made list l))) e2)
          ∙ value_same (nets c) (made list rest) ((fused a b).run ys e) (Ends (stamp a.floor (length w.read)) (Done v)) (w.run ys e i);
    }

pub down_stuck : (list : List Item → Value) (h : Halt) (a b : Rest) → b.floor ≡ 0 → Stuck h b → Stuck h (fused_return list a b)
down_stuck list h a b z m = record {
  run = λ ys e i.
      let r = a.run ys e in
      let s = stamp a.floor 0 in
      let w = m.run (outs r) (end_of r) (to_come b.floor (outs r) (end_of r) z) in
      (0, ap (woven (λ j. place s j r) (return_finish list b.unread s r) r 0) (w.1 ∙ ap (λ f. Ends (stamp f w.0) (Halts h)) z));
}

-- ---- b waits, and a moves

outs_same : (g : Grade) (r q : Run) → view g r ≡ view g q → outs r ≡ outs q
outs_same g r q e = sym (outs_view g r) ∙ ap outs e ∙ outs_view g q

last_least : (m : ℕ) (r : Run) → Rising m r → m ≤ (last r).need
last_least m (Then s a r) k = last_least m r (rising_less m s.need r k.0 k.1)
last_least m (Ends s e) k = k

-- one output is given to b, which asked for it
kept_given : (u : List Item) (x : Item) (os : List Item) (t : Stamp) → 1 ≤ t.need → drop t.net (u ++ take t.need (x ∷ os)) ≡ drop t.net ((u ++ x ∷ []) ++ take (t.need - 1) os)
kept_given u x os t h = by_need u x os t.need t.net h where
  by_need : (u : List Item) (x : Item) (os : List Item) (j n : ℕ) → 1 ≤ j → drop n (u ++ take j (x ∷ os)) ≡ drop n ((u ++ x ∷ []) ++ take (j - 1) os)
  by_need u x os zero n h = absurd (omega arith)
  by_need u x os (suc j) n h = (let e : suc j - 1 ≡ j = omega arith in rw e (ap (drop n) (sym (append_assoc u (x ∷ []) (take j os)))))

-- a gives a piece, and b gets it
pub up_emits : (list : List Item → Value) (c : Bool) (x : Item) (a a' b b' : Rest) → Asks b → Moves (nets c) (Out x ∷ []) a a' → Gets needs_to_end (x ∷ []) b b'
    → Moves (nets c) [] (fused_return list a b) (fused_return list a' b')
up_emits list c x a a' b b' q m n =
    return_moves list c [] a a' b b' (by.up_emits c (x ∷ []) a a' b b' q m (gets_needs needs_to_end (x ∷ []) b b' n))
    (λ ys e v i z.
    let g = nets c in
    let k = length m.read in
    let r = a.run ys e in
    let r' = a'.run ys e in
    let whole = Then (stamp a.floor k) (Out x) (restamp (past_by k) r') in
    let below = b.run (x ∷ outs r') (end_of r') in
    let e1 : outs whole ≡ x ∷ outs r' = ap (λ l. x ∷ l) (outs_restamp (past_by k) r') in
    let e2 : fed r b.run ≡ below = fed_same g r whole b.run (m.run ys e i) ∙ rw (outs_restamp (past_by k) r', end_restamp (past_by k) r') in
    let e3 : less_by 1 (last below) ≡ last (fed r' b'.run) =
    sym (last_restamp (less_by 1) below) ∙ same_last (restamp (less_by 1) below) (fed r' b'.run) v (sym (n.run (outs r') (end_of r'))) z in
    ap (λ t. drop (last t).net (b.unread ++ take (last t).need (outs r))) e2
    ∙ ap (λ l. drop (last below).net (b.unread ++ take (last below).need l)) (outs_same g r whole (m.run ys e i) ∙ e1)
    ∙ kept_given b.unread x (outs r') (last below) (last_least 1 below (q.first (x ∷ outs r') (end_of r')))
    ∙ ap (λ u. drop (last below).net (u ++ take ((last below).need - 1) (outs r'))) (sym n.unread)
    ∙ ap (λ t. drop t.net (b'.unread ++ take t.need (outs r'))) e3)

-- a's effects are the whole's
pub up_does : (list : List Item → Value) (c : Bool) (es : List Effect) (a a' b : Rest) → Asks b → Moves (nets c) (map Do es) a a'
    → Moves (nets c) (map Do es) (fused_return list a b) (fused_return list a' b)
up_does list c es a a' b q m =
    return_moves list c (map Do es) a a' b b (by.up_does c es a a' b q m)
    (λ ys e v i z.
    let g = nets c in
    let k = length m.read in
    let r = a.run ys e in
    let r' = a'.run ys e in
    let r1 = restamp (past_by k) r' in
    let whole = acts_at (stamp a.floor k) (map Do es) r1 in
    let e1 : outs r ≡ outs r' = outs_same g r whole (m.run ys e i) ∙ outs_does (stamp a.floor k) es r1 ∙ outs_restamp (past_by k) r' in
    let e2 : fed r b.run ≡ fed r' b.run =
    fed_same g r whole b.run (m.run ys e i) ∙ rw (outs_does (stamp a.floor k) es r1, outs_restamp (past_by k) r', end_acts (stamp a.floor k) (map Do es) r1, end_restamp (past_by k) r') in
    ap (λ t. drop (last t).net (b.unread ++ take (last t).need (outs r))) e2 ∙ ap (λ l. drop (last (fed r' b.run)).net (b.unread ++ take (last (fed r' b.run)).need l)) e1)

-- both ask: the whole asks
pub both_ask : (list : List Item → Value) (a b : Rest) → Asks a → Asks b → Asks (fused_return list a b)
both_ask list a b p q =
    let w = by.both_ask a b p q in
    record {
      not_told = p.not_told;
      first = λ ys e. subst (Rising 1) (sym (return_is list a b ys e)) (follow_rising 1 ((fused a b).run ys e) (with_value (made list (kept a b ys e))) (w.first ys e) (λ v. le_self (last ((fused a b).run ys e)).need));
      halted = λ h. ((w.halted h).0, return_is list a b [] (Halted h) ∙ ap (λ r. follow r (with_value (made list (kept a b [] (Halted h))))) (w.halted h).1);
    }

-- a value that comes to the whole comes to a
kept_same : (g : Grade) (b : Rest) (r q : Run) → view g r ≡ view g q → drop (last (fed r b.run)).net (b.unread ++ take (last (fed r b.run)).need (outs r)) ≡ drop (last (fed q b.run)).net (b.unread ++ take (last (fed q b.run)).need (outs q))
kept_same g b r q e =
    ap (λ t. drop (last t).net (b.unread ++ take (last t).need (outs r))) (fed_same g r q b.run e)
    ∙ ap (λ l. drop (last (fed q b.run)).net (b.unread ++ take (last (fed q b.run)).need l)) (outs_same g r q e)

pub up_gets : (list : List Item → Value) (c : Bool) (d : List Item) (a a' b : Rest) → Gets (nets c) d a a' → Gets (nets c) d (fused_return list a b) (fused_return list a' b)
up_gets list c d a a' b m =
    let w = by.up_gets c d a a' b m in
    record {
      unread = w.unread;
      not_told = w.not_told;
      floor = w.floor;
      run = λ ys e.
          let g = nets c in
          let f = less_by (length d) in
          let r = a.run (d ++ ys) e in
          let p = (fused a b).run (d ++ ys) e in
          let k = with_value (made list (kept a b (d ++ ys) e)) in
          let e1 : kept a' b ys e ≡ kept a b (d ++ ys) e =
          kept_same g b (a'.run ys e) (restamp f r) (m.run ys e) ∙ rw (outs_restamp f r, end_restamp f r) in
          ap (view g) (return_is list a' b ys e ∙ ap (λ l. follow ((fused a' b).run ys e) (with_value (made list l))) e1)
          ∙ value_same g (made list (kept a b (d ++ ys) e)) ((fused a' b).run ys e) (restamp f p) (w.run ys e)
          ∙ ap (view g) (follow_restamp f p k k (λ u v. refl) ∙ ap (restamp f) (sym (return_is list a b (d ++ ys) e)));
    }

pub up_gets_end : (list : List Item → Value) (c : Bool) (a a' b : Rest) → Asks b → GetsEnd (nets c) a a' → GetsEnd (nets c) (fused_return list a b) (fused_return list a' b)
up_gets_end list c a a' b q m =
    let w = by.up_gets_end c a a' b q m in
    record {
      unread = w.unread;
      floor = w.floor;
      run =
          let g = nets c in
          let e1 : kept a' b [] Ended ≡ kept a b [] Ended = kept_same g b (a'.run [] Ended) (a.run [] Ended) m.run in
          ap (view g) (return_is list a' b [] Ended ∙ ap (λ l. follow ((fused a' b).run [] Ended) (with_value (made list l))) e1)
          ∙ value_same g (made list (kept a b [] Ended)) ((fused a' b).run [] Ended) ((fused a b).run [] Ended) w.run
          ∙ ap (view g) (sym (return_is list a b [] Ended));
    }

pub up_stuck : (list : List Item → Value) (h : Halt) (a b : Rest) → Asks b → Stuck h a → Stuck h (fused_return list a b)
up_stuck list h a b q m = record { run = λ ys e i. ((m.run ys e i).0, rw ((m.run ys e i).1, (q.halted h).1)) }

take_none : (j : ℕ) (l : List Item) → l ≡ [] → take j l ≡ []
take_none zero l e = refl
take_none (suc j) l e = ap (take (suc j)) e

ended_same : (r p : Run) (u : Value) → view needs_to_end r ≡ view needs_to_end p → ending r ≡ Done u → ending p ≡ Done u
ended_same r p u e z = sym (ending_view needs_to_end p) ∙ ap ending (sym e) ∙ ending_view needs_to_end r ∙ z

-- a ends, and b is told so; the whole is silent
pub up_finishes : (list : List Item → Value) (c : Bool) (v : Value) (rest : List Item) (a b b' : Rest) → Asks b → Finishes (nets c) v rest a → GetsEnd needs_to_end b b'
    → Moves (nets c) [] (fused_return list a b) (ended_return list rest a.floor b')
up_finishes list c v rest a b b' q m n =
    let w = by.up_finishes c v rest a b b' q m (gets_end_needs needs_to_end b b' n) in
    record {
      read = w.read;
      unread = w.unread;
      floor = w.floor;
      run = λ ys e i.
          let g = nets c in
          let k = length w.read in
          let r = a.run ys e in
          let done = Ends (stamp a.floor (length m.read)) (Done v) in
          let tail = restamp (λ s. stamp a.floor 0) (b'.run [] Ended) in
          let l' = drop (last (b'.run [] Ended)).net b'.unread in
          let f = with_value (made list (kept a b ys e)) in
          let f' = with_value (made list l') in
          let e1 : kept a b ys e ≡ drop (last (b.run [] Ended)).net b.unread =
          kept_same g b r done (m.run ys e i) ∙ ap (λ t. drop (last (b.run [] Ended)).net t) (ap (λ t. b.unread ++ t) (take_none (last (b.run [] Ended)).need [] refl) ∙ append-nil b.unread) in
          ap (view g) (return_is list a b ys e)
          ∙ value_same g (made list (kept a b ys e)) ((fused a b).run ys e) (restamp (past_by k) tail) (w.run ys e i)
          ∙ ap (view g) (follow_restamp (past_by k) tail f f (λ u v. refl)
          ∙ ap (restamp (past_by k)) (follow_at_last tail f f' (λ u z.
          ap (λ x. Ends (last tail) (Done (made list x u)))
          (e1
          ∙ ap (λ t. drop t.net b.unread) (sym (same_last (b'.run [] Ended) (b.run [] Ended) u n.run (ended_same (b'.run [] Ended) (b.run [] Ended) u n.run (sym (ending_restamp (λ s. stamp a.floor 0) (b'.run [] Ended)) ∙ z))))
          ∙ ap (drop (last (b'.run [] Ended)).net) (sym n.unread)))));
    }

-- ---- a has ended, and b goes on

pub ended_moves : (list : List Item → Value) (g : Grade) (acts : List Act) (back : List Item) (f : ℕ) (b b' : Rest) → Moves needs_to_end acts b b'
    → Moves g acts (ended_return list back f b) (ended_return list back f b')
ended_moves list g acts back f b b' m = record {
  read = [];
  unread = refl;
  floor = refl;
  run = λ ys e i.
      let s = stamp f 0 in
      let n = length m.read in
      let r = b.run [] Ended in
      let d = b'.run [] Ended in
      let q = acts_at (stamp b.floor n) acts (restamp (past_by n) d) in
      let same = m.run [] Ended (end_to_come b.floor) in
      let k = with_value (made list (drop (last r).net b.unread)) in
      let k' = with_value (made list (drop (last d).net b'.unread)) in
      let w = restamp (λ t. s) d in
      let e1 : restamp (λ t. s) r ≡ acts_at s acts w =
      same_needs s r q (needs_same needs_to_end r q same) ∙ restamp_acts (λ t. s) (stamp b.floor n) acts (restamp (past_by n) d) ∙ ap (acts_at s acts) (restamp_twice (λ t. s) (past_by n) d) in
      ap (view g) (
      ap (λ t. follow t k) e1
      ∙ follow_acts s acts w k
      ∙ ap (acts_at s acts) (
      follow_at_last w k k' (λ v z.
      ap (λ l. Ends (last w) (Done (made list l v)))
      (ap (λ t. drop t.net b.unread)
      (same_last r q v same (ending_acts _ acts (restamp (past_by n) d) ∙ ending_restamp (past_by n) d ∙ sym (ending_restamp (λ t. s) d) ∙ z) ∙ last_acts _ acts (restamp (past_by n) d) ∙ last_restamp (past_by n) d)
      ∙ ap (drop (past_by n (last d)).net) (m.unread)
      ∙ drop_back m.read b'.unread (last d).net))
      ∙ sym (restamp_id (past_by 0) (follow w k') past_by_0)));
} where
  drop_back : (xs ys : List Item) (n : ℕ) → drop (length xs + n) (xs ++ ys) ≡ drop n ys
  drop_back xs ys n = drop-append-add xs ys n

pub ended_finishes : (list : List Item → Value) (g : Grade) (v : Value) (rest back : List Item) (f : ℕ) (b : Rest) → Finishes needs_to_end v rest b
    → Finishes g (Value.Pair v (list rest)) back (ended_return list back f b)
ended_finishes list g v rest back f b m = record {
  read = [];
  unread = refl;
  run = λ ys e i.
      let r = b.run [] Ended in
      let n = length m.read in
      let done = Ends (stamp b.floor n) (Done v) in
      let same = m.run [] Ended (end_to_come b.floor) in
      ap (view g) (
      ap (λ t. follow t (with_value (made list (drop (last r).net b.unread)))) (same_needs (stamp f 0) r done (needs_same needs_to_end r done same))
      ∙ ap (λ l. Ends (stamp f 0) (Done (made list l v))) (
      ap (λ t. drop t.net b.unread) (same_last r done v same refl)
      ∙ ap (drop n) m.unread
      ∙ drop-append_seam m.read rest));
}

pub ended_stuck : (list : List Item → Value) (h : Halt) (back : List Item) (f : ℕ) (b : Rest) → Stuck h b → Stuck h (ended_return list back f b)
ended_stuck list h back f b m = record {
  run = λ ys e i. (0, ap (λ t. follow (restamp (λ s. stamp f 0) t) (with_value (made list (drop (last t).net b.unread)))) (m.run [] Ended (end_to_come b.floor)).1);
}
