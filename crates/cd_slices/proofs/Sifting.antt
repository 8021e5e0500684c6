-- A splitter's run behind which sieves and what takes their pieces stand is that of one scan.
use Rattle.std.proofs.Common.{◌≡◌, ℕ, suc, ◌+◌, ◌||◌, ◌==◌, Bool, true, false, List, [], ◌∷◌, ◌++◌, length, map, refl, ap, sym, ◌∙◌, Option, Some, None}
use Rattle.cd_meaning.specs.Stream.{Item, Piece, Value, End, Ended, Halted, Done, Act, Out, Do}
use Rattle.cd_meaning.specs.Run.{Stamp, stamp, Run, Then, Ends, acts_at}
use Rattle.cd_meaning.specs.RunShapes.{number, elements}
use Rattle.cd_meaning.specs.Scan.{Scan, Reply, Go, Back, at_ready, closed, scan}
use Rattle.cd_meaning.proofs.Runs.Scans.{carried, scan_by, scan_ready}
use Rattle.cd_meaning.proofs.Weaves.Through.{ready_at, through}
use Rattle.cd_split.specs.declared.rule.CutRule.{CutRule}
use Rattle.cd_split.specs.Cutting.{Line, is_end, short_piece, cut_reply, cut_scan}
use Rattle.cd_slices.specs.declared.sieve.Sieve.{Sieve}
use Rattle.cd_slices.specs.declared.sieve.Verdict.{Verdict}
use Rattle.cd_slices.specs.declared.sieve.Verdict.TheVariants.{Keeps, Drops, Refuses}
use Rattle.cd_slices.specs.Slicing.{verdict, behind, takes_none, then_by, sieved, met, left_of, is_spent, Sink, Pieces, sink_acts, sink_next, sink_value, Standing, standing, judged, sifted, sift_reply, value_if, slice_scan}

-- ---- at most one piece at once

abbrev pub given : Option (List ℕ) → List Act
given None = []
given (Some p) = Out (Piece p) ∷ []

cut_gives : (r : CutRule) (l : Line) (x : Item) → (o : Option (List ℕ)) × (m : Line) × ((cut_scan r).step l x ≡ Go (given o) m)
cut_gives r l x = by_cases (is_end r.separator (number x)) (length l.1 + 1 == r.most) l (number x) where
  by_cases : (b full : Bool) (l : Line) (x : ℕ) → (o : Option (List ℕ)) × (m : Line) × (cut_reply b full l x ≡ Go (given o) m)
  by_cases true full (true, []) x = (Some [], (true, []), refl)
  by_cases true full (false, []) x = (None, (true, []), refl)
  by_cases true full (f, y ∷ l) x = (Some (y ∷ l), (true, []), refl)
  by_cases false true l x = (Some (l.1 ++ x ∷ []), (false, []), refl)
  by_cases false false l x = (None, (l.0, l.1 ++ x ∷ []), refl)

end_gives : (b : Bool) (l : List ℕ) → (o : Option (List ℕ)) × (map Out (short_piece b l) ≡ given o)
end_gives false l = (None, refl)
end_gives true [] = (None, refl)
end_gives true (x ∷ l) = (Some (x ∷ l), refl)

-- ---- one sieve more

abbrev behind_if : Verdict → Sieve → Sieve
behind_if Keeps w = behind w
behind_if Drops w = w
behind_if Refuses w = w

sieved_more : (ws : List Sieve) (w : Sieve) (p : List ℕ) → sieved (ws ++ w ∷ []) p ≡ then_by (sieved ws p) (verdict w p)
sieved_more [] w p = alone (verdict w p) where
  alone : (v : Verdict) → then_by v Keeps ≡ v
  alone Keeps = refl
  alone Drops = refl
  alone Refuses = refl
sieved_more (u ∷ ws) w p = by_first (verdict u p) (sieved_more ws w p) where
  by_first : (v : Verdict) → sieved (ws ++ w ∷ []) p ≡ then_by (sieved ws p) (verdict w p) → then_by v (sieved (ws ++ w ∷ []) p) ≡ then_by (then_by v (sieved ws p)) (verdict w p)
  by_first Keeps h = h
  by_first Drops h = refl
  by_first Refuses h = refl

left_more : (ws : List Sieve) (w : Sieve) (p : List ℕ) → left_of (ws ++ w ∷ []) p ≡ left_of ws p ++ behind_if (sieved ws p) w ∷ []
left_more [] w p = alone (verdict w p) where
  alone : (v : Verdict) → behind w ∷ met v [] [] ≡ behind w ∷ []
  alone Keeps = refl
  alone Drops = refl
  alone Refuses = refl
left_more (u ∷ ws) w p = by_first (verdict u p) (left_more ws w p) where
  by_first : (v : Verdict) → left_of (ws ++ w ∷ []) p ≡ left_of ws p ++ behind_if (sieved ws p) w ∷ []
      → behind u ∷ met v (ws ++ w ∷ []) (left_of (ws ++ w ∷ []) p) ≡ behind u ∷ (met v ws (left_of ws p) ++ behind_if (then_by v (sieved ws p)) w ∷ [])
  by_first Keeps h = ap (λ vs. behind u ∷ vs) h
  by_first Drops h = refl
  by_first Refuses h = refl

spent_more : (ws : List Sieve) (w : Sieve) → is_spent (ws ++ w ∷ []) ≡ takes_none w || is_spent ws
spent_more [] w = refl
spent_more (u ∷ ws) w = ap (λ b. takes_none u || b) (spent_more ws w) ∙ turned (takes_none u) (takes_none w) (is_spent ws) where
  turned : (a b c : Bool) → a || (b || c) ≡ b || (a || c)
  turned true true c = refl
  turned true false c = refl
  turned false b c = refl

-- ---- a sieve, and what takes the pieces, as scans of their own

abbrev pub sieve_reply : Verdict → Sieve → Item → Reply Sieve
sieve_reply Keeps w x = Go (Out x ∷ []) (behind w)
sieve_reply Drops w x = Go [] (behind w)
sieve_reply Refuses w x = Back Value.Unit

abbrev pub sieve_scan : Scan Sieve
sieve_scan = record { ready = λ w. value_if (takes_none w) Pieces; step = λ w x. sieve_reply (verdict w (elements x)) w x; close = λ w. []; ending = λ w. Done Value.Unit }

abbrev pub sink_scan : Scan Sink
sink_scan = record { ready = λ k. None; step = λ k x. Go (sink_acts k (elements x)) (sink_next k); close = λ k. []; ending = λ k. Done (sink_value k) }

-- ---- in front of a word that asks for nothing

through_ready : {S : Type 0} (w : Scan S) (s : Stamp) (st : S) (r : Run) (v : Value) → w.ready st ≡ Some v → through w s st r ≡ Ends s (Done v)
through_ready w s st (Then t (Out x) r) v h = rw h refl
through_ready w s st (Then t (Do e) r) v h = rw h refl
through_ready w s st (Ends t e) v h = rw h refl

module _ (r : CutRule) where
  abbrev pub run_at : ℕ → Line → Standing → List Item → End → Run
  run_at i l st xs e = scan (slice_scan r) i (l, st) xs e

  -- ---- a sieve behind sieves

  abbrev Behind : ℕ → Line → List Item → End → Type 0
  Behind i l xs e = (ws : List Sieve) (w : Sieve) (s : Stamp) → (takes_none w ≡ true → s ≡ stamp i i)
      → through sieve_scan s w (run_at i l (standing ws false Pieces) xs e) ≡ run_at i l (standing (ws ++ w ∷ []) false Pieces) xs e

  -- a run that ends at once where a sieve takes no further piece
  ready_behind : (ws : List Sieve) (w : Sieve) (s : Stamp) (i : ℕ) (b c : Bool) (p q : Run) → takes_none w ≡ b → is_spent ws ≡ c → (takes_none w ≡ true → s ≡ stamp i i) → (takes_none w ≡ false → through sieve_scan s w p ≡ q)
      → through sieve_scan s w (at_ready (value_if (false || is_spent ws) Pieces) i p) ≡ at_ready (value_if (false || is_spent (ws ++ w ∷ [])) Pieces) i q
  ready_behind ws w s i true c p q h k a f =
      through_ready sieve_scan s w (at_ready (value_if (is_spent ws) Pieces) i p) Value.Unit (ap (λ b. value_if b Pieces) h)
      ∙ ap (λ t. Ends t (Done Value.Unit)) (a h)
      ∙ sym (ap (λ b. at_ready (value_if b Pieces) i q) (spent_more ws w ∙ ap (λ b. b || is_spent ws) h))
  ready_behind ws w s i false true p q h k a f =
      ap (λ b. through sieve_scan s w (at_ready (value_if b Pieces) i p)) k
      ∙ ap (λ b. ready_at (value_if b Pieces) s (Ends (stamp i i) (Done Value.Unit))) h
      ∙ sym (ap (λ b. at_ready (value_if b Pieces) i q) (spent_more ws w ∙ ap (λ b. b || is_spent ws) h ∙ k))
  ready_behind ws w s i false false p q h k a f =
      ap (λ b. through sieve_scan s w (at_ready (value_if b Pieces) i p)) k
      ∙ f h
      ∙ sym (ap (λ b. at_ready (value_if b Pieces) i q) (spent_more ws w ∙ ap (λ b. b || is_spent ws) h ∙ k))

  -- at the end
  close_behind : (ws vs : List Sieve) (w : Sieve) (s : Stamp) (i : ℕ) (p : List ℕ) (v u : Verdict) → verdict w p ≡ u → takes_none w ≡ false
      → through sieve_scan s w (closed i (judged v vs Pieces p).0 (Done (sink_value (judged v vs Pieces p).1.sink)) Ended)
      ≡ closed i (judged (then_by v u) (vs ++ behind_if v w ∷ []) Pieces p).0 (Done (sink_value (judged (then_by v u) (vs ++ behind_if v w ∷ []) Pieces p).1.sink)) Ended
  close_behind ws vs w s i p Keeps Keeps h z = rw (z, h) (ended (takes_none (behind w))) where
    ended : (b : Bool) → Then (stamp (suc i) i) (Out (Piece p)) (ready_at (value_if b Pieces) (stamp (suc i) i) (Ends (stamp (suc i) i) (Done Value.Unit))) ≡ Then (stamp (suc i) i) (Out (Piece p)) (Ends (stamp (suc i) i) (Done Value.Unit))
    ended true = refl
    ended false = refl
  close_behind ws vs w s i p Keeps Drops h z = rw (z, h) (ended (takes_none (behind w))) where
    ended : (b : Bool) → ready_at (value_if b Pieces) (stamp (suc i) i) (Ends (stamp (suc i) i) (Done Value.Unit)) ≡ Ends (stamp (suc i) i) (Done Value.Unit)
    ended true = refl
    ended false = refl
  close_behind ws vs w s i p Keeps Refuses h z = rw (z, h) refl
  close_behind ws vs w s i p Drops u h z = rw z refl
  close_behind ws vs w s i p Refuses u h z = rw z refl

  end_behind : (ws : List Sieve) (w : Sieve) (s : Stamp) (i : ℕ) (e : End) (o : Option (List ℕ)) → takes_none w ≡ false
      → through sieve_scan s w (closed i (sifted (standing ws false Pieces) (given o)).0 (Done (sink_value (sifted (standing ws false Pieces) (given o)).1.sink)) e)
      ≡ closed i (sifted (standing (ws ++ w ∷ []) false Pieces) (given o)).0 (Done (sink_value (sifted (standing (ws ++ w ∷ []) false Pieces) (given o)).1.sink)) e
  end_behind ws w s i (Halted h) o z = rw z refl
  end_behind ws w s i Ended None z = rw z refl
  end_behind ws w s i Ended (Some p) z = rw (sieved_more ws w p, left_more ws w p) (close_behind ws (left_of ws p) w s i p (sieved ws p) (verdict w p) refl z)

  -- at a piece
  piece_behind : (vs : List Sieve) (w : Sieve) (s : Stamp) (i : ℕ) (m : Line) (xs : List Item) (e : End) (p : List ℕ) (v u : Verdict) → verdict w p ≡ u → takes_none w ≡ false → Behind (suc i) m xs e
      → through sieve_scan s w (acts_at (stamp (suc i) (suc i)) (judged v vs Pieces p).0 (run_at (suc i) m (judged v vs Pieces p).1 xs e))
      ≡ acts_at (stamp (suc i) (suc i)) (judged (then_by v u) (vs ++ behind_if v w ∷ []) Pieces p).0 (run_at (suc i) m (judged (then_by v u) (vs ++ behind_if v w ∷ []) Pieces p).1 xs e)
  piece_behind vs w s i m xs e p Keeps Keeps h z f = rw (z, h) (ap (Then (stamp (suc i) (suc i)) (Out (Piece p))) (f vs (behind w) (stamp (suc i) (suc i)) (λ k. refl)))
  piece_behind vs w s i m xs e p Keeps Drops h z f = rw (z, h) (f vs (behind w) (stamp (suc i) (suc i)) (λ k. refl))
  piece_behind vs w s i m xs e p Keeps Refuses h z f = rw (z, h) (sym (scan_ready (slice_scan r) (suc i) (m, standing (vs ++ behind w ∷ []) true Pieces) xs e Value.Unit refl))
  piece_behind vs w s i m xs e p Drops u h z f = f vs w s (λ k. absurd (let g : false ≡ true = sym z ∙ k in cc))
  piece_behind vs w s i m xs e p Refuses u h z f =
      ap (through sieve_scan s w) (scan_ready (slice_scan r) (suc i) (m, standing vs true Pieces) xs e Value.Unit refl)
      ∙ ap (λ b. ready_at (value_if b Pieces) s (Ends (stamp (suc i) (suc i)) (Done Value.Unit))) z
      ∙ sym (scan_ready (slice_scan r) (suc i) (m, standing (vs ++ w ∷ []) true Pieces) xs e Value.Unit refl)

  step_behind : (ws : List Sieve) (w : Sieve) (s : Stamp) (i : ℕ) (m : Line) (xs : List Item) (e : End) (o : Option (List ℕ)) → takes_none w ≡ false → Behind (suc i) m xs e
      → through sieve_scan s w (acts_at (stamp (suc i) (suc i)) (sifted (standing ws false Pieces) (given o)).0 (run_at (suc i) m (sifted (standing ws false Pieces) (given o)).1 xs e))
      ≡ acts_at (stamp (suc i) (suc i)) (sifted (standing (ws ++ w ∷ []) false Pieces) (given o)).0 (run_at (suc i) m (sifted (standing (ws ++ w ∷ []) false Pieces) (given o)).1 xs e)
  step_behind ws w s i m xs e None z f = f ws w s (λ k. absurd (let g : false ≡ true = sym z ∙ k in cc))
  step_behind ws w s i m xs e (Some p) z f = rw (sieved_more ws w p, left_more ws w p) (piece_behind (left_of ws p) w s i m xs e p (sieved ws p) (verdict w p) refl z f)

  pub sieve_behind : (i : ℕ) (l : Line) (xs : List Item) (e : End) → Behind i l xs e
  sieve_behind i l [] e ws w s h =
      let o = end_gives r.short l.1 in
      ready_behind ws w s i (takes_none w) (is_spent ws) _ _ refl refl h (λ z. rw o.1 (end_behind ws w s i e o.0 z))
  sieve_behind i l (x ∷ xs) e ws w s h =
      let o = cut_gives r l x in
      ready_behind ws w s i (takes_none w) (is_spent ws) _ _ refl refl h (λ z. rw o.2 (step_behind ws w s i o.1 xs e o.0 z (sieve_behind (suc i) o.1 xs e)))

  -- ---- what takes the pieces, behind sieves

  close_taken : (vs : List Sieve) (k : Sink) (s : Stamp) (i : ℕ) (p : List ℕ) (v : Verdict)
      → through sink_scan s k (closed i (judged v vs Pieces p).0 (Done (sink_value (judged v vs Pieces p).1.sink)) Ended) ≡ closed i (judged v vs k p).0 (Done (sink_value (judged v vs k p).1.sink)) Ended
  close_taken vs k s i p Keeps = refl
  close_taken vs k s i p Drops = refl
  close_taken vs k s i p Refuses = refl

  end_taken : (ws : List Sieve) (k : Sink) (s : Stamp) (i : ℕ) (e : End) (o : Option (List ℕ))
      → through sink_scan s k (closed i (sifted (standing ws false Pieces) (given o)).0 (Done (sink_value (sifted (standing ws false Pieces) (given o)).1.sink)) e)
      ≡ closed i (sifted (standing ws false k) (given o)).0 (Done (sink_value (sifted (standing ws false k) (given o)).1.sink)) e
  end_taken ws k s i (Halted h) o = refl
  end_taken ws k s i Ended None = refl
  end_taken ws k s i Ended (Some p) = close_taken (left_of ws p) k s i p (sieved ws p)

  abbrev Taken : ℕ → Line → List Item → End → Type 0
  Taken i l xs e = (ws : List Sieve) (k : Sink) (s : Stamp) → through sink_scan s k (run_at i l (standing ws false Pieces) xs e) ≡ run_at i l (standing ws false k) xs e

  piece_taken : (vs : List Sieve) (k : Sink) (s : Stamp) (i : ℕ) (m : Line) (xs : List Item) (e : End) (p : List ℕ) (v : Verdict) → Taken (suc i) m xs e
      → through sink_scan s k (acts_at (stamp (suc i) (suc i)) (judged v vs Pieces p).0 (run_at (suc i) m (judged v vs Pieces p).1 xs e))
      ≡ acts_at (stamp (suc i) (suc i)) (judged v vs k p).0 (run_at (suc i) m (judged v vs k p).1 xs e)
  piece_taken vs k s i m xs e p Keeps f = ap (acts_at (stamp (suc i) (suc i)) (sink_acts k p)) (f vs (sink_next k) (stamp (suc i) (suc i)))
  piece_taken vs k s i m xs e p Drops f = f vs k s
  piece_taken vs k s i m xs e p Refuses f =
      ap (through sink_scan s k) (scan_ready (slice_scan r) (suc i) (m, standing vs true Pieces) xs e Value.Unit refl)
      ∙ sym (scan_ready (slice_scan r) (suc i) (m, standing vs true k) xs e (sink_value k) refl)

  step_taken : (ws : List Sieve) (k : Sink) (s : Stamp) (i : ℕ) (m : Line) (xs : List Item) (e : End) (o : Option (List ℕ)) → Taken (suc i) m xs e
      → through sink_scan s k (acts_at (stamp (suc i) (suc i)) (sifted (standing ws false Pieces) (given o)).0 (run_at (suc i) m (sifted (standing ws false Pieces) (given o)).1 xs e))
      ≡ acts_at (stamp (suc i) (suc i)) (sifted (standing ws false k) (given o)).0 (run_at (suc i) m (sifted (standing ws false k) (given o)).1 xs e)
  step_taken ws k s i m xs e None f = f ws k s
  step_taken ws k s i m xs e (Some p) f = piece_taken (left_of ws p) k s i m xs e p (sieved ws p) f

  ready_taken : (b : Bool) (k : Sink) (s : Stamp) (i : ℕ) (p q : Run) → through sink_scan s k p ≡ q → through sink_scan s k (at_ready (value_if b Pieces) i p) ≡ at_ready (value_if b k) i q
  ready_taken true k s i p q h = refl
  ready_taken false k s i p q h = h

  pub sink_behind : (i : ℕ) (l : Line) (xs : List Item) (e : End) → Taken i l xs e
  sink_behind i l [] e ws k s = (let o = end_gives r.short l.1 in ready_taken (is_spent ws) k s i _ _ (rw o.1 (end_taken ws k s i e o.0)))
  sink_behind i l (x ∷ xs) e ws k s = (let o = cut_gives r l x in ready_taken (is_spent ws) k s i _ _ (rw o.2 (step_taken ws k s i o.1 xs e o.0 (sink_behind (suc i) o.1 xs e))))

  -- ---- the splitter alone

  abbrev alone : Line → Line × Standing
  alone l = (l, standing [] false Pieces)

  given_alone : (o : Option (List ℕ)) (m : Line) → carried alone (Go (given o) m) ≡ sift_reply (standing [] false Pieces) (Go (given o) m)
  given_alone None m = refl
  given_alone (Some p) m = refl

  closed_alone : (o : Option (List ℕ)) → given o ≡ (sifted (standing [] false Pieces) (given o)).0
  closed_alone None = refl
  closed_alone (Some p) = refl

  ended_alone : (o : Option (List ℕ)) → Value.Unit ≡ sink_value (sifted (standing [] false Pieces) (given o)).1.sink
  ended_alone None = refl
  ended_alone (Some p) = refl

  pub cut_alone : (l : Line) (xs : List Item) (e : End) → scan (cut_scan r) 0 l xs e ≡ run_at 0 l (standing [] false Pieces) xs e
  cut_alone l xs e =
      scan_by (cut_scan r) (slice_scan r) alone (λ m. refl)
      (λ m x. let o = cut_gives r m x in rw o.2 (given_alone o.0 o.1))
      (λ m. let o = end_gives r.short m.1 in rw o.1 (closed_alone o.0))
      (λ m. let o = end_gives r.short m.1 in rw o.1 (ap Done (ended_alone o.0)))
      0 l xs e
