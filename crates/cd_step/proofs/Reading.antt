-- What a stage does that is a scan: one law for each of its moves.
use Rattle.std.proofs.Common.{◌≡◌, ℕ, ◌+◌, ◌-◌, ◌≤◌, inl, inr, max, Bool, true, false, List, [], ◌∷◌, ◌++◌, length, refl, sym, ◌∙◌, subst, Option, Some, None, arith}
use Rattle.std.proofs.lemmas.List.{append-nil}
use Rattle.cd_elem.specs.declared.kind.Kind.{Kind}
use Rattle.cd_elem.specs.declared.value.Value.{Value as Result}
use Rattle.cd_meaning.specs.Stream.{Item, Value, End, Ending, Done as IsDoneBy, Decode, Act}
use Rattle.cd_elem.specs.declared.fault.Fault.{Fault}
use Rattle.cd_meaning.specs.Run.{stamp, Run, Then, Ends, acts_at, restamp}
use Rattle.cd_meaning.specs.Laws.{Rising}
use Rattle.cd_meaning.specs.Rest.{Rest, Grade, Moves, Finishes, fresh, reads_first}
use Rattle.cd_meaning.specs.Scan.{Scan, Go, Back, Fail, scan}
use Rattle.cd_meaning.specs.Values.{value_meaning}
use Rattle.cd_meaning.proofs.Runs.Scans.{acts_rising, scan_rising}
use Rattle.cd_meaning.proofs.Moves.Plain.{finishes_after}
use Rattle.cd_meaning.proofs.Moves.Scans.{moves_after, moves_join, pending_more, scan_reads, scan_finishes, scan_back, scan_fails, scan_needs, scan_ends}
use Rattle.cd_step.specs.declared.protocol.Input.{Input}
use Rattle.cd_step.specs.declared.protocol.Input.TheVariants.{Start, Chunk as Given, End as TheEnd, Next}
use Rattle.cd_step.specs.declared.protocol.Move.{Move}
use Rattle.cd_step.specs.declared.protocol.Move.TheVariants.{Emit, Need, Done, Fault as Faulted}
use Rattle.cd_step.specs.Parts.{Chunk, At, Wait, Gave, Over, Part, items, rest_items, weight_any, weigh, of_pieces, IsOf, Takes, IsGiven, fed, outs_of, Goes, Kept, Stepped, IsSound}
use Rattle.cd_step.specs.Flows.{Retires}
use Rattle.cd_step.specs.Reading.{scan_rest, part_of, IsRead, IsSilent, IsLast, IsDone}
use Rattle.cd_step.proofs.Moving.{moves_none, moves_gets, moves_gets_end, goes_after}

-- a part that was told the end, and does nothing more
closed_finishes : (g : Grade) (v : Value) (acts : List Act) (e : Ending) → acts ≡ [] → e ≡ IsDoneBy v → Finishes g v [] (record { unread = []; floor = 1; run = λ ys t. acts_at (stamp 1 0) acts (Ends (stamp 1 0) e) })
closed_finishes g v acts e c h = rw (c, h) (record { read = []; unread = refl; run = λ ys t i. refl })

-- what a part held before a move decides nothing
pub goes_counted : (m : Move) (at : At) (g : Grade) (gives takes : Option Kind) (room n k : ℕ) (p : Rest) (q : Part) → Goes m (part_of at g gives takes room n p) q → Goes m (part_of at g gives takes room k p) q
goes_counted (Emit d) at g gives takes room n k p q h = (h.0, record { is_at = h.1.is_at; goes = h.1.goes })
goes_counted Need at g gives takes room n k p q h = record { is_at = h.is_at; takes = h.takes; goes = h.goes; none_unread = h.none_unread; asks = h.asks }
goes_counted (Done v r) at g gives takes room n k p q h = record { is_at = h.is_at; floor = h.floor; given = h.given; left = h.left; finishes = h.finishes }
goes_counted (Faulted f) at g gives takes room n k p q h = record { is_at = h.is_at; stuck = h.stuck }

-- what no step changes of a part, none changes of it with its input taken in
pub kept_fed : (i : Input) (p q : Part) → Kept p q → Kept (fed i p) q
kept_fed Start p q h = h
kept_fed (Given c) p q h = h
kept_fed TheEnd p q h = h
kept_fed Next p q h = h

-- ---- many values are read at once

module _ {S : Type 0} (w : Scan S) where
  abbrev left : S → List Item → Rest
  left st u = scan_rest w false st u

  -- on a stream that may be cut anywhere
  pub read_moves : (g : Grade) (xs u : List Item) (st t : S) (acts : List Act) → g.pieces ≡ false → IsRead w st xs acts t → Moves g acts (scan_rest w false st (xs ++ u)) (scan_rest w false t u)
  read_moves g [] u st t acts z (e, k) =
      subst (λ a. Moves g a (left st u) (left t u)) (sym e) (subst (λ m. Moves g [] (left st u) (left m u)) k (moves_none g (left st u)))
  read_moves g (x ∷ xs) u st t acts z (a, b, m, r, s, e, i) =
      subst (λ y. Moves g y (left st (x ∷ (xs ++ u))) (left t u)) (sym e)
      (moves_join g a b (left st (x ∷ (xs ++ u))) (left m (xs ++ u)) (left t u) z (scan_reads w g 0 x (xs ++ u) st m a r s) (read_moves g xs u m t b z i))

  pub silent_moves : (g : Grade) (xs u : List Item) (st t : S) → IsSilent w st xs t → Moves g [] (scan_rest w false st (xs ++ u)) (scan_rest w false t u)
  silent_moves g [] u st t k = subst (λ m. Moves g [] (left st u) (left m u)) k (moves_none g (left st u))
  silent_moves g (x ∷ xs) u st t (m, r, s, i) =
      moves_after g [] (left st (x ∷ (xs ++ u))) (left m (xs ++ u)) (left t u) (scan_reads w g 0 x (xs ++ u) st m [] r s) (silent_moves g xs u m t i)

  -- acts that are none
  pub read_silent : (xs : List Item) (st t : S) (acts : List Act) → acts ≡ [] → IsRead w st xs acts t → IsSilent w st xs t
  read_silent [] st t acts z (e, k) = k
  read_silent (x ∷ xs) st t acts z (a, b, m, r, s, e, i) =
      let n = neither a b (sym e ∙ z) in
      (m, r, subst (λ y. w.step st x ≡ Go y m) n.0 s, read_silent xs m t b n.1 i) where
        neither : (a b : List Act) → a ++ b ≡ [] → (a ≡ []) × (b ≡ [])
        neither [] b h = (refl, h)
        neither (x ∷ a) b h = cc

  -- one value more is read before it ends
  pub done_behind : (x : Item) (xs u : List Item) (st t : S) (v : Value) → w.ready st ≡ None → w.step st x ≡ Go [] t → IsDone w t xs u v → IsDone w st (x ∷ xs) u v
  done_behind x xs u st t v r s h = record { last = h.last; silent = (t, r, s, h.silent); ends = h.ends }

  -- it gives the next value back
  pub done_back : (x : Item) (u : List Item) (st : S) (v : Value) → w.ready st ≡ None → w.step st x ≡ Back v → IsDone w st [] (x ∷ u) v
  done_back x u st v r s = record { last = st; silent = refl; ends = inr (x, u, refl, r, s) }

  -- it asks for no further value
  pub done_ready : (u : List Item) (st : S) (v : Value) → w.ready st ≡ Some v → IsDone w st [] u v
  done_ready u st v h = record { last = st; silent = refl; ends = inl h }

  -- ---- moves

  -- all that is unread is read, and then it asks
  pub need_law : (at : At) (g : Grade) (gives takes : Option Kind) (room n m : ℕ) (u : List Item) (st t : S) → IsSilent w st u t → w.ready t ≡ None → Takes takes
      → Goes Need (part_of at g gives takes room n (scan_rest w false st u)) (part_of Wait g gives takes room m (scan_rest w false t []))
  need_law at g gives takes room n m u st t h r k = record {
    is_at = refl;
    takes = k;
    goes = λ z. subst (λ l. Moves g [] (left st l) (left t [])) (append-nil u) (silent_moves g u [] st t h);
    none_unread = refl;
    asks = λ z. scan_needs w t r;
  }

  -- some of what is unread is read, and this is given for it
  pub emit_law : (at : At) (g : Grade) (gives takes : Option Kind) (room n m : ℕ) (d : Chunk) (xs u : List Item) (st t : S) → g.pieces ≡ false → IsOf gives d → IsRead w st xs (outs_of d) t
      → Goes (Emit d) (part_of at g gives takes room n (scan_rest w false st (xs ++ u))) (part_of Gave g gives takes room m (scan_rest w false t u))
  emit_law at g gives takes room n m d xs u st t z k h = (k, record { is_at = refl; goes = λ w1. read_moves g xs u st t (outs_of d) z h })

  -- ---- endings

  last_finishes : (g : Grade) (t : S) (u : List Item) (v : Value) → IsLast w t u v → Finishes g v u (scan_rest w false t u)
  last_finishes g t u v (inl h) = scan_finishes w g 0 u t v h
  last_finishes g t u v (inr (x, y, e, r, s)) = rw e (scan_back w g 0 x y t v r s)

  -- some of what is unread is read, and behind that it ends
  pub done_finishes : (g : Grade) (v : Value) (xs u : List Item) (st : S) → IsDone w st xs u v → Finishes g v u (scan_rest w false st (xs ++ u))
  done_finishes g v xs u st h = finishes_after g v u (left st (xs ++ u)) (left h.last u) (silent_moves g xs u st h.last h.silent) (last_finishes g h.last u v h.ends)

  -- it was told the end, and does nothing more
  pub close_finishes : (g : Grade) (v : Value) (st : S) (u : List Item) → w.close st ≡ [] → w.ending st ≡ IsDoneBy v → Finishes g v [] (scan_rest w true st u)
  close_finishes g v st u c e = closed_finishes g v (w.close st) (w.ending st) c e

  pub done_law : (at : At) (g : Grade) (gives takes : Option Kind) (room n m : ℕ) (v : Result) (r : Option Chunk) (xs u y : List Item) (st t : S) → IsDone w st xs u (value_meaning v)
      → rest_items r ≡ u → IsGiven takes r → m + weight_any r ≤ room
      → Goes (Done v r) (part_of at g gives takes room n (scan_rest w false st (xs ++ u))) (part_of Over g gives takes room m (scan_rest w false t y))
  done_law at g gives takes room n m v r xs u y st t h e k l = record {
    is_at = refl;
    floor = refl;
    given = k;
    left = l;
    finishes = λ z. rw e (done_finishes g (value_meaning v) xs u st h);
  }

  -- some of what is unread is read, and the next value is a fault
  pub fault_law : (at : At) (g : Grade) (gives takes : Option Kind) (room n m : ℕ) (f : Fault) (x : Item) (u : List Item) (st : S) → w.ready st ≡ None → w.step st x ≡ Fail (Decode f)
      → Goes (Faulted f) (part_of at g gives takes room n (scan_rest w false st (x ∷ u))) (part_of Over g gives takes room m (scan_rest w false st (x ∷ u)))
  fault_law at g gives takes room n m f x u st r s = record { is_at = refl; stuck = λ z. scan_fails w 0 x u st (Decode f) r s }

  -- ---- what is taken in

  -- a chunk, where nothing was unread
  pub chunk_law : (g : Grade) (gives takes : Option Kind) (room n m : ℕ) (c : Chunk) (st : S) (move : Move) (q : Part)
      → Goes move (part_of Wait g gives takes room m (scan_rest w false st (items c))) q
      → Kept (part_of Wait g gives takes room n (scan_rest w false st [])) q
      → Stepped (part_of Wait g gives takes room n (scan_rest w false st [])) (Given c) move q
  chunk_law g gives takes room n m c st move q h k = record {
    goes = goes_after move (fed (Given c) (part_of Wait g gives takes room n (left st []))) (part_of Wait g gives takes room m (left st (items c))) q
        (record { goes = λ z. moves_gets g c (part_of Wait g gives takes room n (left st [])) z (left st (items c)) (pending_more g [] (items c) (fresh (scan w 0 st))); kept = (refl, refl, refl, refl, refl, λ s d t. t) }) h;
    kept = k;
  }

  -- the end, where nothing was unread
  pub end_law : (g : Grade) (gives takes : Option Kind) (room n m : ℕ) (st : S) (move : Move) (q : Part) → w.ready st ≡ None
      → Goes move (part_of Wait g gives takes room m (scan_rest w true st [])) q
      → Kept (part_of Wait g gives takes room n (scan_rest w false st [])) q
      → Stepped (part_of Wait g gives takes room n (scan_rest w false st [])) TheEnd move q
  end_law g gives takes room n m st move q r h k = record {
    goes = goes_after move (fed TheEnd (part_of Wait g gives takes room n (left st []))) (part_of Wait g gives takes room m (scan_rest w true st [])) q
        (record { goes = λ z. moves_gets_end g (part_of Wait g gives takes room n (left st [])) z (scan_rest w true st []) (scan_ends w g st r); kept = (refl, refl, refl, refl, refl, λ s d t. t) }) h;
    kept = k;
  }

  -- it ends there, where it does nothing more at its end
  pub close_law : (at : At) (g : Grade) (gives takes : Option Kind) (room n m : ℕ) (v : Result) (st t : S) (u y : List Item) → w.close st ≡ [] → w.ending st ≡ IsDoneBy (value_meaning v) → m ≤ room
      → Goes (Done v None) (part_of at g gives takes room n (scan_rest w true st u)) (part_of Over g gives takes room m (scan_rest w true t y))
  close_law at g gives takes room n m v st t u y c e l = record {
    is_at = refl;
    floor = refl;
    given = tt;
    left = omega (arith, l);
    finishes = λ z. close_finishes g (value_meaning v) st u c e;
  }

  -- ---- every state

  pub floor_told : (b : Bool) (st t : S) (u v : List Item) → (scan_rest w b t v).floor ≡ (scan_rest w b st u).floor
  floor_told true st t u v = refl
  floor_told false st t u v = refl

  unread_is : (b : Bool) (st : S) (u : List Item) → b ≡ false → (scan_rest w b st u).unread ≡ u
  unread_is true st u h = cc
  unread_is false st u h = refl

  -- no step follows
  pub retire_law : (at at' : At) (g : Grade) (gives takes : Option Kind) (room n m : ℕ) (b : Bool) (st t : S) (r : Option Chunk) (y : List Item)
      → ((at ≡ Over → ⊥) → b ≡ false) → m + weight_any r ≤ n → ((at ≡ Over → ⊥) → IsGiven takes r)
      → Retires (part_of at g gives takes room n (scan_rest w b st (rest_items r))) r (part_of at' g gives takes room m (scan_rest w b t y))
  retire_law at at' g gives takes room n m b st t r y f l k = (
    floor_told b st t (rest_items r) y,
    (refl, refl, refl, refl, refl, λ s d t. t),
    l,
    λ o. (sym (unread_is b st (rest_items r) (f o)), k o),
  )

  pub rest_rising : (b : Bool) (st : S) (u ys : List Item) (e : End) → Rising (scan_rest w b st u).floor ((scan_rest w b st u).run ys e)
  rest_rising false st u ys e = rising_first (length u) 0 (scan w 0 st (u ++ ys) e) (scan_rising w 0 st (u ++ ys) e) where
    rising_on : (n m : ℕ) (r : Run) → Rising m r → Rising (max 0 (m - n)) (restamp (reads_first 0 n) r)
    rising_on n m (Then s a r) h = (let h0 = h.0 in omega (arith, h0), rising_on n s.need r h.1)
    rising_on n m (Ends s e) h = omega (arith, h)

    rising_first : (n m : ℕ) (r : Run) → Rising m r → Rising 0 (restamp (reads_first 0 n) r)
    rising_first n m (Then s a r) h = (omega arith, rising_on n s.need r h.1)
    rising_first n m (Ends s e) h = omega arith
  rest_rising true st u ys e = acts_rising 1 (stamp 1 0) (w.close st) (Ends (stamp 1 0) (w.ending st)) (omega arith) (omega arith)

  pub rest_counts : (b : Bool) (st : S) (u : List Item) (n : ℕ) → weigh u ≤ n → weigh (scan_rest w b st u).unread ≤ n
  rest_counts false st u n h = subst (λ l. weigh l ≤ n) refl h
  rest_counts true st u n h = omega arith

  -- its facts, whatever it does at its end
  pub rest_sound : (at : At) (g : Grade) (gives takes : Option Kind) (room n : ℕ) (b : Bool) (st : S) (u : List Item) → g.pieces ≡ of_pieces takes → weigh u ≤ n
      → IsSound (part_of at g gives takes room n (scan_rest w b st u))
  rest_sound at g gives takes room n b st u e h = record {
    local = λ s k v z. refl;
    rising = λ z ys e. rest_rising b st u ys e;
    counts = rest_counts b st u n h;
    graded = e;
    own = λ s d k. absurd (let f : false ≡ true = k in cc);
  }

  -- and where it does nothing more there
  pub scan_sound : (at : At) (g : Grade) (gives takes : Option Kind) (room n : ℕ) (b : Bool) (st : S) (u : List Item) → w.close st ≡ [] → g.pieces ≡ of_pieces takes → weigh u ≤ n
      → IsSound (part_of at g gives takes room n (scan_rest w b st u))
  scan_sound at g gives takes room n b st u c e h = rest_sound at g gives takes room n b st u e h
