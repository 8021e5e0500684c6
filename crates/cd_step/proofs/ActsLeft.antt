-- Acts that are left to do: where one step does not do all of them, and at the end of the input.
use Rattle.std.proofs.Common.{◌≡◌, ℕ, ◌+◌, ◌≤◌, Bool, true, false, List, [], ◌++◌, length, refl, ap, sym, ◌∙◌, Option, Some, None, arith}
use Rattle.cd_elem.specs.declared.kind.Kind.{Kind}
use Rattle.cd_meaning.specs.Stream.{Item, Act}
use Rattle.cd_meaning.specs.Run.{stamp, acts_at, restamp}
use Rattle.cd_meaning.specs.Laws.{Rising}
use Rattle.cd_meaning.specs.Rest.{Rest, Grade, view, past_by, Moves}
use Rattle.cd_meaning.specs.Scan.{Scan}
use Rattle.cd_meaning.proofs.Restamp.{restamp_acts, restamp_id, stamp_same}
use Rattle.cd_meaning.proofs.Moves.Laws.{past_by_0}
use Rattle.cd_meaning.proofs.Runs.Shapes.{acts_append}
use Rattle.cd_meaning.proofs.Runs.Scans.{acts_rising}
use Rattle.cd_step.specs.declared.protocol.Move.TheVariants.{Emit}
use Rattle.cd_step.specs.Parts.{Chunk, At, Gave, Over, rest_items, weight_any, weigh, of_pieces, outs_of, IsOf, IsGiven, Goes, IsSound}
use Rattle.cd_step.specs.Flows.{Retires}
use Rattle.cd_step.specs.Reading.{acting, scan_rest, part_of}
use Rattle.cd_step.proofs.Reading.{floor_told, rest_counts, rest_rising}

-- ---- where one step does not do all of them

-- some of them are done
pub acting_moves : (g : Grade) (acts then : List Act) (p : Rest) → Moves g acts (acting (acts ++ then) p) (acting then p)
acting_moves g acts then p = record {
  read = [];
  unread = refl;
  floor = refl;
  run = λ ys e i.
      let s = stamp p.floor 0 in
      let r = acts_at s then (p.run ys e) in
      ap (view g) (acts_append s acts then (p.run ys e) ∙ ap (acts_at s acts) (sym (restamp_id (past_by 0) r past_by_0)));
}

-- those of a move are left, and nothing else of it
pub moves_acting : (g : Grade) (acts : List Act) (p q : Rest) → Moves g acts p q → Moves g [] p (acting acts q)
moves_acting g acts p q m = record {
  read = m.read;
  unread = m.unread;
  floor = m.floor;
  run = λ ys e i.
      let k = length m.read in
      let r = restamp (past_by k) (q.run ys e) in
      m.run ys e i
      ∙ ap (λ s. view g (acts_at s acts r)) (stamp_same _ _ _ _ (sym m.floor) (omega arith))
      ∙ ap (view g) (sym (restamp_acts (past_by k) (stamp q.floor 0) acts (q.run ys e)));
}

pub acting_rising : (acts : List Act) (p : Rest) (ys : List Item) (e : _) → Rising p.floor (p.run ys e) → Rising p.floor ((acting acts p).run ys e)
acting_rising acts p ys e h = acts_rising p.floor (stamp p.floor 0) acts (p.run ys e) (omega arith) h

module _ {S : Type 0} (w : Scan S) where
  -- d is given, and then the others
  pub acting_law : (at : At) (g : Grade) (gives takes : Option Kind) (room n m : ℕ) (d : Chunk) (then : List Act) (p : Rest) → IsOf gives d
      → Goes (Emit d) (part_of at g gives takes room n (acting (outs_of d ++ then) p)) (part_of Gave g gives takes room m (acting then p))
  acting_law at g gives takes room n m d then p k = (k, record { is_at = refl; goes = λ z. acting_moves g (outs_of d) then p })

  pub acting_sound : (at : At) (g : Grade) (gives takes : Option Kind) (room n : ℕ) (acts : List Act) (b : Bool) (st : S) (u : List Item) → g.pieces ≡ of_pieces takes → weigh u ≤ n
      → IsSound (part_of at g gives takes room n (acting acts (scan_rest w b st u)))
  acting_sound at g gives takes room n acts b st u e h = record {
    local = λ s k v z. refl;
    rising = λ z ys t. acting_rising acts (scan_rest w b st u) ys t (rest_rising w b st u ys t);
    counts = rest_counts w b st u n h;
    graded = e;
    own = λ s d k. absurd (let f : false ≡ true = k in cc);
  }

  -- ---- at the end of the input

  closing_moves : (g : Grade) (st t : S) (u v : List Item) (acts : List Act) → w.close st ≡ acts → w.close t ≡ [] → w.ending t ≡ w.ending st → Moves g acts (scan_rest w true st u) (scan_rest w true t v)
  closing_moves g st t u v acts c d k = record {
    read = [];
    unread = refl;
    floor = refl;
    run = λ ys e i. rw (c, d, k) refl;
  }

  -- all that it does there is given as d
  pub closing_law : (at : At) (g : Grade) (gives takes : Option Kind) (room n m : ℕ) (d : Chunk) (st t : S) (u v : List Item) → IsOf gives d → w.close st ≡ outs_of d → w.close t ≡ [] → w.ending t ≡ w.ending st
      → Goes (Emit d) (part_of at g gives takes room n (scan_rest w true st u)) (part_of Gave g gives takes room m (scan_rest w true t v))
  closing_law at g gives takes room n m d st t u v k c e f = (k, record { is_at = refl; goes = λ z. closing_moves g st t u v (outs_of d) c e f })

  -- ---- no step follows

  pub back_law : (at : At) (g : Grade) (gives takes : Option Kind) (room n m : ℕ) (acts left : List Act) (b : Bool) (st t : S) (u y : List Item) (r : Option Chunk)
      → m + weight_any r ≤ n → ((at ≡ Over → ⊥) → (rest_items r ≡ (scan_rest w b st u).unread) × IsGiven takes r)
      → Retires (part_of at g gives takes room n (acting acts (scan_rest w b st u))) r (part_of Over g gives takes room m (acting left (scan_rest w b t y)))
  back_law at g gives takes room n m acts left b st t u y r l k = (floor_told w b st t u y, (refl, refl, refl, refl, refl, λ s d z. z), l, k)
