-- Each move of a part of a sequence is a step of the sequence, or the next turn.
use Rattle.std.proofs.Common.{◌≡◌, ℕ, zero, suc, ◌+◌, ◌≤◌, ◌<◌, Bool, true, false, List, [], ◌∷◌, ◌++◌, length, refl, ap, sym, ◌∙◌, subst, Option, Some, None, ◌⊎◌, inl, inr, arith}
use Rattle.std.proofs.lemmas.List.{append-nil}
use Rattle.cd_elem.specs.declared.kind.Kind.{Kind}
use Rattle.cd_elem.specs.declared.value.Value.{Value as Result}
use Rattle.cd_elem.specs.declared.fault.Fault.{Fault}
use Rattle.cd_meaning.specs.Stream.{Item, Value, Act, Halt}
use Rattle.cd_meaning.specs.RunShapes.{Seen}
use Rattle.cd_meaning.specs.Rest.{Rest, Grade, to_end, Moves, Asks, Finishes, Stuck, followed, pending, fresh}
use Rattle.cd_meaning.specs.Values.{value_meaning}
use Rattle.cd_meaning.proofs.Rising.{rising_less}
use Rattle.cd_meaning.proofs.Moves.Sequences.{first_moves, first_asks, first_finishes, first_stuck}
use Rattle.cd_meaning.proofs.Moves.Pending.{pending_moves, pending_given, pending_gets_end, pending_asks, pending_finishes, pending_stuck}
use Rattle.cd_meaning.proofs.Moves.Scans.{moves_after}
use Rattle.cd_step.specs.declared.protocol.Input.TheVariants.{Start, Chunk as Given, End as TheEnd}
use Rattle.cd_step.specs.declared.protocol.Move.TheVariants.{Emit, Need, Done, Fault as Faulted}
use Rattle.cd_step.specs.declared.protocol.Stand.TheVariants.{Wait as IsWait, Gave as HasGiven, Over as IsOver}
use Rattle.cd_step.specs.declared.control.Side.{Side}
use Rattle.cd_step.specs.declared.control.Side.TheVariants.{Upper, Lower}
use Rattle.cd_step.specs.declared.control.Turn.TheVariants.{Down}
use Rattle.cd_step.specs.declared.control.Flow.TheVariants.{Again, Return, Finish}
use Rattle.cd_step.specs.declared.control.Made.TheVariants.{One}
use Rattle.cd_step.specs.declared.control.Found.TheVariants.{Own}
use Rattle.cd_meaning.specs.Known.{nothing_known}
use Rattle.cd_step.specs.Parts.{Chunk, At, Fresh, Wait, Gave, Part, rest, items, rest_items, of_pieces, IsOf, IsGiven, IsHeld, shared, weight, weight_any, fed, Goes, Goes_on, outs_of, Ends, Kept, IsSound}
use Rattle.cd_step.specs.Flows.{FlowLaw}
use Rattle.cd_step.proofs.Sides.{of_length, of_left, of_right, takes_left, takes_right, given_left, given_right, taken_right, shared_left, shared_right, goes_floor}
use Rattle.cd_step.proofs.Moving.{Sees, lower_seen, moves_by, finishes_by, gets_fed, gets_end_fed, kept_none, kept_after, had_both}
use Rattle.cd_fuse.specs.declared.follow.Follow.{Follow}
use Rattle.cd_fuse.specs.Follows.{floor_of, second_rest, second_unread, second_floor, sequence_at, whole_follow, AreInTurn, IsFirstTurn, IsSecondTurn, follow_fits, IsPartAt, follow_is_at, end_left, some_left, follow_left}

-- ---- what no step changes

pub kept_parts : (a q b b' : Part) → Kept a q → Kept b b' → Kept (sequence_at Fresh Upper [] 0 0 a b) (sequence_at Fresh Upper [] 0 0 q b')
kept_parts a q b b' h k = (rw (h.3, k.3, k.0) refl, rw (h.1, k.1) refl, rw (h.2, k.2) refl, rw (h.3, k.3) refl, rw (h.4, k.4) refl, had_both a q b b' h.5 k.5)

pub turn_by : (a a' b b' : Part) → Kept a a' → Kept b b' → AreInTurn a b → AreInTurn a' b'
turn_by a a' b b' k l h = record {
  apart = rw (k.1, l.1) h.apart;
  exact = ap (λ g. g.exact) k.0 ∙ h.exact;
  first = ap (λ g. g.pieces) k.0 ∙ h.first ∙ ap of_pieces (sym k.3);
  second = ap (λ g. g.pieces) l.0 ∙ h.second ∙ ap of_pieces (sym l.3);
  gives = rw (k.2, l.2) h.gives;
  takes = rw (k.3, l.3) h.takes;
}

-- ---- what is compared

-- of the whole, where the second part ends so
abbrev pub sequence_grade : Part → Part → Grade
sequence_grade a b = record { pieces = of_pieces (shared a.takes b.takes); exact = b.grade.exact }

pub first_sees : (a b : Part) → AreInTurn a b → Sees a.grade (to_end (sequence_grade a b))
first_sees a b h = lower_seen a.grade (to_end (sequence_grade a b)) (λ e. h.first ∙ shared_left a.takes b.takes h.takes e) (λ e. h.exact)

pub second_sees : (a b : Part) → AreInTurn a b → Sees b.grade (sequence_grade a b)
second_sees a b h = lower_seen b.grade (sequence_grade a b) (λ e. h.second ∙ shared_right a.takes b.takes h.takes e) (λ e. e)

-- ---- what is unread

tail_empty : (r u : List Item) → [] ≡ r ++ u → u ≡ []
tail_empty [] u h = sym h
tail_empty (x ∷ r) u h = cc

pub goes_empty : (acts : List Act) (p q : Part) → Goes_on acts p q → p.unread ≡ [] → q.unread ≡ []
goes_empty acts p q m h = let w = m nothing_known in tail_empty w.read q.unread (sym h ∙ w.unread)

given_none : (k : Option Kind) (r : Option Chunk) → IsGiven k r → rest_items r ≡ [] → r ≡ None
given_none k None g h = refl
given_none k (Some c) g h = absurd (let e : length (items c) ≡ 0 = ap length h in let g0 = of_length k c g in omega (arith, e, g0))

ends_none : (v : Result) (r : Option Chunk) (p q : Part) → Ends v r p q → p.unread ≡ [] → rest_items r ≡ []
ends_none v r p q h e = let w = h.finishes nothing_known in tail_empty w.read (rest_items r) (sym e ∙ w.unread)

pub told_true : (n : ℕ) (t : Bool) → suc n ≤ floor_of t → t ≡ true
told_true n true h = refl
told_true n false h = absurd (omega (arith, h))

told_false : (t : Bool) (n : ℕ) → n ≡ floor_of t → n ≡ 0 → t ≡ false
told_false false n e h = refl
told_false true n e h = absurd (omega (arith, e, h))

-- ---- held

pub first_held : (c : Follow) (q b : Part) → c.back ≡ None → IsHeld b → IsHeld q → IsHeld (whole_follow c q b)
first_held c q b e h k = rw e (omega (arith, h, k))

pub second_held : (c : Follow) (a q : Part) → a.held + weight_any c.back ≤ a.room → IsHeld q → IsHeld (whole_follow c a q)
second_held c a q h k = omega (arith, h, k)

less_held : (n k m : ℕ) → n + k ≤ m → n + 0 ≤ m
less_held n k m h = omega (arith, h)

-- ---- the first part has moved

pub first_acts : (acts : List Act) (a q b : Part) (z : Seen) → AreInTurn a b → Goes_on acts a q → Moves (sequence_grade a b) acts (followed (rest a z) (b.run z)) (followed (rest q z) (b.run z))
first_acts acts a q b z h m =
    let g = sequence_grade a b in
    first_moves g acts (rest a z) (rest q z) (b.run z) (moves_by a.grade (to_end g) (first_sees a b h) acts (rest a z) (rest q z) (m z))

pub first_by : (s : Side) (t : Bool) (r : Option Chunk) (acts : List Act) (a q b : Part) → Goes_on acts a q → Kept a q → IsFirstTurn s t r a b → IsFirstTurn s t r q b
first_by s t r acts a q b m k f = record {
  is_first = f.is_first;
  told_is = goes_floor acts a q m ∙ f.told_is;
  told_empty = λ h. goes_empty acts a q m (f.told_empty h);
  none = f.none;
  unbegun = f.unbegun;
  held = f.held;
  in_turn = turn_by a q b b k (kept_none b) f.in_turn;
}

part_here : (s : Side) (t : At) (c : Follow) (a b : Part) → s ≡ Upper → follow_fits Upper c a b × (a.at ≡ t) → IsPartAt s t c a b
part_here s t c a b e h = subst (λ x. IsPartAt x t c a b) (sym e) h

part_there : (s : Side) (t : At) (c : Follow) (a b : Part) → s ≡ Lower → follow_fits Lower c a b × (b.at ≡ t) → IsPartAt s t c a b
part_there s t c a b e h = subst (λ x. IsPartAt x t c a b) (sym e) h

pub up_emit : (c : Follow) (a b q : Part) (d : Chunk) → follow_fits Upper c a b → Goes (Emit d) a q → Kept a q → IsHeld q
    → FlowLaw whole_follow follow_is_at follow_fits follow_left (whole_follow c a b) (follow_left Upper c a b) (record c { stand = HasGiven }) (Return (Emit d)) q b
up_emit c a b q d f h k y = (
  (of_left a.gives b.gives d h.0, record { is_at = refl; goes = λ z. rw f.is_first (first_acts (outs_of d) a q b z f.in_turn h.1.goes) }),
  part_here c.side Gave (record c { stand = HasGiven }) q b f.is_first (first_by c.side c.told c.back (outs_of d) a q b h.1.goes k f, h.1.is_at),
  kept_parts a q b b k (kept_none b),
  first_held c q b f.none f.held y,
)

pub up_need : (c : Follow) (a b q : Part) → IsSound b → follow_fits Upper c a b → Goes Need a q → Kept a q → IsHeld q
    → FlowLaw whole_follow follow_is_at follow_fits follow_left (whole_follow c a b) (follow_left Upper c a b) (record c { stand = IsWait }) (Return Need) q b
up_need c a b q l f h k y =
    let f1 = first_by c.side c.told c.back [] a q b h.goes k f in (
      record {
        is_at = refl;
        takes = takes_left a.takes b.takes h.takes;
        goes = λ z. rw f.is_first (first_acts [] a q b z f.in_turn h.goes);
        none_unread = rw f.is_first h.none_unread;
        asks = λ z. rw f.is_first (first_asks (rest q z) (b.run z) (λ xs e. rising_less 0 b.floor (b.run z xs e) (omega arith) (l.rising z xs e)) (h.asks z));
      },
      (
        part_here c.side Wait (record c { stand = IsWait }) q b f.is_first (f1, h.is_at),
        told_false c.told q.floor f1.told_is (h.asks nothing_known).not_told,
        rw f.is_first (h.none_unread, rw k.3 h.takes),
      ),
      kept_parts a q b b k (kept_none b),
      first_held c q b f.none f.held y,
    )

-- a second part, seen by its own floor
second_is : (n : ℕ) (back : List Item) (f : ℕ) (p : Rest) → n ≡ p.floor → record { unread = second_unread n back p.unread; floor = second_floor n f; run = (second_rest n back f p).run } ≡ second_rest n back f p
second_is zero back f p e = refl
second_is (suc n) back f p e = ap (λ m. record { unread = p.unread; floor = m; run = p.run }) e

whole_second : (back : List Item) (f : ℕ) (a b : Part) (z : Seen) → rest (sequence_at Fresh Lower back 0 f a b) z ≡ second_rest b.floor back f (rest b z)
whole_second back f a b z = second_is b.floor back f (rest b z) refl

zero_is : (n : ℕ) (back : List Item) (f : ℕ) (p : Rest) → n ≡ 0 → second_rest n back f p ≡ pending back f p
zero_is zero back f p h = refl
zero_is (suc n) back f p h = absurd (omega (arith, h))

-- it has not been told the end
pub whole_pending : (back : List Item) (f : ℕ) (a b : Part) (z : Seen) → b.floor ≡ 0 → rest (sequence_at Fresh Lower back 0 f a b) z ≡ pending back f (rest b z)
whole_pending back f a b z h = whole_second back f a b z ∙ zero_is b.floor back f (rest b z) h

moves_cast : (g : Grade) (acts : List Act) (p p' q q' : Rest) → p ≡ p' → q ≡ q' → Moves g acts p' q' → Moves g acts p q
moves_cast g acts p p' q q' e k m = subst (λ x. Moves g acts x q) (sym e) (subst (λ x. Moves g acts p' x) (sym k) m)

pending_fresh : (back : List Item) (f : ℕ) (b : Part) (z : Seen) → b.unread ≡ [] → pending back f (rest b z) ≡ pending back f (fresh (b.run z))
pending_fresh back f b z h = ap (λ u. pending back f (record { unread = u; floor = 0; run = b.run z })) h

-- the first part has ended, and the second one begins
first_ends : (a b : Part) (v : Result) (r : Option Chunk) (q : Part) (z : Seen) → AreInTurn a b → Goes (Done v r) a q → Moves (sequence_grade a b) [] (followed (rest a z) (b.run z)) (pending (rest_items r) a.floor (fresh (b.run z)))
first_ends a b v r q z i h =
    let g = sequence_grade a b in
    first_finishes g (value_meaning v) (rest_items r) (rest a z) (b.run z) (finishes_by a.grade (to_end g) (first_sees a b i) (value_meaning v) (rest_items r) (rest a z) (h.finishes z))

pub up_done : (c : Follow) (a b q : Part) (v : Result) (r : Option Chunk) → follow_fits Upper c a b → Goes (Done v r) a q → Kept a q → IsHeld q
    → FlowLaw whole_follow follow_is_at follow_fits follow_left (whole_follow c a b) (follow_left Upper c a b) (record c { side = Lower; back = r }) (Again (Down Start)) q b
up_done c a b q v r f h k y =
    let n = f.unbegun in (
      (
        n.is_at,
        record {
          is_second = refl;
          told_is = omega (arith, n.floor);
          told_empty = λ e. given_none a.takes r h.given (ends_none v r a q h (f.told_empty e));
          empty = inr n.unread;
          given = rw k.3 (given_left a.takes b.takes r h.given);
          held = h.left;
          in_turn = turn_by a q b b k (kept_none b) f.in_turn;
        },
        record {
          goes = λ z. rw f.is_first (subst (λ x. Moves (sequence_grade a b) [] (followed (rest a z) (b.run z)) x)
              (ap (λ m. pending (rest_items r) m (fresh (b.run z))) f.told_is ∙ sym (pending_fresh (rest_items r) (floor_of c.told) b z n.unread) ∙ sym (whole_pending (rest_items r) (floor_of c.told) q b z n.floor))
              (first_ends a b v r q z f.in_turn h));
          kept = kept_parts a q b b k (kept_none b);
        },
      ),
      small b.floor r,
    ) where
      small : (n : ℕ) (r : Option Chunk) → end_left n + some_left r < 3
      small zero None = omega arith
      small zero (Some c) = omega arith
      small (suc n) None = omega arith
      small (suc n) (Some c) = omega arith

pub up_fault : (c : Follow) (a b q : Part) (x : Fault) → follow_fits Upper c a b → Goes (Faulted x) a q → Kept a q → IsHeld q
    → FlowLaw whole_follow follow_is_at follow_fits follow_left (whole_follow c a b) (follow_left Upper c a b) (record c { stand = IsOver }) (Return (Faulted x)) q b
up_fault c a b q x f h k y = (
  record { is_at = refl; stuck = λ z. rw f.is_first (first_stuck _ (rest a z) (b.run z) (h.stuck z)) },
  tt,
  kept_parts a q b b k (kept_none b),
  first_held c q b f.none f.held y,
)

-- ---- the second part has moved

second_moves : (n : ℕ) (g : Grade) (acts : List Act) (back : List Item) (f : ℕ) (p q : Rest) → n ≡ p.floor → Moves g acts p q → Moves g acts (second_rest n back f p) (second_rest n back f q)
second_moves zero g acts back f p q e m = pending_moves g acts back f p q (sym e) m
second_moves (suc n) g acts back f p q e m = m

pub second_acts : (acts : List Act) (back : List Item) (f : ℕ) (a b q : Part) (z : Seen) → AreInTurn a b → Goes_on acts b q
    → Moves (sequence_grade a b) acts (rest (sequence_at Fresh Lower back 0 f a b) z) (rest (sequence_at Fresh Lower back 0 f a q) z)
second_acts acts back f a b q z h m =
    let g = sequence_grade a b in
    moves_cast g acts _ _ _ _ (whole_second back f a b z) (whole_second back f a q z ∙ ap (λ n. second_rest n back f (rest q z)) (goes_floor acts b q m))
    (second_moves b.floor g acts back f (rest b z) (rest q z) refl (moves_by b.grade g (second_sees a b h) acts (rest b z) (rest q z) (m z)))

none_or : (r : Option Chunk) (acts : List Act) (b q : Part) → Goes_on acts b q → (r ≡ None) ⊎ (b.unread ≡ []) → (r ≡ None) ⊎ (q.unread ≡ [])
none_or r acts b q m (inl e) = inl e
none_or r acts b q m (inr e) = inr (goes_empty acts b q m e)

pub second_by : (s : Side) (t : Bool) (r : Option Chunk) (acts : List Act) (a b q : Part) → Goes_on acts b q → Kept b q → IsSecondTurn s t r a b → IsSecondTurn s t r a q
second_by s t r acts a b q m k f = record {
  is_second = f.is_second;
  told_is = rw (goes_floor acts b q m) f.told_is;
  told_empty = f.told_empty;
  empty = none_or r acts b q m f.empty;
  given = rw k.3 f.given;
  held = f.held;
  in_turn = turn_by a a b q (kept_none a) k f.in_turn;
}

pub down_emit : (c : Follow) (a b q : Part) (d : Chunk) → follow_fits Lower c a b → Goes (Emit d) b q → Kept b q → IsHeld q
    → FlowLaw whole_follow follow_is_at follow_fits follow_left (whole_follow c a b) (follow_left Lower c a b) (record c { stand = HasGiven }) (Return (Emit d)) a q
down_emit c a b q d f h k y = (
  (of_right a.gives b.gives d f.in_turn.gives h.0, record { is_at = refl; goes = λ z. rw f.is_second (second_acts (outs_of d) (rest_items c.back) (floor_of c.told) a b q z f.in_turn h.1.goes) }),
  part_there c.side Gave (record c { stand = HasGiven }) a q f.is_second (second_by c.side c.told c.back (outs_of d) a b q h.1.goes k f, h.1.is_at),
  kept_parts a a b q (kept_none a) k,
  second_held c a q f.held y,
)

-- it is given what the first part gave back
pub down_back : (c : Follow) (a b q : Part) (d : Chunk) → c.back ≡ Some d → follow_fits Lower c a b → Goes Need b q → Kept b q → IsHeld q
    → FlowLaw whole_follow follow_is_at follow_fits follow_left (whole_follow c a b) (follow_left Lower c a b) (record c { back = None }) (Again (Down (Given d))) a q
down_back c a b q d e f h k y =
    let z0 : q.floor ≡ 0 = (h.asks nothing_known).not_told in
    let z1 : b.floor ≡ 0 = sym (goes_floor [] b q h.goes) ∙ z0 in
    let n = floor_of c.told in
    let g = sequence_grade a b in (
      (
        (h.is_at, subst (λ x. IsOf x d) (sym k.3) (taken_right a.takes b.takes d f.in_turn.takes h.takes (rw e at f.given))),
        record {
          is_second = f.is_second;
          told_is = omega arith;
          told_empty = λ t. refl;
          empty = inl refl;
          given = tt;
          held = less_held a.held (weight_any c.back) a.room f.held;
          in_turn = turn_by a a b (fed (Given d) q) (kept_none a) k f.in_turn;
        },
        record {
          goes = λ z. rw (f.is_second, e) (moves_after g [] (rest (sequence_at Fresh Lower (items d) 0 n a b) z) (rest (sequence_at Fresh Lower (items d) 0 n a q) z) (rest (sequence_at Fresh Lower [] 0 n a (fed (Given d) q)) z)
              (second_acts [] (items d) n a b q z f.in_turn h.goes)
              (moves_cast g [] _ _ _ _ (whole_pending (items d) n a q z z0) refl (pending_given g (items d) n (rest q z) (rest (fed (Given d) q) z) (gets_fed g d q z z0))));
          kept = kept_parts a a b (fed (Given d) q) (kept_none a) k;
        },
      ),
      rw (e, z1) (omega arith),
    )

-- it is told the end
pub down_end : (c : Follow) (a b q : Part) → c.back ≡ None → c.told ≡ true → follow_fits Lower c a b → Goes Need b q → Kept b q → IsHeld q
    → FlowLaw whole_follow follow_is_at follow_fits follow_left (whole_follow c a b) (follow_left Lower c a b) (record c { back = None }) (Again (Down TheEnd)) a q
down_end c a b q e t f h k y =
    let z0 : q.floor ≡ 0 = (h.asks nothing_known).not_told in
    let z1 : b.floor ≡ 0 = sym (goes_floor [] b q h.goes) ∙ z0 in
    let g = sequence_grade a b in (
      (
        h.is_at,
        record {
          is_second = f.is_second;
          told_is = rw t (omega arith);
          told_empty = λ t. refl;
          empty = inl refl;
          given = tt;
          held = less_held a.held (weight_any c.back) a.room f.held;
          in_turn = turn_by a a b (fed TheEnd q) (kept_none a) k f.in_turn;
        },
        record {
          goes = λ z. rw (f.is_second, e, t) (moves_after g [] (rest (sequence_at Fresh Lower [] 0 1 a b) z) (rest (sequence_at Fresh Lower [] 0 1 a q) z) (rest (fed TheEnd q) z)
              (second_acts [] [] 1 a b q z f.in_turn h.goes)
              (moves_cast g [] _ _ _ _ (whole_pending [] 1 a q z z0) refl (pending_gets_end g (rest q z) (rest (fed TheEnd q) z) (h.asks z) (gets_end_fed g q z))));
          kept = kept_parts a a b (fed TheEnd q) (kept_none a) k;
        },
      ),
      rw (e, z1) (omega arith),
    )

-- the whole asks
pub down_need : (c : Follow) (a b q : Part) → c.back ≡ None → c.told ≡ false → follow_fits Lower c a b → Goes Need b q → Kept b q → IsHeld q
    → FlowLaw whole_follow follow_is_at follow_fits follow_left (whole_follow c a b) (follow_left Lower c a b) (record c { stand = IsWait; back = None }) (Return Need) a q
down_need c a b q e t f h k y =
    let z0 : q.floor ≡ 0 = (h.asks nothing_known).not_told in
    let f1 = second_by c.side c.told c.back [] a b q h.goes k f in (
      record {
        is_at = refl;
        takes = takes_right a.takes b.takes h.takes;
        goes = λ z. rw (f.is_second, e) (second_acts [] [] (floor_of c.told) a b q z f.in_turn h.goes);
        none_unread = rw f.is_second (rw (z0, h.none_unread) refl);
        asks = λ z. rw (f.is_second, t) (subst Asks (sym (whole_pending [] 0 a q z z0)) (pending_asks (rest q z) (h.asks z)));
      },
      (
        part_there c.side Wait (record c { stand = IsWait; back = None }) a q f.is_second (
          record {
            is_second = f.is_second;
            told_is = f1.told_is;
            told_empty = λ t. refl;
            empty = inl refl;
            given = tt;
            held = less_held a.held (weight_any c.back) a.room f.held;
            in_turn = f1.in_turn;
          },
          h.is_at,
        ),
        t,
        rw f.is_second (refl, z0, rw k.3 h.takes),
      ),
      kept_parts a a b q (kept_none a) k,
      second_held (record c { back = None }) a q (less_held a.held (weight_any c.back) a.room f.held) y,
    )

-- ---- the second part has ended

second_finishes : (n : ℕ) (g : Grade) (v : Value) (r back : List Item) (f : ℕ) (p : Rest) → n ≡ p.floor → (0 < n → back ≡ []) → Finishes g v r p → Finishes g v (r ++ back) (second_rest n back f p)
second_finishes zero g v r back f p e l m = pending_finishes g v r back f p (sym e) m
second_finishes (suc n) g v r back f p e l m = subst (λ x. Finishes g v x p) (sym (ap (λ l. r ++ l) (l (omega arith)) ∙ append-nil r)) m

second_ends : (c : Follow) (a b q : Part) (v : Result) (r : Option Chunk) (z : Seen) → follow_fits Lower c a b → Goes (Done v r) b q
    → Finishes (sequence_grade a b) (value_meaning v) (rest_items r ++ rest_items c.back) (rest (sequence_at Fresh Lower (rest_items c.back) 0 (floor_of c.told) a b) z)
second_ends c a b q v r z f h =
    let g = sequence_grade a b in
    subst (Finishes g (value_meaning v) (rest_items r ++ rest_items c.back)) (sym (whole_second (rest_items c.back) (floor_of c.told) a b z))
    (second_finishes b.floor g (value_meaning v) (rest_items r) (rest_items c.back) (floor_of c.told) (rest b z) refl
    (λ l. ap rest_items (f.told_empty (told_true 0 c.told (omega (arith, f.told_is)))))
    (finishes_by b.grade g (second_sees a b f.in_turn) (value_meaning v) (rest_items r) (rest b z) (h.finishes z)))

pub some_empty : (o : Option Chunk) (d : Chunk) (u : List Item) → o ≡ Some d → (o ≡ None) ⊎ (u ≡ []) → u ≡ []
some_empty o d u e (inl n) = absurd (let x : Some d ≡ None = sym e ∙ n in cc)
some_empty o d u e (inr n) = n

-- the floor of a second part that has ended, and of what is left of it
end_floor : (n m k f : ℕ) → m ≡ n → k ≡ m → second_floor k f ≡ second_floor n f
end_floor n m k f e h = rw (h, e) refl

-- it has read nothing, and what the first part gave back is given back
pub down_done_back : (c : Follow) (a b q : Part) (v : Result) (r : Option Chunk) (d : Chunk) → c.back ≡ Some d → follow_fits Lower c a b → Goes (Done v r) b q → Kept b q → IsHeld q
    → FlowLaw whole_follow follow_is_at follow_fits follow_left (whole_follow c a b) (follow_left Lower c a b) (record c { stand = IsOver; back = None }) (Finish (One v) (Own (Some d))) a q
down_done_back c a b q v r d e f h k y =
    let m : a.held + weight d ≤ a.room = rw e at f.held in (
      tt,
      λ w s a' b' i l ra rb.
          let na = ra.2 in
          let nb = rb.2 in
          let wa : a'.room ≡ a.room = ra.1.4 in
          let wb : b'.room ≡ q.room = rb.1.4 in
          let ws : weight_any s ≡ weight d = ap weight_any l in (
            record {
              is_at = refl;
              floor = rw f.is_second (end_floor b.floor q.floor b'.floor (floor_of c.told) h.floor rb.0);
              given = rw l (rw e at f.given);
              left = omega (arith, m, y, na, nb, wa, wb, ws);
              finishes = λ z. rw (f.is_second, i, l) (subst (λ x. Finishes (sequence_grade a b) (value_meaning v) x (rest (sequence_at Fresh Lower (rest_items c.back) 0 (floor_of c.told) a b) z))
                  (ap (λ l. l ++ rest_items c.back) (ends_none v r b q h (some_empty c.back d b.unread e f.empty)) ∙ ap rest_items e) (second_ends c a b q v r z f h));
            },
            tt,
            kept_parts a a' b b' ra.1 (kept_after b q b' k rb.1),
            omega (arith, m, y, na, nb, wa, wb),
          ),
      kept_parts a a b q (kept_none a) k,
      second_held (record c { back = None }) a q (less_held a.held (weight_any c.back) a.room f.held) y,
    )

pub down_done : (c : Follow) (a b q : Part) (v : Result) (r : Option Chunk) → c.back ≡ None → follow_fits Lower c a b → Goes (Done v r) b q → Kept b q → IsHeld q
    → FlowLaw whole_follow follow_is_at follow_fits follow_left (whole_follow c a b) (follow_left Lower c a b) (record c { stand = IsOver; back = None }) (Finish (One v) (Own r)) a q
down_done c a b q v r e f h k y =
    let m = f.held in
    let n = h.left in (
      tt,
      λ w s a' b' i l ra rb.
          let na = ra.2 in
          let nb = rb.2 in
          let wa : a'.room ≡ a.room = ra.1.4 in
          let wb : b'.room ≡ q.room = rb.1.4 in
          let ws : weight_any s ≡ weight_any r = ap weight_any l in (
            record {
              is_at = refl;
              floor = rw f.is_second (end_floor b.floor q.floor b'.floor (floor_of c.told) h.floor rb.0);
              given = rw l (given_right a.takes b.takes r f.in_turn.takes h.given);
              left = omega (arith, m, n, na, nb, wa, wb, ws);
              finishes = λ z. rw (f.is_second, i, l) (subst (λ x. Finishes (sequence_grade a b) (value_meaning v) x (rest (sequence_at Fresh Lower (rest_items c.back) 0 (floor_of c.told) a b) z))
                  (ap (λ l. rest_items r ++ l) (ap rest_items e) ∙ append-nil (rest_items r)) (second_ends c a b q v r z f h));
            },
            tt,
            kept_parts a a' b b' ra.1 (kept_after b q b' k rb.1),
            omega (arith, m, y, na, nb, wa, wb),
          ),
      kept_parts a a b q (kept_none a) k,
      second_held (record c { back = None }) a q (less_held a.held (weight_any c.back) a.room f.held) y,
    )

second_stuck_at : (n : ℕ) (h : Halt) (back : List Item) (f : ℕ) (p : Rest) → n ≡ p.floor → Stuck h p → Stuck h (second_rest n back f p)
second_stuck_at zero h back f p e s = pending_stuck h back f p (sym e) s
second_stuck_at (suc n) h back f p e s = s

pub second_stuck : (h : Halt) (back : List Item) (f : ℕ) (a b : Part) (z : Seen) → Stuck h (rest b z) → Stuck h (rest (sequence_at Fresh Lower back 0 f a b) z)
second_stuck h back f a b z s = subst (Stuck h) (sym (whole_second back f a b z)) (second_stuck_at b.floor h back f (rest b z) refl s)

pub down_fault : (c : Follow) (a b q : Part) (x : Fault) → follow_fits Lower c a b → Goes (Faulted x) b q → Kept b q → IsHeld q
    → FlowLaw whole_follow follow_is_at follow_fits follow_left (whole_follow c a b) (follow_left Lower c a b) (record c { stand = IsOver }) (Return (Faulted x)) a q
down_fault c a b q x f h k y = (
  record { is_at = refl; stuck = λ z. rw f.is_second (second_stuck _ (rest_items c.back) (floor_of c.told) a b z (h.stuck z)) },
  tt,
  kept_parts a a b q (kept_none a) k,
  second_held c a q f.held y,
)
