-- The first turn of a step of a sequence, where no step follows, and what comes to the sites of its parts.
use Rattle.std.proofs.Common.{◌≡◌, ℕ, zero, suc, ◌≤◌, Bool, true, false, List, [], map, refl, ap, sym, ◌∙◌, subst, Option, Some, None, inl, arith}
use Rattle.std.proofs.lemmas.List.{append-nil}
use Rattle.cd_meaning.specs.Stream.{Item, Do, Effect, Halt, Ended}
use Rattle.cd_meaning.specs.RunShapes.{Told, Seen}
use Rattle.cd_meaning.specs.Rest.{Grade, to_end, Moves, Gets, GetsEnd, Stuck, view, reads_first, followed, pending}
use Rattle.cd_meaning.proofs.Restamp.{restamp_id, stamp_same}
use Rattle.cd_meaning.proofs.Moves.Sequences.{first_gets, first_gets_end, first_stuck}
use Rattle.cd_meaning.proofs.Moves.Pending.{pending_gets}
use Rattle.cd_step.specs.declared.protocol.Input.{Input}
use Rattle.cd_step.specs.declared.protocol.Input.TheVariants.{Start, Chunk as Given, End as TheEnd, Next}
use Rattle.cd_step.specs.declared.protocol.Stand.{Stand}
use Rattle.cd_step.specs.declared.protocol.Stand.TheVariants.{Fresh as IsFresh, Wait as IsWait, Gave as HasGiven, Over as IsOver}
use Rattle.cd_step.specs.declared.control.Side.{Side}
use Rattle.cd_step.specs.declared.control.Side.TheVariants.{Upper, Lower}
use Rattle.cd_step.specs.declared.control.Found.{Found}
use Rattle.cd_step.specs.declared.control.Found.TheVariants.{Own, AtUpper, AtLower}
use Rattle.cd_meaning.specs.Known.{known}
use Rattle.cd_step.specs.Parts.{Chunk, Fresh, Wait, Gave, Part, rest, items, rest_items, IsOf, IsGiven, shared, weight, weight_any, Answers, fed, Goes_on, Kept, IsSound}
use Rattle.cd_step.specs.Sites.{told, got, is_ticket}
use Rattle.cd_step.specs.Flows.{Same, TurnLaw, RetireLaw, IsOver as IsOverPart, IsFound}
use Rattle.cd_step.proofs.Sides.{taken_left, taken_right, given_left, given_right, fresh_not_over, wait_not_over, gave_not_over, stand_not_over, retires_less}
use Rattle.cd_step.proofs.Moving.{moves_none, kept_none, moves_gets, moves_gets_end, gets_fed, gets_end_fed, same_none, or_first, or_second}
use Rattle.cd_step.proofs.Outs.{stand_fresh, stand_wait, stand_gave}
use Rattle.cd_fuse.specs.declared.follow.Follow.{Follow}
use Rattle.cd_fuse.specs.Follows.{turn_to, floor_of, second_unread, sequence_at, whole_follow, AreInTurn, follow_fits, IsPartAt, IsPartWaiting, IsFollowIn, follow_is_at}
use Rattle.cd_fuse.proofs.FollowMoves.{kept_parts, turn_by, sequence_grade, told_true, some_empty, first_acts, whole_pending, second_acts, second_stuck}

-- ---- no step follows

unread_second : (n : ℕ) (t : Bool) (r : Option Chunk) (d : Chunk) (u : List Item) → n ≤ floor_of t → (t ≡ true → r ≡ None) → r ≡ Some d → u ≡ [] → items d ≡ second_unread n (rest_items r) u
unread_second zero t r d u l f e h = rw (h, e) refl
unread_second (suc n) t r d u l f e h = absurd (let x : None ≡ Some d = sym (f (told_true n t l)) ∙ e in cc)

unread_none : (n : ℕ) (u : List Item) → u ≡ second_unread n [] u
unread_none zero u = sym (append-nil u)
unread_none (suc n) u = refl

-- where it stands, one of the two is on its turn
found_at : (s : Stand) (f : Found) (c : Follow) (a b : Part) → (follow_fits Upper c a b → (IsOverPart a → ⊥) → IsFound f (whole_follow c a b) a b)
    → (follow_fits Lower c a b → (IsOverPart b → ⊥) → IsFound f (whole_follow c a b) a b)
    → (s ≡ IsOver → ⊥) → IsFollowIn s c a b → IsFound f (whole_follow c a b) a b
found_at IsFresh f c a b h k n i = h i.0 (fresh_not_over a.at i.1)
found_at IsWait f c a b h k n i = at_wait c.side i.0 where
  at_wait : (x : Side) → IsPartAt x Wait c a b → IsFound f (whole_follow c a b) a b
  at_wait Upper j = h j.0 (wait_not_over a.at j.1)
  at_wait Lower j = k j.0 (wait_not_over b.at j.1)
found_at HasGiven f c a b h k n i = at_gave c.side i where
  at_gave : (x : Side) → IsPartAt x Gave c a b → IsFound f (whole_follow c a b) a b
  at_gave Upper j = h j.0 (gave_not_over a.at j.1)
  at_gave Lower j = k j.0 (gave_not_over b.at j.1)
found_at IsOver f c a b h k n i = absurd (n refl)

not_both : (side : Side) → side ≡ Upper → side ≡ Lower → ⊥
not_both side e h = let x : Upper ≡ Lower = sym e ∙ h in cc

pub retire_first : (c : Follow) (a b : Part) → c.side ≡ Upper → RetireLaw whole_follow follow_is_at follow_fits c AtUpper (record c { stand = IsOver }) a b
retire_first c a b e =
    let up : follow_fits Upper c a b → (IsOverPart a → ⊥) → IsFound AtUpper (whole_follow c a b) a b = λ f n. (rw e refl, λ r g. given_left a.takes b.takes r g, n) in
    let down : follow_fits Lower c a b → (IsOverPart b → ⊥) → IsFound AtUpper (whole_follow c a b) a b = λ f n. absurd (not_both c.side e f.is_second) in (
      λ a' b' r s ra rb. (rw e ra.0, kept_parts a a' b b' ra.1 rb.1, let na = ra.2 in let nb = retires_less b b' s rb in omega (arith, na, nb), tt),
      λ inv n. found_at c.stand AtUpper c a b up down (stand_not_over c.stand n) inv,
      up,
      down,
    )

pub retire_back : (c : Follow) (a b : Part) (d : Chunk) → c.side ≡ Lower → c.back ≡ Some d → RetireLaw whole_follow follow_is_at follow_fits c (Own (Some d)) (record c { stand = IsOver; back = None }) a b
retire_back c a b d e i =
    let w : weight_any c.back ≡ weight d = ap weight_any i in
    let up : follow_fits Upper c a b → (IsOverPart a → ⊥) → IsFound (Own (Some d)) (whole_follow c a b) a b = λ f n. absurd (not_both c.side f.is_first e) in
    let down : follow_fits Lower c a b → (IsOverPart b → ⊥) → IsFound (Own (Some d)) (whole_follow c a b) a b = λ f n. (
      rw e (unread_second b.floor c.told c.back d b.unread f.told_is f.told_empty i (some_empty c.back d b.unread i f.empty)),
      subst (IsGiven (shared a.takes b.takes)) i f.given,
    ) in (
      λ a' b' r s ra rb. (rw e (rw rb.0 refl), kept_parts a a' b b' ra.1 rb.1, let na = retires_less a a' r ra in let nb = retires_less b b' s rb in omega (arith, na, nb, w), tt),
      λ inv n. found_at c.stand (Own (Some d)) c a b up down (stand_not_over c.stand n) inv,
      up,
      down,
    )

pub retire_second : (c : Follow) (a b : Part) → c.side ≡ Lower → c.back ≡ None → RetireLaw whole_follow follow_is_at follow_fits c AtLower (record c { stand = IsOver; back = None }) a b
retire_second c a b e i =
    let up : follow_fits Upper c a b → (IsOverPart a → ⊥) → IsFound AtLower (whole_follow c a b) a b = λ f n. absurd (not_both c.side f.is_first e) in
    let down : follow_fits Lower c a b → (IsOverPart b → ⊥) → IsFound AtLower (whole_follow c a b) a b = λ f n. (
      rw (e, i) (unread_none b.floor b.unread),
      λ r g. given_right a.takes b.takes r f.in_turn.takes g,
      n,
    ) in (
      λ a' b' r s ra rb. (rw e (rw rb.0 refl), kept_parts a a' b b' ra.1 rb.1, let na = retires_less a a' r ra in let nb = rb.2 in omega (arith, na, nb), tt),
      λ inv n. found_at c.stand AtLower c a b up down (stand_not_over c.stand n) inv,
      up,
      down,
    )

-- ---- the first turn

first_to : (c : Follow) (p a b : Part) (i : Input) → c.side ≡ Upper → Answers a i → follow_fits Upper c (fed i a) b → Same p (whole_follow c (fed i a) b) → TurnLaw whole_follow follow_fits p (turn_to c.side i) c a b
first_to c p a b i e n f h = subst (λ s. TurnLaw whole_follow follow_fits p (turn_to s i) c a b) (sym e) (n, f, h)

second_to : (c : Follow) (p a b : Part) (i : Input) → c.side ≡ Lower → Answers b i → follow_fits Lower c a (fed i b) → Same p (whole_follow c a (fed i b)) → TurnLaw whole_follow follow_fits p (turn_to c.side i) c a b
second_to c p a b i e n f h = subst (λ s. TurnLaw whole_follow follow_fits p (turn_to s i) c a b) (sym e) (n, f, h)

begin_start : (c : Follow) (a b : Part) → follow_is_at c a b → (whole_follow c a b).at ≡ Fresh → TurnLaw whole_follow follow_fits (fed Start (whole_follow c a b)) (turn_to c.side Start) c a b
begin_start c a b inv h =
    let e = stand_fresh c.stand h in
    let f = subst (λ s. IsFollowIn s c a b) e inv in
    first_to c (whole_follow c a b) a b Start f.0.is_first f.1 f.0 (same_none (whole_follow c a b))

begin_next : (s : Side) (c : Follow) (a b : Part) → s ≡ c.side → follow_is_at c a b → (whole_follow c a b).at ≡ Gave → TurnLaw whole_follow follow_fits (fed Next (whole_follow c a b)) (turn_to c.side Next) c a b
begin_next Upper c a b s inv h =
    let e = stand_gave c.stand h in
    let f0 = subst (λ x. IsFollowIn x c a b) e inv in
    let f = subst (λ x. IsPartAt x Gave c a b) (sym s) f0 in
    first_to c (whole_follow c a b) a b Next (sym s) f.1 f.0 (same_none (whole_follow c a b))
begin_next Lower c a b s inv h =
    let e = stand_gave c.stand h in
    let f0 = subst (λ x. IsFollowIn x c a b) e inv in
    let f = subst (λ x. IsPartAt x Gave c a b) (sym s) f0 in
    second_to c (whole_follow c a b) a b Next (sym s) f.1 f.0 (same_none (whole_follow c a b))

first_fed : (c : Follow) (a a' b : Part) → Kept a a' → a'.floor ≡ a.floor → (a.unread ≡ [] → c.told ≡ true → a'.unread ≡ []) → follow_fits Upper c a b → follow_fits Upper c a' b
first_fed c a a' b k l u f = record {
  is_first = f.is_first;
  told_is = l ∙ f.told_is;
  told_empty = λ t. u (f.told_empty t) t;
  none = f.none;
  unbegun = f.unbegun;
  held = f.held;
  in_turn = turn_by a a' b b k (kept_none b) f.in_turn;
}

not_told : (x : Bool) → x ≡ false → x ≡ true → ⊥
not_told x e h = let k : false ≡ true = sym e ∙ h in cc

pending_told : (g : Grade) (b : Part) (z : Seen) → GetsEnd g (pending [] 0 (rest b z)) (rest (fed TheEnd b) z)
pending_told g b z = record {
  unread = sym (append-nil b.unread);
  floor = refl;
  run = ap (view g) (sym (restamp_id (reads_first 0 0) (b.run z [] Ended) (λ s. stamp_same _ _ _ _ (omega arith) refl)));
}

begin_chunk : (s : Side) (c : Follow) (a b : Part) (d : Chunk) → s ≡ c.side → follow_is_at c a b → ((whole_follow c a b).at ≡ Wait) × IsOf (shared a.takes b.takes) d
    → TurnLaw whole_follow follow_fits (fed (Given d) (whole_follow c a b)) (turn_to c.side (Given d)) c a b
begin_chunk Upper c a b d s inv h =
    let e = stand_wait c.stand h.0 in
    let f0 = subst (λ x. IsFollowIn x c a b) e inv in
    let f = subst (λ x. IsPartAt x Wait c a b) (sym s) f0.0 in
    let w = subst (λ x. IsPartWaiting x c.back a b) (sym s) f0.2 in
    let g = sequence_grade a b in
    let z : a.floor ≡ 0 = f.0.told_is ∙ ap floor_of f0.1 in
    first_to c (fed (Given d) (whole_follow c a b)) a b (Given d) (sym s) (f.1, taken_left a.takes b.takes d w.1 h.1)
    (first_fed c a (fed (Given d) a) b (kept_none a) (sym z) (λ u t. absurd (not_told c.told f0.1 t)) f.0)
    (rw (← s) (record {
      goes = λ z1. moves_gets g d (sequence_at Fresh Upper (rest_items c.back) 0 (floor_of c.told) a b) z1 (rest (sequence_at Fresh Upper (rest_items c.back) 0 (floor_of c.told) (fed (Given d) a) b) z1)
          (first_gets g (items d) (rest a z1) (rest (fed (Given d) a) z1) (b.run z1) (gets_fed (to_end g) d a z1 z));
      kept = (refl, refl, refl, refl, refl, λ s1 d1 t1. t1);
    }))
begin_chunk Lower c a b d s inv h =
    let e = stand_wait c.stand h.0 in
    let f0 = subst (λ x. IsFollowIn x c a b) e inv in
    let f = subst (λ x. IsPartAt x Wait c a b) (sym s) f0.0 in
    let w = subst (λ x. IsPartWaiting x c.back a b) (sym s) f0.2 in
    let g = sequence_grade a b in
    second_to c (fed (Given d) (whole_follow c a b)) a b (Given d) (sym s) (f.1, taken_right a.takes b.takes d f.0.in_turn.takes w.2 h.1)
    (record { is_second = f.0.is_second; told_is = omega arith; told_empty = f.0.told_empty; empty = inl w.0; given = f.0.given; held = f.0.held; in_turn = turn_by a a b (fed (Given d) b) (kept_none a) (kept_none b) f.0.in_turn })
    (rw (← s, w.0, f0.1) (record {
      goes = λ z1. moves_gets g d (sequence_at Fresh Lower [] 0 0 a b) z1 (rest (sequence_at Fresh Lower [] 0 0 a (fed (Given d) b)) z1)
          (subst (λ x. Gets g (items d) x (pending [] 0 (rest (fed (Given d) b) z1))) (sym (whole_pending [] 0 a b z1 w.1)) (pending_gets g (items d) (rest b z1) (rest (fed (Given d) b) z1) (gets_fed g d b z1 w.1)));
      kept = (refl, refl, refl, refl, refl, λ s1 d1 t1. t1);
    }))

begin_end : (s : Side) (c : Follow) (a b : Part) → s ≡ c.side → follow_is_at c a b → (whole_follow c a b).at ≡ Wait
    → TurnLaw whole_follow follow_fits (fed TheEnd (whole_follow c a b)) (turn_to c.side TheEnd) (record c { told = true }) a b
begin_end Upper c a b s inv h =
    let e = stand_wait c.stand h in
    let f0 = subst (λ x. IsFollowIn x c a b) e inv in
    let f = subst (λ x. IsPartAt x Wait c a b) (sym s) f0.0 in
    let w = subst (λ x. IsPartWaiting x c.back a b) (sym s) f0.2 in
    let g = sequence_grade a b in
    first_to (record c { told = true }) (fed TheEnd (whole_follow c a b)) a b TheEnd (sym s) f.1
    (record { is_first = f.0.is_first; told_is = refl; told_empty = λ t. w.0; none = f.0.none; unbegun = f.0.unbegun; held = f.0.held; in_turn = turn_by a (fed TheEnd a) b b (kept_none a) (kept_none b) f.0.in_turn })
    (rw (← s) (record {
      goes = λ z1. moves_gets_end g (sequence_at Fresh Upper (rest_items c.back) 0 (floor_of c.told) a b) z1 (rest (sequence_at Fresh Upper (rest_items c.back) 0 1 (fed TheEnd a) b) z1)
          (first_gets_end g (rest a z1) (rest (fed TheEnd a) z1) (b.run z1) (gets_end_fed (to_end g) a z1));
      kept = (refl, refl, refl, refl, refl, λ s1 d1 t1. t1);
    }))
begin_end Lower c a b s inv h =
    let e = stand_wait c.stand h in
    let f0 = subst (λ x. IsFollowIn x c a b) e inv in
    let f = subst (λ x. IsPartAt x Wait c a b) (sym s) f0.0 in
    let w = subst (λ x. IsPartWaiting x c.back a b) (sym s) f0.2 in
    let g = sequence_grade a b in
    second_to (record c { told = true }) (fed TheEnd (whole_follow c a b)) a b TheEnd (sym s) f.1
    (record { is_second = f.0.is_second; told_is = omega arith; told_empty = λ t. w.0; empty = inl w.0; given = f.0.given; held = f.0.held; in_turn = turn_by a a b (fed TheEnd b) (kept_none a) (kept_none b) f.0.in_turn })
    (rw (← s, w.0, f0.1) (record {
      goes = λ z1. moves_gets_end g (sequence_at Fresh Lower [] 0 0 a b) z1 (rest (fed TheEnd b) z1)
          (subst (λ x. GetsEnd g x (rest (fed TheEnd b) z1)) (sym (whole_pending [] 0 a b z1 w.1)) (pending_told g b z1));
      kept = (refl, refl, refl, refl, refl, λ s1 d1 t1. t1);
    }))

pub begin_told : (c : Follow) (a b : Part) → follow_is_at c a b → (whole_follow c a b).at ≡ Wait → TurnLaw whole_follow follow_fits (fed TheEnd (whole_follow c a b)) (turn_to c.side TheEnd) (record c { told = true }) a b
begin_told c a b inv h = begin_end c.side c a b refl inv h

pub begin_other : (i : Input) (c : Follow) (a b : Part) → (i ≡ TheEnd → ⊥) → follow_is_at c a b → Answers (whole_follow c a b) i → TurnLaw whole_follow follow_fits (fed i (whole_follow c a b)) (turn_to c.side i) c a b
begin_other Start c a b x inv h = begin_start c a b inv h
begin_other (Given d) c a b x inv h = begin_chunk c.side c a b d refl inv h
begin_other TheEnd c a b x inv h = absurd (x refl)
begin_other Next c a b x inv h = begin_next c.side c a b refl inv h

-- ---- effects of a part are the whole's

pub pass_first : (c : Follow) (a b q : Part) (es : List Effect) → follow_fits Upper c a b → Goes_on (map Do es) a q → Goes_on (map Do es) (whole_follow c a b) (whole_follow c q b)
pass_first c a b q es f m z = rw f.is_first (first_acts (map Do es) a q b z f.in_turn m)

pub pass_second : (c : Follow) (a b q : Part) (es : List Effect) → follow_fits Lower c a b → Goes_on (map Do es) b q → Goes_on (map Do es) (whole_follow c a b) (whole_follow c a q)
pass_second c a b q es f m z = rw f.is_second (second_acts (map Do es) (rest_items c.back) (floor_of c.told) a b q z f.in_turn m)

pub stuck_first : (c : Follow) (a b : Part) (h : Halt) (z : Seen) → follow_fits Upper c a b → Stuck h (rest a z) → Stuck h (rest (whole_follow c a b) z)
stuck_first c a b h z f s = rw f.is_first (first_stuck h (rest a z) (b.run z) s)

pub stuck_second : (c : Follow) (a b : Part) (h : Halt) (z : Seen) → follow_fits Lower c a b → Stuck h (rest b z) → Stuck h (rest (whole_follow c a b) z)
stuck_second c a b h z f s = rw f.is_second (second_stuck h (rest_items c.back) (floor_of c.told) a b z s)

-- ---- what comes to a site of one part changes nothing of the other

known_first : (g : Grade) (a b : Part) (s : ℕ) (w : Told) (z : Seen) → IsSound b → b.sites s ≡ false
    → Moves g [] (followed (rest a (known s w z)) (b.run (known s w z))) (followed (rest a (known s w z)) (b.run z))
known_first g a b s w z l h =
    subst (λ x. Moves g [] (followed (rest a (known s w z)) x) (followed (rest a (known s w z)) (b.run z))) (sym (l.local s h w z)) (moves_none g (followed (rest a (known s w z)) (b.run z)))

pub told_first : (c : Follow) (a b : Part) (s : ℕ) (w : Seen → Told) → follow_fits Upper c a b → IsSound b → b.sites s ≡ false
    → follow_fits Upper c (told s w a) b × Same (told s w (whole_follow c a b)) (whole_follow c (told s w a) b)
told_first c a b s w f l h = (
  first_fed c a (told s w a) b (kept_none a) refl (λ u t. u) f,
  record { goes = λ z. rw f.is_first (known_first (sequence_grade a b) a b s (w z) z l h); kept = (refl, refl, refl, refl, refl, λ s1 d1 t1. t1) },
)

pub told_second : (c : Follow) (a b : Part) (s : ℕ) (w : Seen → Told) → follow_fits Lower c a b → follow_fits Lower c a (told s w b) × Same (told s w (whole_follow c a b)) (whole_follow c a (told s w b))
told_second c a b s w f = (
  record { is_second = f.is_second; told_is = f.told_is; told_empty = f.told_empty; empty = f.empty; given = f.given; held = f.held; in_turn = turn_by a a b (told s w b) (kept_none a) (kept_none b) f.in_turn },
  record { goes = λ z. rw f.is_second (moves_none (sequence_grade a b) (rest (sequence_at Fresh Lower (rest_items c.back) 0 (floor_of c.told) a (told s w b)) z)); kept = (refl, refl, refl, refl, refl, λ s1 d1 t1. t1) },
)

-- ---- and a ticket of a part is the whole's

turn_got : (a b a' b' : Part) → AreInTurn a b → a'.sites ≡ a.sites → b'.sites ≡ b.sites → a'.grade ≡ a.grade → b'.grade ≡ b.grade → a'.gives ≡ a.gives → b'.gives ≡ b.gives → a'.takes ≡ a.takes → b'.takes ≡ b.takes → AreInTurn a' b'
turn_got a b a' b' h s1 s2 g1 g2 o1 o2 t1 t2 = record {
  apart = rw (s1, s2) h.apart;
  exact = rw g1 h.exact;
  first = rw (g1, t1) h.first;
  second = rw (g2, t2) h.second;
  gives = rw (o1, o2) h.gives;
  takes = rw (t1, t2) h.takes;
}

pub got_first : (c : Follow) (a b : Part) (t n : ℕ) → follow_fits Upper c a b → follow_fits Upper c (got t n a) b × Same (got t n (whole_follow c a b)) (whole_follow c (got t n a) b)
got_first c a b t n f = (
  record {
    is_first = f.is_first;
    told_is = f.told_is;
    told_empty = f.told_empty;
    none = f.none;
    unbegun = f.unbegun;
    held = f.held;
    in_turn = turn_got a b (got t n a) b f.in_turn refl refl refl refl refl refl refl refl;
  },
  record {
    goes = λ z. rw f.is_first (moves_none (sequence_grade a b) (followed (rest a z) (b.run z)));
    kept = (refl, refl, refl, refl, refl, λ s d e. or_first (is_ticket t n s d) (a.tickets s d) (b.tickets s d) e);
  },
)

pub got_second : (c : Follow) (a b : Part) (t n : ℕ) → follow_fits Lower c a b → follow_fits Lower c a (got t n b) × Same (got t n (whole_follow c a b)) (whole_follow c a (got t n b))
got_second c a b t n f = (
  record {
    is_second = f.is_second;
    told_is = f.told_is;
    told_empty = f.told_empty;
    empty = f.empty;
    given = f.given;
    held = f.held;
    in_turn = turn_got a b a (got t n b) f.in_turn refl refl refl refl refl refl refl refl;
  },
  record {
    goes = λ z. rw f.is_second (moves_none (sequence_grade a b) (rest (sequence_at Fresh Lower (rest_items c.back) 0 (floor_of c.told) a b) z));
    kept = (refl, refl, refl, refl, refl, λ s d e. or_second (is_ticket t n s d) (a.tickets s d) (b.tickets s d) e);
  },
)
