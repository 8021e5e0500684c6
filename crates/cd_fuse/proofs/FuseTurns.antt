-- The first turn of a step of plain fusion, where no step follows, and what comes to the sites of its parts.
use Rattle.std.proofs.Common.{◌≡◌, ℕ, Bool, true, false, List, [], map, refl, sym, ◌∙◌, subst, None, arith}
use Rattle.cd_meaning.specs.Stream.{Item, Do, Effect, Halt}
use Rattle.cd_meaning.specs.RunShapes.{Told, Seen}
use Rattle.cd_meaning.specs.Rest.{Grade, nets, Moves, Stuck, fused, fused_ended}
use Rattle.cd_meaning.proofs.Moves.Plain.{up_gets, up_gets_end, up_does}
use Rattle.cd_step.specs.declared.protocol.Input.TheVariants.{Start, Chunk as Given, End as TheEnd, Next}
use Rattle.cd_step.specs.declared.protocol.Stand.{Stand}
use Rattle.cd_step.specs.declared.protocol.Stand.TheVariants.{Fresh as IsFresh, Wait as IsWait, Gave as HasGiven, Over as IsOver}
use Rattle.cd_step.specs.declared.control.Side.TheVariants.{Upper, Lower}
use Rattle.cd_step.specs.declared.control.Turn.TheVariants.{Up, Down}
use Rattle.cd_step.specs.declared.control.Found.{Found}
use Rattle.cd_step.specs.declared.control.Found.TheVariants.{Own, AtUpper}
use Rattle.cd_meaning.specs.Known.{known}
use Rattle.cd_step.specs.Parts.{Chunk, Fresh, Wait, Gave, Part, rest, items, rest_items, IsOf, fed, Goes_on, IsSound}
use Rattle.cd_step.specs.Sites.{told, got, is_ticket}
use Rattle.cd_step.specs.Flows.{Same, TurnLaw, RetireLaw, IsOver as IsOverPart, IsFound}
use Rattle.cd_step.proofs.Sides.{fresh_not_over, wait_not_over, gave_not_over, stand_not_over, retires_less}
use Rattle.cd_step.proofs.Moving.{moves_none, kept_none, moves_gets, moves_gets_end, gets_fed, gets_end_fed, same_none, rest_local, or_first, or_second}
use Rattle.cd_step.proofs.Outs.{stand_fresh, stand_wait, stand_gave}
use Rattle.cd_fuse.specs.declared.fuse.Upstream.{Upstream}
use Rattle.cd_fuse.specs.declared.fuse.Upstream.TheVariants.{Fresh as HasNotBegun, Begun, Ended}
use Rattle.cd_fuse.specs.declared.fuse.Fuse.{Fuse}
use Rattle.cd_fuse.specs.Fuses.{has_ended, fusion_at, whole_fuse, IsUpstream, fuse_fits, fuse_is_at, IsFuseIn}
use Rattle.cd_fuse.proofs.FuseMoves.{kept_whole, beside_by, seen_up, upper_by, down_acts, upstream_by, upstream_there, stuck_above, stuck_below}

-- ---- the first turn

pub begin_start : (c : Fuse) (a b : Part) → fuse_is_at c a b → (whole_fuse c a b).at ≡ Fresh → TurnLaw whole_fuse fuse_fits (fed Start (whole_fuse c a b)) (Down Start) c a b
begin_start c a b inv h =
    let e = stand_fresh c.stand h in
    let f = rw e at inv in
    (f.1, f.0, same_none (whole_fuse c a b))

pub begin_next : (c : Fuse) (a b : Part) → fuse_is_at c a b → (whole_fuse c a b).at ≡ Gave → TurnLaw whole_fuse fuse_fits (fed Next (whole_fuse c a b)) (Down Next) c a b
begin_next c a b inv h =
    let e = stand_gave c.stand h in
    let f = rw e at inv in
    (f.1, f.0, same_none (whole_fuse c a b))

pub begin_chunk : (c : Fuse) (a b : Part) (d : Chunk) → fuse_is_at c a b → ((whole_fuse c a b).at ≡ Wait) × IsOf a.takes d
    → TurnLaw whole_fuse fuse_fits (fed (Given d) (whole_fuse c a b)) (Up (Given d)) c a b
begin_chunk c a b d inv h =
    let e = stand_wait c.stand h.0 in
    let f = rw e at inv in (
      (f.1, h.1),
      upper_by c a (fed (Given d) a) b (kept_none a) f.0,
      record {
        goes = λ z. rw f.0.begun (moves_gets (nets a.grade.pieces) d (fusion_at Fresh false [] 0 a b) z (rest (fusion_at Fresh false [] 0 (fed (Given d) a) b) z)
            (up_gets a.grade.pieces (items d) (rest a z) (rest (fed (Given d) a) z) (rest b z) (gets_fed (nets a.grade.pieces) d a z f.2)));
        kept = (refl, refl, refl, refl, refl, λ s1 d1 t1. t1);
      },
    )

pub begin_end : (c : Fuse) (a b : Part) → fuse_is_at c a b → (whole_fuse c a b).at ≡ Wait → TurnLaw whole_fuse fuse_fits (fed TheEnd (whole_fuse c a b)) (Up TheEnd) c a b
begin_end c a b inv h =
    let e = stand_wait c.stand h in
    let f = rw e at inv in (
      f.1,
      upper_by c a (fed TheEnd a) b (kept_none a) f.0,
      record {
        goes = λ z. rw f.0.begun (moves_gets_end (nets a.grade.pieces) (fusion_at Fresh false [] 0 a b) z (rest (fusion_at Fresh false [] 0 (fed TheEnd a) b) z)
            (up_gets_end a.grade.pieces (rest a z) (rest (fed TheEnd a) z) (rest b z) (f.0.waiting.asks z) (gets_end_fed (nets a.grade.pieces) a z)));
        kept = (refl, refl, refl, refl, refl, λ s1 d1 t1. t1);
      },
    )

-- ---- no step follows

found_upper : (c : Fuse) (a b : Part) → has_ended c.upstream ≡ false → (IsOverPart a → ⊥) → IsFound AtUpper (whole_fuse c a b) a b
found_upper c a b o n = (rw o refl, λ r g. g, n)

-- where it stands, one of the two is on its turn
found_at : (s : Stand) (f : Found) (c : Fuse) (a b : Part) → (fuse_fits Upper c a b → (IsOverPart a → ⊥) → IsFound f (whole_fuse c a b) a b)
    → (fuse_fits Lower c a b → (IsOverPart b → ⊥) → IsFound f (whole_fuse c a b) a b)
    → (s ≡ IsOver → ⊥) → IsFuseIn s c a b → IsFound f (whole_fuse c a b) a b
found_at IsFresh f c a b h k n i = k i.0 (fresh_not_over b.at i.1)
found_at IsWait f c a b h k n i = h i.0 (wait_not_over a.at i.1)
found_at HasGiven f c a b h k n i = k i.0 (gave_not_over b.at i.1)
found_at IsOver f c a b h k n i = absurd (n refl)

pub retire_ended : (c : Fuse) (a b : Part) → c.upstream ≡ Ended → RetireLaw whole_fuse fuse_is_at fuse_fits c (Own c.back) (record c { stand = IsOver; back = None }) a b
retire_ended c a b o =
    let up : fuse_fits Upper c a b → (IsOverPart a → ⊥) → IsFound (Own c.back) (whole_fuse c a b) a b = λ f n. absurd (let e : Ended ≡ Begun = sym o ∙ f.begun in cc) in
    let down : fuse_fits Lower c a b → (IsOverPart b → ⊥) → IsFound (Own c.back) (whole_fuse c a b) a b = λ f n. (rw o refl, (subst (λ x. IsUpstream x c.back a b) o f.stands).1) in (
      λ a' b' r s ra rb. (ra.0, kept_whole a a' b b' ra.1 rb.1, let na = retires_less a a' r ra in let nb = retires_less b b' s rb in omega (arith, na, nb), tt),
      λ inv n. found_at c.stand (Own c.back) c a b up down (stand_not_over c.stand n) inv,
      up,
      down,
    )

not_ended : (u : Upstream) → (u ≡ Ended → ⊥) → has_ended u ≡ false
not_ended HasNotBegun n = refl
not_ended Begun n = refl
not_ended Ended n = absurd (n refl)

pub retire_up : (c : Fuse) (a b : Part) → (c.upstream ≡ Ended → ⊥) → RetireLaw whole_fuse fuse_is_at fuse_fits c AtUpper (record c { stand = IsOver }) a b
retire_up c a b o =
    let e = not_ended c.upstream o in
    let up : fuse_fits Upper c a b → (IsOverPart a → ⊥) → IsFound AtUpper (whole_fuse c a b) a b = λ f n. found_upper c a b e n in
    let down : fuse_fits Lower c a b → (IsOverPart b → ⊥) → IsFound AtUpper (whole_fuse c a b) a b = λ f n. found_upper c a b e (upstream_there c.upstream c.back a b o f.stands) in (
      λ a' b' r s ra rb. (ra.0, kept_whole a a' b b' ra.1 rb.1, let na = ra.2 in let nb = retires_less b b' s rb in omega (arith, na, nb), tt),
      λ inv n. found_at c.stand AtUpper c a b up down (stand_not_over c.stand n) inv,
      up,
      down,
    )

-- ---- effects of a part are the whole's

pub pass_up : (c : Fuse) (a b q : Part) (es : List Effect) → fuse_fits Upper c a b → Goes_on (map Do es) a q → Goes_on (map Do es) (whole_fuse c a b) (whole_fuse c q b)
pass_up c a b q es f m z = rw f.begun (up_does a.grade.pieces es (rest a z) (rest q z) (rest b z) (f.waiting.asks z) (seen_up (map Do es) a q z f.beside.graded m))

pub pass_down : (c : Fuse) (a b q : Part) (es : List Effect) → fuse_fits Lower c a b → Goes_on (map Do es) b q → Goes_on (map Do es) (whole_fuse c a b) (whole_fuse c a q)
pass_down c a b q es f m z = down_acts c.upstream c.back (map Do es) a b q z f.stands m

pub stuck_up : (c : Fuse) (a b : Part) (h : Halt) (z : Seen) → fuse_fits Upper c a b → Stuck h (rest a z) → Stuck h (rest (whole_fuse c a b) z)
stuck_up c a b h z f s = rw f.begun (stuck_above h a b z f.waiting s)

pub stuck_down : (c : Fuse) (a b : Part) (h : Halt) (z : Seen) → fuse_fits Lower c a b → Stuck h (rest b z) → Stuck h (rest (whole_fuse c a b) z)
stuck_down c a b h z f s = stuck_below c.upstream c.back h a b z f.stands s

-- ---- what comes to a site of one part changes nothing of the other

known_up : (g : Grade) (a b : Part) (s : ℕ) (w : Told) (z : Seen) → IsSound b → b.sites s ≡ false
    → Moves g [] (fused (rest a (known s w z)) (rest b (known s w z))) (fused (rest a (known s w z)) (rest b z))
known_up g a b s w z l h =
    subst (λ x. Moves g [] (fused (rest a (known s w z)) x) (fused (rest a (known s w z)) (rest b z))) (sym (rest_local b s w z l h)) (moves_none g (fused (rest a (known s w z)) (rest b z)))

known_down : (g : Grade) (ended : Bool) (back : List Item) (a b : Part) (s : ℕ) (w : Seen → Told) (z : Seen) → IsSound a → a.sites s ≡ false
    → Moves g [] (rest (fusion_at Fresh ended back 0 a b) (known s (w z) z)) (rest (fusion_at Fresh ended back 0 a (told s w b)) z)
known_down g false back a b s w z l h =
    subst (λ x. Moves g [] (fused x (rest b (known s (w z) z))) (fused (rest a z) (rest b (known s (w z) z)))) (sym (rest_local a s (w z) z l h)) (moves_none g (fused (rest a z) (rest b (known s (w z) z))))
known_down g true back a b s w z l h = moves_none g (fused_ended back a.floor (rest b (known s (w z) z)))

pub told_up : (c : Fuse) (a b : Part) (s : ℕ) (w : Seen → Told) → fuse_fits Upper c a b → IsSound b → b.sites s ≡ false
    → fuse_fits Upper c (told s w a) b × Same (told s w (whole_fuse c a b)) (whole_fuse c (told s w a) b)
told_up c a b s w f l h = (
  upper_by c a (told s w a) b (kept_none a) f,
  record { goes = λ z. rw f.begun (known_up (nets a.grade.pieces) a b s (w z) z l h); kept = (refl, refl, refl, refl, refl, λ s1 d1 t1. t1) },
)

pub told_down : (c : Fuse) (a b : Part) (s : ℕ) (w : Seen → Told) → fuse_fits Lower c a b → IsSound a → a.sites s ≡ false
    → fuse_fits Lower c a (told s w b) × Same (told s w (whole_fuse c a b)) (whole_fuse c a (told s w b))
told_down c a b s w f l h = (
  record { stands = upstream_by c.upstream c.back a b (told s w b) refl f.stands; held = f.held; beside = beside_by a a b (told s w b) (kept_none a) (kept_none b) f.beside },
  record { goes = λ z. known_down (nets a.grade.pieces) (has_ended c.upstream) (rest_items c.back) a b s w z l h; kept = (refl, refl, refl, refl, refl, λ s1 d1 t1. t1) },
)

-- ---- and a ticket of a part is the whole's

pub got_up : (c : Fuse) (a b : Part) (t n : ℕ) → fuse_fits Upper c a b → fuse_fits Upper c (got t n a) b × Same (got t n (whole_fuse c a b)) (whole_fuse c (got t n a) b)
got_up c a b t n f = (
  record { begun = f.begun; none = f.none; waiting = f.waiting; beside = record { apart = f.beside.apart; graded = f.beside.graded; meets = f.beside.meets } },
  record {
    goes = λ z. rw f.begun (moves_none (nets a.grade.pieces) (fused (rest a z) (rest b z)));
    kept = (refl, refl, refl, refl, refl, λ s d e. or_first (is_ticket t n s d) (a.tickets s d) (b.tickets s d) e);
  },
)

ticket_down : (g : Grade) (ended : Bool) (back : List Item) (a b : Part) (t n : ℕ) (z : Seen)
    → Moves g [] (rest (fusion_at Fresh ended back 0 a b) z) (rest (fusion_at Fresh ended back 0 a (got t n b)) z)
ticket_down g false back a b t n z = moves_none g (fused (rest a z) (rest b z))
ticket_down g true back a b t n z = moves_none g (fused_ended back a.floor (rest b z))

pub got_down : (c : Fuse) (a b : Part) (t n : ℕ) → fuse_fits Lower c a b → fuse_fits Lower c a (got t n b) × Same (got t n (whole_fuse c a b)) (whole_fuse c a (got t n b))
got_down c a b t n f = (
  record {
    stands = upstream_by c.upstream c.back a b (got t n b) refl f.stands;
    held = f.held;
    beside = record { apart = f.beside.apart; graded = f.beside.graded; meets = f.beside.meets };
  },
  record {
    goes = λ z. ticket_down (nets a.grade.pieces) (has_ended c.upstream) (rest_items c.back) a b t n z;
    kept = (refl, refl, refl, refl, refl, λ s d e. or_second (is_ticket t n s d) (a.tickets s d) (b.tickets s d) e);
  },
)
