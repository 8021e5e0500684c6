-- Each move of a part under plain fusion is a step of the weave, or the next turn.
use Rattle.std.proofs.Common.{◌≡◌, ℕ, ◌+◌, ◌≤◌, false, List, [], refl, ap, sym, ◌∙◌, subst, Option, None, arith}
use Rattle.cd_elem.specs.declared.value.Value.{Value as Result}
use Rattle.cd_elem.specs.declared.fault.Fault.{Fault}
use Rattle.cd_meaning.specs.Stream.{Act, Halt}
use Rattle.cd_meaning.specs.RunShapes.{Seen}
use Rattle.cd_meaning.specs.Rest.{nets, needs, Moves, Finishes, Stuck, plain_finish, fused}
use Rattle.cd_meaning.specs.Values.{value_meaning}
use Rattle.cd_meaning.proofs.Moves.Fused as by
use Rattle.cd_meaning.proofs.Moves.Fused.{IsGrade}
use Rattle.cd_meaning.proofs.Moves.Plain.{down_moves, up_emits, up_does, both_ask, down_finishes, up_finishes, ended_plain_moves, ended_plain_finishes, no_pair}
use Rattle.cd_meaning.proofs.Moves.Results.{plain_is_finish, plain_finish_seen, ended_stuck}
use Rattle.cd_step.specs.declared.protocol.Input.TheVariants.{Start, Chunk as Given, End as TheEnd, Next}
use Rattle.cd_step.specs.declared.protocol.Move.TheVariants.{Emit, Need, Done, Fault as Faulted}
use Rattle.cd_step.specs.declared.protocol.Stand.TheVariants.{Wait as IsWait, Gave as HasGiven, Over as IsOver}
use Rattle.cd_step.specs.declared.control.Side.TheVariants.{Upper, Lower}
use Rattle.cd_step.specs.declared.control.Turn.TheVariants.{Up, Down}
use Rattle.cd_step.specs.declared.control.Flow.TheVariants.{Again, Return, Finish}
use Rattle.cd_step.specs.declared.control.Made.TheVariants.{One}
use Rattle.cd_step.specs.declared.control.Found.TheVariants.{Own, AtUpper}
use Rattle.cd_meaning.specs.Known.{nothing_known}
use Rattle.cd_step.specs.Parts.{Chunk, Fresh, Over, Part, rest, items, rest_items, IsHeld, IsWaiting, weight_any, fed, Goes, Goes_on, outs_of, Kept}
use Rattle.cd_step.specs.Flows.{Same, FlowLaw}
use Rattle.cd_step.proofs.Sides.{seen_down, waiting_floor, waits_now, goes_floor, meets_chunk, emit_smaller, fresh_not_over, gave_not_over}
use Rattle.cd_step.proofs.Moving.{needs_seen, nets_seen, moves_by, finishes_by, kept_none, kept_after, had_both, gets_fed, gets_end_fed}
use Rattle.cd_fuse.specs.declared.fuse.Upstream.{Upstream}
use Rattle.cd_fuse.specs.declared.fuse.Upstream.TheVariants.{Fresh as HasNotBegun, Begun, Ended}
use Rattle.cd_fuse.specs.declared.fuse.Fuse.{Fuse}
use Rattle.cd_fuse.specs.Fuses.{has_ended, fusion_at, whole_fuse, AreBeside, IsUpstream, fuse_fits, fuse_is_at, fuse_left}

-- ---- what no step changes

pub kept_whole : (a q b b' : Part) → Kept a q → Kept b b' → Kept (fusion_at Fresh false [] 0 a b) (fusion_at Fresh false [] 0 q b')
kept_whole a q b b' k k' = (ap (λ x. nets x.pieces) k.0, rw (k.1, k'.1) refl, k'.2, k.3, rw (k.4, k'.4) refl, had_both a q b b' k.5 k'.5)

pub beside_by : (a a' b b' : Part) → Kept a a' → Kept b b' → AreBeside a b → AreBeside a' b'
beside_by a a' b b' k k' h = record { apart = rw (k.1, k'.1) h.apart; graded = subst IsGrade (sym k.0) h.graded; meets = rw (k.2, k'.3) h.meets }

-- what the upstream does is seen as the whole's
pub seen_up : (acts : List Act) (a q : Part) (z : Seen) → IsGrade a.grade → Goes_on acts a q → Moves (nets a.grade.pieces) acts (rest a z) (rest q z)
seen_up acts a q z h m = moves_by a.grade (nets a.grade.pieces) (nets_seen a.grade h) acts (rest a z) (rest q z) (m z)

seen_end : (b : Part) (v : Result) (r : Option Chunk) (q : Part) (z : Seen) → Goes (Done v r) b q → Finishes needs (value_meaning v) (rest_items r) (rest b z)
seen_end b v r q z h = finishes_by b.grade needs (needs_seen b.grade) (value_meaning v) (rest_items r) (rest b z) (h.finishes z)

-- ---- held

held_none : (r : Option Chunk) (n m : ℕ) → r ≡ None → n ≤ m → n + weight_any r ≤ m
held_none r n m e h = rw e (omega (arith, h))

pub up_held : (c : Fuse) (q b : Part) → c.back ≡ None → IsHeld b → IsHeld q → IsHeld (whole_fuse c q b)
up_held c q b e h k = rw e (omega (arith, h, k))

pub down_held : (c : Fuse) (a q : Part) → a.held + weight_any c.back ≤ a.room → IsHeld q → IsHeld (whole_fuse c a q)
down_held c a q h k = omega (arith, h, k)

-- ---- the upstream has moved

pub upper_by : (c : Fuse) (a a' b : Part) → Kept a a' → fuse_fits Upper c a b → fuse_fits Upper c a' b
upper_by c a a' b k f = record { begun = f.begun; none = f.none; waiting = f.waiting; beside = beside_by a a' b b k (kept_none b) f.beside }

pub up_emit : (c : Fuse) (a b q : Part) (d : Chunk) → fuse_fits Upper c a b → Goes (Emit d) a q → Kept a q → IsHeld q
    → FlowLaw whole_fuse fuse_is_at fuse_fits fuse_left (whole_fuse c a b) (fuse_left Upper c a b) c (Again (Down (Given d))) q b
up_emit c a b q d f h k y =
    let w = f.waiting in (
      (
        (w.is_at, meets_chunk a.gives b.takes d f.beside.meets w.takes h.0),
        record { stands = rw f.begun (h.1.is_at, refl, f.none); held = held_none c.back q.held q.room f.none y; beside = beside_by a q b (fed (Given d) b) k (kept_none b) f.beside },
        record {
          goes = λ z. rw f.begun (up_emits a.grade.pieces (items d) (rest a z) (rest q z) (rest b z) (rest (fed (Given d) b) z) (w.asks z)
              (seen_up (outs_of d) a q z f.beside.graded h.1.goes) (gets_fed needs d b z (waiting_floor b w)));
          kept = kept_whole a q b (fed (Given d) b) k (kept_none b);
        },
      ),
      rw f.begun (emit_smaller a q d h.0 h.1.goes),
    )

pub up_need : (c : Fuse) (a b q : Part) → fuse_fits Upper c a b → Goes Need a q → Kept a q → IsHeld q
    → FlowLaw whole_fuse fuse_is_at fuse_fits fuse_left (whole_fuse c a b) (fuse_left Upper c a b) (record c { stand = IsWait }) (Return Need) q b
up_need c a b q f h k y =
    let w = f.waiting in (
      record {
        is_at = refl;
        takes = h.takes;
        goes = λ z. rw f.begun (up_does a.grade.pieces [] (rest a z) (rest q z) (rest b z) (w.asks z) (seen_up [] a q z f.beside.graded h.goes));
        none_unread = rw f.begun h.none_unread;
        asks = λ z. rw f.begun (both_ask (rest q z) (rest b z) (h.asks z) (w.asks z));
      },
      (upper_by (record c { stand = IsWait }) a q b k f, h.is_at, (h.asks nothing_known).not_told),
      kept_whole a q b b k (kept_none b),
      up_held c q b f.none w.held y,
    )

pub up_done : (c : Fuse) (a b q : Part) (v : Result) (r : Option Chunk) → fuse_fits Upper c a b → Goes (Done v r) a q → Kept a q → IsHeld q
    → FlowLaw whole_fuse fuse_is_at fuse_fits fuse_left (whole_fuse c a b) (fuse_left Upper c a b) (record c { upstream = Ended; back = r }) (Again (Down TheEnd)) q b
up_done c a b q v r f h k y =
    let w = f.waiting in (
      (
        w.is_at,
        record { stands = (refl, rw k.3 h.given); held = h.left; beside = beside_by a q b (fed TheEnd b) k (kept_none b) f.beside },
        record {
          goes = λ z. rw (f.begun, h.floor) (up_finishes a.grade.pieces (value_meaning v) (rest_items r) (rest a z) (rest b z) (rest (fed TheEnd b) z) (w.asks z)
              (finishes_by a.grade (nets a.grade.pieces) (nets_seen a.grade f.beside.graded) (value_meaning v) (rest_items r) (rest a z) (h.finishes z)) (gets_end_fed needs b z));
          kept = kept_whole a q b (fed TheEnd b) k (kept_none b);
        },
      ),
      omega arith,
    )

pub stuck_above : (h : Halt) (a b : Part) (z : Seen) → IsWaiting b → Stuck h (rest a z) → Stuck h (fused (rest a z) (rest b z))
stuck_above h a b z w s = by.up_stuck plain_finish plain_is_finish (nets false) (by.nets_is_grade false) (plain_finish_seen false) h (rest a z) (rest b z) (w.asks z) s

pub up_fault : (c : Fuse) (a b q : Part) (x : Fault) → fuse_fits Upper c a b → Goes (Faulted x) a q → Kept a q → IsHeld q
    → FlowLaw whole_fuse fuse_is_at fuse_fits fuse_left (whole_fuse c a b) (fuse_left Upper c a b) (record c { stand = IsOver }) (Return (Faulted x)) q b
up_fault c a b q x f h k y = (
  record { is_at = refl; stuck = λ z. rw f.begun (stuck_above _ a b z f.waiting (h.stuck z)) },
  tt,
  kept_whole a q b b k (kept_none b),
  up_held c q b f.none f.waiting.held y,
)

-- ---- the downstream has moved

pub down_acts : (u : Upstream) (back : Option Chunk) (acts : List Act) (a b q : Part) (z : Seen) → IsUpstream u back a b → Goes_on acts b q
    → Moves (nets a.grade.pieces) acts (rest (fusion_at Fresh (has_ended u) (rest_items back) 0 a b) z) (rest (fusion_at Fresh (has_ended u) (rest_items back) 0 a q) z)
down_acts HasNotBegun back acts a b q z u m = down_moves a.grade.pieces acts (rest a z) (rest b z) (rest q z) u.1 (seen_down acts b q z m)
down_acts Begun back acts a b q z u m = down_moves a.grade.pieces acts (rest a z) (rest b z) (rest q z) u.1 (seen_down acts b q z m)
down_acts Ended back acts a b q z u m = ended_plain_moves a.grade.pieces acts (rest_items back) a.floor (rest b z) (rest q z) (seen_down acts b q z m)

pub upstream_by : (u : Upstream) (back : Option Chunk) (a b q : Part) → q.floor ≡ b.floor → IsUpstream u back a b → IsUpstream u back a q
upstream_by HasNotBegun back a b q e u = (u.0, e ∙ u.1, u.2)
upstream_by Begun back a b q e u = (u.0, e ∙ u.1, u.2)
upstream_by Ended back a b q e u = (e ∙ u.0, u.1)

pub lower_by : (c : Fuse) (acts : List Act) (a b q : Part) → Goes_on acts b q → Kept b q → fuse_fits Lower c a b → fuse_fits Lower c a q
lower_by c acts a b q m k f = record { stands = upstream_by c.upstream c.back a b q (goes_floor acts b q m) f.stands; held = f.held; beside = beside_by a a b q (kept_none a) k f.beside }

pub down_emit : (c : Fuse) (a b q : Part) (d : Chunk) → fuse_fits Lower c a b → Goes (Emit d) b q → Kept b q → IsHeld q
    → FlowLaw whole_fuse fuse_is_at fuse_fits fuse_left (whole_fuse c a b) (fuse_left Lower c a b) (record c { stand = HasGiven }) (Return (Emit d)) a q
down_emit c a b q d f h k y = (
  (h.0, record { is_at = refl; goes = λ z. down_acts c.upstream c.back (outs_of d) a b q z f.stands h.1.goes }),
  (lower_by c (outs_of d) a b q h.1.goes k f, h.1.is_at),
  kept_whole a a b q (kept_none a) k,
  down_held c a q f.held y,
)

down_same : (u u' : Upstream) (c : Fuse) (a b q : Part) → c.upstream ≡ u → has_ended u' ≡ has_ended u → fuse_fits Lower c a b → Goes Need b q → Kept b q
    → Same (whole_fuse c a b) (whole_fuse (record c { upstream = u' }) a q)
down_same u u' c a b q e e' f h k = rw e' (rw (sym e) (record { goes = λ z. down_acts c.upstream c.back [] a b q z f.stands h.goes; kept = kept_whole a a b q (kept_none a) k }))

pub down_need_fresh : (c : Fuse) (a b q : Part) → c.upstream ≡ HasNotBegun → fuse_fits Lower c a b → Goes Need b q → Kept b q → IsHeld q
    → FlowLaw whole_fuse fuse_is_at fuse_fits fuse_left (whole_fuse c a b) (fuse_left Lower c a b) (record c { upstream = Begun }) (Again (Up Start)) a q
down_need_fresh c a b q e f h k y =
    let u = rw e at f.stands in (
      (
        u.0,
        record { begun = refl; none = u.2; waiting = waits_now b q h k y; beside = beside_by a a b q (kept_none a) k f.beside },
        down_same HasNotBegun Begun c a b q e refl f h k,
      ),
      rw e (omega arith),
    )

-- a part that was told the end asks for nothing
has_begun : (u : Upstream) (back : Option Chunk) (a b q : Part) → (u ≡ HasNotBegun → ⊥) → IsUpstream u back a b → Goes Need b q → u ≡ Begun
has_begun HasNotBegun back a b q n u h = absurd (n refl)
has_begun Begun back a b q n u h = refl
has_begun Ended back a b q n u h = absurd (let e : q.floor ≡ 0 = (h.asks nothing_known).not_told in let e1 : q.floor ≡ b.floor = goes_floor [] b q h.goes in omega (arith, e, e1, u.0))

pub down_need : (c : Fuse) (a b q : Part) → (c.upstream ≡ HasNotBegun → ⊥) → fuse_fits Lower c a b → Goes Need b q → Kept b q → IsHeld q
    → FlowLaw whole_fuse fuse_is_at fuse_fits fuse_left (whole_fuse c a b) (fuse_left Lower c a b) c (Again (Up Next)) a q
down_need c a b q n f h k y =
    let e = has_begun c.upstream c.back a b q n f.stands h in
    let u = rw e at f.stands in (
      (
        u.0,
        record { begun = e; none = u.2; waiting = waits_now b q h k y; beside = beside_by a a b q (kept_none a) k f.beside },
        record { goes = λ z. down_acts c.upstream c.back [] a b q z f.stands h.goes; kept = kept_whole a a b q (kept_none a) k },
      ),
      rw e (omega arith),
    )

-- the upstream has ended before
pub down_done : (c : Fuse) (a b q : Part) (v : Result) (r : Option Chunk) → c.upstream ≡ Ended → fuse_fits Lower c a b → Goes (Done v r) b q → Kept b q → IsHeld q
    → FlowLaw whole_fuse fuse_is_at fuse_fits fuse_left (whole_fuse c a b) (fuse_left Lower c a b) (record c { stand = IsOver; back = None }) (Finish (One v) (Own c.back)) a q
down_done c a b q v r o f h k y =
    let u = subst (λ x. IsUpstream x c.back a b) o f.stands in
    let m = f.held in (
      tt,
      λ w s a' b' e l ra rb.
          let na = ra.2 in
          let nb = rb.2 in
          let wa : a'.room ≡ a.room = ra.1.4 in
          let wb : b'.room ≡ q.room = rb.1.4 in
          let ws : weight_any s ≡ weight_any c.back = ap weight_any l in (
            record {
              is_at = refl;
              floor = ra.0;
              given = rw l u.1;
              left = omega (arith, m, y, na, nb, wa, wb, ws);
              finishes = λ z. rw (o, e, l) (ended_plain_finishes a.grade.pieces (value_meaning v) (rest_items r) (rest_items c.back) a.floor (rest b z) (seen_end b v r q z h));
            },
            tt,
            kept_whole a a' b b' ra.1 (kept_after b q b' k rb.1),
            omega (arith, m, y, na, nb, wa, wb),
          ),
      kept_whole a a b q (kept_none a) k,
      omega (arith, m, y),
    )

pub upstream_there : (u : Upstream) (back : Option Chunk) (a b : Part) → (u ≡ Ended → ⊥) → IsUpstream u back a b → a.at ≡ Over → ⊥
upstream_there HasNotBegun back a b n u e = fresh_not_over a.at u.0 e
upstream_there Begun back a b n u e = gave_not_over a.at u.0 e
upstream_there Ended back a b n u e = n refl

upstream_none : (u : Upstream) (back : Option Chunk) (a b : Part) → (u ≡ Ended → ⊥) → IsUpstream u back a b → (has_ended u ≡ false) × (b.floor ≡ 0) × (back ≡ None)
upstream_none HasNotBegun back a b n u = (refl, u.1, u.2)
upstream_none Begun back a b n u = (refl, u.1, u.2)
upstream_none Ended back a b n u = absurd (n refl)

-- the upstream is suspended: what it has not read is given back
pub down_retire : (c : Fuse) (a b q : Part) (v : Result) (r : Option Chunk) → (c.upstream ≡ Ended → ⊥) → fuse_fits Lower c a b → Goes (Done v r) b q → Kept b q → IsHeld q
    → FlowLaw whole_fuse fuse_is_at fuse_fits fuse_left (whole_fuse c a b) (fuse_left Lower c a b) (record c { stand = IsOver }) (Finish (One v) AtUpper) a q
down_retire c a b q v r o f h k y =
    let u = upstream_none c.upstream c.back a b o f.stands in
    let m = f.held in
    let n : weight_any c.back ≡ 0 = ap weight_any u.2 in (
      upstream_there c.upstream c.back a b o f.stands,
      λ w s a' b' e l ra rb.
          let na = l.2 in
          let nb = rb.2 in
          let wa : a'.room ≡ a.room = ra.1.4 in
          let wb : b'.room ≡ q.room = rb.1.4 in (
            record {
              is_at = refl;
              floor = ra.0;
              given = l.1;
              left = omega (arith, m, n, y, na, nb, wa, wb);
              finishes = λ z. rw (u.0, e, l.0) (down_finishes a.grade.pieces (value_meaning v) (rest_items r) (rest a z) (rest b z) u.1 (seen_end b v r q z h));
            },
            tt,
            kept_whole a a' b b' ra.1 (kept_after b q b' k rb.1),
            omega (arith, m, n, y, na, nb, wa, wb),
          ),
      kept_whole a a b q (kept_none a) k,
      omega (arith, m, y),
    )

pub stuck_below : (u : Upstream) (back : Option Chunk) (h : Halt) (a b : Part) (z : Seen) → IsUpstream u back a b → Stuck h (rest b z)
    → Stuck h (rest (fusion_at Fresh (has_ended u) (rest_items back) 0 a b) z)
stuck_below HasNotBegun back h a b z u s = by.down_stuck plain_finish plain_is_finish (nets false) (by.nets_is_grade false) (plain_finish_seen false) h (rest a z) (rest b z) u.1 s
stuck_below Begun back h a b z u s = by.down_stuck plain_finish plain_is_finish (nets false) (by.nets_is_grade false) (plain_finish_seen false) h (rest a z) (rest b z) u.1 s
stuck_below Ended back h a b z u s = subst (λ p. Stuck h p) (no_pair (rest_items back) a.floor (rest b z)) (ended_stuck (λ u. u) needs h (rest_items back) a.floor (rest b z) s)

pub down_fault : (c : Fuse) (a b q : Part) (x : Fault) → fuse_fits Lower c a b → Goes (Faulted x) b q → Kept b q → IsHeld q
    → FlowLaw whole_fuse fuse_is_at fuse_fits fuse_left (whole_fuse c a b) (fuse_left Lower c a b) (record c { stand = IsOver }) (Return (Faulted x)) a q
down_fault c a b q x f h k y = (
  record { is_at = refl; stuck = λ z. stuck_below c.upstream c.back _ a b z f.stands (h.stuck z) },
  tt,
  kept_whole a a b q (kept_none a) k,
  down_held c a q f.held y,
)
