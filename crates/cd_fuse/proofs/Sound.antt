-- Facts of every whole, by those of its parts.
use Rattle.std.proofs.Common.{◌≡◌, ℕ, zero, suc, ◌≤◌, max, ◌-◌, Bool, true, false, List, [], ◌++◌, length, refl, ap, sym, ◌∙◌, subst, arith, ◌+◌, Option}
use Rattle.cd_meaning.specs.Stream.{Item, End, Ended}
use Rattle.cd_meaning.specs.Run.{stamp, Run, Then, Ends, outs, end_of, last, restamp}
use Rattle.cd_meaning.specs.Laws.{Rising}
use Rattle.cd_meaning.specs.RunShapes.{Told, Seen}
use Rattle.cd_meaning.specs.Rest.{Rest, plain_finish, fused, fused_ended, followed, reads_first}
use Rattle.cd_meaning.proofs.Rising.{rising_less, le_self}
use Rattle.cd_meaning.proofs.Follow.{follow_rising}
use Rattle.cd_meaning.proofs.Weaves.Finish.{by_rising}
use Rattle.cd_meaning.proofs.Moves.Results.{plain_is_finish}
use Rattle.cd_meaning.proofs.Moves.Sequences.{rising_behind_rest}
use Rattle.cd_step.specs.declared.control.Side.{Side}
use Rattle.cd_step.specs.declared.control.Side.TheVariants.{Upper, Lower}
use Rattle.cd_meaning.specs.Known.{known}
use Rattle.cd_step.specs.Parts.{Chunk, Part, rest, rest_items, weight_any, weigh, IsSound}
use Rattle.cd_step.proofs.Weighing.{weigh_back, weigh_append}
use Rattle.cd_step.proofs.Moving.{rest_local, own_either}
use Rattle.cd_step.proofs.Sides.{left_false, right_false, rising_const}
use Rattle.cd_fuse.specs.declared.fuse.Fuse.{Fuse}
use Rattle.cd_fuse.specs.declared.follow.Follow.{Follow}
use Rattle.cd_fuse.specs.Fuses.{has_ended, fusion_run, fusion_unread, whole_fuse}
use Rattle.cd_fuse.specs.Follows.{floor_of, second_rest, second_floor, second_unread, sequence_rest, sequence_unread, sequence_floor, whole_follow}

-- ---- plain fusion

fusion_local : (ended : Bool) (back : List Item) (a b : Part) (s : ℕ) (w : Told) (z : Seen) → IsSound a → IsSound b → a.sites s ≡ false → b.sites s ≡ false
    → fusion_run ended back a b (known s w z) ≡ fusion_run ended back a b z
fusion_local false back a b s w z h k x y = ap (λ q. (fused q (rest b (known s w z))).run) (rest_local a s w z h x) ∙ ap (λ q. (fused (rest a z) q).run) (rest_local b s w z k y)
fusion_local true back a b s w z h k x y = ap (λ q. (fused_ended back a.floor q).run) (rest_local b s w z k y)

fusion_rising : (ended : Bool) (back : List Item) (a b : Part) (z : Seen) (ys : List Item) (e : End) → IsSound a → IsSound b → Rising a.floor (fusion_run ended back a b z ys e)
fusion_rising false back a b z ys e h k =
    let r = a.run z ys e in
    by_rising plain_finish plain_is_finish (stamp a.floor 0) r (b.run z (outs r) (end_of r)) (h.rising z ys e) (rising_less 0 b.floor _ (omega arith) (k.rising z (outs r) (end_of r)))
fusion_rising true back a b z ys e h k = rising_const a.floor a.floor (b.run z [] Ended) (le_self a.floor)

fusion_counts : (ended : Bool) (back : Option Chunk) (a b : Part) → IsSound a → weigh (fusion_unread ended (rest_items back) a.unread) ≤ a.held + b.held + weight_any back
fusion_counts false back a b h = let k = h.counts in omega (arith, k)
fusion_counts true back a b h = let k = weigh_back back in omega (arith, k)

pub fuse_sound : (c : Fuse) (a b : Part) → IsSound a → IsSound b → IsSound (whole_fuse c a b)
fuse_sound c a b h k = record {
  local = λ s x w z. fusion_local (has_ended c.upstream) (rest_items c.back) a b s w z h k (left_false (a.sites s) (b.sites s) x) (right_false (a.sites s) (b.sites s) x);
  counts = fusion_counts (has_ended c.upstream) c.back a b h;
  rising = λ z ys e. fusion_rising (has_ended c.upstream) (rest_items c.back) a b z ys e h k;
  graded = h.graded;
  own = λ s d x. own_either (a.tickets s d) (b.tickets s d) (a.sites s) (b.sites s) (h.own s d) (k.own s d) x;
}

-- ---- a sequence

sequence_local : (side : Side) (back : List Item) (f : ℕ) (a b : Part) (s : ℕ) (w : Told) (z : Seen) → IsSound a → IsSound b → a.sites s ≡ false → b.sites s ≡ false
    → sequence_rest side back f a b (known s w z) ≡ sequence_rest side back f a b z
sequence_local Upper back f a b s w z h k x y = ap (λ q. followed q (b.run (known s w z))) (rest_local a s w z h x) ∙ ap (λ q. followed (rest a z) q) (k.local s y w z)
sequence_local Lower back f a b s w z h k x y = ap (λ q. second_rest b.floor back f q) (rest_local b s w z k y)

rising_first : (f n m : ℕ) (r : Run) → Rising m r → Rising f (restamp (reads_first f n) r)
rising_first f n m (Then s a r) h = (omega arith, rising_on f n s.need r h.1) where
  rising_on : (f n m : ℕ) (r : Run) → Rising m r → Rising (max f (m - n)) (restamp (reads_first f n) r)
  rising_on f n m (Then s a r) h = (let h0 = h.0 in omega arith, rising_on f n s.need r h.1)
  rising_on f n m (Ends s e) h = omega arith
rising_first f n m (Ends s e) h = omega arith

second_rising : (n : ℕ) (back : List Item) (f : ℕ) (p : Rest) (ys : List Item) (e : End) → n ≡ p.floor → ((xs : List Item) (t : End) → Rising p.floor (p.run xs t)) → Rising (second_floor n f) ((second_rest n back f p).run ys e)
second_rising zero back f p ys e h k = rising_first f (length back) p.floor (p.run (back ++ ys) e) (k (back ++ ys) e)
second_rising (suc n) back f p ys e h k = subst (λ m. Rising m (p.run ys e)) (sym h) (k ys e)

sequence_rising : (side : Side) (back : List Item) (f : ℕ) (a b : Part) (z : Seen) (ys : List Item) (e : End) → IsSound a → IsSound b → Rising (sequence_floor side f a b) ((sequence_rest side back f a b z).run ys e)
sequence_rising Upper back f a b z ys e h k =
    let s = last (a.run z ys e) in
    follow_rising a.floor (a.run z ys e) _ (h.rising z ys e) (λ v. rising_behind_rest s.need (length a.unread) s b.floor _ (le_self s.need) (k.rising z _ _))
sequence_rising Lower back f a b z ys e h k = second_rising b.floor back f (rest b z) ys e refl (k.rising z)

second_counts : (n : ℕ) (back : Option Chunk) (u : List Item) (m : ℕ) → weigh u ≤ m → weigh (second_unread n (rest_items back) u) ≤ m + weight_any back
second_counts zero back u m h = let k = weigh_back back in let e = weigh_append u (rest_items back) in omega (arith, h, k, e)
second_counts (suc n) back u m h = omega (arith, h)

sequence_counts : (side : Side) (back : Option Chunk) (a b : Part) → IsSound a → IsSound b → weigh (sequence_unread side (rest_items back) a b) ≤ a.held + b.held + weight_any back
sequence_counts Upper back a b h k = let x = h.counts in omega (arith, x)
sequence_counts Lower back a b h k = let x = second_counts b.floor back b.unread b.held k.counts in omega (arith, x)

pub follow_sound : (c : Follow) (a b : Part) → IsSound a → IsSound b → IsSound (whole_follow c a b)
follow_sound c a b h k = record {
  local = λ s x w z. ap (λ q. q.run) (sequence_local c.side (rest_items c.back) (floor_of c.told) a b s w z h k (left_false (a.sites s) (b.sites s) x) (right_false (a.sites s) (b.sites s) x));
  counts = sequence_counts c.side c.back a b h k;
  rising = λ z ys e. sequence_rising c.side (rest_items c.back) (floor_of c.told) a b z ys e h k;
  graded = refl;
  own = λ s d x. own_either (a.tickets s d) (b.tickets s d) (a.sites s) (b.sites s) (h.own s d) (k.own s d) x;
}
