-- What a feed leaves of a sealed source.
use Rattle.std.proofs.Common.{◌≡◌, ℕ, zero, suc, ◌+◌, ◌≤◌, List, [], ◌∷◌, ◌++◌, length, take, drop, refl, ap, sym, ◌∙◌, arith, append_assoc}
use Rattle.std.proofs.lemmas.List.{append-nil, drop-append-le}
use Rattle.std.proofs.Math.Seq.{drop-append_seam}
use Rattle.cd_meaning.specs.Stream.{Item, Out, Do, Effect}
use Rattle.cd_meaning.specs.Run.{Stamp, stamp, start, Run, Then, outs, outs_at}
use Rattle.cd_meaning.specs.Fusion.{after}
use Rattle.cd_meaning.specs.Seals.{resealed}
use Rattle.cd_meaning.specs.Rest.{past_by, source_left}
use Rattle.cd_meaning.proofs.Restamp.{one_less, lowered_1}
use Rattle.cd_meaning.proofs.Moves.Sequences.{drop_past}

-- at the start nothing is unread: this is the definition
pub left_start : (a : Run) (t : Stamp) → source_left [] a t ≡ resealed a t
left_start a t = ap (λ l. outs_at start (drop t.net l) (after t.need a)) (nil-append (take t.need (outs a))) where
  nil-append : (l : List Item) → [] ++ l ≡ l
  nil-append l = refl

-- the sink reads some of its unread values
pub left_reads : (read u : List Item) (a : Run) (t : Stamp) → source_left (read ++ u) a (past_by (length read) t) ≡ source_left u a t
left_reads read u a t = ap (λ l. outs_at start l (after t.need a)) (drop_past read u (take t.need (outs a)) t.net)

-- the source emits a value, and the sink takes it in. The sink has taken no more than it was given.
pub left_out : (u : List Item) (x : Item) (a : Run) (t : Stamp) → t.net ≤ length u + t.need → source_left u (Then start (Out x) a) t ≡ source_left (u ++ x ∷ []) a (lowered_1 t)
left_out u x a t h = by_need u x a t.need t.net h where
  outs_join : (xs : List Item) (x : Item) (r : Run) → outs_at start xs (Then start (Out x) r) ≡ outs_at start (xs ++ x ∷ []) r
  outs_join [] x r = refl
  outs_join (y ∷ xs) x r = ap (Then start (Out y)) (outs_join xs x r)

  by_need : (u : List Item) (x : Item) (a : Run) (j k : ℕ) → k ≤ length u + j → source_left u (Then start (Out x) a) (stamp j k) ≡ source_left (u ++ x ∷ []) a (stamp (one_less j) k)
  by_need u x a zero k h =
      ap (λ l. outs_at start (drop k l) (Then start (Out x) a)) (append-nil u)
      ∙ outs_join (drop k u) x a
      ∙ ap (λ l. outs_at start l a) (sym (drop-append-le k u (x ∷ []) (omega arith)))
      ∙ ap (λ l. outs_at start (drop k l) a) (sym (append-nil (u ++ x ∷ [])))
  by_need u x a (suc j) k h = ap (λ l. outs_at start (drop k l) (after j a)) (sym (append_assoc u (x ∷ []) (take j (outs a))))

-- the source has an effect, and the sink waits
pub left_does : (u : List Item) (s : Stamp) (e : Effect) (a : Run) (t : Stamp) → 1 ≤ t.need → source_left u (Then s (Do e) a) t ≡ source_left u a t
left_does u s e a t h = by_need u s e a t.need t.net h where
  by_need : (u : List Item) (s : Stamp) (e : Effect) (a : Run) (j k : ℕ) → 1 ≤ j → source_left u (Then s (Do e) a) (stamp j k) ≡ source_left u a (stamp j k)
  by_need u s e a zero k h = absurd (omega arith)
  by_need u s e a (suc j) k h = refl

-- the sink has ended: what it gave back stands in front of the source
pub left_end : (read rest : List Item) (a : Run) → source_left (read ++ rest) a (stamp 0 (length read)) ≡ outs_at start rest a
left_end read rest a = ap (λ l. outs_at start l a) (ap (drop (length read)) (append-nil (read ++ rest)) ∙ drop-append_seam read rest)
