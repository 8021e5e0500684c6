-- What a stage does is the next step of its part.
use Rattle.std.proofs.Common.{◌≡◌, ℕ, zero, suc, ◌+◌, ◌≤◌, ◌<◌, Bool, true, false, List, [], ◌∷◌, ◌++◌, length, map, take, drop, refl, ap, sym, ◌∙◌, subst, Option, Some, None, IsTrue, arith}
use Rattle.std.proofs.lemmas.List.{length-take-le}
use Rattle.std.proofs.Math.ListN.{drop_of_length-le}
use Rattle.std.proofs.Math.Seq.{take-length}
use Rattle.cd_elem.specs.Limits.{chunk_limit}
use Rattle.cd_elem.specs.Chunks.{is_cut, HasSize}
use Rattle.cd_elem.specs.declared.value.Value.{Value as Result}
use Rattle.cd_elem.specs.declared.word.ByteMap.{ByteMap}
use Rattle.cd_elem.specs.declared.word.Class.{Class}
use Rattle.cd_meaning.specs.Stream.{Sort, Item, Elem, Act, Out}
use Rattle.cd_meaning.specs.Rest.{Finishes}
use Rattle.cd_meaning.specs.Values.{value_meaning}
use Rattle.cd_step.specs.declared.protocol.Input.{Input}
use Rattle.cd_step.specs.declared.protocol.Input.TheVariants.{Start, Chunk as Given, End as TheEnd, Next}
use Rattle.cd_step.specs.declared.protocol.Move.{Move}
use Rattle.cd_step.specs.declared.protocol.Move.TheVariants.{Emit, Need, Done, Fault as Faulted}
use Rattle.cd_step.specs.declared.protocol.Stand.{Stand}
use Rattle.cd_step.specs.declared.protocol.Stand.TheVariants.{Fresh, Wait, Gave, Over}
use Rattle.cd_step.specs.Parts.{Chunk, Part, part_at, items, items_at, rest_items, weight, weight_at, weight_any, chunk_at, sort_at, of_pieces, outs_of, AnswersAt, IsChunk, IsOf, IsGiven, Goes, Kept, IsHeld, IsSound, Stepped, fed}
use Rattle.cd_step.specs.Parts as part
use Rattle.cd_step.specs.Flows.{Retires}
use Rattle.cd_step.specs.Reading.{scan_rest, part_of, IsRead, IsSilent}
use Rattle.cd_step.specs.CutChunks.{elems, kind_of, IsChunkOf}
use Rattle.cd_step.proofs.CutChunks.{cut_items, cut_is, cut_rest, cut_given, given_weight, elems_split, size_of}
use Rattle.cd_step.proofs.Outs.{stand_wait}
use Rattle.cd_step.proofs.Weighing.{weigh_back}
use Rattle.cd_step.proofs.Reading.{goes_counted, kept_fed, need_law, emit_law, done_finishes, close_finishes, done_ready, floor_told, chunk_law, end_law, retire_law, scan_sound}
use Rattle.cd_elemwise.specs.declared.state.WordState.{WordState}
use Rattle.cd_elemwise.specs.declared.state.WordState.TheVariants as state
use Rattle.cd_elemwise.specs.declared.stage.ElemStage.{ElemStage}
use Rattle.cd_elemwise.specs.declared.plan.ChunkPlan.TheVariants as plan
use Rattle.cd_elemwise.specs.Carried.{Carried, Doing, Emits, gathered, gives_of, state_ready, state_value, word_scan}
use Rattle.cd_elemwise.specs.Plans.{IsPlan}
use Rattle.cd_elemwise.specs.Stages.{grade_of, carries, may_carry, IsPlain, carried, held_of, seen_stage, seen_from, with_chunk, StandFits, KeepsBounds, stage_fits, IsSameStage, Went, asks_of, IsFinal}
use Rattle.cd_elemwise.proofs.WordReads.{outs}

cut_pieces : (k : Sort) → IsTrue (is_cut k) → (grade_of k).pieces ≡ false
cut_pieces Sort.Bytes h = refl
cut_pieces Sort.Chars h = refl
cut_pieces Sort.Block h = cc
cut_pieces Sort.Text h = cc

-- ---- what it holds

pub carries_one : (s : WordState) → carries s ≤ 1
carries_one (state.Last None) = omega arith
carries_one (state.Last (Some single)) = omega arith
carries_one _ = omega arith

carries_most : (s : WordState) → carries s ≤ may_carry s
carries_most (state.Last None) = omega arith
carries_most (state.Last (Some single)) = omega arith
carries_most (state.Collect n) = omega arith
carries_most _ = omega arith

pub within_held : (e : ElemStage) → KeepsBounds e → IsHeld (seen_stage e)
within_held e h = let c = carries_most e.state in let w = given_weight e.sort e.keep h.1 in let h0 = h.0 in omega (arith, c, w, h0)

-- ---- what no step changes

pub same_kept : (e f : ElemStage) → IsSameStage e f → Kept (seen_stage e) (seen_stage f)
same_kept e f h = (ap grade_of h.0, refl, h.2, ap (λ k. Some (kind_of k)) h.0, rw (h.0, h.1) refl, λ s d t. t)

-- ---- with a chunk

-- the chunk is read, and then it asks
pub need_stage : (e : ElemStage) (s : Carried) (c : Chunk) → IsTrue (is_cut e.sort) → e.told ≡ false → e.keep ≡ None → c.0 ≡ e.sort → IsPlan e.sort s c.1 plan.Need (carried e) → Goes Need (seen_from s c e) (seen_stage (record e { stand = Wait }))
need_stage e s c h t k i p =
    rw (t, k) (need_law (word_scan e.sort) (part_at e.stand) (grade_of e.sort) (gives_of e.state e.sort) (Some (kind_of e.sort)) _ _ _ (items c) s (carried e) (subst (λ u. IsSilent (word_scan e.sort) s u (carried e)) (sym (cut_items e.sort c h i)) p.0) p.1 tt)

-- some of the chunk is read, and d is given for it
pub emit_stage : (e : ElemStage) (s : Carried) (c d : Chunk) (count : ℕ) (r : Option Chunk) → IsTrue (is_cut e.sort) → e.told ≡ false → c.0 ≡ e.sort → d.0 ≡ e.sort → 0 < length d.1 → length d.1 ≤ chunk_limit
    → Emits e.sort (carried e) → IsRead (word_scan e.sort) s (elems (take count c.1)) (outs d.1) (carried e) → rest_items r ≡ elems (drop count c.1)
    → Goes (Emit d) (seen_from s c e) (seen_stage (record e { stand = Gave; keep = r }))
emit_stage e s c d count r h t i j f m g p b =
    let w = word_scan e.sort in
    let gives = gives_of e.state e.sort in
    let takes = Some (kind_of e.sort) in
    let room = e.most + chunk_at (kind_of e.sort) in
    let n = held_of (with_chunk c e) in
    let k = held_of (record e { stand = Gave; keep = r }) in
    subst (λ x. Goes (Emit d) (seen_from s c e) (part_of part.Gave (grade_of e.sort) gives takes room k (scan_rest w x (carried e) (rest_items r)))) (sym t)
    (subst (λ y. Goes (Emit d) (seen_from s c e) (part_of part.Gave (grade_of e.sort) gives takes room k (scan_rest w false (carried e) y))) (sym b)
    (subst (λ y. Goes (Emit d) (part_of (part_at e.stand) (grade_of e.sort) gives takes room n (scan_rest w false s y)) (part_of part.Gave (grade_of e.sort) gives takes room k (scan_rest w false (carried e) (elems (drop count c.1))))) (elems_split count c.1 ∙ sym (cut_items e.sort c h i))
    (emit_law w (part_at e.stand) (grade_of e.sort) gives takes room n k d (elems (take count c.1)) (elems (drop count c.1)) s (carried e) (cut_pieces e.sort h)
    (subst (λ x. IsOf x d) (sym g) (cut_is e.sort d h j f m)) (subst (λ a. IsRead w s (elems (take count c.1)) a (carried e)) (ap (map Out) (sym (cut_items e.sort d h j))) p))))

-- the whole chunk passes on
pub pass_whole : (e : ElemStage) (s : Carried) (c : Chunk) (count len : ℕ) → IsTrue (is_cut e.sort) → e.told ≡ false → e.keep ≡ None → c.0 ≡ e.sort → len ≡ length c.1 → HasSize c.0 len → count ≡ len
    → IsPlan e.sort s c.1 (plan.Pass count) (carried e) → Goes (Emit c) (seen_from s c e) (seen_stage (record e { stand = Gave }))
pass_whole e s c count len h t k i l z m p =
    let y = size_of e.sort c len h i l z in
    let n : count ≡ length c.1 = m ∙ l in
    emit_stage e s c c count e.keep h t i i y.0 y.1 p.0
    (subst (λ x. IsRead (word_scan e.sort) s (elems (take count c.1)) (outs x) (carried e)) (ap (λ j. take j c.1) n ∙ take-length c.1) p.3)
    (ap rest_items k ∙ ap elems (sym (drop_of_length-le c.1 (let q : length c.1 ≤ count = omega (arith, n) in q))))

-- the front of the chunk passes on, and the rest stays
pub pass_front : (e : ElemStage) (s : Carried) (c d r : Chunk) (count len : ℕ) → IsTrue (is_cut e.sort) → e.told ≡ false → c.0 ≡ e.sort → len ≡ length c.1 → HasSize c.0 len → d ≡ (c.0, take count c.1) → r ≡ (c.0, drop count c.1)
    → IsPlan e.sort s c.1 (plan.Pass count) (carried e) → Goes (Emit d) (seen_from s c e) (seen_stage (record e { stand = Gave; keep = Some r }))
pass_front e s c d r count len h t i l z m o p =
    let y = size_of e.sort c len h i l z in
    let d1 = ap (λ x. x.1) m in
    let n = ap length d1 ∙ length-take-le count c.1 p.2 in
    let p1 = p.1 in
    let p2 = p.2 in
    let y1 = y.1 in
    emit_stage e s c d count (Some r) h t i (ap (λ x. x.0) m ∙ i) (omega (arith, n, p1)) (omega (arith, n, p2, y1)) p.0
    (subst (λ x. IsRead (word_scan e.sort) s (elems (take count c.1)) (outs x) (carried e)) (sym d1) p.3)
    (cut_items e.sort r h (ap (λ x. x.0) o ∙ i) ∙ ap (λ x. elems x.1) o)

-- what was made is given
pub give_stage : (e : ElemStage) (s : Carried) (c d : Chunk) (count : ℕ) (r : Option Chunk) → IsTrue (is_cut e.sort) → e.told ≡ false → c.0 ≡ e.sort → IsChunkOf c.0 (drop count c.1) r
    → IsPlan e.sort s c.1 (plan.Give d count) (carried e) → Goes (Emit d) (seen_from s c e) (seen_stage (record e { stand = Gave; keep = r }))
give_stage e s c d count r h t i b p = emit_stage e s c d count r h t i p.3 p.4 p.5 p.0 p.6 (cut_rest e.sort (drop count c.1) r h (subst (λ k. IsChunkOf k (drop count c.1) r) i b))

-- some of the chunk is read, and it ends
pub done_stage : (e : ElemStage) (s : Carried) (c : Chunk) (count : ℕ) (v : Result) (r : Option Chunk) → IsTrue (is_cut e.sort) → e.told ≡ false → e.keep ≡ None → KeepsBounds e → c.0 ≡ e.sort
    → IsPlan e.sort s c.1 (plan.End v count) (carried e) → IsChunkOf e.sort (drop count c.1) r → Goes (Done v r) (seen_from s c e) (seen_stage (record e { stand = Over }))
done_stage e s c count v r h t k i j p b = record {
  is_at = refl;
  floor = rw t refl;
  given = cut_given e.sort (drop count c.1) r h b;
  left = (
      let a = carries_most e.state in
      let g = given_weight e.sort r (cut_given e.sort (drop count c.1) r h b) in
      let i0 = i.0 in
      let z = ap weight_any k in
      omega (arith, a, g, i0, z)
      );
  finishes = λ z.
      subst (λ l. Finishes (grade_of e.sort) (value_meaning v) (rest_items r) (scan_rest (word_scan e.sort) false s l)) (elems_split count c.1 ∙ sym (cut_items e.sort c h j))
      (subst (λ l. Finishes (grade_of e.sort) (value_meaning v) l (scan_rest (word_scan e.sort) false s (elems (take count c.1) ++ elems (drop count c.1)))) (sym (cut_rest e.sort (drop count c.1) r h b))
      (done_finishes (word_scan e.sort) (grade_of e.sort) (value_meaning v) (elems (take count c.1)) (elems (drop count c.1)) s p.1));
}

pub plain_state : (s : WordState) → ((c : Class) → s ≡ state.Filter c → ⊥) → ((by : ByteMap) → s ≡ state.Map by → ⊥) → ((n : ℕ) → s ≡ state.Collect n → ⊥) → (s ≡ state.SinkNull → ⊥) → IsPlain s
plain_state (state.Filter c) e f g h = absurd (e c refl)
plain_state (state.Map by) e f g h = absurd (f by refl)
plain_state (state.Collect n) e f g h = absurd (g n refl)
plain_state state.SinkNull e f g h = absurd (h refl)
plain_state _ e f g h = tt

-- what it carries then is of the same word
pub read_from : (e : ElemStage) (st : WordState) (l : _) (c : Chunk) (m : Move) (f : ElemStage) → e.told ≡ false → gives_of st e.sort ≡ gives_of e.state e.sort
    → Goes m (seen_from (carried e) c (record e { state = st; list = l })) (seen_stage f) → Went (with_chunk c e) m f
read_from e st l c m f t g h =
    let w = word_scan e.sort in
    let takes = Some (kind_of e.sort) in
    let room = e.most + chunk_at (kind_of e.sort) in
    let n = held_of (with_chunk c e) in
    subst (λ b. Goes m (part_of (part_at e.stand) (grade_of e.sort) (gives_of e.state e.sort) takes room n (scan_rest w b (carried e) (items c))) (seen_stage f)) (sym t)
    (goes_counted m (part_at e.stand) (grade_of e.sort) (gives_of e.state e.sort) takes room _ n (scan_rest w false (carried e) (items c)) (seen_stage f)
    (subst (λ x. Goes m (part_of (part_at e.stand) (grade_of e.sort) x takes room (held_of (with_chunk c (record e { state = st; list = l }))) (scan_rest w false (carried e) (items c))) (seen_stage f)) g h))

-- the chunk that was read passes on whole
pub whole_stage : (e : ElemStage) (st : WordState) (c : Chunk) (len : ℕ) → IsTrue (is_cut e.sort) → e.told ≡ false → e.keep ≡ None → c.0 ≡ e.sort → len ≡ length c.1 → HasSize c.0 len → gives_of st e.sort ≡ gives_of e.state e.sort
    → IsPlan e.sort (carried e) c.1 (plan.Pass len) (Doing st (gathered e.list)) → Went (with_chunk c e) (Emit c) (record e { stand = Gave; state = st })
whole_stage e st c len h t k i l z g p = read_from e st e.list c (Emit c) (record e { stand = Gave; state = st }) t g (pass_whole (record e { state = st }) (carried e) c len len h t k i l z refl p)

-- what was made of the whole chunk is given
pub made_stage : (e : ElemStage) (st : WordState) (c d : Chunk) (len : ℕ) → IsTrue (is_cut e.sort) → e.told ≡ false → e.keep ≡ None → c.0 ≡ e.sort → len ≡ length c.1 → e.state ≡ st
    → IsPlan e.sort (Doing st (gathered e.list)) c.1 (plan.Give d len) (Doing st (gathered e.list)) → Went (with_chunk c e) (Emit d) (record e { stand = Gave; state = st })
made_stage e st c d len h t k i l q p =
    subst (λ s. Went (with_chunk c e) (Emit d) (record e { stand = Gave; state = s })) q
    (read_from e e.state e.list c (Emit d) (record e { stand = Gave }) t refl
    (give_stage e (carried e) c d len e.keep h t i (subst (IsChunkOf c.0 (drop len c.1)) (sym k) (drop_of_length-le c.1 (omega (arith, l))))
    (subst (λ s. IsPlan e.sort (Doing s (gathered e.list)) c.1 (plan.Give d len) (Doing s (gathered e.list))) (sym q) p)))

-- nothing was made of the chunk
pub none_stage : (e : ElemStage) (st : WordState) (c : Chunk) → IsTrue (is_cut e.sort) → e.told ≡ false → e.keep ≡ None → c.0 ≡ e.sort → e.state ≡ st
    → IsPlan e.sort (Doing st (gathered e.list)) c.1 plan.Need (Doing st (gathered e.list)) → Went (with_chunk c e) Need (record e { stand = Wait; state = st })
none_stage e st c h t k i q p =
    subst (λ s. Went (with_chunk c e) Need (record e { stand = Wait; state = s })) q
    (read_from e e.state e.list c Need (record e { stand = Wait }) t refl
    (need_stage e (carried e) c h t k i (subst (λ s. IsPlan e.sort (Doing s (gathered e.list)) c.1 plan.Need (Doing s (gathered e.list))) (sym q) p)))

one_silent : (k : Sort) (c : Chunk) (l : List ℕ) → IsSilent (word_scan k) (Doing state.SinkNull l) (items c) (Doing state.SinkNull l)
one_silent k c l = all_silent (items c) where
  all_silent : (xs : List Item) → IsSilent (word_scan k) (Doing state.SinkNull l) xs (Doing state.SinkNull l)
  all_silent [] = refl
  all_silent (x ∷ xs) = (Doing state.SinkNull l, refl, refl, all_silent xs)

pub sink_stage : (e : ElemStage) (c : Chunk) → e.told ≡ false → e.keep ≡ None → e.state ≡ state.SinkNull → Went (with_chunk c e) Need (record e { stand = Wait })
sink_stage e c t k h =
    rw (t, k, h) (need_law (word_scan e.sort) (part_at e.stand) (grade_of e.sort) None (Some (kind_of e.sort)) _ _ _ (items c) (Doing state.SinkNull (gathered e.list)) (Doing state.SinkNull (gathered e.list)) (one_silent e.sort c (gathered e.list)) refl tt)

-- ---- with nothing unread

pub asks_ready : (k : Sort) (s : WordState) (l : List ℕ) → asks_of s ≡ true → state_ready k s l ≡ None
asks_ready k (state.Take zero) l h = cc
asks_ready k (state.Take (suc n)) l h = refl
asks_ready k (state.Drop zero) l h = cc
asks_ready k (state.Drop (suc n)) l h = refl
asks_ready k (state.Collect zero) l h = cc
asks_ready k (state.Collect (suc n)) l h = refl
asks_ready k _ l h = refl

ready_value : (k : Sort) (s : WordState) (l : List ℕ) → asks_of s ≡ false → state_ready k s l ≡ Some (state_value k s l)
ready_value k (state.Take zero) l h = refl
ready_value k (state.Take (suc n)) l h = cc
ready_value k (state.Drop zero) l h = refl
ready_value k (state.Drop (suc n)) l h = cc
ready_value k (state.Collect zero) l h = refl
ready_value k (state.Collect (suc n)) l h = cc
ready_value k _ l h = cc

pub ask_stage : (e : ElemStage) → e.told ≡ false → e.keep ≡ None → asks_of e.state ≡ true → Went e Need (record e { stand = Wait })
ask_stage e t k h =
    rw (t, k) (need_law (word_scan e.sort) (part_at e.stand) (grade_of e.sort) (gives_of e.state e.sort) (Some (kind_of e.sort)) _ _ _ [] (carried e) (carried e) refl (asks_ready e.sort e.state (gathered e.list) h) tt)

pub final_stage : (e : ElemStage) (m : Move) (f : ElemStage) → e.told ≡ false → e.keep ≡ None → asks_of e.state ≡ false → IsFinal e m → f.stand ≡ Over → f.told ≡ e.told → IsSameStage e f → KeepsBounds f → Went e m f
final_stage e (Done v None) f t k h i o u s g = record {
  is_at = ap part_at o;
  floor = rw u (floor_told (word_scan f.sort) e.told (carried f) (carried f) [] (rest_items f.keep)) ∙ floor_same e.told;
  given = tt;
  left = (let w = within_held f g in omega (arith, w));
  finishes = λ z.
      rw (t, k) (done_finishes (word_scan e.sort) (grade_of e.sort) (value_meaning v) [] [] (carried e) (done_ready (word_scan e.sort) [] (carried e) (value_meaning v) (ready_value e.sort e.state (gathered e.list) h ∙ ap Some (sym i))));
} where
  floor_same : (b : Bool) → (scan_rest (word_scan f.sort) b (carried f) []).floor ≡ (scan_rest (word_scan e.sort) b (carried e) (rest_items e.keep)).floor
  floor_same true = refl
  floor_same false = refl
final_stage e (Done v (Some r)) f t k h i o u s g = absurd i
final_stage e (Emit d) f t k h i o u s g = absurd i
final_stage e Need f t k h i o u s g = absurd i
final_stage e (Faulted x) f t k h i o u s g = absurd i

-- ---- whole steps

pub told_not : (s : Stand) (told : Bool) (k : Sort) (st : WordState) (l : List ℕ) (keep : Option Chunk) (i : Input) → AnswersAt (part_at s) (Some (kind_of k)) i → StandFits s told k st l keep → told ≡ false
told_not Fresh told k st l keep i a f = f.0
told_not Wait told k st l keep i a f = f.0
told_not Gave told k st l keep i a f = f
told_not Over told k st l keep Start a f = cc
told_not Over told k st l keep (Given c) a f = (let x = a.0 in cc)
told_not Over told k st l keep TheEnd a f = cc
told_not Over told k st l keep Next a f = cc

waits : (e : ElemStage) → stage_fits e → part_at e.stand ≡ part.Wait → (e.told ≡ false) × (e.keep ≡ None) × (state_ready e.sort e.state (gathered e.list) ≡ None)
waits e f a = subst (λ s. StandFits s e.told e.sort e.state (gathered e.list) e.keep) (stand_wait e.stand a) f.0

pub go_step : (e : ElemStage) (i : Input) (m : Move) (f : ElemStage) → fed i (seen_stage e) ≡ seen_stage e → Went e m f → IsSameStage e f → Stepped (seen_stage e) i m (seen_stage f)
go_step e i m f h g s = record { goes = subst (λ p. Goes m p (seen_stage f)) (sym h) g; kept = kept_fed i (seen_stage e) (seen_stage f) (same_kept e f s) }

pub chunk_step : (e : ElemStage) (i : Input) (c : Chunk) (m : Move) (f : ElemStage) → i ≡ Given c → stage_fits e → AnswersAt (part_at e.stand) (Some (kind_of e.sort)) i → Went (with_chunk c e) m f → IsSameStage e f
    → Stepped (seen_stage e) i m (seen_stage f)
chunk_step e i c m f h g a w s =
    let a1 = subst (AnswersAt (part_at e.stand) (Some (kind_of e.sort))) h a in
    let y = waits e g a1.0 in
    subst (λ x. Stepped (seen_stage e) x m (seen_stage f)) (sym h) (by_parts a1.0 y.0 y.1 w (same_kept e f s)) where
      by_parts : part_at e.stand ≡ part.Wait → e.told ≡ false → e.keep ≡ None → Went (with_chunk c e) m f → Kept (seen_stage e) (seen_stage f) → Stepped (seen_stage e) (Given c) m (seen_stage f)
      by_parts o t k w p =
          let wd = word_scan e.sort in
          let gives = gives_of e.state e.sort in
          let takes = Some (kind_of e.sort) in
          let room = e.most + chunk_at (kind_of e.sort) in
          rw (o, t, k) (chunk_law wd (grade_of e.sort) gives takes room (carries e.state + length (gathered e.list) + 0) (held_of (with_chunk c e)) c (carried e) m (seen_stage f)
          (subst (λ x. Goes m (part_of x (grade_of e.sort) gives takes room (held_of (with_chunk c e)) (scan_rest wd false (carried e) (items c))) (seen_stage f)) o
          (subst (λ b. Goes m (part_of (part_at e.stand) (grade_of e.sort) gives takes room (held_of (with_chunk c e)) (scan_rest wd b (carried e) (items c))) (seen_stage f)) t w)) p)

pub end_step : (e : ElemStage) (i : Input) (m : Move) (f : ElemStage) → i ≡ TheEnd → stage_fits e → AnswersAt (part_at e.stand) (Some (kind_of e.sort)) i → IsFinal (record e { told = true }) m → f.stand ≡ Over → f.told ≡ true → IsSameStage e f → KeepsBounds f
    → Stepped (seen_stage e) i m (seen_stage f)
end_step e i (Done v None) f h g a n o u s b =
    let a1 = subst (AnswersAt (part_at e.stand) (Some (kind_of e.sort))) h a in
    let y = waits e g a1 in
    subst (λ x. Stepped (seen_stage e) x (Done v None) (seen_stage f)) (sym h) (by_parts a1 y.0 y.1 y.2 (same_kept e f s)) where
      by_parts : part_at e.stand ≡ part.Wait → e.told ≡ false → e.keep ≡ None → state_ready e.sort e.state (gathered e.list) ≡ None → Kept (seen_stage e) (seen_stage f) → Stepped (seen_stage e) TheEnd (Done v None) (seen_stage f)
      by_parts p t k r q =
          let wd = word_scan e.sort in
          rw (p, t, k) (end_law wd (grade_of e.sort) (gives_of e.state e.sort) (Some (kind_of e.sort)) (e.most + chunk_at (kind_of e.sort)) (carries e.state + length (gathered e.list) + 0) 0 (carried e) (Done v None) (seen_stage f) r
          (record {
            is_at = ap part_at o;
            floor = rw u refl;
            given = tt;
            left = (let w = within_held f b in omega (arith, w));
            finishes = λ z. close_finishes wd (grade_of e.sort) (value_meaning v) (carried e) [] refl (ap Rattle.cd_meaning.specs.Stream.Done (sym n));
          }) q)
end_step e i (Done v (Some r)) f h g a n o u s b = absurd n
end_step e i (Emit d) f h g a n o u s b = absurd n
end_step e i Need f h g a n o u s b = absurd n
end_step e i (Faulted x) f h g a n o u s b = absurd n

-- ---- no step follows

pub retire_stage : (e : ElemStage) (r : Option Chunk) → stage_fits e → r ≡ e.keep → Retires (seen_stage e) r (seen_stage (record e { stand = Over; keep = None }))
retire_stage e r f h = rw h (
    retire_law (word_scan e.sort) (part_at e.stand) part.Over (grade_of e.sort) (gives_of e.state e.sort) (Some (kind_of e.sort)) (e.most + chunk_at (kind_of e.sort)) (held_of e) (carries e.state + length (gathered e.list) + 0) e.told (carried e) (carried e) e.keep []
    (λ n. not_told e.stand n f.0) (omega arith) (λ n. f.2.1)) where
      not_told : (s : Stand) → (part_at s ≡ part.Over → ⊥) → StandFits s e.told e.sort e.state (gathered e.list) e.keep → e.told ≡ false
      not_told Fresh n f = f.0
      not_told Wait n f = f.0
      not_told Gave n f = f
      not_told Over n f = absurd (n refl)

-- ---- facts of every stage

pub stage_sound : (e : ElemStage) → IsSound (seen_stage e)
stage_sound e = scan_sound (word_scan e.sort) (part_at e.stand) (grade_of e.sort) (gives_of e.state e.sort) (Some (kind_of e.sort)) (e.most + chunk_at (kind_of e.sort)) (held_of e) e.told (carried e) (rest_items e.keep) refl refl (let h = weigh_back e.keep in omega (arith, h))
