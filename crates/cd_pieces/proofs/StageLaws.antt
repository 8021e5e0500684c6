-- What a stage does is the next step of its part.
use Rattle.std.proofs.Common.{◌≡◌, ℕ, zero, suc, ◌+◌, ◌*◌, ◌^◌, ◌≤◌, ◌<◌, max, Bool, true, false, List, [], ◌∷◌, length, map, refl, ap, sym, ◌∙◌, subst, Option, Some, None, inl, Result as Refusable, Ok, Err, OnErr, arith}
use Rattle.cd_elem.specs.Chunks.{is_cut}
use Rattle.cd_elem.specs.declared.kind.Kind.{Kind}
use Rattle.cd_elem.specs.declared.kind.Kind.TheVariants.{Bytes, Chars, Blocks, Texts}
use Rattle.cd_elem.specs.declared.value.Value.{Value as Result}
use Rattle.cd_meaning.specs.Stream.{Sort, Item, Piece, Act, Out, Value}
use Rattle.cd_meaning.specs.Run.{stamp}
use Rattle.cd_meaning.specs.Rest.{Grade, Moves, Finishes}
use Rattle.cd_meaning.specs.Scan.{Go}
use Rattle.cd_meaning.specs.Values.{value_meaning}
use Rattle.cd_meaning.proofs.Rising.{le_self}
use Rattle.cd_meaning.proofs.Moves.Scans.{scan_reads}
use Rattle.cd_meaning.proofs.Runs.Scans.{acts_rising}
use Rattle.cd_step.specs.declared.protocol.Input.{Input}
use Rattle.cd_step.specs.declared.protocol.Input.TheVariants.{Start, Chunk as Given, End as TheEnd, Next}
use Rattle.cd_step.specs.declared.protocol.Move.{Move}
use Rattle.cd_step.specs.declared.protocol.Move.TheVariants.{Emit, Need, Done, Fault as Faulted}
use Rattle.cd_step.specs.declared.protocol.Stand.{Stand}
use Rattle.cd_step.specs.declared.protocol.Stand.TheVariants.{Fresh, Wait, Gave, Over}
use Rattle.cd_step.specs.Parts.{Chunk, Part, part_at, items, weight, weight_any, chunk_at, sort_at, pieces_at, bound_at, outs_of, AnswersAt, IsChunk, IsOf, IsGiven, Goes, Kept, IsHeld, IsSound, Stepped, fed}
use Rattle.cd_step.specs.Parts as part
use Rattle.cd_step.specs.Reading.{scan_rest, part_of}
use Rattle.cd_step.proofs.Moving.{goes_after}
use Rattle.cd_step.proofs.Outs.{stand_wait}
use Rattle.cd_step.proofs.PieceChunks.{piece_items, piece_room, piece_within, chunk_piece}
use Rattle.cd_step.proofs.Reading.{kept_fed, need_law, done_finishes, close_finishes, done_ready, done_back, floor_told, chunk_law, end_law, scan_sound}
use Rattle.cd_pieces.specs.declared.due.Due.{Due}
use Rattle.cd_pieces.specs.declared.reply.PieceReply.TheVariants as reply
use Rattle.cd_pieces.specs.declared.stage.PieceStage.{PieceStage}
use Rattle.cd_pieces.specs.declared.state.WordState.{WordState}
use Rattle.cd_pieces.specs.declared.state.WordState.TheVariants as state
use Rattle.cd_pieces.specs.declared.state.Sifting.{Sifting}
use Rattle.cd_pieces.specs.declared.state.Sifting.TheVariants as sift
use Rattle.cd_pieces.specs.declared.state.Making.{Making}
use Rattle.cd_pieces.specs.declared.state.Making.TheVariants as make
use Rattle.cd_pieces.specs.declared.state.Keeping.{Keeping}
use Rattle.cd_pieces.specs.declared.state.Keeping.TheVariants as keep
use Rattle.cd_pieces.specs.Spelling.{spelled, longer_by, IsSpelledFor, ChangeFits}
use Rattle.cd_pieces.specs.Values.{piece_of, listed}
use Rattle.cd_pieces.specs.Carried.{Doing, Answered, widened, gives_of, sift_gives, make_gives, state_ready, state_value, carried_step, word_scan}
use Rattle.cd_pieces.specs.Stages.{due_acts, due_weight, DueFits, ahead, carries, may_carry, keep_carries, keep_most, KeepFits, SiftFits, MakeFits, StateFits, ReadsMade, ReadsPiece, asks_of, grade_of, held_of, seen_stage, IsWell, StandFits, stage_fits, IsSameStage, seen_from, IsAnswered, with_due, Went, IsFinal}
use Rattle.cd_pieces.proofs.Ahead.{moves_ahead, ahead_moves}

-- ---- what it holds

given_weight : (k : Kind) (o : Option Chunk) → KeepFits k (keep.Last o) → pieces_at k ≡ true → weight_any o ≤ bound_at k + 1
given_weight k None h p = omega arith
given_weight k (Some c) h p = let r = piece_room k p in let h2 = h.2 in omega (arith, r, h2)

keep_within : (k : Kind) (w : Keeping) → pieces_at k ≡ true → KeepFits k w → keep_carries w ≤ keep_most k w
keep_within k (keep.Last o) p h = given_weight k o h p
keep_within k (keep.Collect c) p h = more (listed c.1) (c.0 * (bound_at k + 1)) where
  more : (n m : ℕ) → n ≤ m + n
  more n m = omega arith

carries_within : (k : Kind) (s : WordState) → pieces_at k ≡ true → StateFits k s → carries s ≤ may_carry k s
carries_within k (state.Keep w) p h = keep_within k w p h
carries_within k _ p h = omega arith

due_within : (k : Kind) (j : Option Kind) (d : Option Due) → DueFits k j d → due_weight d ≤ chunk_at k
due_within k j None h = omega arith
due_within k j (Some d) h = h.1.2

pub well_held : (e : PieceStage) → IsWell e → IsHeld (seen_stage e)
well_held e h =
    let c = carries_within e.takes e.state h.pieces h.state in
    let d = due_within e.takes (gives_of e.state e.takes) e.due h.due in
    let w = h.within in
    omega (arith, c, d, w)

-- ---- what no step changes

pub same_kept : (e f : PieceStage) → IsSameStage e f → Kept (seen_stage e) (seen_stage f)
same_kept e f h = (ap grade_of h.0, refl, h.2, ap (λ k. Some k) h.0, rw (h.0, h.1) refl, λ s d t. t)

-- ---- with a piece

asks_ready : (s : WordState) → asks_of s ≡ true → state_ready s ≡ None
asks_ready (state.Sift (sift.Take zero)) h = cc
asks_ready (state.Sift (sift.Take (suc n))) h = refl
asks_ready (state.Sift (sift.Drop zero)) h = cc
asks_ready (state.Sift (sift.Drop (suc n))) h = refl
asks_ready (state.Sift _) h = refl
asks_ready (state.Answer w) h = refl
asks_ready (state.Keep (keep.Last o)) h = refl
asks_ready (state.Keep (keep.Collect c)) h = by_left c.0 c.1 h where
  by_left : (n : ℕ) (vs : List Result) → asks_of (state.Keep (keep.Collect (n, vs))) ≡ true → state_ready (state.Keep (keep.Collect (n, vs))) ≡ None
  by_left zero vs h = cc
  by_left (suc n) vs h = refl
asks_ready (state.Make w) h = refl

ready_value : (s : WordState) → asks_of s ≡ false → state_ready s ≡ Some (state_value s)
ready_value (state.Sift (sift.Take zero)) h = refl
ready_value (state.Sift (sift.Take (suc n))) h = cc
ready_value (state.Sift (sift.Drop zero)) h = refl
ready_value (state.Sift (sift.Drop (suc n))) h = cc
ready_value (state.Sift _) h = cc
ready_value (state.Answer w) h = cc
ready_value (state.Keep (keep.Last o)) h = cc
ready_value (state.Keep (keep.Collect c)) h = by_left c.0 c.1 h where
  by_left : (n : ℕ) (vs : List Result) → asks_of (state.Keep (keep.Collect (n, vs))) ≡ false → state_ready (state.Keep (keep.Collect (n, vs))) ≡ Some (state_value (state.Keep (keep.Collect (n, vs))))
  by_left zero vs h = refl
  by_left (suc n) vs h = cc
ready_value (state.Make w) h = cc

-- the piece is read with these acts, and the first of them is done
reads_piece : (k : Kind) (g : Grade) (s t : WordState) (c : Chunk) (acts : List Act) → asks_of s ≡ true → carried_step (sort_at k) (Doing s) (piece_of c) ≡ Go acts (Doing t)
    → Moves g acts (scan_rest (word_scan (sort_at k)) false (Doing s) (piece_of c ∷ [])) (scan_rest (word_scan (sort_at k)) false (Doing t) [])
reads_piece k g s t c acts a h = scan_reads (word_scan (sort_at k)) g 0 (piece_of c) [] (Doing s) (Doing t) acts (asks_ready s a) h

-- the piece is read with no act
pub skip_stage : (e : PieceStage) (s : WordState) (c : Chunk) (m : Move) (f : PieceStage) → e.told ≡ false → e.due ≡ None → IsAnswered e s c reply.Skip → Went e m f → Goes m (seen_from s c e) (seen_stage f)
skip_stage e s c m f t d h g =
    goes_after m (seen_from s c e) (seen_stage e) (seen_stage f)
    (record {
      goes = λ z. rw (t, d) (reads_piece e.takes (grade_of e.takes) s e.state c [] h.asks h.reply);
      kept = (refl, refl, refl, refl, refl, λ x y k. k);
    }) g

piece_outs : (j : Option Kind) (d : Chunk) → is_cut d.0 ≡ false → outs_of d ≡ Out (piece_of d) ∷ []
piece_outs j d h = ap (map Out) (piece_items d h)

-- something is given for the piece
pub give_stage : (e : PieceStage) (s : WordState) (c d : Chunk) (due : Option Due) → e.told ≡ false → is_cut d.0 ≡ false → IsAnswered e s c (reply.Give d due) → Goes (Emit d) (seen_from s c e) (seen_stage (record e { stand = Gave; due = due }))
give_stage e s c d due t p h = (
  h.fits.0,
  record {
    is_at = refl;
    goes = λ z. rw t (subst (λ a. Moves (grade_of e.takes) a (scan_rest (word_scan (sort_at e.takes)) false (Doing s) (piece_of c ∷ [])) (ahead (due_acts due) (scan_rest (word_scan (sort_at e.takes)) false (Doing e.state) []))) (sym (piece_outs None d p))
        (moves_ahead (grade_of e.takes) (Out (piece_of d) ∷ []) (due_acts due) _ _ (reads_piece e.takes (grade_of e.takes) s e.state c (Out (piece_of d) ∷ due_acts due) h.asks h.reply)));
  },
)

-- the piece is read, and it ends
pub end_stage : (e : PieceStage) (s : WordState) (c : Chunk) (v : Result) → e.told ≡ false → e.due ≡ None → IsWell e → IsAnswered e s c (reply.End v) → Goes (Done v None) (seen_from s c e) (seen_stage (record e { stand = Over }))
end_stage e s c v t d i h = record {
  is_at = refl;
  floor = rw t refl;
  given = tt;
  left = (let w = well_held e i in omega (arith, w));
  finishes = λ z.
      done_finishes (word_scan (sort_at e.takes)) (grade_of e.takes) (value_meaning v) (piece_of c ∷ []) [] (Doing s)
      (record { last = Answered (value_meaning v); silent = (Answered (value_meaning v), asks_ready s h.asks, h.reply, refl); ends = inl refl });
}

-- it ends, and gives the piece back
pub back_stage : (e : PieceStage) (s : WordState) (c d : Chunk) (v : Result) → e.told ≡ false → e.due ≡ None → IsWell e → IsAnswered e s c (reply.Back v d) → Goes (Done v (Some d)) (seen_from s c e) (seen_stage (record e { stand = Over }))
back_stage e s c d v t u i h = record {
  is_at = refl;
  floor = rw t refl;
  given = subst (IsChunk e.takes) (sym h.fits) h.piece;
  left = (
      let a = carries_within e.takes e.state i.pieces i.state in
      let w = i.within in
      let p = h.piece.2 in
      let q = ap weight h.fits in
      let z = ap due_weight u in
      omega (arith, a, w, p, q, z)
      );
  finishes = λ z.
      subst (λ l. Finishes (grade_of e.takes) (value_meaning v) l (scan_rest (word_scan (sort_at e.takes)) false (Doing s) (piece_of c ∷ []))) (sym (ap items h.fits ∙ piece_items c (chunk_piece e.takes c i.pieces h.piece)))
      (done_finishes (word_scan (sort_at e.takes)) (grade_of e.takes) (value_meaning v) [] (piece_of c ∷ []) (Doing s)
      (done_back (word_scan (sort_at e.takes)) (piece_of c) [] (Doing s) (value_meaning v) (asks_ready s h.asks) h.reply));
}

-- ---- what a piece asks of the state

widened_pieces : (k : Kind) (n : ℕ) → pieces_at (widened k n) ≡ pieces_at k
widened_pieces Bytes n = refl
widened_pieces Chars n = refl
widened_pieces (Blocks m) n = refl
widened_pieces (Texts m) n = refl

widened_bound : (k : Kind) (n : ℕ) → pieces_at k ≡ true → bound_at (widened k n) ≡ n
widened_bound Bytes n h = cc
widened_bound Chars n h = cc
widened_bound (Blocks m) n h = refl
widened_bound (Texts m) n h = refl

make_pieces : (w : Making) (k : Kind) → pieces_at (make_gives w k) ≡ pieces_at k
make_pieces (make.Change c) k = widened_pieces k _
make_pieces (make.Repeat n) k = refl
make_pieces (make.Intersperse l first) k = widened_pieces k _

sift_piece : (w : Sifting) (k : Kind) (d : Chunk) → pieces_at k ≡ true → IsOf (sift_gives w k) d → is_cut d.0 ≡ false
sift_piece sift.Pass k d h i = chunk_piece k d h i
sift_piece (sift.Take n) k d h i = chunk_piece k d h i
sift_piece (sift.TakeWhile t) k d h i = chunk_piece k d h i
sift_piece (sift.Filter t) k d h i = chunk_piece k d h i
sift_piece _ k d h i = absurd i

-- what a word gives is a piece
pub given_piece : (s : WordState) (k : Kind) (d : Chunk) → pieces_at k ≡ true → IsOf (gives_of s k) d → is_cut d.0 ≡ false
given_piece (state.Sift w) k d h i = sift_piece w k d h i
given_piece (state.Answer w) k d h i = absurd i
given_piece (state.Keep w) k d h i = absurd i
given_piece (state.Make w) k d h i = chunk_piece (make_gives w k) d (make_pieces w k ∙ h) i

collect_reads : (k : Kind) (c : Chunk) (n : ℕ) (vs : List Result) (most : ℕ) → asks_of (state.Keep (keep.Collect (n, vs))) ≡ true → n * (bound_at k + 1) + listed vs ≤ most → most < 2 ^ 64 → weight c ≤ bound_at k + 1 → listed vs + weight c < 2 ^ 64
collect_reads k c zero vs most a w m l = cc
collect_reads k c (suc n) vs most a w m l = at_most n (bound_at k + 1) (listed vs) (weight c) most (2 ^ 64) w m l where
  at_most : (n b v w most limit : ℕ) → suc n * b + v ≤ most → most < limit → w ≤ b → v + w < limit
  at_most n b v w most limit h m l = (let e : suc n * b ≡ n * b + b = omega arith in omega (arith, e, h, m, l))

make_reads : (k : Kind) (c : Chunk) (w : Making) → pieces_at k ≡ true → IsChunk k c → MakeFits k w → ReadsMade c w
make_reads k c (make.Change m) p i f = (
  subst (λ s. ChangeFits s m) (sym i.1) f.0,
  (
      let e = widened_bound k (bound_at k + longer_by m) p in
      let l = piece_within k c p i in
      let f1 = f.1 in
      omega (arith, e, l, f1)
      ),
)
make_reads k c (make.Repeat n) p i f = tt
make_reads k c (make.Intersperse l first) p i f = (
  subst (λ s. IsSpelledFor s l) (sym i.1) f.0,
  (
      let e = widened_bound k (max (bound_at k) (length (spelled l))) p in
      let m = max_right (bound_at k) (length (spelled l)) in
      let f1 = f.1 in
      omega (arith, e, m, f1)
      ),
) where
  max_right : (n m : ℕ) → m ≤ max n m
  max_right n m = omega arith

pub state_reads : (k : Kind) (c : Chunk) (s : WordState) (most : ℕ) → pieces_at k ≡ true → IsChunk k c → StateFits k s → asks_of s ≡ true → may_carry k s ≤ most → most < 2 ^ 64 → ReadsPiece c s
state_reads k c (state.Sift w) most p i f a m l = subst (λ s. SiftFits s w) (sym i.1) f
state_reads k c (state.Answer w) most p i f a m l = tt
state_reads k c (state.Keep (keep.Last o)) most p i f a m l = tt
state_reads k c (state.Keep (keep.Collect v)) most p i f a m l = collect_reads k c v.0 v.1 most a m l (let r = piece_room k p in let i2 = i.2 in omega (arith, r, i2))
state_reads k c (state.Make w) most p i f a m l = make_reads k c w p i f

-- what holds anyway holds of a refusal
pub on_err : {A E : Type 0} (r : Refusable A E) (P : Type 0) → P → OnErr r P
on_err (Ok x) P h = tt
on_err (Err x) P h = h

-- ---- with no piece

-- it asks
pub ask_stage : (e : PieceStage) → e.told ≡ false → e.due ≡ None → asks_of e.state ≡ true → Went e Need (record e { stand = Wait })
ask_stage e t d h =
    rw (t, d) (need_law (word_scan (sort_at e.takes)) (part_at e.stand) (grade_of e.takes) (gives_of e.state e.takes) (Some e.takes) _ _ _ [] (Doing e.state) (Doing e.state) refl (asks_ready e.state h) tt)

-- it asks for nothing more, and ends
pub final_stage : (e : PieceStage) (m : Move) (f : PieceStage) → e.told ≡ false → e.due ≡ None → asks_of e.state ≡ false → IsFinal e.state m → f.stand ≡ Over → f.told ≡ e.told → IsWell f → Went e m f
final_stage e (Done v None) f t d h i o u g = record {
  is_at = ap part_at o;
  floor = rw u (floor_told (word_scan (sort_at f.takes)) e.told (Doing f.state) (Doing f.state) [] []) ∙ floor_same e.told;
  given = tt;
  left = (let w = well_held f g in omega (arith, w));
  finishes = λ z.
      rw (t, d) (done_finishes (word_scan (sort_at e.takes)) (grade_of e.takes) (value_meaning v) [] [] (Doing e.state) (done_ready (word_scan (sort_at e.takes)) [] (Doing e.state) (value_meaning v) (ready_value e.state h ∙ ap Some (sym i))));
} where
  floor_same : (b : Bool) → (scan_rest (word_scan (sort_at f.takes)) b (Doing f.state) []).floor ≡ (scan_rest (word_scan (sort_at e.takes)) b (Doing e.state) []).floor
  floor_same true = refl
  floor_same false = refl
final_stage e (Done v (Some r)) f t d h i o u g = absurd i
final_stage e (Emit c) f t d h i o u g = absurd i
final_stage e Need f t d h i o u g = absurd i
final_stage e (Faulted x) f t d h i o u g = absurd i

-- it gives what is due
pub due_stage : (e : PieceStage) (due : Due) (piece : Chunk) (rest : Option Due) → e.told ≡ false → is_cut due.piece.0 ≡ false → IsOf (gives_of e.state e.takes) due.piece → piece ≡ due.piece
    → Out (piece_of due.piece) ∷ due_acts rest ≡ due_acts (Some due) → Went (with_due due e) (Emit piece) (record e { stand = Gave; due = rest })
due_stage e due piece rest t p o h a =
    subst (λ c. Went (with_due due e) (Emit c) (record e { stand = Gave; due = rest })) (sym h) (
      o,
      record {
        is_at = refl;
        goes = λ z.
            let w = scan_rest (word_scan (sort_at e.takes)) e.told (Doing e.state) [] in
            subst (λ b. Moves (grade_of e.takes) b (ahead (due_acts (Some due)) w) (ahead (due_acts rest) w)) (sym (piece_outs None due.piece p))
            (subst (λ b. Moves (grade_of e.takes) (Out (piece_of due.piece) ∷ []) (ahead b w) (ahead (due_acts rest) w)) a (ahead_moves (grade_of e.takes) (Out (piece_of due.piece)) (due_acts rest) w));
      },
    )

-- ---- whole steps

pub told_not : (s : Stand) (told : Bool) (due : Option Due) (st : WordState) (k : Kind) (i : Input) → AnswersAt (part_at s) (Some k) i → StandFits s told due st → told ≡ false
told_not Fresh told due st k i a f = f.0
told_not Wait told due st k i a f = f.0
told_not Gave told due st k i a f = f
told_not Over told due st k Start a f = cc
told_not Over told due st k (Given c) a f = (let x = a.0 in cc)
told_not Over told due st k TheEnd a f = cc
told_not Over told due st k Next a f = cc

pub waits : (e : PieceStage) → stage_fits e → part_at e.stand ≡ part.Wait → (e.told ≡ false) × (e.due ≡ None) × (asks_of e.state ≡ true)
waits e f a = subst (λ s. StandFits s e.told e.due e.state) (stand_wait e.stand a) f.0

pub go_step : (e : PieceStage) (i : Input) (m : Move) (f : PieceStage) → fed i (seen_stage e) ≡ seen_stage e → Went e m f → IsSameStage e f → Stepped (seen_stage e) i m (seen_stage f)
go_step e i m f h g s = record { goes = subst (λ p. Goes m p (seen_stage f)) (sym h) g; kept = kept_fed i (seen_stage e) (seen_stage f) (same_kept e f s) }

pub piece_step : (e : PieceStage) (i : Input) (c : Chunk) (m : Move) (f : PieceStage) → i ≡ Given c → stage_fits e → AnswersAt (part_at e.stand) (Some e.takes) i → Goes m (seen_from e.state c e) (seen_stage f) → IsSameStage e f
    → Stepped (seen_stage e) i m (seen_stage f)
piece_step e i c m f h g a w s =
    let a1 = subst (AnswersAt (part_at e.stand) (Some e.takes)) h a in
    let y = waits e g a1.0 in
    let v = piece_items c (chunk_piece e.takes c g.1.pieces a1.1) in
    subst (λ x. Stepped (seen_stage e) x m (seen_stage f)) (sym h) (by_parts a1.0 y.0 y.1 v w (same_kept e f s)) where
      by_parts : part_at e.stand ≡ part.Wait → e.told ≡ false → e.due ≡ None → items c ≡ piece_of c ∷ [] → Goes m (seen_from e.state c e) (seen_stage f) → Kept (seen_stage e) (seen_stage f) → Stepped (seen_stage e) (Given c) m (seen_stage f)
      by_parts o t d v w p =
          let wd = word_scan (sort_at e.takes) in
          let g = grade_of e.takes in
          let gives = gives_of e.state e.takes in
          let takes = Some e.takes in
          let room = e.most + chunk_at e.takes in
          rw (o, t, d) (chunk_law wd g gives takes room (carries e.state + 0) 0 c (Doing e.state) m (seen_stage f)
          (subst (λ x. Goes m (part_of x g gives takes room 0 (scan_rest wd false (Doing e.state) (items c))) (seen_stage f)) o
          (subst (λ u. Goes m (part_of (part_at e.stand) g gives takes room 0 (scan_rest wd false (Doing e.state) u)) (seen_stage f)) (sym v) w)) p)

pub end_step : (e : PieceStage) (i : Input) (m : Move) (f : PieceStage) → i ≡ TheEnd → stage_fits e → AnswersAt (part_at e.stand) (Some e.takes) i → IsFinal e.state m → f.stand ≡ Over → f.told ≡ true → IsSameStage e f → IsWell f
    → Stepped (seen_stage e) i m (seen_stage f)
end_step e i (Done v None) f h g a n o u s b =
    let a1 = subst (AnswersAt (part_at e.stand) (Some e.takes)) h a in
    let y = waits e g a1 in
    subst (λ x. Stepped (seen_stage e) x (Done v None) (seen_stage f)) (sym h) (by_parts a1 y.0 y.1 (asks_ready e.state y.2) (same_kept e f s)) where
      by_parts : part_at e.stand ≡ part.Wait → e.told ≡ false → e.due ≡ None → state_ready e.state ≡ None → Kept (seen_stage e) (seen_stage f) → Stepped (seen_stage e) TheEnd (Done v None) (seen_stage f)
      by_parts p t d r q =
          let wd = word_scan (sort_at e.takes) in
          rw (p, t, d) (end_law wd (grade_of e.takes) (gives_of e.state e.takes) (Some e.takes) (e.most + chunk_at e.takes) (carries e.state + 0) 0 (Doing e.state) (Done v None) (seen_stage f) r
          (record {
            is_at = ap part_at o;
            floor = rw u refl;
            given = tt;
            left = (let w = well_held f b in omega (arith, w));
            finishes = λ z. close_finishes wd (grade_of e.takes) (value_meaning v) (Doing e.state) [] refl (ap Rattle.cd_meaning.specs.Stream.Done (sym n));
          }) q)
end_step e i (Done v (Some r)) f h g a n o u s b = absurd n
end_step e i (Emit d) f h g a n o u s b = absurd n
end_step e i Need f h g a n o u s b = absurd n
end_step e i (Faulted x) f h g a n o u s b = absurd n

-- ---- facts of every stage

pub stage_sound : (e : PieceStage) → IsSound (seen_stage e)
stage_sound e =
    let w = word_scan (sort_at e.takes) in
    let s = scan_sound w (part_at e.stand) (grade_of e.takes) (gives_of e.state e.takes) (Some e.takes) (e.most + chunk_at e.takes) (held_of e) e.told (Doing e.state) [] refl refl (omega arith) in
    let f = (scan_rest w e.told (Doing e.state) []).floor in
    record {
      local = λ s k v z. refl;
      rising = λ z ys c. acts_rising f (stamp f 0) (due_acts e.due) _ (le_self f) (s.rising z ys c);
      counts = s.counts;
      graded = refl;
      own = s.own;
    }
