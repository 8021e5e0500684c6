-- What a splitter from elements does is the next step of its part.
use Rattle.std.proofs.Common.{◌≡◌, ℕ, ◌+◌, ◌≤◌, Bool, true, false, List, [], ◌∷◌, ◌++◌, length, take, drop, refl, ap, sym, ◌∙◌, subst, Option, Some, None, IsTrue, arith, length-append}
use Rattle.std.proofs.lemmas.List.{length-take-le}
use Rattle.cd_elem.specs.Chunks.{is_cut}
use Rattle.cd_meaning.specs.Stream.{Sort, Item, Piece, Out}
use Rattle.cd_meaning.specs.Sorts.{pieces_of}
use Rattle.cd_step.specs.declared.protocol.Input.{Input}
use Rattle.cd_step.specs.declared.protocol.Input.TheVariants.{Chunk as Given, End as TheEnd}
use Rattle.cd_step.specs.declared.protocol.Move.{Move}
use Rattle.cd_step.specs.declared.protocol.Move.TheVariants.{Emit, Need}
use Rattle.cd_step.specs.declared.protocol.Stand.{Stand}
use Rattle.cd_step.specs.declared.protocol.Stand.TheVariants.{Fresh, Wait, Gave, Over}
use Rattle.cd_step.specs.CutChunks.{elems, kind_of, IsChunkOf}
use Rattle.cd_step.specs.Parts.{At, Chunk, Part, part_at, items, rest_items, weight, weight_any, chunk_at, sort_at, outs_of, AnswersAt, IsChunk, IsOf, IsGiven, Goes, Kept, IsHeld, IsSound, Stepped, fed}
use Rattle.cd_step.specs.Parts as part
use Rattle.cd_step.specs.Flows.{Retires}
use Rattle.cd_step.specs.Reading.{scan_rest, part_of, IsRead, IsSilent}
use Rattle.cd_step.proofs.ActsLeft.{back_law}
use Rattle.cd_step.proofs.CutChunks.{cut_items, cut_rest, elems_split, given_weight, sort_of_kind}
use Rattle.cd_step.proofs.Moving.{goes_after, same_none}
use Rattle.cd_step.proofs.Outs.{stand_wait}
use Rattle.cd_step.proofs.Weighing.{weigh_back}
use Rattle.cd_step.proofs.Reading.{kept_fed, silent_moves, need_law, emit_law, chunk_law, end_law, rest_sound}
use Rattle.cd_split.specs.declared.rule.CutRule.{CutRule}
use Rattle.cd_split.specs.declared.open_piece.OpenPiece.{OpenPiece}
use Rattle.cd_split.specs.declared.open_piece.OpenPiece.TheVariants as variant
use Rattle.cd_split.specs.declared.cutter.Cutter.{Cutter}
use Rattle.cd_split.specs.Cutting.{Line, CutterStands, IsOpen, IsPassed, IsSameCutter, Went, cut_grade, cut_scan, cutter_fits, cutter_held, line, numbers, pieces_to, seen_cutter, sort_of, with_chunk}

-- ---- sorts and pieces

pub sort_is_cut : (o : OpenPiece) → IsTrue (is_cut (sort_of o))
sort_is_cut (variant.Bytes bytes) = refl
sort_is_cut (variant.Chars chars) = refl

-- a chunk of what it takes
pub of_sort : (k : Sort) (c : Chunk) → IsChunk (kind_of k) c → c.0 ≡ k
of_sort k c h = h.1 ∙ sort_of_kind k

piece_is : (k : Sort) (n : ℕ) (l : List ℕ) → IsTrue (is_cut k) → length l ≤ n → IsChunk (pieces_to n (kind_of k)) (pieces_of k, l)
piece_is Sort.Bytes n l h m = (omega arith, refl, omega (arith, m))
piece_is Sort.Chars n l h m = (omega arith, refl, omega (arith, m))
piece_is Sort.Block n l h m = cc
piece_is Sort.Text n l h m = cc

piece_outs : (k : Sort) (l : List ℕ) → IsTrue (is_cut k) → outs_of (pieces_of k, l) ≡ Out (Piece l) ∷ []
piece_outs Sort.Bytes l h = refl
piece_outs Sort.Chars l h = refl
piece_outs Sort.Block l h = refl
piece_outs Sort.Text l h = refl

pub no_numbers : (l : List ℕ) (n : ℕ) → n ≡ length l → n ≡ 0 → l ≡ []
no_numbers [] n h z = refl
no_numbers (x ∷ l) n h z = absurd (omega (arith, h, z))

pub piece_length : (l xs : List ℕ) (count most : ℕ) → count ≤ length xs → length l + count ≤ most → length (l ++ take count xs) ≤ most
piece_length l xs count most h k = let a = length-append l (take count xs) in let b = length-take-le count xs h in omega (arith, a, b, k)

-- ---- what it holds, and what no step changes

pub cutter_within : (e : Cutter) → IsOpen e → IsGiven (Some (kind_of (sort_of e.piece))) e.keep → IsHeld (seen_cutter e)
cutter_within e o g = let w = given_weight (sort_of e.piece) e.keep g in let h = o.0 in omega (arith, w, h)

pub cutter_kept : (e f : Cutter) → IsSameCutter e f → Kept (seen_cutter e) (seen_cutter f)
cutter_kept e f h = (refl, refl, rw (h.0, h.1) refl, rw h.1 refl, rw (h.0, h.1) refl, λ s d t. t)

-- ---- with a chunk

-- a piece is given for a front of the chunk
give_part : (k : Sort) (r : CutRule) (at : At) (room n m : ℕ) (c d : Chunk) (end : ℕ) (s : Line) (f : Bool) (l : List ℕ) (b : Option Chunk) → IsTrue (is_cut k) → c.0 ≡ k → d ≡ (pieces_of k, l) → length l ≤ r.most
    → IsRead (cut_scan r) s (elems (take end c.1)) (Out (Piece l) ∷ []) (f, []) → IsChunkOf k (drop end c.1) b
    → Goes (Emit d) (part_of at cut_grade (Some (pieces_to r.most (kind_of k))) (Some (kind_of k)) room n (scan_rest (cut_scan r) false s (items c)))
    (part_of part.Gave cut_grade (Some (pieces_to r.most (kind_of k))) (Some (kind_of k)) room m (scan_rest (cut_scan r) false (f, []) (rest_items b)))
give_part k r at room n m c d end s f l b h i p q j z =
    let w = cut_scan r in
    let gives = Some (pieces_to r.most (kind_of k)) in
    let takes = Some (kind_of k) in
    subst (λ y. Goes (Emit d) (part_of at cut_grade gives takes room n (scan_rest w false s (items c))) (part_of part.Gave cut_grade gives takes room m (scan_rest w false (f, []) y))) (sym (cut_rest k (drop end c.1) b h z))
    (subst (λ y. Goes (Emit d) (part_of at cut_grade gives takes room n (scan_rest w false s y)) (part_of part.Gave cut_grade gives takes room m (scan_rest w false (f, []) (elems (drop end c.1))))) (elems_split end c.1 ∙ sym (cut_items k c h i))
    (emit_law w at cut_grade gives takes room n m d (elems (take end c.1)) (elems (drop end c.1)) s (f, []) refl
    (subst (IsChunk (pieces_to r.most (kind_of k))) (sym p) (piece_is k r.most l h q))
    (subst (λ a. IsRead w s (elems (take end c.1)) a (f, [])) (sym (ap outs_of p ∙ piece_outs k l h)) j)))

pub cutter_gives : (e : Cutter) (c d : Chunk) (count end : ℕ) (f : Bool) (o : OpenPiece) (b : Option Chunk) → e.told ≡ false → IsChunk (kind_of (sort_of e.piece)) c
    → d ≡ (pieces_of (sort_of e.piece), numbers e.piece ++ take count c.1) → length (numbers e.piece ++ take count c.1) ≤ e.rule.most
    → IsRead (cut_scan e.rule) (line e) (elems (take end c.1)) (Out (Piece (numbers e.piece ++ take count c.1)) ∷ []) (f, [])
    → numbers o ≡ [] → sort_of o ≡ sort_of e.piece → IsChunkOf c.0 (drop end c.1) b
    → Went (with_chunk (Some c) e) (Emit d) (record e { stand = Gave; fresh = f; piece = o; keep = b })
cutter_gives e c d count end f o b t i p q j u v z =
    let k = sort_of e.piece in
    rw (t, u, v) (give_part k e.rule (part_at e.stand) _ _ _ c d end (line e) f (numbers e.piece ++ take count c.1) b (sort_is_cut e.piece) (of_sort k c i) p q j (subst (λ s. IsChunkOf s (drop end c.1) b) (of_sort k c i) z))

-- the chunk is read, and then it asks
need_part : (k : Sort) (r : CutRule) (at : At) (room n m : ℕ) (c : Chunk) (s t : Line) → IsTrue (is_cut k) → c.0 ≡ k → IsSilent (cut_scan r) s (elems c.1) t
    → Goes Need (part_of at cut_grade (Some (pieces_to r.most (kind_of k))) (Some (kind_of k)) room n (scan_rest (cut_scan r) false s (items c)))
    (part_of part.Wait cut_grade (Some (pieces_to r.most (kind_of k))) (Some (kind_of k)) room m (scan_rest (cut_scan r) false t []))
need_part k r at room n m c s t h i j = need_law (cut_scan r) at cut_grade (Some (pieces_to r.most (kind_of k))) (Some (kind_of k)) room n m (items c) s t (subst (λ u. IsSilent (cut_scan r) s u t) (sym (cut_items k c h i)) j) refl tt

pub cutter_grows : (e : Cutter) (c : Chunk) (o : OpenPiece) → e.told ≡ false → e.keep ≡ None → IsChunk (kind_of (sort_of e.piece)) c → numbers o ≡ numbers e.piece ++ c.1 → sort_of o ≡ sort_of e.piece
    → IsSilent (cut_scan e.rule) (line e) (elems c.1) (e.fresh, numbers e.piece ++ c.1)
    → Went (with_chunk (Some c) e) Need (record e { stand = Wait; piece = o })
cutter_grows e c o t p i u v j =
    let k = sort_of e.piece in
    rw (t, p, u, v) (need_part k e.rule (part_at e.stand) _ _ _ c (line e) (e.fresh, numbers e.piece ++ c.1) (sort_is_cut e.piece) (of_sort k c i) j)

-- nothing is unread
asks_part : (e : Cutter) (n m : ℕ) → Goes Need (part_of (part_at e.stand) cut_grade (Some (pieces_to e.rule.most (kind_of (sort_of e.piece)))) (Some (kind_of (sort_of e.piece))) (e.rule.most + chunk_at (kind_of (sort_of e.piece))) n (scan_rest (cut_scan e.rule) false (line e) []))
    (part_of part.Wait cut_grade (Some (pieces_to e.rule.most (kind_of (sort_of e.piece)))) (Some (kind_of (sort_of e.piece))) (e.rule.most + chunk_at (kind_of (sort_of e.piece))) m (scan_rest (cut_scan e.rule) false (line e) []))
asks_part e n m = need_law (cut_scan e.rule) (part_at e.stand) cut_grade (Some (pieces_to e.rule.most (kind_of (sort_of e.piece)))) (Some (kind_of (sort_of e.piece))) _ n m [] (line e) (line e) refl refl tt

pub cutter_asks : (e : Cutter) (keep : Option Chunk) → e.told ≡ false → e.keep ≡ None → keep ≡ None → Went e Need (record e { stand = Wait; keep = keep })
cutter_asks e keep t p q = rw (t, p, q) (asks_part e _ _)

pub cutter_waits : (e : Cutter) → e.told ≡ false → e.keep ≡ None → Went (with_chunk None e) Need (record e { stand = Wait })
cutter_waits e t p = rw (t, p) (asks_part e _ _)

-- ---- a separator directly behind a full piece

pub passes_none : (e : Cutter) (c : Chunk) → IsPassed e (Some c) e (Some c)
passes_none e c = same_none (seen_cutter (with_chunk (Some c) e))

pub passes_end : (e : Cutter) (c : Chunk) (b : Option Chunk) → e.told ≡ false → e.fresh ≡ false → numbers e.piece ≡ [] → IsChunk (kind_of (sort_of e.piece)) c
    → IsSilent (cut_scan e.rule) (false, []) (elems (take 1 c.1)) (true, []) → IsChunkOf c.0 (drop 1 c.1) b
    → IsPassed e (Some c) (record e { fresh = true }) b
passes_end e c b t f o i j z =
    let k = sort_of e.piece in
    let h = sort_is_cut e.piece in
    let w = cut_scan e.rule in
    record {
      goes = λ y.
          rw (t, f, o) (
          subst (λ u. part_moves (items c) u) (sym (cut_rest k (drop 1 c.1) b h (subst (λ s. IsChunkOf s (drop 1 c.1) b) (of_sort k c i) z)))
          (subst (λ u. part_moves u (elems (drop 1 c.1))) (elems_split 1 c.1 ∙ sym (cut_items k c h (of_sort k c i)))
          (silent_moves w cut_grade (elems (take 1 c.1)) (elems (drop 1 c.1)) (false, []) (true, []) j)));
      kept = (refl, refl, refl, refl, refl, λ s d n. n);
    } where
      part_moves : List Item → List Item → Type 0
      part_moves u v = Rattle.cd_meaning.specs.Rest.Moves cut_grade [] (scan_rest (cut_scan e.rule) false (false, []) u) (scan_rest (cut_scan e.rule) false (true, []) v)

-- what comes behind it
pub passed_then : (e f g : Cutter) (b c : Option Chunk) (m : Move) → IsPassed e b f c → Went (with_chunk c f) m g → Went (with_chunk b e) m g
passed_then e f g b c m h k = goes_after m (seen_cutter (with_chunk b e)) (seen_cutter (with_chunk c f)) (seen_cutter g) h k

-- ---- whole steps

pub told_keep : (s : Stand) (told : Bool) (keep : Option Chunk) → CutterStands s told keep → told ≡ true → keep ≡ None
told_keep Fresh told keep h t = h.1
told_keep Wait told keep h t = h.1
told_keep Gave told keep h t = h t
told_keep Over told keep h t = h

pub waits : (e : Cutter) → CutterStands e.stand e.told e.keep → part_at e.stand ≡ part.Wait → (e.told ≡ false) × (e.keep ≡ None)
waits e h a = subst (λ s. CutterStands s e.told e.keep) (stand_wait e.stand a) h

pub cutter_goes : (e : Cutter) (i : Input) (m : Move) (f : Cutter) → fed i (seen_cutter e) ≡ seen_cutter e → Went e m f → IsSameCutter e f → Stepped (seen_cutter e) i m (seen_cutter f)
cutter_goes e i m f h g s = record { goes = subst (λ p. Goes m p (seen_cutter f)) (sym h) g; kept = kept_fed i (seen_cutter e) (seen_cutter f) (cutter_kept e f s) }

pub cutter_given : (e : Cutter) (i : Input) (c : Chunk) (m : Move) (f : Cutter) → i ≡ Given c → CutterStands e.stand e.told e.keep → AnswersAt (part_at e.stand) (Some (kind_of (sort_of e.piece))) i
    → Went (with_chunk (Some c) e) m f → IsSameCutter e f → Stepped (seen_cutter e) i m (seen_cutter f)
cutter_given e i c m f h g a w s =
    let a1 = subst (AnswersAt (part_at e.stand) (Some (kind_of (sort_of e.piece)))) h a in
    let y = waits e g a1.0 in
    subst (λ x. Stepped (seen_cutter e) x m (seen_cutter f)) (sym h) (by_parts a1.0 y.0 y.1 w (cutter_kept e f s)) where
      by_parts : part_at e.stand ≡ part.Wait → e.told ≡ false → e.keep ≡ None → Went (with_chunk (Some c) e) m f → Kept (seen_cutter e) (seen_cutter f) → Stepped (seen_cutter e) (Given c) m (seen_cutter f)
      by_parts o t k v p =
          let wd = cut_scan e.rule in
          let gives = Some (pieces_to e.rule.most (kind_of (sort_of e.piece))) in
          let takes = Some (kind_of (sort_of e.piece)) in
          let room = e.rule.most + chunk_at (kind_of (sort_of e.piece)) in
          let n = cutter_held (with_chunk (Some c) e) in
          rw (o, t, k) (chunk_law wd cut_grade gives takes room (length (numbers e.piece) + 0) n c (line e) m (seen_cutter f)
          (subst (λ x. Goes m (part_of x cut_grade gives takes room n (scan_rest wd false (line e) (items c))) (seen_cutter f)) o
          (subst (λ b. Goes m (part_of (part_at e.stand) cut_grade gives takes room n (scan_rest wd b (line e) (items c))) (seen_cutter f)) t v)) p)

pub cutter_told : (e : Cutter) (i : Input) (m : Move) (f : Cutter) → i ≡ TheEnd → CutterStands e.stand e.told e.keep → AnswersAt (part_at e.stand) (Some (kind_of (sort_of e.piece))) i
    → Went (record e { told = true }) m f → IsSameCutter e f → Stepped (seen_cutter e) i m (seen_cutter f)
cutter_told e i m f h g a w s =
    let a1 = subst (AnswersAt (part_at e.stand) (Some (kind_of (sort_of e.piece)))) h a in
    let y = waits e g a1 in
    subst (λ x. Stepped (seen_cutter e) x m (seen_cutter f)) (sym h) (by_parts a1 y.0 y.1 w (cutter_kept e f s)) where
      by_parts : part_at e.stand ≡ part.Wait → e.told ≡ false → e.keep ≡ None → Went (record e { told = true }) m f → Kept (seen_cutter e) (seen_cutter f) → Stepped (seen_cutter e) TheEnd m (seen_cutter f)
      by_parts o t k v p =
          let wd = cut_scan e.rule in
          let gives = Some (pieces_to e.rule.most (kind_of (sort_of e.piece))) in
          let takes = Some (kind_of (sort_of e.piece)) in
          let room = e.rule.most + chunk_at (kind_of (sort_of e.piece)) in
          rw (o, t, k) (end_law wd cut_grade gives takes room (length (numbers e.piece) + 0) (cutter_held e) (line e) m (seen_cutter f) refl
          (subst (λ x. Goes m (part_of x cut_grade gives takes room (cutter_held e) (scan_rest wd true (line e) (rest_items e.keep))) (seen_cutter f)) o v) p)

-- ---- no step follows

unread_is : (b : Bool) (r : CutRule) (s : Line) (u : List Item) → (b ≡ true → u ≡ []) → u ≡ (scan_rest (cut_scan r) b s u).unread
unread_is true r s u h = h refl
unread_is false r s u h = refl

pub cutter_retires : (e : Cutter) (r : Option Chunk) → cutter_fits e → r ≡ e.keep → Retires (seen_cutter e) r (seen_cutter (record e { stand = Over; keep = None }))
cutter_retires e r f h =
    rw h (back_law (cut_scan e.rule) (part_at e.stand) cut_grade (Some (pieces_to e.rule.most (kind_of (sort_of e.piece)))) (Some (kind_of (sort_of e.piece))) _ (cutter_held e) (length (numbers e.piece) + 0) [] [] e.told (line e) (line e) (rest_items e.keep) [] e.keep
    (omega arith) (λ n. (unread_is e.told e.rule (line e) (rest_items e.keep) (λ t. ap rest_items (told_keep e.stand e.told e.keep f.0 t)), f.2)))

-- ---- facts of every stage

pub cutter_sound : (e : Cutter) → IsSound (seen_cutter e)
cutter_sound e = rest_sound (cut_scan e.rule) (part_at e.stand) cut_grade (Some (pieces_to e.rule.most (kind_of (sort_of e.piece)))) (Some (kind_of (sort_of e.piece))) _ (cutter_held e) e.told (line e) (rest_items e.keep) (graded (sort_of e.piece) (sort_is_cut e.piece)) (let h = weigh_back e.keep in omega (arith, h)) where
  graded : (k : Sort) → IsTrue (is_cut k) → false ≡ part.of_pieces (Some (kind_of k))
  graded Sort.Bytes h = refl
  graded Sort.Chars h = refl
  graded Sort.Block h = cc
  graded Sort.Text h = cc
