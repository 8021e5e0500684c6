-- What the stage of slices does is the next step of its part.
use Rattle.std.proofs.Common.{◌≡◌, ℕ, ◌+◌, ◌≤◌, ◌<◌, inl, Bool, true, false, List, [], ◌∷◌, ◌++◌, length, map, take, drop, refl, ap, sym, ◌∙◌, subst, Option, Some, None, arith}
use Rattle.std.proofs.lemmas.List.{append-nil}
use Rattle.cd_elem.specs.Limits.{chunk_limit}
use Rattle.cd_elem.specs.declared.kind.Kind.{Kind}
use Rattle.cd_elem.specs.declared.kind.Kind.TheVariants as kind
use Rattle.cd_meaning.specs.Stream.{Sort, Item, Piece, Done as IsDoneBy, Act, Out}
use Rattle.cd_meaning.specs.Rest.{Moves}
use Rattle.cd_meaning.specs.Scan.{Scan}
use Rattle.cd_meaning.proofs.Moves.Scans.{scan_needs}
use Rattle.cd_step.specs.declared.protocol.Input.{Input}
use Rattle.cd_step.specs.declared.protocol.Input.TheVariants.{Chunk as Given, End as TheEnd}
use Rattle.cd_step.specs.declared.protocol.Move.{Move}
use Rattle.cd_step.specs.declared.protocol.Move.TheVariants.{Emit, Need, Done, Fault as Faulted}
use Rattle.cd_step.specs.declared.protocol.Stand.TheVariants.{Wait, Gave, Over}
use Rattle.cd_step.specs.CutChunks.{elems, IsChunkOf}
use Rattle.cd_step.specs.Parts.{Chunk, Part, part_at, items, rest, rest_items, weight_any, outs_of, AnswersAt, IsChunk, IsOf, IsGiven, Goes, Kept, IsHeld, IsSound, Stepped, fed}
use Rattle.cd_step.specs.Parts as part
use Rattle.cd_step.specs.Reading.{scan_rest, part_of, IsRead, IsSilent}
use Rattle.cd_step.proofs.CutChunks.{chunk_of_cut, cut_given, cut_items, cut_rest, elems_split, given_weight}
use Rattle.cd_step.proofs.Outs.{stand_wait}
use Rattle.cd_step.proofs.Reading.{read_moves, read_silent, done_finishes, close_finishes, chunk_law, end_law, rest_sound}
use Rattle.cd_step.proofs.Weighing.{weigh_back}
use Rattle.cd_split.specs.Cutting.{Line, short_piece}
use Rattle.cd_slices.specs.declared.slicer.Slicer.{Slicer}
use Rattle.cd_slices.specs.declared.slicer.Stop.{Stop}
use Rattle.cd_slices.specs.declared.slicer.Stop.TheVariants as stop
use Rattle.cd_slices.specs.declared.stage.SliceStage.{SliceStage}
use Rattle.cd_slices.specs.declared.tail.SliceEnd.{SliceEnd}
use Rattle.cd_slices.specs.declared.tail.SliceEnd.TheVariants as last
use Rattle.cd_slices.specs.Slicing.{Standing, is_ready, sifted, sink_of, sink_value, slice_scan, taken_in, value_if}
use Rattle.cd_slices.specs.Stages.{HasRoom, IsEnd, IsGivenOr, IsOpen, IsSame, IsSameEnd, IsSameStage, MayJoin, Opens, Reads, Runs, SlicesStand, StopsAt, Went, bytes_given, cut_rule, gives_of, grade, scan_of, seen_slices, slices_fit, slices_held, slices_most, slices_one, stands, state_of, with_chunk}
use Rattle.cd_slices.proofs.SliceReads.{read_on, silent_read, taken_bytes}

-- ---- what it holds, and what no step changes

-- with this of its chunk
held_with : (e : SliceStage) (r : Option Chunk) → IsOpen e.slicer → IsGiven (Some kind.Bytes) r → length e.slicer.open + weight_any r ≤ e.slicer.rule.most + chunk_limit
held_with e r o g = let w = given_weight Sort.Bytes r g in let h = o.0 in omega (arith, w, h)

held_within : (e : SliceStage) → IsOpen e.slicer → IsGiven (Some kind.Bytes) e.keep → IsHeld (seen_slices e)
held_within e o g = held_with e e.keep o g

pub well_held : (e : SliceStage) → slices_fit e → IsHeld (seen_slices e)
well_held e h = held_within e h.1 h.2

gives_same : (j k : SliceEnd) → IsSameEnd j k → gives_of k ≡ gives_of j
gives_same (last.Count m) (last.Count n) h = refl
gives_same (last.Count m) (last.Join b) h = absurd h
gives_same (last.Join a) (last.Count n) h = absurd h
gives_same (last.Join a) (last.Join b) h = refl

join_same : (j k : SliceEnd) (most : ℕ) → IsSameEnd j k → MayJoin j most → MayJoin k most
join_same (last.Count m) (last.Count n) most h i = tt
join_same (last.Count m) (last.Join b) most h i = absurd h
join_same (last.Join a) (last.Count n) most h i = absurd h
join_same (last.Join a) (last.Join b) most h i = i

-- nothing is open
pub emptied : (e s : Slicer) → IsOpen e → s.rule ≡ e.rule → s.open ≡ [] → IsSameEnd e.tail.end s.tail.end → IsOpen s
emptied e s o r h i =
    let n = o.0 in
    rw (r, h) (omega (arith, n), o.1, join_same e.tail.end s.tail.end e.rule.most i o.2)

same_kept : (e f : SliceStage) → IsSameStage e f → Kept (seen_slices e) (seen_slices f)
same_kept e f h = (refl, refl, gives_same e.slicer.tail.end f.slicer.tail.end h.1, refl, ap (λ r. r.most + chunk_limit) h.0, λ s d t. t)

-- what is made is a chunk of its output
made_chunk : (k : SliceEnd) (out : List ℕ) → HasRoom k out → 0 < length out → IsOf (gives_of k) (Sort.Bytes, out)
made_chunk (last.Count n) out h g = absurd (let z = ap length h in omega (arith, z, g))
made_chunk (last.Join b) out h g = chunk_of_cut Sort.Bytes out refl g h

-- ---- what is unread is read

module _ (e f : SliceStage) (t : e.told ≡ false) (u : f.told ≡ false) (r : f.slicer.rule ≡ e.slicer.rule) where
  -- up to what is kept
  moves_to : (xs : List Item) (acts : List Act) → rest_items e.keep ≡ xs ++ rest_items f.keep → IsRead (scan_of e.slicer) (state_of e.slicer) xs acts (state_of f.slicer)
      → Moves grade acts (scan_rest (scan_of e.slicer) e.told (state_of e.slicer) (rest_items e.keep)) (scan_rest (scan_of f.slicer) f.told (state_of f.slicer) (rest_items f.keep))
  moves_to xs acts i h = rw (t, u, r, i) (read_moves (scan_of e.slicer) grade xs (rest_items f.keep) (state_of e.slicer) (state_of f.slicer) acts refl h)

  -- this is given for it
  gives_law : (xs : List Item) (out : List ℕ) → f.stand ≡ Gave → IsOf (gives_of e.slicer.tail.end) (Sort.Bytes, out) → rest_items e.keep ≡ xs ++ rest_items f.keep
      → IsRead (scan_of e.slicer) (state_of e.slicer) xs (map Out (elems out)) (state_of f.slicer) → Went e (Emit (Sort.Bytes, out)) f
  gives_law xs out s k i h = (k, record { is_at = ap part_at s; goes = λ z. moves_to xs (map Out (elems out)) i h })

  -- all of it, and then it asks
  pub needs_law : f.stand ≡ Wait → f.keep ≡ None → IsRead (scan_of e.slicer) (state_of e.slicer) (rest_items e.keep) [] (state_of f.slicer) → is_ready (stands f.slicer.tail) ≡ false → Went e Need f
  needs_law s k h a = record {
    is_at = ap part_at s;
    takes = tt;
    goes = λ z. moves_to (rest_items e.keep) [] (sym (append-nil (rest_items e.keep)) ∙ ap (λ y. rest_items e.keep ++ rest_items y) (sym k)) h;
    none_unread = rw (u, k) refl;
    asks = λ z. rw (u, k) (scan_needs (scan_of f.slicer) (state_of f.slicer) (ap (λ b. value_if b (sink_of f.slicer.tail.end)) a));
  }

  -- up to what is given back, and then it takes no further piece
  pub ends_law : (m : Move) (c : Option Chunk) (xs : List Item) → f.stand ≡ Over → f.keep ≡ None → IsOpen f.slicer → IsGiven (Some kind.Bytes) c → IsEnd (sink_value (sink_of f.slicer.tail.end)) c m → rest_items e.keep ≡ xs ++ rest_items c
      → IsRead (scan_of e.slicer) (state_of e.slicer) xs [] (state_of f.slicer) → is_ready (stands f.slicer.tail) ≡ true → Went e m f
  ends_law (Done v b) c xs s k o g n i h a = record {
    is_at = ap part_at s;
    floor = rw (t, u) refl;
    given = subst (IsGiven (Some kind.Bytes)) (sym n.1) g;
    left = rw (k, n.1) (let w = held_with f c o g in omega (arith, w));
    finishes = λ z.
        rw (t, i, n.0, n.1) (done_finishes (scan_of e.slicer) grade (sink_value (sink_of f.slicer.tail.end)) xs (rest_items c) (state_of e.slicer)
        (record {
          last = state_of f.slicer;
          silent = read_silent (scan_of e.slicer) xs (state_of e.slicer) (state_of f.slicer) [] refl h;
          ends = inl (ap (λ y. value_if y (sink_of f.slicer.tail.end)) a);
        }));
  }
  ends_law (Emit d) c xs s k o g n i h a = absurd n
  ends_law Need c xs s k o g n i h a = absurd n
  ends_law (Faulted x) c xs s k o g n i h a = absurd n

-- ---- a chunk is read

-- what is read of it, and what is not
chunk_front : (c : Chunk) (at : ℕ) (b : Option Chunk) → IsChunk kind.Bytes c → IsChunkOf c.0 (drop at c.1) b → items c ≡ elems (take at c.1) ++ rest_items b
chunk_front c at b h z =
    cut_items Sort.Bytes c refl h.1 ∙ sym (elems_split at c.1)
    ∙ ap (λ y. elems (take at c.1) ++ y) (sym (cut_rest Sort.Bytes (drop at c.1) b refl (subst (λ k. IsChunkOf k (drop at c.1) b) h.1 z)))

kept_given : (c : Chunk) (at : ℕ) (b : Option Chunk) → IsChunk kind.Bytes c → IsChunkOf c.0 (drop at c.1) b → IsGiven (Some kind.Bytes) b
kept_given c at b h z = cut_given Sort.Bytes (drop at c.1) b refl (subst (λ k. IsChunkOf k (drop at c.1) b) h.1 z)

-- it has stopped where no further piece is taken
over_ready : (s : Slicer) (xs made : List ℕ) (k : Stop) → made ≡ [] → (k ≡ stop.Rest → ⊥) → StopsAt s xs made k → is_ready (stands s.tail) ≡ true
over_ready s xs made stop.Rest e n h = absurd (n refl)
over_ready s xs made stop.Full e n h = absurd (let z = ap length e in omega (arith, z, h))
over_ready s xs made stop.Over e n h = h

-- the list of what was made is all that was made
made_is : (e s : Slicer) (xs made : List ℕ) → Reads e xs [] s made → IsRead (scan_of e) (state_of e) (elems xs) (map Out (elems made)) (state_of s)
made_is e s xs made (more, g, i) = subst (λ y. IsRead (scan_of e) (state_of e) (elems xs) (map Out (elems y)) (state_of s)) (sym g) i

-- it has run on the chunk's bytes, with an empty list
pub ran_chunk : (e s : Slicer) (c : Chunk) (xs out made : List ℕ) (r : ℕ × Stop) → xs ≡ c.1 → out ≡ [] → Runs e xs out r s made → Runs e c.1 [] r s made
ran_chunk e s c xs out made r h z i = subst (λ y. Runs e y [] r s made) h (subst (λ y. Runs e xs y r s made) z i)

module _ (e : SliceStage) (c : Chunk) (s : Slicer) (at : ℕ) (out : List ℕ) (t : e.told ≡ false) (h : IsChunk kind.Bytes c) (same : IsSame e.slicer s) (r : Reads e.slicer (take at c.1) [] s out) where
  room_chunk : HasRoom s.tail.end out → 0 < length out → IsOf (gives_of e.slicer.tail.end) (Sort.Bytes, out)
  room_chunk g l = subst (λ k. IsOf k (Sort.Bytes, out)) (gives_same e.slicer.tail.end s.tail.end same.1) (made_chunk s.tail.end out g l)

  -- a front of it is read, and what was made is given
  pub front_gives : (b : Option Chunk) → HasRoom s.tail.end out → 0 < length out → IsChunkOf c.0 (drop at c.1) b → Went (with_chunk (Some c) e) (Emit (Sort.Bytes, out)) (record e { stand = Gave; slicer = s; keep = b })
  front_gives b g l z =
      gives_law (with_chunk (Some c) e) (record e { stand = Gave; slicer = s; keep = b }) t t same.0 (elems (take at c.1)) out refl (room_chunk g l) (chunk_front c at b h z) (made_is e.slicer s (take at c.1) out r)

  -- and nothing was made, and it ends
  pub front_ends : (b : Option Chunk) (m : Move) (k : Stop) → e.keep ≡ None → IsOpen s → out ≡ [] → (k ≡ stop.Rest → ⊥) → StopsAt s (drop at c.1) out k → IsChunkOf c.0 (drop at c.1) b → IsEnd (sink_value (sink_of s.tail.end)) b m
      → Went (with_chunk (Some c) e) m (record e { stand = Over; slicer = s })
  front_ends b m k z o n q a i j =
      ends_law (with_chunk (Some c) e) (record e { stand = Over; slicer = s }) t t same.0 m b (elems (take at c.1)) refl z o (kept_given c at b h i) j (chunk_front c at b h i)
      (subst (λ y. IsRead (scan_of e.slicer) (state_of e.slicer) (elems (take at c.1)) (map Out (elems y)) (state_of s)) n (made_is e.slicer s (take at c.1) out r)) (over_ready s (drop at c.1) out k n q a)

  -- what is open goes with it
  open_read : (f : SliceStage) (m : Move) → StopsAt s (drop at c.1) out stop.Rest → Opens (record e { slicer = s }) (drop at c.1) out m f → IsRead (scan_of e.slicer) (state_of e.slicer) (items c) (map Out (elems out)) (state_of f.slicer)
  open_read f m a o =
      let w = scan_of e.slicer in
      let state : state_of f.slicer ≡ ((s.fresh, s.open ++ drop at c.1), stands s.tail) = rw (o.4, o.5, o.6) refl in
      let silent = subst (λ k. IsSilent (slice_scan (cut_rule k)) (state_of s) (elems (drop at c.1)) ((s.fresh, s.open ++ drop at c.1), stands s.tail)) same.0 a.1 in
      subst (λ y. IsRead w (state_of e.slicer) y (map Out (elems out)) (state_of f.slicer)) (elems_split at c.1 ∙ sym (cut_items Sort.Bytes c refl h.1))
      (subst (λ y. IsRead w (state_of e.slicer) (elems (take at c.1) ++ elems (drop at c.1)) y (state_of f.slicer)) (append-nil (map Out (elems out)))
      (read_on w (elems (take at c.1)) (elems (drop at c.1)) (state_of e.slicer) (state_of s) (state_of f.slicer) (map Out (elems out)) [] (made_is e.slicer s (take at c.1) out r)
      (subst (λ y. IsRead w (state_of s) (elems (drop at c.1)) [] y) (sym state) (silent_read w (elems (drop at c.1)) (state_of s) _ silent))))

  -- no piece ends in what is left of it
  pub open_goes : (f : SliceStage) (m : Move) → HasRoom s.tail.end out → StopsAt s (drop at c.1) out stop.Rest → Opens (record e { slicer = s }) (drop at c.1) out m f → Went (with_chunk (Some c) e) m f
  open_goes f m g a o = by_made out refl (open_read f m a o) o.0 where
    by_made : (made : List ℕ) → out ≡ made → IsRead (scan_of e.slicer) (state_of e.slicer) (items c) (map Out (elems out)) (state_of f.slicer) → IsGivenOr made m f → Went (with_chunk (Some c) e) m f
    by_made [] z i (p, q) =
        subst (λ x. Went (with_chunk (Some c) e) x f) (sym p)
        (needs_law (with_chunk (Some c) e) f t (o.1 ∙ t) (o.3 ∙ same.0) q o.2 (subst (λ y. IsRead (scan_of e.slicer) (state_of e.slicer) (items c) (map Out (elems y)) (state_of f.slicer)) z i) (ap (λ x. is_ready (stands x)) o.4 ∙ a.0))
    by_made (x ∷ made) z i (p, q) =
        subst (λ y. Went (with_chunk (Some c) e) y f) (sym (p ∙ ap (λ y. Emit (Sort.Bytes, y)) (sym z)))
        (gives_law (with_chunk (Some c) e) f t (o.1 ∙ t) (o.3 ∙ same.0) (items c) out q (room_chunk g (let n = ap length z in omega (arith, n))) (sym (append-nil (items c)) ∙ ap (λ y. items c ++ rest_items y) (sym o.2)) i)

-- ---- the end was told

module _ (e f : SliceStage) (t : e.told ≡ true) (u : f.told ≡ true) where
  -- nothing is due, and it ends
  closed_law : (m : Move) → f.stand ≡ Over → IsHeld (seen_slices f) → f.keep ≡ None → IsEnd (sink_value (sink_of f.slicer.tail.end)) None m → (scan_of e.slicer).close (state_of e.slicer) ≡ []
      → (scan_of e.slicer).ending (state_of e.slicer) ≡ IsDoneBy (sink_value (sink_of f.slicer.tail.end)) → Went e m f
  closed_law (Done v b) s o k n c d = record {
    is_at = ap part_at s;
    floor = rw (t, u) refl;
    given = subst (IsGiven (Some kind.Bytes)) (sym n.1) tt;
    left = rw n.1 (omega (arith, o));
    finishes = λ z. rw (t, n.0, n.1) (close_finishes (scan_of e.slicer) grade (sink_value (sink_of f.slicer.tail.end)) (state_of e.slicer) (rest_items e.keep) c d);
  }
  closed_law (Emit d) s o k n c e2 = absurd n
  closed_law Need s o k n c d = absurd n
  closed_law (Faulted x) s o k n c d = absurd n

-- ---- what is due at the end

last_piece : (b : Bool) (l : List ℕ) → b ≡ true → 0 < length l → short_piece b l ≡ Piece l ∷ []
last_piece b [] h n = absurd (omega (arith, n))
last_piece b (x ∷ l) h n = rw h refl

module _ (e : Slicer) where
  close_is : (l : List Item) → short_piece e.rule.short e.open ≡ l → (scan_of e).close (state_of e) ≡ (sifted (stands e.tail) (map Out l)).0
  close_is l h = ap (λ y. (sifted (stands e.tail) (map Out y)).0) h

  ending_is : (l : List Item) → short_piece e.rule.short e.open ≡ l → (scan_of e).ending (state_of e) ≡ IsDoneBy (sink_value (sifted (stands e.tail) (map Out l)).1.sink)
  ending_is l h = ap (λ y. IsDoneBy (sink_value (sifted (stands e.tail) (map Out y)).1.sink)) h

-- what is open is a piece
module _ (e : SliceStage) (s : Slicer) (out : List ℕ) (t : e.told ≡ true) (b : e.slicer.rule.short ≡ true) (n : 0 < length e.slicer.open) (g : out ≡ bytes_given e.slicer.tail e.slicer.open)
    (a : stands s.tail ≡ (taken_in (stands e.slicer.tail) e.slicer.open).1) where
  closes_with : (scan_of e.slicer).close (state_of e.slicer) ≡ map Out (elems out)
  closes_with = close_is e.slicer (Piece e.slicer.open ∷ []) (last_piece e.slicer.rule.short e.slicer.open b n) ∙ taken_bytes e.slicer.tail e.slicer.open ∙ ap (λ y. map Out (elems y)) (sym g)

  ends_with : (scan_of e.slicer).ending (state_of e.slicer) ≡ IsDoneBy (sink_value (sink_of s.tail.end))
  ends_with = ending_is e.slicer (Piece e.slicer.open ∷ []) (last_piece e.slicer.rule.short e.slicer.open b n) ∙ ap (λ y. IsDoneBy (sink_value y.sink)) (sym a)

  -- nothing is made of it, and it ends
  pub closes_ending : (m : Move) → e.keep ≡ None → IsOpen s → out ≡ [] → IsEnd (sink_value (sink_of s.tail.end)) None m → Went e m (record e { stand = Over; slicer = s })
  closes_ending m k o z j =
      closed_law e (record e { stand = Over; slicer = s }) t t m refl (held_within (record e { stand = Over; slicer = s }) o (subst (IsGiven (Some kind.Bytes)) (sym k) tt)) k j (closes_with ∙ ap (λ y. map Out (elems y)) z) ends_with

-- ---- whole steps

waits : (e : SliceStage) → slices_fit e → part_at e.stand ≡ part.Wait → (e.told ≡ false) × (e.keep ≡ None) × (is_ready (stands e.slicer.tail) ≡ false)
waits e f a = subst (λ s. SlicesStand s e.told e.keep (is_ready (stands e.slicer.tail))) (stand_wait e.stand a) f.0

module _ (e : SliceStage) (m : Move) (f : SliceStage) (g : slices_fit e) where
  abbrev w : Scan (Line × Standing)
  w = scan_of e.slicer

  abbrev gives : Option Kind
  gives = gives_of e.slicer.tail.end

  abbrev room : ℕ
  room = e.slicer.rule.most + chunk_limit

  pub chunk_step : (i : Input) (c : Chunk) → i ≡ Given c → AnswersAt (part_at e.stand) (Some kind.Bytes) i → Went (with_chunk (Some c) e) m f → IsSameStage e f → Stepped (seen_slices e) i m (seen_slices f)
  chunk_step i c h a v s =
      let a1 = subst (AnswersAt (part_at e.stand) (Some kind.Bytes)) h a in
      let y = waits e g a1.0 in
      subst (λ x. Stepped (seen_slices e) x m (seen_slices f)) (sym h) (by_parts a1.0 y.0 y.1 v (same_kept e f s)) where
        by_parts : part_at e.stand ≡ part.Wait → e.told ≡ false → e.keep ≡ None → Went (with_chunk (Some c) e) m f → Kept (seen_slices e) (seen_slices f) → Stepped (seen_slices e) (Given c) m (seen_slices f)
        by_parts o t k v p =
            let n = slices_held (with_chunk (Some c) e) in
            rw (o, t, k) (chunk_law w grade gives (Some kind.Bytes) room (length e.slicer.open + 0) n c (state_of e.slicer) m (seen_slices f)
            (subst (λ x. Goes m (part_of x grade gives (Some kind.Bytes) room n (scan_rest w false (state_of e.slicer) (items c))) (seen_slices f)) o
            (subst (λ b. Goes m (part_of (part_at e.stand) grade gives (Some kind.Bytes) room n (scan_rest w b (state_of e.slicer) (items c))) (seen_slices f)) t v)) p)

  pub end_step : (i : Input) → i ≡ TheEnd → AnswersAt (part_at e.stand) (Some kind.Bytes) i → Went (record e { told = true }) m f → IsSameStage e f → Stepped (seen_slices e) i m (seen_slices f)
  end_step i h a v s =
      let a1 = subst (AnswersAt (part_at e.stand) (Some kind.Bytes)) h a in
      let y = waits e g a1 in
      subst (λ x. Stepped (seen_slices e) x m (seen_slices f)) (sym h) (by_parts a1 y.0 y.1 (ap (λ b. value_if b (sink_of e.slicer.tail.end)) y.2) v (same_kept e f s)) where
        by_parts : part_at e.stand ≡ part.Wait → e.told ≡ false → e.keep ≡ None → w.ready (state_of e.slicer) ≡ None → Went (record e { told = true }) m f → Kept (seen_slices e) (seen_slices f) → Stepped (seen_slices e) TheEnd m (seen_slices f)
        by_parts o t k r v p =
            rw (o, t, k) (end_law w grade gives (Some kind.Bytes) room (length e.slicer.open + 0) (slices_held e) (state_of e.slicer) m (seen_slices f) r
            (subst (λ x. Goes m (part_of x grade gives (Some kind.Bytes) room (slices_held e) (scan_rest w true (state_of e.slicer) (rest_items e.keep))) (seen_slices f)) o v) p)

-- ---- facts of every stage

pub stage_sound : (e : SliceStage) → IsSound (seen_slices e)
stage_sound e = rest_sound (scan_of e.slicer) (part_at e.stand) grade (gives_of e.slicer.tail.end) (Some kind.Bytes) _ (slices_held e) e.told (state_of e.slicer) (rest_items e.keep) refl (let h = weigh_back e.keep in omega (arith, h))

pub stage_room : (e : SliceStage) → (seen_slices e).room ≡ slices_most e + slices_one e
stage_room e = refl
