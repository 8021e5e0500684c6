-- What a slicer reads and makes, as its scan does.
use Rattle.std.proofs.Common.{◌≡◌, ℕ, ◌+◌, ◌≤◌, ◌⊎◌, inl, inr, Bool, true, false, List, [], ◌∷◌, ◌++◌, length, map, take, drop, refl, ap, sym, ◌∙◌, subst, None, arith, append_assoc, length-append}
use Rattle.std.proofs.lemmas.List.{append-nil, map-append}
use Rattle.std.proofs.Math.Seq.{take-add}
use Rattle.cd_elem.specs.Limits.{chunk_limit}
use Rattle.cd_meaning.specs.Stream.{Item, Elem, Piece, Act, Out}
use Rattle.cd_meaning.specs.Scan.{Scan, Go}
use Rattle.cd_step.specs.CutChunks.{elems}
use Rattle.cd_step.specs.Reading.{IsRead, IsSilent}
use Rattle.cd_step.proofs.CutChunks.{elems_append}
use Rattle.cd_split.specs.declared.rule.CutRule.{CutRule}
use Rattle.cd_split.specs.Cutting.{Line, cut_scan}
use Rattle.cd_slices.specs.declared.sieve.Verdict.{Verdict}
use Rattle.cd_slices.specs.declared.sieve.Verdict.TheVariants.{Keeps, Drops, Refuses}
use Rattle.cd_slices.specs.declared.slicer.Slicer.{Slicer}
use Rattle.cd_slices.specs.declared.tail.SliceEnd.{SliceEnd}
use Rattle.cd_slices.specs.declared.tail.SliceEnd.TheVariants as last
use Rattle.cd_slices.specs.declared.tail.Tail.{Tail}
use Rattle.cd_slices.specs.declared.sieve.Sieve.{Sieve}
use Rattle.cd_slices.specs.Slicing.{Standing, is_ready, judged, left_of, sieved, sift_reply, sifted, sink_of, slice_scan, taken_in, value_if}
use Rattle.cd_slices.specs.Stages.{HasRoom, IsCutOff, IsSame, IsSameEnd, MayJoin, Reads, bytes_by, bytes_given, cut_rule, scan_of, stands, state_of}

-- ---- any scan

module _ {S : Type 0} (w : Scan S) where
  -- the last value is read with these acts, and none comes before
  read_last : (xs : List Item) (x : Item) (st m t : S) (acts : List Act) → IsSilent w st xs m → w.ready m ≡ None → w.step m x ≡ Go acts t → IsRead w st (xs ++ x ∷ []) acts t
  read_last [] x st m t acts i r s = (acts, [], t, subst (λ y. w.ready y ≡ None) (sym i) r, subst (λ y. w.step y x ≡ Go acts t) (sym i) s, sym (append-nil acts), (refl, refl))
  read_last (y ∷ xs) x st m t acts (n, q, e, i) r s = ([], acts, n, q, e, refl, read_last xs x n m t acts i r s)

  -- with no act
  pub silent_read : (xs : List Item) (st t : S) → IsSilent w st xs t → IsRead w st xs [] t
  silent_read [] st t i = (refl, i)
  silent_read (x ∷ xs) st t (m, r, s, i) = ([], [], m, r, s, refl, silent_read xs m t i)

  -- one read behind another
  pub read_on : (xs ys : List Item) (st m t : S) (a b : List Act) → IsRead w st xs a m → IsRead w m ys b t → IsRead w st (xs ++ ys) (a ++ b) t
  read_on [] ys st m t a b (e, k) i = subst (λ z. IsRead w st ys (z ++ b) t) (sym e) (subst (λ n. IsRead w n ys b t) (sym k) i)
  read_on (x ∷ xs) ys st m t a b (c, d, n, r, s, e, k) i = (c, d ++ b, n, r, s, ap (λ z. z ++ b) e ∙ append_assoc c d b, read_on xs ys n m t d b k i)

-- ---- the scan of slices

module _ (r : CutRule) (s : Standing) (h : is_ready s ≡ false) where
  asks : value_if (is_ready s) s.sink ≡ None
  asks = ap (λ b. value_if b s.sink) h

  -- where the splitter gives nothing, the words stand as before
  pub silent_slices : (l m : Line) (xs : List Item) → IsSilent (cut_scan r) l xs m → IsSilent (slice_scan r) (l, s) xs (m, s)
  silent_slices l m [] i = ap (λ y. (y, s)) i
  silent_slices l m (x ∷ xs) (n, q, e, i) = ((n, s), asks, ap (sift_reply s) e, silent_slices n m xs i)

  -- they take what it gives at the last byte
  cut_slices : (l t : Line) (xs : List ℕ) (acts : List Act) → IsCutOff r l xs acts t → IsRead (slice_scan r) (l, s) (elems xs) (sifted s acts).0 (t, (sifted s acts).1)
  cut_slices l t xs acts (front, x, m, e, i, k) =
      subst (λ y. IsRead (slice_scan r) (l, s) y (sifted s acts).0 (t, (sifted s acts).1)) (sym (ap elems e ∙ elems_append front (x ∷ [])))
      (read_last (slice_scan r) (elems front) (Elem x) (l, s) (m, s) (t, (sifted s acts).1) (sifted s acts).0 (silent_slices l m (elems front) i) asks (ap (sift_reply s) k))

-- ---- what is made of a piece

judged_bytes : (v : Verdict) (ws : List Sieve) (k : SliceEnd) (p : List ℕ) → (judged v ws (sink_of k) p).0 ≡ map Out (elems (bytes_by v k p))
judged_bytes Keeps ws (last.Count n) p = refl
judged_bytes Keeps ws (last.Join lines) p = refl
judged_bytes Drops ws k p = refl
judged_bytes Refuses ws k p = refl

pub taken_bytes : (t : Tail) (p : List ℕ) → (taken_in (stands t) p).0 ≡ map Out (elems (bytes_given t p))
taken_bytes t p = judged_bytes (sieved t.sieves.items p) (left_of t.sieves.items p) t.end p

count_bytes : (v : Verdict) (n : ℕ) (p : List ℕ) → bytes_by v (last.Count n) p ≡ []
count_bytes Keeps n p = refl
count_bytes Drops n p = refl
count_bytes Refuses n p = refl

join_bytes : (v : Verdict) (b : Bool) (p : List ℕ) → length (bytes_by v (last.Join b) p) ≤ length p + 1
join_bytes Keeps false p = (let a = length-append p [] in omega (arith, a))
join_bytes Keeps true p = (let a = length-append p (Rattle.cd_elem.specs.Ascii.newline ∷ []) in omega (arith, a))
join_bytes Drops b p = omega arith
join_bytes Refuses b p = omega arith

-- what is made stays a chunk
pub room_after : (k j : SliceEnd) (v : Verdict) (out p made : List ℕ) (most : ℕ) → IsSameEnd k j → HasRoom k out → MayJoin k most → length p ≤ most
    → (out ≡ []) ⊎ (length out + (length p + 1) ≤ chunk_limit) → made ≡ out ++ bytes_by v k p → HasRoom j made
room_after (last.Count m) (last.Count n) v out p made most s h g l f e = e ∙ ap (λ y. y ++ bytes_by v (last.Count m) p) h ∙ count_bytes v m p
room_after (last.Count m) (last.Join b) v out p made most s h g l f e = absurd s
room_after (last.Join a) (last.Count n) v out p made most s h g l f e = absurd s
room_after (last.Join a) (last.Join b) v out p made most s h g l (inl z) e =
    let i = join_bytes v a p in
    let j = ap length (e ∙ ap (λ y. y ++ bytes_by v (last.Join a) p) z) in
    omega (arith, g, l, i, j)
room_after (last.Join a) (last.Join b) v out p made most s h g l (inr z) e =
    let i = join_bytes v a p in
    let j = ap length e ∙ length-append out (bytes_by v (last.Join a) p) in
    omega (arith, z, i, j)

-- ---- a slicer

-- up to a piece
pub reads_piece : (e f : Slicer) (xs out made p : List ℕ) (then : Bool) → is_ready (stands e.tail) ≡ false → IsCutOff (cut_rule e.rule) (e.fresh, e.open) xs (Out (Piece p) ∷ []) (then, [])
    → made ≡ out ++ bytes_given e.tail p → state_of f ≡ ((then, []), (taken_in (stands e.tail) p).1) → Reads e xs out f made
reads_piece e f xs out made p then h i g z = (
  bytes_given e.tail p,
  g,
  subst (λ a. IsRead (scan_of e) (state_of e) (elems xs) a (state_of f)) (taken_bytes e.tail p)
      (subst (λ y. IsRead (scan_of e) (state_of e) (elems xs) (taken_in (stands e.tail) p).0 y) (sym z)
      (cut_slices (cut_rule e.rule) (stands e.tail) h (e.fresh, e.open) (then, []) xs (Out (Piece p) ∷ []) i)),
)

-- a step behind others
pub reads_on : (e f g : Slicer) (at used : ℕ) (xs out mid made : List ℕ) → f.rule ≡ e.rule → Reads e (take at xs) out f mid → Reads f (take used (drop at xs)) mid g made → Reads e (take (at + used) xs) out g made
reads_on e f g at used xs out mid made s (a, p, i) (b, q, j) = (
  a ++ b,
  q ∙ ap (λ y. y ++ b) p ∙ append_assoc out a b,
  subst (λ y. IsRead (scan_of e) (state_of e) y (map Out (elems (a ++ b))) (state_of g)) (sym (ap elems (take-add at used xs) ∙ elems_append (take at xs) (take used (drop at xs))))
      (subst (λ y. IsRead (scan_of e) (state_of e) (elems (take at xs) ++ elems (take used (drop at xs))) y (state_of g)) (sym (ap (map Out) (elems_append a b) ∙ map-append Out (elems a) (elems b)))
      (read_on (scan_of e) (elems (take at xs)) (elems (take used (drop at xs))) (state_of e) (state_of f) (state_of g) (map Out (elems a)) (map Out (elems b)) i
      (subst (λ r. IsRead (slice_scan (cut_rule r)) (state_of f) (elems (take used (drop at xs))) (map Out (elems b)) (state_of g)) s j))),
)

-- ---- what no step changes

same_end_on : (j k l : SliceEnd) → IsSameEnd j k → IsSameEnd k l → IsSameEnd j l
same_end_on (last.Count i) (last.Count m) (last.Count n) a b = tt
same_end_on (last.Count i) (last.Count m) (last.Join n) a b = absurd b
same_end_on (last.Count i) (last.Join m) l a b = absurd a
same_end_on (last.Join i) (last.Count m) l a b = absurd a
same_end_on (last.Join i) (last.Join m) (last.Count n) a b = absurd b
same_end_on (last.Join i) (last.Join m) (last.Join n) a b = b ∙ a

pub same_on : (e f g : Slicer) → IsSame e f → IsSame f g → IsSame e g
same_on e f g (r, s, l) (t, u, m) = (t ∙ r, same_end_on e.tail.end f.tail.end g.tail.end s u, omega (arith, l, m))
