-- What a splitter from pieces does is the next step of its part.
use Rattle.std.proofs.Common.{◌≡◌, ℕ, ◌+◌, ◌≤◌, ◌<◌, Bool, true, false, List, [], ◌∷◌, ◌++◌, length, map, take, drop, refl, ap, sym, ◌∙◌, subst, Option, Some, None, IsTrue, arith, append_assoc, length-append}
use Rattle.std.proofs.lemmas.List.{append-nil, length-take-le, take-append-drop}
use Rattle.cd_elem.specs.Limits.{chunk_limit}
use Rattle.cd_elem.specs.Chunks.{is_cut}
use Rattle.cd_elem.specs.declared.kind.Kind.{Kind}
use Rattle.cd_meaning.specs.Stream.{Sort, Item, Piece, Act, Out}
use Rattle.cd_meaning.specs.Rest.{Moves}
use Rattle.cd_meaning.specs.Sorts.{elements_of}
use Rattle.cd_meaning.proofs.Moves.Scans.{scan_reads}
use Rattle.cd_step.specs.declared.protocol.Input.{Input}
use Rattle.cd_step.specs.declared.protocol.Input.TheVariants.{Start, Chunk as Given, End as TheEnd, Next}
use Rattle.cd_step.specs.declared.protocol.Move.{Move}
use Rattle.cd_step.specs.declared.protocol.Move.TheVariants.{Emit, Need}
use Rattle.cd_step.specs.declared.protocol.Stand.{Stand}
use Rattle.cd_step.specs.declared.protocol.Stand.TheVariants.{Fresh, Wait, Gave, Over}
use Rattle.cd_step.specs.CutChunks.{elems}
use Rattle.cd_step.specs.Parts.{At, Chunk, Part, part_at, items, rest_items, weight, weight_any, chunk_at, pieces_at, sort_at, outs_of, AnswersAt, IsChunk, IsOf, IsGiven, Goes, Kept, IsHeld, IsSound, Stepped, fed}
use Rattle.cd_step.specs.Parts as part
use Rattle.cd_step.specs.Flows.{Retires}
use Rattle.cd_step.specs.Reading.{acting, scan_rest, part_of}
use Rattle.cd_step.proofs.ActsLeft.{acting_law, acting_sound, back_law, moves_acting}
use Rattle.cd_step.proofs.CutChunks.{cut_items, cut_is}
use Rattle.cd_step.proofs.Moving.{goes_after}
use Rattle.cd_step.proofs.Outs.{stand_wait}
use Rattle.cd_step.proofs.PieceChunks.{chunk_piece, piece_chunk, piece_items, piece_within}
use Rattle.cd_step.proofs.Reading.{kept_fed, need_law, chunk_law}
use Rattle.cd_split.specs.declared.joiner.Joiner.{Joiner}
use Rattle.cd_split.specs.Joining.{JoinerStands, IsSameJoiner, Joined, flattened, join_grade, join_scan, joined, joiner_fits, left, line_end, seen_joiner, with_piece}

-- ---- kinds and pieces

pub elements_cut : (k : Sort) → IsTrue (is_cut (elements_of k))
elements_cut Sort.Bytes = refl
elements_cut Sort.Chars = refl
elements_cut Sort.Block = refl
elements_cut Sort.Text = refl

-- what is left of a piece, less a front, is one too
pub rest_is : (k : Kind) (c d : Chunk) (n : ℕ) → pieces_at k ≡ true → IsChunk k c → d ≡ (c.0, drop n c.1) → IsChunk k d
rest_is k c d n p i e = subst (IsChunk k) (sym e) (piece_chunk k (c.0, drop n c.1) p i.1 (let m = piece_within k c p i in let a = length-append (take n c.1) (drop n c.1) in let b = ap length (take-append-drop n c.1) in omega (arith, m, a, b)))

pub no_elements : (l : List ℕ) (n : ℕ) → n ≡ length l → n ≡ 0 → l ≡ []
no_elements [] n h z = refl
no_elements (x ∷ l) n h z = absurd (omega (arith, h, z))

-- it has a whole chunk of them, and no newline comes sooner
pub enough : (l : List ℕ) (lines : Bool) (n most : ℕ) → n ≡ length (l ++ line_end lines) → most < n → most ≤ length l
enough l false n most h k = let a = length-append l [] in omega (arith, a, h, k)
enough l true n most h k = let a = length-append l (line_end true) in omega (arith, a, h, k)

pub not_cut : (k : Kind) (c : Chunk) → pieces_at k ≡ true → IsChunk k c → IsTrue (is_cut c.0) → ⊥
not_cut k c p i t = let e = sym (chunk_piece k c p i) ∙ t in let f : false ≡ true = e in cc

-- ---- what it holds, and what no step changes

pub joiner_within : (e : Joiner) → IsGiven (Some e.takes) e.keep → IsHeld (seen_joiner e)
joiner_within e g = (let w = within e.takes e.keep g in omega (arith, w)) where
  within : (k : Kind) (r : Option Chunk) → IsGiven (Some k) r → weight_any r ≤ chunk_at k
  within k None h = omega arith
  within k (Some c) h = h.2

pub joiner_kept : (e f : Joiner) → IsSameJoiner e f → Kept (seen_joiner e) (seen_joiner f)
joiner_kept e f h = (rw h.1 refl, refl, rw h.1 refl, rw h.1 refl, rw h.1 refl, λ s d t. t)

-- ---- its moves

-- the part of which these acts are left
abbrev acts_left : Joiner → At → ℕ → List Act → Part
acts_left e at n acts = part_of at (join_grade e.takes) (Some (flattened e.takes)) (Some e.takes) (0 + chunk_at e.takes) n (acting acts (scan_rest (join_scan e.lines) false tt []))

outs_are : (k : Kind) (d : Chunk) (l : List ℕ) → d ≡ (elements_of (sort_at k), l) → outs_of d ≡ map Out (elems l)
outs_are k d l e = let s = elements_of (sort_at k) in ap (map Out) (cut_items s d (elements_cut (sort_at k)) (ap (λ x. x.0) e) ∙ ap (λ x. elems x.1) e)

given_is : (k : Kind) (d : Chunk) (l : List ℕ) → d ≡ (elements_of (sort_at k), l) → 0 < length l → length l ≤ chunk_limit → IsOf (Some (flattened k)) d
given_is k d l e s m = (let n = ap (λ x. length x.1) e in cut_is (elements_of (sort_at k)) d (elements_cut (sort_at k)) (ap (λ x. x.0) e) (omega (arith, s, n)) (omega (arith, m, n)))

gives_acts : (e : Joiner) (at : At) (n m : ℕ) (d : Chunk) (l : List ℕ) (then : List Act) → d ≡ (elements_of (sort_at e.takes), l) → 0 < length l → length l ≤ chunk_limit
    → Goes (Emit d) (acts_left e at n (map Out (elems l) ++ then)) (acts_left e part.Gave m then)
gives_acts e at n m d l then i s k =
    subst (λ a. Goes (Emit d) (acts_left e at n (a ++ then)) (acts_left e part.Gave m then)) (outs_are e.takes d l i)
    (acting_law (join_scan e.lines) at (join_grade e.takes) (Some (flattened e.takes)) (Some e.takes) (0 + chunk_at e.takes) n m d then (scan_rest (join_scan e.lines) false tt []) (given_is e.takes d l i s k))

-- the whole piece is given
pub joiner_gives : (e : Joiner) (c d : Chunk) → e.told ≡ false → e.keep ≡ None → d ≡ (elements_of (sort_at e.takes), c.1 ++ line_end e.lines) → 0 < length (c.1 ++ line_end e.lines) → length (c.1 ++ line_end e.lines) ≤ chunk_limit
    → Joined (with_piece (Some c) e) (Emit d) (record e { stand = Gave })
joiner_gives e c d t p i s m =
    rw (t, p) (subst (λ a. Goes (Emit d) (acts_left e (part_at e.stand) (weight c) a) (acts_left e part.Gave 0 [])) (append-nil (joined e.lines c.1)) (gives_acts e (part_at e.stand) (weight c) 0 d (c.1 ++ line_end e.lines) [] i s m))

-- a front of the piece is given
outs_split : (n : ℕ) (l m : List ℕ) → map Out (elems (take n l)) ++ map Out (elems (drop n l ++ m)) ≡ map Out (elems (l ++ m))
outs_split n l m = sym (outs_append (take n l) (drop n l ++ m)) ∙ ap (λ y. map Out (elems y)) (sym (append_assoc (take n l) (drop n l) m) ∙ ap (λ y. y ++ m) (take-append-drop n l)) where
  outs_append : (u v : List ℕ) → map Out (elems (u ++ v)) ≡ map Out (elems u) ++ map Out (elems v)
  outs_append [] v = refl
  outs_append (x ∷ u) v = ap (λ l. Out (Rattle.cd_meaning.specs.Stream.Elem x) ∷ l) (outs_append u v)

pub joiner_cuts : (e : Joiner) (c d b : Chunk) (n : ℕ) → e.told ≡ false → d ≡ (elements_of (sort_at e.takes), take n c.1) → b ≡ (c.0, drop n c.1) → 0 < n → n ≤ length c.1 → n ≤ chunk_limit
    → Joined (with_piece (Some c) e) (Emit d) (record e { stand = Gave; keep = Some b })
joiner_cuts e c d b n t i j z k m =
    let h = length-take-le n c.1 k in
    rw t (
    subst (λ a. Goes (Emit d) (acts_left e (part_at e.stand) (weight c) (joined e.lines c.1)) (acts_left e part.Gave (weight b) (joined e.lines a))) (sym (ap (λ x. x.1) j))
    (subst (λ a. Goes (Emit d) (acts_left e (part_at e.stand) (weight c) a) (acts_left e part.Gave (weight b) (joined e.lines (drop n c.1)))) (outs_split n c.1 (line_end e.lines))
    (gives_acts e (part_at e.stand) (weight c) (weight b) d (take n c.1) (joined e.lines (drop n c.1)) i (omega (arith, z, h)) (omega (arith, m, h)))))

asks_part : (e : Joiner) (at : At) (n m : ℕ) → Goes Need (acts_left e at n []) (acts_left e part.Wait m [])
asks_part e at n m = need_law (join_scan e.lines) at (join_grade e.takes) (Some (flattened e.takes)) (Some e.takes) (0 + chunk_at e.takes) n m [] tt tt refl refl tt

-- nothing is left of the piece
pub joiner_empty : (e : Joiner) (c : Chunk) → e.told ≡ false → e.keep ≡ None → c.1 ++ line_end e.lines ≡ [] → Joined (with_piece (Some c) e) Need (record e { stand = Wait })
joiner_empty e c t p z = rw (t, p) (subst (λ a. Goes Need (acts_left e (part_at e.stand) (weight c) a) (acts_left e part.Wait 0 [])) (sym (ap (λ l. map Out (elems l)) z)) (asks_part e (part_at e.stand) (weight c) 0))

pub joiner_asks : (e : Joiner) (keep : Option Chunk) → e.told ≡ false → e.keep ≡ None → keep ≡ None → Joined e Need (record e { stand = Wait; keep = keep })
joiner_asks e keep t p q = rw (t, p, q) (asks_part e (part_at e.stand) 0 0)

-- ---- whole steps

pub joiner_told : (s : Stand) (told : Bool) (keep : Option Chunk) (k : Kind) (i : Input) → JoinerStands s told keep → AnswersAt (part_at s) (Some k) i → told ≡ false
joiner_told Fresh told keep k i f a = f.0
joiner_told Wait told keep k i f a = f.0
joiner_told Gave told keep k i f a = f
joiner_told Over told keep k Start f a = cc
joiner_told Over told keep k (Given c) f a = (let x = a.0 in cc)
joiner_told Over told keep k TheEnd f a = cc
joiner_told Over told keep k Next f a = cc

waits : (e : Joiner) → JoinerStands e.stand e.told e.keep → part_at e.stand ≡ part.Wait → (e.told ≡ false) × (e.keep ≡ None)
waits e h a = subst (λ s. JoinerStands s e.told e.keep) (stand_wait e.stand a) h

pub joiner_goes : (e : Joiner) (i : Input) (m : Move) (f : Joiner) → fed i (seen_joiner e) ≡ seen_joiner e → Joined e m f → IsSameJoiner e f → Stepped (seen_joiner e) i m (seen_joiner f)
joiner_goes e i m f h g s = record { goes = subst (λ p. Goes m p (seen_joiner f)) (sym h) g; kept = kept_fed i (seen_joiner e) (seen_joiner f) (joiner_kept e f s) }

-- the piece is read, and its acts are left
read_part : (e : Joiner) (n : ℕ) (c : Chunk) (m : Move) (q : Part) → items c ≡ Piece c.1 ∷ [] → Goes m (acts_left e part.Wait n (joined e.lines c.1)) q
    → Goes m (part_of part.Wait (join_grade e.takes) (Some (flattened e.takes)) (Some e.takes) (0 + chunk_at e.takes) n (scan_rest (join_scan e.lines) false tt (items c))) q
read_part e n c m q i g =
    let w = join_scan e.lines in
    let p = part_of part.Wait (join_grade e.takes) (Some (flattened e.takes)) (Some e.takes) (0 + chunk_at e.takes) n (scan_rest w false tt (items c)) in
    goes_after m p (acts_left e part.Wait n (joined e.lines c.1)) q
    (record {
      goes = λ z. moves_acting (join_grade e.takes) (joined e.lines c.1) (scan_rest w false tt (items c)) (scan_rest w false tt [])
          (subst (λ u. Moves (join_grade e.takes) (joined e.lines c.1) (scan_rest w false tt u) (scan_rest w false tt [])) (sym i) (scan_reads w (join_grade e.takes) 0 (Piece c.1) [] tt tt (joined e.lines c.1) refl refl));
      kept = (refl, refl, refl, refl, refl, λ s d t. t);
    }) g

pub joiner_given : (e : Joiner) (i : Input) (c : Chunk) (m : Move) (f : Joiner) → i ≡ Given c → joiner_fits e → AnswersAt (part_at e.stand) (Some e.takes) i → Joined (with_piece (Some c) e) m f → IsSameJoiner e f
    → Stepped (seen_joiner e) i m (seen_joiner f)
joiner_given e i c m f h g a w s =
    let a1 = subst (AnswersAt (part_at e.stand) (Some e.takes)) h a in
    let y = waits e g.0 a1.0 in
    subst (λ x. Stepped (seen_joiner e) x m (seen_joiner f)) (sym h) (by_parts a1.0 y.0 y.1 (piece_items c (chunk_piece e.takes c g.1 a1.1)) w (joiner_kept e f s)) where
      by_parts : part_at e.stand ≡ part.Wait → e.told ≡ false → e.keep ≡ None → items c ≡ Piece c.1 ∷ [] → Joined (with_piece (Some c) e) m f → Kept (seen_joiner e) (seen_joiner f) → Stepped (seen_joiner e) (Given c) m (seen_joiner f)
      by_parts o t k z v p =
          let wd = join_scan e.lines in
          rw (o, t, k) (chunk_law wd (join_grade e.takes) (Some (flattened e.takes)) (Some e.takes) (0 + chunk_at e.takes) 0 (weight c) c tt m (seen_joiner f)
          (read_part e (weight c) c m (seen_joiner f) z
          (subst (λ x. Goes m (acts_left e x (weight c) (joined e.lines c.1)) (seen_joiner f)) o
          (subst (λ b. Goes m (part_of (part_at e.stand) (join_grade e.takes) (Some (flattened e.takes)) (Some e.takes) (0 + chunk_at e.takes) (weight c) (acting (joined e.lines c.1) (scan_rest wd b tt []))) (seen_joiner f)) t v))) p)

-- ---- no step follows

pub joiner_retires : (e : Joiner) → Retires (seen_joiner e) None (seen_joiner (record e { stand = Over; keep = None }))
joiner_retires e =
    back_law (join_scan e.lines) (part_at e.stand) (join_grade e.takes) (Some (flattened e.takes)) (Some e.takes) (0 + chunk_at e.takes) (weight_any e.keep) 0 (left e.lines e.keep) [] e.told tt tt [] [] None
    (omega arith) (λ n. (none_unread e.told, tt)) where
      none_unread : (b : Bool) → [] ≡ (scan_rest (join_scan e.lines) b tt []).unread
      none_unread true = refl
      none_unread false = refl

-- ---- facts of every stage

pub joiner_sound : (e : Joiner) → IsSound (seen_joiner e)
joiner_sound e =
    acting_sound (join_scan e.lines) (part_at e.stand) (join_grade e.takes) (Some (flattened e.takes)) (Some e.takes) (0 + chunk_at e.takes) (weight_any e.keep) (left e.lines e.keep) e.told tt [] refl (omega arith)
