-- What each word does with a piece is the step of its scan.
use Rattle.std.proofs.Common.{◌≡◌, ℕ, zero, suc, ◌+◌, ◌-◌, ◌*◌, ◌≤◌, max, true, false, List, [], ◌∷◌, ◌++◌, length, refl, ap, sym, ◌∙◌, subst, Option, Some, None, arith, length-append}
use Rattle.std.proofs.lemmas.List.{length-reverse}
use Rattle.cd_elem.specs.Chunks.{is_cut}
use Rattle.cd_elem.specs.declared.kind.Kind.{Kind}
use Rattle.cd_elem.specs.declared.kind.Kind.TheVariants.{Bytes, Chars, Blocks, Texts}
use Rattle.cd_elem.specs.declared.value.Value.{Value as Result}
use Rattle.cd_elem.specs.declared.value.Value.TheVariants as result
use Rattle.cd_meaning.specs.Stream.{Sort, Piece, present, Out}
use Rattle.cd_meaning.specs.RunShapes.{as_count}
use Rattle.cd_meaning.specs.Scan.{Go, Back}
use Rattle.cd_meaning.specs.Sorts.{value_of}
use Rattle.cd_meaning.specs.Values.{value_meaning, unit_is, bool_is, bytes_are, text_is, some_is}
use Rattle.cd_meaning.proofs.Rising.{le_self}
use Rattle.cd_step.specs.Parts.{Chunk, weight, weight_any, sort_at, pieces_at, bound_at, IsChunk, IsOf}
use Rattle.cd_step.proofs.PieceChunks.{piece_weight, piece_within, piece_chunk}
use Rattle.cd_pieces.specs.declared.due.Due.{Due}
use Rattle.cd_pieces.specs.declared.reply.PieceReply.TheVariants.{Skip, Give, End, Back as GivesBack}
use Rattle.cd_pieces.specs.declared.state.Test.{Test}
use Rattle.cd_pieces.specs.declared.spelled.Spelled.{Spelled}
use Rattle.cd_pieces.specs.declared.state.Change.{Change}
use Rattle.cd_pieces.specs.declared.state.Change.TheVariants as change
use Rattle.cd_pieces.specs.declared.state.WordState.TheVariants as state
use Rattle.cd_pieces.specs.declared.state.Sifting.TheVariants as sift
use Rattle.cd_pieces.specs.declared.state.Answering.TheVariants as answer
use Rattle.cd_pieces.specs.declared.state.Keeping.TheVariants as keep
use Rattle.cd_pieces.specs.declared.state.Making.TheVariants as make
use Rattle.cd_pieces.specs.Spelling.{spelled, passes, changed, longer_by}
use Rattle.cd_pieces.specs.Values.{piece_of, piece_value, result_at, listed}
use Rattle.cd_pieces.specs.Carried.{Answered, widened, or_back, sifting, keeping, making}
use Rattle.cd_pieces.specs.Stages.{due_acts, DueFits, IsLeftDue, Replies, asks_of}

-- ---- words that pass a piece on, drop it or give it back

pub pass_reply : (k : Kind) (c : Chunk) → IsChunk k c → Replies k (state.Sift sift.Pass) c (Give c None) (state.Sift sift.Pass)
pass_reply k c i = record { reply = refl; fits = (i, tt); same = (refl, λ h. h, le_self _); more = omega arith }

pub take_reply : (k : Kind) (c : Chunk) (n : ℕ) → asks_of (state.Sift (sift.Take n)) ≡ true → IsChunk k c → Replies k (state.Sift (sift.Take n)) c (Give c None) (state.Sift (sift.Take (n - 1)))
take_reply k c zero a i = cc
take_reply k c (suc n) a i = let h : suc n - 1 ≡ n = omega arith in rw h (record { reply = refl; fits = (i, tt); same = (refl, λ f. f, le_self _); more = omega arith })

pub while_pass : (k : Kind) (c : Chunk) (t : Test) → passes t c.1 ≡ true → IsChunk k c → Replies k (state.Sift (sift.TakeWhile t)) c (Give c None) (state.Sift (sift.TakeWhile t))
while_pass k c t h i = record { reply = ap (λ b. or_back b (Out (piece_of c) ∷ []) (sifting (sift.TakeWhile t))) h; fits = (i, tt); same = (refl, λ h. h, le_self _); more = omega arith }

pub while_back : (k : Kind) (c : Chunk) (t : Test) → passes t c.1 ≡ false → Replies k (state.Sift (sift.TakeWhile t)) c (GivesBack result.Unit c) (state.Sift (sift.TakeWhile t))
while_back k c t h = record { reply = ap (λ b. or_back b (Out (piece_of c) ∷ []) (sifting (sift.TakeWhile t))) h ∙ ap Back (sym unit_is); fits = refl; same = (refl, λ h. h, le_self _); more = omega arith }

pub filter_pass : (k : Kind) (c : Chunk) (t : Test) → passes t c.1 ≡ true → IsChunk k c → Replies k (state.Sift (sift.Filter t)) c (Give c None) (state.Sift (sift.Filter t))
filter_pass k c t h i = record { reply = rw h refl; fits = (i, tt); same = (refl, λ h. h, le_self _); more = omega arith }

pub filter_skip : (k : Kind) (c : Chunk) (t : Test) → passes t c.1 ≡ false → Replies k (state.Sift (sift.Filter t)) c Skip (state.Sift (sift.Filter t))
filter_skip k c t h = record { reply = rw h refl; fits = tt; same = (refl, λ h. h, le_self _); more = omega arith }

pub drop_reply : (k : Kind) (c : Chunk) (n : ℕ) → asks_of (state.Sift (sift.Drop n)) ≡ true → Replies k (state.Sift (sift.Drop n)) c Skip (state.Sift (sift.Drop (n - 1)))
drop_reply k c zero a = cc
drop_reply k c (suc n) a = let h : suc n - 1 ≡ n = omega arith in rw h (record { reply = refl; fits = tt; same = (refl, λ f. f, le_self _); more = omega arith })

pub drop_while_skip : (k : Kind) (c : Chunk) (t : Test) → passes t c.1 ≡ true → Replies k (state.Sift (sift.DropWhile t)) c Skip (state.Sift (sift.DropWhile t))
drop_while_skip k c t h = record { reply = ap (λ b. or_back b [] (sifting (sift.DropWhile t))) h; fits = tt; same = (refl, λ h. h, le_self _); more = omega arith }

pub drop_while_back : (k : Kind) (c : Chunk) (t : Test) → passes t c.1 ≡ false → Replies k (state.Sift (sift.DropWhile t)) c (GivesBack result.Unit c) (state.Sift (sift.DropWhile t))
drop_while_back k c t h = record { reply = ap (λ b. or_back b [] (sifting (sift.DropWhile t))) h ∙ ap Back (sym unit_is); fits = refl; same = (refl, λ h. h, le_self _); more = omega arith }

pub length_reply : (k : Kind) (c : Chunk) (n m : ℕ) → m ≡ as_count (n + 1) → Replies k (state.Sift (sift.Length n)) c Skip (state.Sift (sift.Length m))
length_reply k c n m h = rw h (record { reply = refl; fits = tt; same = (refl, λ f. f, le_self _); more = omega arith })

pub null_reply : (k : Kind) (c : Chunk) → Replies k (state.Sift sift.Null) c (GivesBack (result.Bool false) c) (state.Sift sift.Null)
null_reply k c = record { reply = ap Back (sym (bool_is false)); fits = refl; same = (refl, λ h. h, le_self _); more = omega arith }

pub sink_reply : (k : Kind) (c : Chunk) → Replies k (state.Sift sift.SinkNull) c Skip (state.Sift sift.SinkNull)
sink_reply k c = record { reply = refl; fits = tt; same = (refl, λ h. h, le_self _); more = omega arith }

-- ---- words that answer with a piece

piece_sorted : (k : Kind) (c : Chunk) (v : Result) → IsChunk k c → value_meaning v ≡ present (piece_value c) → value_meaning v ≡ present (value_of (sort_at k) (piece_of c))
piece_sorted k c v i h = h ∙ ap (λ s. present (value_of s (piece_of c))) i.1

piece_result : (s : Sort) (numbers : List ℕ) → is_cut s ≡ false → value_meaning (result_at s numbers) ≡ value_of s (Piece numbers)
piece_result Sort.Bytes numbers h = cc
piece_result Sort.Chars numbers h = cc
piece_result Sort.Block numbers h = bytes_are numbers
piece_result Sort.Text numbers h = text_is numbers

pub present_is : (v : Result) (c : Chunk) → is_cut c.0 ≡ false → v ≡ result_at c.0 c.1 → value_meaning (result.Maybe (Some v)) ≡ present (piece_value c)
present_is v c h e = some_is v ∙ ap present (ap value_meaning e ∙ piece_result c.0 c.1 h)

pub head_reply : (k : Kind) (c : Chunk) (v : Result) → value_meaning v ≡ present (piece_value c) → IsChunk k c → Replies k (state.Answer answer.Head) c (End v) (state.Answer answer.Head)
head_reply k c v h i = record { reply = ap (λ u. Go [] (Answered u)) (sym (piece_sorted k c v i h)); fits = tt; same = (refl, λ h. h, le_self _); more = omega arith }

pub peek_reply : (k : Kind) (c : Chunk) (v : Result) → value_meaning v ≡ present (piece_value c) → IsChunk k c → Replies k (state.Answer answer.Peek) c (GivesBack v c) (state.Answer answer.Peek)
peek_reply k c v h i = record { reply = ap Back (sym (piece_sorted k c v i h)); fits = refl; same = (refl, λ h. h, le_self _); more = omega arith }

-- ---- words that keep pieces

pub last_reply : (k : Kind) (c : Chunk) (o : Option Chunk) → IsChunk k c → Replies k (state.Keep (keep.Last o)) c Skip (state.Keep (keep.Last (Some c)))
last_reply k c o i = record {
  reply = ap (λ s. Go [] (keeping (keep.Last (Some (s, c.1))))) (sym i.1);
  fits = tt;
  same = (refl, λ h. i, le_self _);
  more = last_more (weight_any o) (weight c);
} where
  last_more : (n m : ℕ) → m ≤ n + m
  last_more n m = omega arith

result_weighs : (s : Sort) (numbers : List ℕ) (vs : List Result) → listed (vs ++ result_at s numbers ∷ []) ≡ listed vs + (length numbers + 1)
result_weighs Sort.Bytes numbers [] = rw (bytes_are numbers) (omega arith)
result_weighs Sort.Chars numbers [] = rw (text_is numbers) (omega arith)
result_weighs Sort.Block numbers [] = rw (bytes_are numbers) (omega arith)
result_weighs Sort.Text numbers [] = rw (text_is numbers) (omega arith)
result_weighs s numbers (v ∷ vs) = (let h = result_weighs s numbers vs in omega (arith, h))

-- what is listed counts the piece
pub piece_listed : (c : Chunk) (vs : List Result) → is_cut c.0 ≡ false → listed (vs ++ result_at c.0 c.1 ∷ []) ≡ listed vs + weight c
piece_listed c vs h = result_weighs c.0 c.1 vs ∙ ap (λ n. listed vs + n) (sym (piece_weight c.0 (length c.1) h))

collect_most : (n m w v b : ℕ) → w ≡ v + m → m ≤ b → n * b + w ≤ suc n * b + v
collect_most n m w v b e h = (let q : suc n * b ≡ n * b + b = suc_times n b in omega (arith, e, h, q)) where
  suc_times : (n b : ℕ) → suc n * b ≡ n * b + b
  suc_times n b = omega arith

pub collect_reply : (k : Kind) (c : Chunk) (n : ℕ) (vs : List Result) → asks_of (state.Keep (keep.Collect (n, vs))) ≡ true → is_cut c.0 ≡ false → IsChunk k c
    → Replies k (state.Keep (keep.Collect (n, vs))) c Skip (state.Keep (keep.Collect (n - 1, vs ++ result_at c.0 c.1 ∷ [])))
collect_reply k c zero vs a p i = cc
collect_reply k c (suc n) vs a p i =
    let h : suc n - 1 ≡ n = omega arith in
    let w = piece_listed c vs p in
    let z = piece_weight c.0 (length c.1) p in
    rw h (record {
      reply = ap (λ s. Go [] (keeping (keep.Collect (n, vs ++ result_at s c.1 ∷ [])))) (sym i.1);
      fits = tt;
      same = (refl, λ f. tt, collect_most n (weight c) (listed (vs ++ result_at c.0 c.1 ∷ [])) (listed vs) (bound_at k + 1) w (weight_most k c p i));
      more = omega (arith, w);
    }) where
      weight_most : (k : Kind) (c : Chunk) → is_cut c.0 ≡ false → IsChunk k c → weight c ≤ bound_at k + 1
      weight_most Bytes c p i = (let e = ap is_cut i.1 in cc)
      weight_most Chars c p i = (let e = ap is_cut i.1 in cc)
      weight_most (Blocks m) c p i = i.2
      weight_most (Texts m) c p i = i.2

-- ---- words that make pieces

wide_chunk : (k : Kind) (c d : Chunk) (n : ℕ) → is_cut c.0 ≡ false → IsChunk k c → d.0 ≡ c.0 → length d.1 ≤ n → IsChunk (widened k n) d
wide_chunk Bytes c d n p i s l = (let e = ap is_cut i.1 in cc)
wide_chunk Chars c d n p i s l = (let e = ap is_cut i.1 in cc)
wide_chunk (Blocks m) c d n p i s l = piece_chunk (Blocks n) d refl (s ∙ i.1) l
wide_chunk (Texts m) c d n p i s l = piece_chunk (Texts n) d refl (s ∙ i.1) l

of_pieces : (k : Kind) (c : Chunk) → is_cut c.0 ≡ false → IsChunk k c → pieces_at k ≡ true
of_pieces Bytes c p i = (let e = ap is_cut i.1 in cc)
of_pieces Chars c p i = (let e = ap is_cut i.1 in cc)
of_pieces (Blocks m) c p i = refl
of_pieces (Texts m) c p i = refl

changed_length : (m : Change) (numbers : List ℕ) → length (changed m numbers) ≡ length numbers + longer_by m
changed_length (change.Prefix l) numbers = (let h = length-append (spelled l) numbers in omega (arith, h))
changed_length (change.Suffix l) numbers = length-append numbers (spelled l)
changed_length change.Reverse numbers = (let h = length-reverse numbers in omega (arith, h))

pub change_reply : (k : Kind) (c d : Chunk) (m : Change) → d ≡ (c.0, changed m c.1) → is_cut c.0 ≡ false → IsChunk k c → Replies k (state.Make (make.Change m)) c (Give d None) (state.Make (make.Change m))
change_reply k c d m h p i = record {
  reply = ap (λ l. Go (Out (Piece l) ∷ []) (making (make.Change m))) (sym (ap (λ x. x.1) h));
  fits = (
    wide_chunk k c d (bound_at k + longer_by m) p i (ap (λ x. x.0) h) (
        let e = ap (λ x. length x.1) h in
        let l = changed_length m c.1 in
        let w = piece_within k c (of_pieces k c p i) i in
        omega (arith, e, l, w)
        ),
    tt,
  );
  same = (refl, λ h. h, le_self _);
  more = omega arith;
}

pub repeat_none : (k : Kind) (c : Chunk) → Replies k (state.Make (make.Repeat 0)) c Skip (state.Make (make.Repeat 0))
repeat_none k c = record { reply = refl; fits = tt; same = (refl, λ h. h, le_self _); more = omega arith }

-- what is left of the times that a piece is given
left_fits : (k : Kind) (j : Option Kind) (c : Chunk) (n : ℕ) (due : Option Due) → IsLeftDue (record { piece = c; times = n }) due → IsChunk k c → IsOf j c → DueFits k j due
left_fits k j c n None h i o = tt
left_fits k j c n (Some d) h i o = (h.0, subst (IsChunk k) (sym h.1) i, subst (IsOf j) (sym h.1) o)

pub repeat_reply : (k : Kind) (c d : Chunk) (n : ℕ) (due : Option Due) → d ≡ c → Out (piece_of c) ∷ due_acts due ≡ due_acts (Some (record { piece = c; times = n })) → IsLeftDue (record { piece = c; times = n }) due → IsChunk k c
    → Replies k (state.Make (make.Repeat n)) c (Give d due) (state.Make (make.Repeat n))
repeat_reply k c d n due h a l i =
    rw h (record {
      reply = ap (λ acts. Go acts (making (make.Repeat n))) (sym a);
      fits = (i, left_fits k (Some k) c n due l i i);
      same = (refl, λ h. h, le_self _);
      more = omega arith;
    })

pub between_first : (k : Kind) (c : Chunk) (l : Spelled) → is_cut c.0 ≡ false → IsChunk k c → Replies k (state.Make (make.Intersperse l true)) c (Give c None) (state.Make (make.Intersperse l false))
between_first k c l p i = record {
  reply = refl;
  fits = (wide_chunk k c c (max (bound_at k) (length (spelled l))) p i refl (let w = piece_within k c (of_pieces k c p i) i in let m = max_left (bound_at k) (length (spelled l)) in omega (arith, w, m)), tt);
  same = (refl, λ h. h, le_self _);
  more = omega arith;
} where
  max_left : (n m : ℕ) → n ≤ max n m
  max_left n m = omega arith

pub between_reply : (k : Kind) (c d : Chunk) (l : Spelled) → d.0 ≡ c.0 → d.1 ≡ spelled l → is_cut c.0 ≡ false → IsChunk k c
    → Replies k (state.Make (make.Intersperse l false)) c (Give d (Some (record { piece = c; times = 1 }))) (state.Make (make.Intersperse l false))
between_reply k c d l s e p i = record {
  reply = ap (λ x. Go (Out (Piece x) ∷ Out (piece_of c) ∷ []) (making (make.Intersperse l false))) (sym e);
  fits = (
    wide_chunk k c d (max (bound_at k) (length (spelled l))) p i s (let f = ap length e in let m = max_right (bound_at k) (length (spelled l)) in omega (arith, f, m)),
    (omega arith, i, wide_chunk k c c (max (bound_at k) (length (spelled l))) p i refl (let w = piece_within k c (of_pieces k c p i) i in let m = max_left (bound_at k) (length (spelled l)) in omega (arith, w, m))),
  );
  same = (refl, λ h. h, le_self _);
  more = omega arith;
} where
  max_left : (n m : ℕ) → n ≤ max n m
  max_left n m = omega arith

  max_right : (n m : ℕ) → m ≤ max n m
  max_right n m = omega arith
