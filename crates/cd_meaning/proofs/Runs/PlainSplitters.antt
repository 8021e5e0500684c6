-- The splitters are what the rules say of whole lists.
use Rattle.std.proofs.Common.{◌≡◌, ℕ, zero, suc, ◌+◌, ◌*◌, ◌/◌, ◌<◌, ◌≤◌, min, ◌⊎◌, inl, inr, Bool, true, false, ◌==◌, if◌then◌else◌, List, [], ◌∷◌, ◌++◌, length, map, take, drop, refl, ap, sym, ◌∙◌, arith, append_assoc, length-append}
use Rattle.std.proofs.Math.Nat.{div-eq_of_lt, div-zero, add-div_right}
use Rattle.std.proofs.lemmas.Bool.{eqb-true, eqb-false}
use Rattle.std.proofs.lemmas.List.{append-nil, take_at, drop_at, drop-drop}
use Rattle.std.proofs.lemmas.List.Splits.{slice_split-cons_yes, slice_split-cons_no, length-slice_split}
use Rattle.std.specs.List.{range_with_len, slice_split, onto_first}
use Rattle.cd_meaning.specs.Stream.{Item, Piece, Value, End, Ended, Halted, Out}
use Rattle.cd_meaning.specs.Run.{Stamp, stamp, at_need, Run, Then, Component, outs_at, past}
use Rattle.cd_meaning.specs.RunShapes.{number, piece}
use Rattle.cd_meaning.specs.Splitters.{no_piece, short_piece, grouped, exact, chunks_of, line_end, lines_from, split}
use Rattle.cd_meaning.specs.PlainSplitters.{PieceAt, comes_at, whole_pieces, short_rest, rest_piece, all_pieces, line_pieces, pieces_of_lines, pieces_out, gives_pieces, plain_exact, plain_chunks_of, plain_split}
use Rattle.cd_meaning.specs.Laws.{cut, IsRun}
use Rattle.cd_meaning.proofs.Runs.Splitters.{grouped_is_run, split_is_run}

-- ---- a list of less than n, and one that begins with a whole piece

-- too few for a piece of n; no count is a piece of 0
abbrev IsFew : ℕ → ℕ → Type 0
IsFew n count = (n ≡ 0) ⊎ (count < n)

few_div : (n count : ℕ) → IsFew n count → count / n ≡ 0
few_div n count (inl e) = ap (λ m. count / m) e ∙ div-zero count
few_div n count (inr l) = div-eq_of_lt l

few_whole : (n b : ℕ) (xs : List Item) → IsFew n (length xs) → whole_pieces n b xs ≡ []
few_whole n b xs f = rw (few_div n (length xs) f)

few_rest : (n : ℕ) (xs : List Item) → IsFew n (length xs) → short_rest n xs ≡ xs
few_rest n xs f = (let e : length xs / n * n ≡ 0 = rw (few_div n (length xs) f) (omega arith) in rw e)

few_nil : (n : ℕ) → IsFew n 0
few_nil zero = inl refl
few_nil (suc n) = inr (omega arith)

-- the same function of each place, from one on and from none on
each_next : (f g : ℕ → PieceAt) (a m : ℕ) → ((k : ℕ) → f (k + 1) ≡ g k) → map f (range_with_len (a + 1) m) ≡ map g (range_with_len a m)
each_next f g a zero h = refl
each_next f g a (suc m) h = rw (h a, each_next f g (a + 1) m h)

more_div : (n : ℕ) (block xs : List Item) → length block ≡ n → 0 < n → length (block ++ xs) / n ≡ suc (length xs / n)
more_div n block xs e l = (let k : length (block ++ xs) ≡ length xs + n = omega (arith, length-append block xs) in rw (k, add-div_right (length xs) l) (omega arith))

behind_block : (n k : ℕ) (block xs : List Item) → length block ≡ n → drop ((k + 1) * n) (block ++ xs) ≡ drop (k * n) xs
behind_block n k block xs e = (let m : (k + 1) * n ≡ n + k * n = omega arith in rw m (sym (drop-drop (k * n) n (block ++ xs)) ∙ ap (drop (k * n)) (drop_at block xs n e)))

piece_same : (i j : ℕ) (xs ys : List Item) → i ≡ j → xs ≡ ys → comes_at i xs ≡ comes_at j ys
piece_same i j xs ys h k = rw (h, k)

more_whole : (n b c : ℕ) (block xs : List Item) → length block ≡ n → 0 < n → c ≡ b + n → whole_pieces n b (block ++ xs) ≡ comes_at c block ∷ whole_pieces n c xs
more_whole n b c block xs e l h =
    let f = λ (k : ℕ). comes_at (b + (k + 1) * n) (take n (drop (k * n) (block ++ xs))) in
    let g = λ (k : ℕ). comes_at (c + (k + 1) * n) (take n (drop (k * n) xs)) in
    let m = length xs / n in
    let none : 0 * n ≡ 0 = omega arith in
    let front : take n (drop (0 * n) (block ++ xs)) ≡ block = rw none (take_at block xs n e) in
    let first : f 0 ≡ comes_at c block = piece_same _ _ _ _ (omega (arith, h)) front in
    ap (λ k. map f (range_with_len 0 k)) (more_div n block xs e l)
    ∙ ap (λ p. p ∷ map f (range_with_len 1 m)) first
    ∙ ap (λ ps. comes_at c block ∷ ps) (each_next f g 0 m (λ k. piece_same _ _ _ _ (omega (arith, h)) (ap (take n) (behind_block n k block xs e))))

more_rest : (n : ℕ) (block xs : List Item) → length block ≡ n → 0 < n → short_rest n (block ++ xs) ≡ short_rest n xs
more_rest n block xs e l =
    let m = length xs / n in
    let k : suc m * n ≡ (m + 1) * n = omega arith in
    ap (λ j. drop (j * n) (block ++ xs)) (more_div n block xs e l) ∙ ap (λ j. drop j (block ++ xs)) k ∙ behind_block n m block xs e

-- ---- pieces of n

-- the stamp of what comes within the list
stamp_within : (n need : ℕ) → need ≤ n → at_need n need ≡ stamp need need
stamp_within n need l = (let e : min need n ≡ need = omega arith in rw e)

chosen : (b : Bool) (r1 r2 r : Run) → (b ≡ true → r1 ≡ r) → (b ≡ false → r2 ≡ r) → (if b then r1 else r2) ≡ r
chosen true r1 r2 r f g = f refl
chosen false r1 r2 r f g = g refl

-- one more is held, and they are few still
few_more : (n : ℕ) (held : List Item) (x : Item) → IsFew n (length held) → (length held + 1 == n) ≡ false → IsFew n (length (held ++ x ∷ []))
few_more n held x (inl e) d = inl e
few_more n held x (inr l) d = (let k : length (held ++ x ∷ []) ≡ length held + 1 = omega (arith, length-append held (x ∷ [])) in let o = eqb-false (length held + 1) n d in inr (omega arith))

-- i elements stand before xs, of which the last are held, and b before those
grouped_plain : (short : List Item → List Item) (n m b i : ℕ) (held xs : List Item) → IsFew n (length held) → i ≡ b + length held → m ≡ i + length xs
    → grouped short n i held xs Ended ≡ pieces_out m (whole_pieces n b (held ++ xs)) (outs_at (stamp (suc m) m) (short (short_rest n (held ++ xs))) (past m Ended Value.Unit))
grouped_plain short n m b i held [] f h k =
    let e : m ≡ i = omega (arith, k) in
    rw (append-nil held, few_whole n b held f, few_rest n held f, e)
grouped_plain short n m b i held (x ∷ xs) f h k =
    chosen (length held + 1 == n) _ _ _
    (λ d.
    let full : length held + 1 ≡ n = eqb-true (length held + 1) n d in
    let block = held ++ x ∷ [] in
    let size : length block ≡ n = omega (arith, length-append held (x ∷ [])) in
    let some : 0 < n = omega arith in
    let here : suc i ≡ b + n = omega arith in
    let within : suc i ≤ m = omega (arith, k) in
    ap (Then (stamp (suc i) (suc i)) (Out (piece block))) (grouped_plain short n m (suc i) (suc i) [] xs (few_nil n) (omega arith) (omega (arith, k)))
    ∙ rw (sym (append_assoc held (x ∷ []) xs), more_whole n b (suc i) block xs size some here, more_rest n block xs size some, stamp_within m (suc i) within))
    (λ d.
    let held' = held ++ x ∷ [] in
    grouped_plain short n m b (suc i) held' xs (few_more n held x f d) (omega (arith, length-append held (x ∷ []))) (omega (arith, k))
    ∙ rw (append_assoc held (x ∷ []) xs))

-- ---- runs of pieces

pieces_append : (n : ℕ) (ps qs : List PieceAt) (r : Run) → pieces_out n (ps ++ qs) r ≡ pieces_out n ps (pieces_out n qs r)
pieces_append n [] qs r = refl
pieces_append n (p ∷ ps) qs r = ap (Then (at_need n p.at) (Out (piece p.held))) (pieces_append n ps qs r)

rest_out : (n at : ℕ) (s : Stamp) (xs : List Item) (r : Run) → at_need n at ≡ s → pieces_out n (rest_piece at xs) r ≡ outs_at s (short_piece xs) r
rest_out n at s [] r h = refl
rest_out n at s (x ∷ xs) r h = ap (λ t. Then t (Out (piece (x ∷ xs))) r) h

-- the stamp of what comes at the end
stamp_behind : (n need : ℕ) → need ≡ suc n → at_need n need ≡ stamp (suc n) n
stamp_behind n need h = (let e : min (suc n) n ≡ n = omega arith in rw (h, e))

-- what holds where the input ends, holds where nothing further is known
as_far_as_known : (f : Component) (pieces : List Item → List PieceAt) → IsRun f → ((xs : List Item) → f xs Ended ≡ gives_pieces pieces xs Ended) → (xs : List Item) (e : End) → f xs e ≡ gives_pieces pieces xs e
as_far_as_known f pieces k h xs Ended = h xs
as_far_as_known f pieces k h xs (Halted x) = k.known xs [] x Ended ∙ ap (cut (length xs) x) (ap (λ ys. f ys Ended) (append-nil xs) ∙ h xs)

pub exact_is_plain : (n : ℕ) (xs : List Item) (e : End) → exact n xs e ≡ plain_exact n xs e
exact_is_plain n =
    as_far_as_known (exact n) (whole_pieces n 0) (grouped_is_run no_piece n)
    (λ xs. grouped_plain no_piece n (length xs) 0 0 [] xs (few_nil n) (omega arith) (omega arith))

pub chunks_of_is_plain : (n : ℕ) (xs : List Item) (e : End) → chunks_of n xs e ≡ plain_chunks_of n xs e
chunks_of_is_plain n =
    as_far_as_known (chunks_of n) (all_pieces n 0) (grouped_is_run short_piece n)
    (λ xs.
    let m = length xs in
    let r = past m Ended Value.Unit in
    grouped_plain short_piece n m 0 0 [] xs (few_nil n) (omega arith) (omega arith)
    ∙ sym (ap (pieces_out m (whole_pieces n 0 xs)) (rest_out m (0 + m + 1) (stamp (suc m) m) (short_rest n xs) r (stamp_behind m (0 + m + 1) (omega arith))))
    ∙ sym (pieces_append m (whole_pieces n 0 xs) (rest_piece (0 + m + 1) (short_rest n xs)) r))

-- ---- lines

-- the pieces of a line that a separator ends, or of what is left of one that has given some
abbrev line_left : ℕ → ℕ → Bool → List Item → List PieceAt
line_left n b true xs = line_pieces n b xs
line_left n b false xs = all_pieces n b xs

-- the pieces of lines, where the first one has these held in front of it, and has given none or some
abbrev lines_left : ℕ → ℕ → Bool → List Item → List (List Item) → List PieceAt
lines_left n b fresh held [] = []
lines_left n b fresh held (last ∷ []) = all_pieces n b (held ++ last)
lines_left n b fresh held (line ∷ next ∷ more) = line_left n b fresh (held ++ line) ++ pieces_of_lines n (b + length (held ++ line) + 1) (next ∷ more)

left_fresh : (n b : ℕ) (lines : List (List Item)) → lines_left n b true [] lines ≡ pieces_of_lines n b lines
left_fresh n b [] = refl
left_fresh n b (last ∷ []) = refl
left_fresh n b (line ∷ next ∷ more) = refl

more_all : (n b c : ℕ) (block xs : List Item) → length block ≡ n → 0 < n → c ≡ b + n → all_pieces n b (block ++ xs) ≡ comes_at c block ∷ all_pieces n c xs
more_all n b c block xs e l h =
    let k : b + length (block ++ xs) + 1 ≡ c + length xs + 1 = omega (arith, length-append block xs) in
    rw (k, more_whole n b c block xs e l h, more_rest n block xs e l)

-- a line that has an element has no empty piece
left_some : (n b : ℕ) (fresh : Bool) (held : List Item) (x : Item) (xs : List Item) → line_left n b fresh (held ++ x ∷ xs) ≡ all_pieces n b (held ++ x ∷ xs)
left_some n b true [] x xs = refl
left_some n b true (y ∷ held) x xs = refl
left_some n b false held x xs = refl

few_all : (n b : ℕ) (xs : List Item) → IsFew n (length xs) → all_pieces n b xs ≡ rest_piece (b + length xs + 1) xs
few_all n b xs f = rw (few_whole n b xs f, few_rest n xs f)

-- what a separator ends
few_left : (n m b : ℕ) (fresh : Bool) (held : List Item) (r : Run) (s : Stamp) → IsFew n (length held) → at_need m (b + length held + 1) ≡ s
    → pieces_out m (line_left n b fresh held) r ≡ outs_at s (line_end fresh held) r
few_left n m b true [] r s f h = (let e : b + 1 ≡ b + length {A = Item} [] + 1 = omega arith in ap (λ t. Then t (Out (Piece [])) r) (ap (at_need m) e ∙ h))
few_left n m b false [] r s f h = ap (λ ps. pieces_out m ps r) (few_all n b [] f)
few_left n m b true (x ∷ held) r s f h = ap (λ ps. pieces_out m ps r) (few_all n b (x ∷ held) f) ∙ rest_out m (b + length (x ∷ held) + 1) s (x ∷ held) r h
few_left n m b false (x ∷ held) r s f h = ap (λ ps. pieces_out m ps r) (few_all n b (x ∷ held) f) ∙ rest_out m (b + length (x ∷ held) + 1) s (x ∷ held) r h

-- one more element is held in front of the lines
held_first : (n b : ℕ) (fresh : Bool) (held : List Item) (x : Item) (lines : List (List Item)) → 0 < length lines
    → lines_left n b fresh held (onto_first x lines) ≡ lines_left n b fresh (held ++ x ∷ []) lines
held_first n b fresh held x [] l = absurd (omega arith)
held_first n b fresh held x (last ∷ []) l = ap (all_pieces n b) (sym (append_assoc held (x ∷ []) last))
held_first n b fresh held x (line ∷ next ∷ more) l =
    ap (λ w. line_left n b fresh w ++ pieces_of_lines n (b + length w + 1) (next ∷ more)) (sym (append_assoc held (x ∷ []) line))

-- it fills a piece
full_first : (n b c : ℕ) (fresh : Bool) (held : List Item) (x : Item) (lines : List (List Item)) → 0 < length lines → length held + 1 ≡ n → c ≡ b + n
    → lines_left n b fresh held (onto_first x lines) ≡ comes_at c (held ++ x ∷ []) ∷ lines_left n c false [] lines
full_first n b c fresh held x [] l e h = absurd (omega arith)
full_first n b c fresh held x (last ∷ []) l e h =
    ap (all_pieces n b) (sym (append_assoc held (x ∷ []) last)) ∙ more_all n b c (held ++ x ∷ []) last (omega (arith, length-append held (x ∷ []))) (omega arith) h
full_first n b c fresh held x (line ∷ next ∷ more) l e h =
    let size : length (held ++ x ∷ line) ≡ n + length line = omega (arith, length-append held (x ∷ line)) in
    let place : b + length (held ++ x ∷ line) + 1 ≡ c + length line + 1 = omega (arith, h, size) in
    ap (λ ps. ps ++ pieces_of_lines n (b + length (held ++ x ∷ line) + 1) (next ∷ more))
    (left_some n b fresh held x line
    ∙ ap (all_pieces n b) (sym (append_assoc held (x ∷ []) line))
    ∙ more_all n b c (held ++ x ∷ []) line (omega (arith, length-append held (x ∷ []))) (omega arith) h)
    ∙ ap (λ j. comes_at c (held ++ x ∷ []) ∷ all_pieces n c line ++ pieces_of_lines n j (next ∷ more)) place

-- the line ends
none_first : (n b : ℕ) (fresh : Bool) (held : List Item) (lines : List (List Item)) → 0 < length lines
    → lines_left n b fresh held ([] ∷ lines) ≡ line_left n b fresh held ++ pieces_of_lines n (b + length held + 1) lines
none_first n b fresh held [] l = absurd (omega arith)
none_first n b fresh held (next ∷ more) l = ap (λ w. line_left n b fresh w ++ pieces_of_lines n (b + length w + 1) (next ∷ more)) (append-nil held)

module _ (separator n m : ℕ) where
  abbrev ends_line : Item → Bool
  ends_line x = number x == separator

  some_line : (xs : List Item) → 0 < length (slice_split ends_line xs)
  some_line xs = omega (arith, length-slice_split ends_line xs)

  -- i elements stand before xs, of which the last are held, and b before those
  split_plain : (b i : ℕ) (fresh : Bool) (held xs : List Item) → IsFew n (length held) → i ≡ b + length held → m ≡ i + length xs
      → lines_from separator n i fresh held xs Ended ≡ pieces_out m (lines_left n b fresh held (slice_split ends_line xs)) (past m Ended Value.Unit)
  split_plain b i fresh held [] f h k =
      let e : m ≡ i = omega (arith, k) in
      let r = past m Ended Value.Unit in
      ap (λ j. outs_at (stamp (suc j) j) (short_piece held) (past j Ended Value.Unit)) (sym e)
      ∙ sym (rest_out m (b + length held + 1) (stamp (suc m) m) held r (stamp_behind m (b + length held + 1) (omega (arith, h, e))))
      ∙ ap (λ ps. pieces_out m ps r) (sym (few_all n b held f) ∙ ap (all_pieces n b) (sym (append-nil held)))
  split_plain b i fresh held (x ∷ xs) f h k =
      let lines = slice_split ends_line xs in
      let some = some_line xs in
      let r = past m Ended Value.Unit in
      let within : suc i ≤ m = omega (arith, k) in
      let here = stamp_within m (suc i) within in
      let place : b + length held + 1 ≡ suc i = omega (arith, h) in
      chosen (ends_line x) _ _ _
      (λ d.
      ap (outs_at (stamp (suc i) (suc i)) (line_end fresh held)) (split_plain (suc i) (suc i) true [] xs (few_nil n) (omega arith) (omega (arith, k)) ∙ ap (λ ps. pieces_out m ps r) (left_fresh n (suc i) lines))
      ∙ sym (few_left n m b fresh held (pieces_out m (pieces_of_lines n (suc i) lines) r) (stamp (suc i) (suc i)) f (ap (at_need m) place ∙ here))
      ∙ sym (pieces_append m (line_left n b fresh held) (pieces_of_lines n (suc i) lines) r)
      ∙ ap (λ ps. pieces_out m ps r)
      (ap (λ j. line_left n b fresh held ++ pieces_of_lines n j lines) (sym place)
      ∙ sym (none_first n b fresh held lines some)
      ∙ ap (lines_left n b fresh held) (sym (slice_split-cons_yes ends_line x xs d))))
      (λ d.
      chosen (length held + 1 == n) _ _ _
      (λ q.
      let full : length held + 1 ≡ n = eqb-true (length held + 1) n q in
      ap (Then (stamp (suc i) (suc i)) (Out (piece (held ++ x ∷ [])))) (split_plain (suc i) (suc i) false [] xs (few_nil n) (omega arith) (omega (arith, k)))
      ∙ ap (λ t. Then t (Out (piece (held ++ x ∷ []))) (pieces_out m (lines_left n (suc i) false [] lines) r)) (sym here)
      ∙ ap (λ ps. pieces_out m ps r) (sym (full_first n b (suc i) fresh held x lines some full (omega (arith, h))) ∙ ap (lines_left n b fresh held) (sym (slice_split-cons_no ends_line x xs d))))
      (λ q.
      split_plain b (suc i) fresh (held ++ x ∷ []) xs (few_more n held x f q) (omega (arith, length-append held (x ∷ []))) (omega (arith, k))
      ∙ ap (λ ps. pieces_out m ps r) (sym (held_first n b fresh held x lines some) ∙ ap (lines_left n b fresh held) (sym (slice_split-cons_no ends_line x xs d)))))

pub split_is_plain : (separator n : ℕ) (xs : List Item) (e : End) → split separator n xs e ≡ plain_split separator n xs e
split_is_plain separator n =
    as_far_as_known (split separator n) (λ xs. pieces_of_lines n 0 (slice_split (λ x. number x == separator) xs)) (split_is_run separator n)
    (λ xs.
    let m = length xs in
    let lines = slice_split (λ x. number x == separator) xs in
    split_plain separator n m 0 0 true [] xs (few_nil n) (omega arith) (omega arith) ∙ ap (λ ps. pieces_out m ps (past m Ended Value.Unit)) (left_fresh n 0 lines))
