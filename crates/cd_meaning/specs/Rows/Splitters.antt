-- The splitters, each on an empty input, one that ends and one that waits.
use Rattle.std.specs.Prelude.{◌≡◌, [], ◌∷◌, codes}
use Rattle.cd_meaning.specs.Stream.{Ended}
use Rattle.cd_meaning.specs.Rows.Short.{chunks_of_word, exact_word, flat_word, lines_word, split_word, unlines_word}
use Rattle.cd_meaning.specs.Rows.Given.{rows, at_end, gives_elem, gives_piece, late_piece, on_blocks, on_bytes, on_chars, waiting, waits_past}

-- `lines`: a full piece comes at its last element, a shorter one at what ends its line
lines_empty : on_bytes (lines_word 4) [] Ended ≡ at_end 0
lines_empty = simp rows

lines_short : on_bytes (lines_word 4) (codes "ab\n\nc") Ended ≡ gives_piece 3 (codes "ab") (gives_piece 4 [] (late_piece 5 (codes "c") (at_end 5)))
lines_short = simp rows

lines_waits : on_bytes (lines_word 4) (codes "ab\nc") waiting ≡ gives_piece 3 (codes "ab") (waits_past 4)
lines_waits = simp rows

lines_full : on_bytes (lines_word 2) (codes "abcd\ne") Ended ≡ gives_piece 2 (codes "ab") (gives_piece 4 (codes "cd") (late_piece 6 (codes "e") (at_end 6)))
lines_full = simp rows

lines_cut : on_bytes (lines_word 2) (codes "abc\n") Ended ≡ gives_piece 2 (codes "ab") (gives_piece 4 (codes "c") (at_end 4))
lines_cut = simp rows

lines_last_full : on_bytes (lines_word 2) (codes "ab") Ended ≡ gives_piece 2 (codes "ab") (at_end 2)
lines_last_full = simp rows

lines_single : on_chars (lines_word 1) (8364 ∷ 10 ∷ 10 ∷ []) Ended ≡ gives_piece 1 (8364 ∷ []) (gives_piece 3 [] (at_end 3))
lines_single = simp rows

-- `split`
split_empty : on_bytes (split_word 44 4) [] Ended ≡ at_end 0
split_empty = simp rows

split_short : on_bytes (split_word 44 4) (codes "a,b") Ended ≡ gives_piece 2 (codes "a") (late_piece 3 (codes "b") (at_end 3))
split_short = simp rows

split_waits : on_bytes (split_word 44 4) (codes "a,b") waiting ≡ gives_piece 2 (codes "a") (waits_past 3)
split_waits = simp rows

split_ends : on_bytes (split_word 44 4) (codes "a,") Ended ≡ gives_piece 2 (codes "a") (at_end 2)
split_ends = simp rows

split_only : on_chars (split_word 8364 4) (8364 ∷ 8364 ∷ []) Ended ≡ gives_piece 1 [] (gives_piece 2 [] (at_end 2))
split_only = simp rows

-- `exact` drops a short rest, `chunksOf` gives it
exact_empty : on_bytes (exact_word 3) [] Ended ≡ at_end 0
exact_empty = simp rows

exact_short : on_bytes (exact_word 3) (codes "abcde") Ended ≡ gives_piece 3 (codes "abc") (at_end 5)
exact_short = simp rows

exact_waits : on_bytes (exact_word 3) (codes "abcde") waiting ≡ gives_piece 3 (codes "abc") (waits_past 5)
exact_waits = simp rows

exact_full : on_bytes (exact_word 2) (codes "abcd") Ended ≡ gives_piece 2 (codes "ab") (gives_piece 4 (codes "cd") (at_end 4))
exact_full = simp rows

chunks_of_empty : on_bytes (chunks_of_word 3) [] Ended ≡ at_end 0
chunks_of_empty = simp rows

chunks_of_short : on_bytes (chunks_of_word 3) (codes "abcde") Ended ≡ gives_piece 3 (codes "abc") (late_piece 5 (codes "de") (at_end 5))
chunks_of_short = simp rows

chunks_of_waits : on_bytes (chunks_of_word 3) (codes "abcde") waiting ≡ gives_piece 3 (codes "abc") (waits_past 5)
chunks_of_waits = simp rows

chunks_of_full : on_bytes (chunks_of_word 2) (codes "abcd") Ended ≡ gives_piece 2 (codes "ab") (gives_piece 4 (codes "cd") (at_end 4))
chunks_of_full = simp rows

chunks_of_single : on_bytes (chunks_of_word 1) (codes "ab") Ended ≡ gives_piece 1 (codes "a") (gives_piece 2 (codes "b") (at_end 2))
chunks_of_single = simp rows

-- `flat` and `unlines`
flat_empty : on_blocks flat_word [] Ended ≡ at_end 0
flat_empty = simp rows

flat_short : on_blocks flat_word (codes "ab" ∷ [] ∷ codes "c" ∷ []) Ended ≡ gives_elem 1 97 (gives_elem 1 98 (gives_elem 3 99 (at_end 3)))
flat_short = simp rows

flat_waits : on_blocks flat_word (codes "ab" ∷ []) waiting ≡ gives_elem 1 97 (gives_elem 1 98 (waits_past 1))
flat_waits = simp rows

unlines_empty : on_blocks unlines_word [] Ended ≡ at_end 0
unlines_empty = simp rows

unlines_short : on_blocks unlines_word (codes "ab" ∷ [] ∷ []) Ended ≡ gives_elem 1 97 (gives_elem 1 98 (gives_elem 1 10 (gives_elem 2 10 (at_end 2))))
unlines_short = simp rows

unlines_waits : on_blocks unlines_word (codes "a" ∷ []) waiting ≡ gives_elem 1 97 (gives_elem 1 10 (waits_past 1))
unlines_waits = simp rows
