-- The splitters as the rules say them, each on an empty input, one that ends and one that waits.
use Rattle.std.specs.Prelude.{◌≡◌, List, ℕ, refl, [], codes, map}
use Rattle.cd_meaning.specs.Stream.{Item, Elem, Ended}
use Rattle.cd_meaning.specs.PlainSplitters.{plain_chunks_of, plain_exact, plain_split}
use Rattle.cd_meaning.specs.Rows.Given.{at_end, gives_piece, late_piece, waiting, waits_past}

abbrev of : List ℕ → List Item
of = map Elem

split_empty : plain_split 44 4 [] Ended ≡ at_end 0
split_empty = refl

split_last : plain_split 44 4 (of (codes "a,,b")) Ended ≡ gives_piece 2 (codes "a") (gives_piece 3 [] (late_piece 4 (codes "b") (at_end 4)))
split_last = refl

split_no_last : plain_split 44 4 (of (codes "a,")) Ended ≡ gives_piece 2 (codes "a") (at_end 2)
split_no_last = refl

split_waits : plain_split 44 4 (of (codes "a,b")) waiting ≡ gives_piece 2 (codes "a") (waits_past 3)
split_waits = refl

-- a full piece is at its last element, and no empty one is behind it
split_full : plain_split 44 2 (of (codes "abcd,e")) Ended ≡ gives_piece 2 (codes "ab") (gives_piece 4 (codes "cd") (late_piece 6 (codes "e") (at_end 6)))
split_full = refl

split_short : plain_split 44 2 (of (codes "abc,")) Ended ≡ gives_piece 2 (codes "ab") (gives_piece 4 (codes "c") (at_end 4))
split_short = refl

split_last_full : plain_split 44 2 (of (codes "ab")) Ended ≡ gives_piece 2 (codes "ab") (at_end 2)
split_last_full = refl

-- on the second line, places go on from those of the first
split_second : plain_split 44 2 (of (codes "a,bcd,")) Ended ≡ gives_piece 2 (codes "a") (gives_piece 4 (codes "bc") (gives_piece 6 (codes "d") (at_end 6)))
split_second = refl

exact_empty : plain_exact 3 [] Ended ≡ at_end 0
exact_empty = refl

exact_short : plain_exact 2 (of (codes "abcde")) Ended ≡ gives_piece 2 (codes "ab") (gives_piece 4 (codes "cd") (at_end 5))
exact_short = refl

exact_waits : plain_exact 3 (of (codes "abcde")) waiting ≡ gives_piece 3 (codes "abc") (waits_past 5)
exact_waits = refl

chunks_of_empty : plain_chunks_of 3 [] Ended ≡ at_end 0
chunks_of_empty = refl

chunks_of_short : plain_chunks_of 3 (of (codes "abcde")) Ended ≡ gives_piece 3 (codes "abc") (late_piece 5 (codes "de") (at_end 5))
chunks_of_short = refl

chunks_of_waits : plain_chunks_of 3 (of (codes "abcde")) waiting ≡ gives_piece 3 (codes "abc") (waits_past 5)
chunks_of_waits = refl

chunks_of_full : plain_chunks_of 2 (of (codes "abcd")) Ended ≡ gives_piece 2 (codes "ab") (gives_piece 4 (codes "cd") (at_end 4))
chunks_of_full = refl
