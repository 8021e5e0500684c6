-- The words on pieces, each on an empty input, an input that ends before the word does, one that waits, and where the word ends by itself.
use Rattle.std.specs.Prelude.{◌≡◌, [], ◌∷◌, codes, true, false}
use Rattle.std.specs.Str.{chars}
use Rattle.cd_meaning.specs.Stream.{Another, Ended, NoValues, Value, absent, present}
use Rattle.cd_meaning.specs.Rows.Short.{begins, collect_word, drop_while_word, drop_word, empty, ends, filter_word, head_word, intersperse_word, last_word, length_word, map_word, not_test, null_word, pass_word, peek_word, prefix, repeat_word, reversed, shorter, suffix, take_while_word, take_word}
use Rattle.cd_meaning.specs.Rows.Given.{rows, at_end, done_at, gives_piece, on_blocks, on_texts, waiting, waits_past}

-- `pass`; a piece may be empty
pass_empty : on_blocks pass_word [] Ended ≡ at_end 0
pass_empty = simp rows

pass_short : on_blocks pass_word (codes "ab" ∷ [] ∷ []) Ended ≡ gives_piece 1 (codes "ab") (gives_piece 2 [] (at_end 2))
pass_short = simp rows

pass_waits : on_blocks pass_word (codes "ab" ∷ []) waiting ≡ gives_piece 1 (codes "ab") (waits_past 1)
pass_waits = simp rows

-- `take`
take_empty : on_blocks (take_word 2) [] Ended ≡ at_end 0
take_empty = simp rows

take_short : on_blocks (take_word 2) (codes "a" ∷ []) Ended ≡ gives_piece 1 (codes "a") (at_end 1)
take_short = simp rows

take_waits : on_blocks (take_word 2) (codes "a" ∷ []) waiting ≡ gives_piece 1 (codes "a") (waits_past 1)
take_waits = simp rows

take_ends : on_blocks (take_word 2) (codes "a" ∷ codes "b" ∷ codes "c" ∷ []) waiting ≡ gives_piece 1 (codes "a") (gives_piece 2 (codes "b") (done_at 2 2 Value.Unit))
take_ends = simp rows

-- `takeWhile`
take_while_empty : on_blocks (take_while_word (shorter 2)) [] Ended ≡ at_end 0
take_while_empty = simp rows

take_while_short : on_blocks (take_while_word (shorter 2)) (codes "a" ∷ []) Ended ≡ gives_piece 1 (codes "a") (at_end 1)
take_while_short = simp rows

take_while_waits : on_blocks (take_while_word (shorter 2)) (codes "a" ∷ []) waiting ≡ gives_piece 1 (codes "a") (waits_past 1)
take_while_waits = simp rows

take_while_ends : on_blocks (take_while_word (shorter 2)) (codes "a" ∷ codes "bc" ∷ codes "d" ∷ []) waiting ≡ gives_piece 1 (codes "a") (done_at 2 1 Value.Unit)
take_while_ends = simp rows

-- `filter`: a literal is of bytes among blocks, of characters among texts
filter_empty : on_blocks (filter_word (begins (codes "a"))) [] Ended ≡ at_end 0
filter_empty = simp rows

filter_short : on_blocks (filter_word (begins (codes "a"))) (codes "ab" ∷ codes "b" ∷ codes "a" ∷ []) Ended ≡ gives_piece 1 (codes "ab") (gives_piece 3 (codes "a") (at_end 3))
filter_short = simp rows

filter_waits : on_blocks (filter_word (not_test empty)) ([] ∷ codes "b" ∷ []) waiting ≡ gives_piece 2 (codes "b") (waits_past 2)
filter_waits = simp rows

filter_texts : on_texts (filter_word (ends (226 ∷ 130 ∷ 172 ∷ []))) ((49 ∷ 8364 ∷ []) ∷ (226 ∷ 130 ∷ 172 ∷ []) ∷ []) Ended ≡ gives_piece 1 (49 ∷ 8364 ∷ []) (at_end 2)
unfolding chars
filter_texts = simp rows

-- `repeat`
repeat_empty : on_blocks (repeat_word 2) [] Ended ≡ at_end 0
repeat_empty = simp rows

repeat_short : on_blocks (repeat_word 2) (codes "a" ∷ []) Ended ≡ gives_piece 1 (codes "a") (gives_piece 1 (codes "a") (at_end 1))
repeat_short = simp rows

repeat_waits : on_blocks (repeat_word 2) (codes "a" ∷ []) waiting ≡ gives_piece 1 (codes "a") (gives_piece 1 (codes "a") (waits_past 1))
repeat_waits = simp rows

-- `map`
map_empty : on_blocks (map_word reversed) [] Ended ≡ at_end 0
map_empty = simp rows

map_reverse : on_blocks (map_word reversed) (codes "abc" ∷ [] ∷ []) Ended ≡ gives_piece 1 (codes "cba") (gives_piece 2 [] (at_end 2))
map_reverse = simp rows

map_prefix : on_blocks (map_word (prefix (codes "+"))) (codes "a" ∷ []) Ended ≡ gives_piece 1 (codes "+a") (at_end 1)
map_prefix = simp rows

map_suffix : on_texts (map_word (suffix (226 ∷ 130 ∷ 172 ∷ []))) (codes "a" ∷ []) Ended ≡ gives_piece 1 (97 ∷ 8364 ∷ []) (at_end 1)
unfolding chars
map_suffix = simp rows

map_waits : on_blocks (map_word (prefix (codes "+"))) (codes "a" ∷ []) waiting ≡ gives_piece 1 (codes "+a") (waits_past 1)
map_waits = simp rows

-- `intersperse`: nothing stands behind the last piece
intersperse_empty : on_blocks (intersperse_word (codes "-")) [] Ended ≡ at_end 0
intersperse_empty = simp rows

intersperse_one : on_blocks (intersperse_word (codes "-")) (codes "a" ∷ []) Ended ≡ gives_piece 1 (codes "a") (at_end 1)
intersperse_one = simp rows

intersperse_short : on_blocks (intersperse_word (codes "-")) (codes "a" ∷ codes "b" ∷ codes "c" ∷ []) Ended ≡ gives_piece 1 (codes "a") (gives_piece 2 (codes "-") (gives_piece 2 (codes "b") (gives_piece 3 (codes "-") (gives_piece 3 (codes "c") (at_end 3)))))
intersperse_short = simp rows

intersperse_waits : on_blocks (intersperse_word (codes "-")) (codes "a" ∷ []) waiting ≡ gives_piece 1 (codes "a") (waits_past 1)
intersperse_waits = simp rows

intersperse_texts : on_texts (intersperse_word (226 ∷ 130 ∷ 172 ∷ [])) (codes "a" ∷ codes "b" ∷ []) waiting ≡ gives_piece 1 (codes "a") (gives_piece 2 (8364 ∷ []) (gives_piece 2 (codes "b") (waits_past 2)))
unfolding chars
intersperse_texts = simp rows

-- `drop`
drop_empty : on_blocks (drop_word 2) [] Ended ≡ at_end 0
drop_empty = simp rows

drop_short : on_blocks (drop_word 2) (codes "a" ∷ []) Ended ≡ at_end 1
drop_short = simp rows

drop_waits : on_blocks (drop_word 2) (codes "a" ∷ []) waiting ≡ waits_past 1
drop_waits = simp rows

drop_ends : on_blocks (drop_word 2) (codes "a" ∷ codes "b" ∷ codes "c" ∷ []) waiting ≡ done_at 2 2 Value.Unit
drop_ends = simp rows

-- `dropWhile`
drop_while_empty : on_blocks (drop_while_word empty) [] Ended ≡ at_end 0
drop_while_empty = simp rows

drop_while_short : on_blocks (drop_while_word empty) ([] ∷ [] ∷ []) Ended ≡ at_end 2
drop_while_short = simp rows

drop_while_waits : on_blocks (drop_while_word empty) ([] ∷ []) waiting ≡ waits_past 1
drop_while_waits = simp rows

drop_while_ends : on_blocks (drop_while_word empty) ([] ∷ codes "a" ∷ []) waiting ≡ done_at 2 1 Value.Unit
drop_while_ends = simp rows

-- `head`, `peek`, `last`
head_empty : on_blocks head_word [] Ended ≡ done_at 1 0 absent
head_empty = simp rows

head_waits : on_blocks head_word [] waiting ≡ waits_past 0
head_waits = simp rows

head_blocks : on_blocks head_word (codes "a" ∷ []) waiting ≡ done_at 1 1 (present (Value.BytesV (codes "a")))
head_blocks = simp rows

head_texts : on_texts head_word (codes "a" ∷ []) Ended ≡ done_at 1 1 (present (Value.TextV (codes "a")))
head_texts = simp rows

peek_empty : on_blocks peek_word [] Ended ≡ done_at 1 0 absent
peek_empty = simp rows

peek_waits : on_blocks peek_word [] waiting ≡ waits_past 0
peek_waits = simp rows

peek_blocks : on_blocks peek_word (codes "a" ∷ codes "b" ∷ []) Ended ≡ done_at 1 0 (present (Value.BytesV (codes "a")))
peek_blocks = simp rows

last_empty : on_blocks last_word [] Ended ≡ done_at 1 0 absent
last_empty = simp rows

last_short : on_texts last_word (codes "a" ∷ codes "b" ∷ []) Ended ≡ done_at 3 2 (present (Value.TextV (codes "b")))
last_short = simp rows

last_waits : on_blocks last_word (codes "a" ∷ []) waiting ≡ waits_past 1
last_waits = simp rows

-- `length`, `null`
length_empty : on_blocks length_word [] Ended ≡ done_at 1 0 (Value.Num 0)
length_empty = simp rows

length_short : on_blocks length_word (codes "ab" ∷ [] ∷ []) Ended ≡ done_at 3 2 (Value.Num 2)
length_short = simp rows

length_waits : on_blocks length_word (codes "ab" ∷ []) waiting ≡ waits_past 1
length_waits = simp rows

null_empty : on_blocks null_word [] Ended ≡ done_at 1 0 (Value.Bool true)
null_empty = simp rows

null_short : on_blocks null_word (codes "a" ∷ []) Ended ≡ done_at 1 0 (Value.Bool false)
null_short = simp rows

null_waits : on_blocks null_word [] waiting ≡ waits_past 0
null_waits = simp rows

null_ends : on_blocks null_word ([] ∷ []) waiting ≡ done_at 1 0 (Value.Bool false)
null_ends = simp rows

-- `collect`
collect_empty : on_blocks (collect_word 2) [] Ended ≡ done_at 1 0 (Value.ListV NoValues)
collect_empty = simp rows

collect_short : on_texts (collect_word 2) (codes "a" ∷ []) Ended ≡ done_at 2 1 (Value.ListV (Another (Value.TextV (codes "a")) NoValues))
collect_short = simp rows

collect_waits : on_blocks (collect_word 2) (codes "a" ∷ []) waiting ≡ waits_past 1
collect_waits = simp rows

collect_ends : on_blocks (collect_word 2) (codes "a" ∷ [] ∷ codes "c" ∷ []) waiting ≡ done_at 2 2 (Value.ListV (Another (Value.BytesV (codes "a")) (Another (Value.BytesV []) NoValues)))
collect_ends = simp rows
