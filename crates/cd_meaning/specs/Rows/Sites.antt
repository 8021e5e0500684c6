-- Sources, sinks and `mark`, on what is seen of their sites.
use Rattle.std.specs.Prelude.{◌≡◌, ℕ, List, [], ◌∷◌, ◌++◌, codes}
use lib.Utf8.{encode}
use Rattle.std.specs.Fmt.{digits}
use Rattle.std.specs.Str.{chars}
use Rattle.cd_meaning.specs.Stream.{bad_hex, bad_text, Close, Ended, Halted, Long, Open, Put, ReadBad, Stop, Value, present}
use Rattle.cd_meaning.specs.RunShapes.{AtEnd, Broken, MayGoOn, TooLong}
use Rattle.cd_meaning.specs.Rows.Short.{blocks_word, bytes_word, head_e, hex_decode_word, mark_form, pass_e, range_word, replicate_word, sink_file_word, source_file_word, stdin_word, stdout_word, take_e, text_word, texts_word}
use Rattle.cd_meaning.specs.Rows.Given.{rows, at_end, does_at, done_at, gives_elem, gives_piece, on_bytes, on_nothing, seen_of, stops_at, told_of, waiting, waits_for, waits_past}

-- `sourceFile`, by what is known behind its bytes
source_file_empty : on_nothing (source_file_word (codes "a")) (seen_of (told_of 1 [] AtEnd ∷ [])) ≡ does_at 0 0 (Open 1) (does_at 0 0 (Close 1) (done_at 0 0 Value.Unit))
source_file_empty = simp rows

source_file_ends : on_nothing (source_file_word (codes "a")) (seen_of (told_of 1 (codes "ab") AtEnd ∷ [])) ≡ does_at 0 0 (Open 1) (gives_elem 0 97 (gives_elem 0 98 (does_at 0 0 (Close 1) (done_at 0 0 Value.Unit))))
source_file_ends = simp rows

source_file_waits : on_nothing (source_file_word (codes "a")) (seen_of (told_of 1 (codes "a") MayGoOn ∷ [])) ≡ does_at 0 0 (Open 1) (gives_elem 0 97 (waits_for 1))
source_file_waits = simp rows

source_file_broken : on_nothing (source_file_word (codes "a")) (seen_of (told_of 1 (codes "a") Broken ∷ [])) ≡ does_at 0 0 (Open 1) (gives_elem 0 97 (stops_at 0 0 (ReadBad 1)))
source_file_broken = simp rows

source_file_long : on_nothing (source_file_word (codes "a")) (seen_of (told_of 1 (codes "a") TooLong ∷ [])) ≡ does_at 0 0 (Open 1) (gives_elem 0 97 (stops_at 0 0 (Long 1)))
source_file_long = simp rows

-- `stdin` is neither opened nor closed
stdin_empty : on_nothing stdin_word (seen_of (told_of 1 [] AtEnd ∷ [])) ≡ done_at 0 0 Value.Unit
stdin_empty = simp rows

stdin_ends : on_nothing stdin_word (seen_of (told_of 1 (codes "ab") AtEnd ∷ [])) ≡ gives_elem 0 97 (gives_elem 0 98 (done_at 0 0 Value.Unit))
stdin_ends = simp rows

stdin_waits : on_nothing stdin_word (seen_of (told_of 1 (codes "a") MayGoOn ∷ [])) ≡ gives_elem 0 97 (waits_for 1)
stdin_waits = simp rows

stdin_broken : on_nothing stdin_word (seen_of (told_of 1 [] Broken ∷ [])) ≡ stops_at 0 0 (ReadBad 1)
stdin_broken = simp rows

stdin_long : on_nothing stdin_word (seen_of (told_of 1 (codes "a") TooLong ∷ [])) ≡ gives_elem 0 97 (stops_at 0 0 (Long 1))
stdin_long = simp rows

-- literals: the euro sign is three bytes and one character
bytes_empty : on_nothing (bytes_word []) (seen_of []) ≡ done_at 0 0 Value.Unit
bytes_empty = simp rows

bytes_euro : on_nothing (bytes_word (226 ∷ 130 ∷ 172 ∷ [])) (seen_of []) ≡ gives_elem 0 226 (gives_elem 0 130 (gives_elem 0 172 (done_at 0 0 Value.Unit)))
bytes_euro = simp rows

text_empty : on_nothing (text_word []) (seen_of []) ≡ done_at 0 0 Value.Unit
unfolding chars
text_empty = simp rows

text_euro : on_nothing (text_word (97 ∷ 226 ∷ 130 ∷ 172 ∷ [])) (seen_of []) ≡ gives_elem 0 97 (gives_elem 0 8364 (done_at 0 0 Value.Unit))
unfolding chars
text_euro = simp rows

text_sizes : on_nothing (text_word (195 ∷ 169 ∷ 240 ∷ 159 ∷ 152 ∷ 128 ∷ 97 ∷ [])) (seen_of []) ≡ gives_elem 0 233 (gives_elem 0 128512 (gives_elem 0 97 (done_at 0 0 Value.Unit)))
unfolding chars
text_sizes = simp rows

-- the first and the last character of each length, between two of one byte
abbrev TextOf : List ℕ → ℕ → Type 0
TextOf bytes c = on_nothing (text_word (97 ∷ bytes ++ 98 ∷ [])) (seen_of []) ≡ gives_elem 0 97 (gives_elem 0 c (gives_elem 0 98 (done_at 0 0 Value.Unit)))

text_of_one : TextOf (0 ∷ []) 0 × TextOf (127 ∷ []) 127
unfolding chars
text_of_one = (simp rows, simp rows)

text_of_two : TextOf (194 ∷ 128 ∷ []) 128 × TextOf (223 ∷ 191 ∷ []) 2047
unfolding chars
text_of_two = (simp rows, simp rows)

text_of_three : TextOf (224 ∷ 160 ∷ 128 ∷ []) 2048 × TextOf (239 ∷ 191 ∷ 191 ∷ []) 65535
unfolding chars
text_of_three = (simp rows, simp rows)

text_of_four : TextOf (240 ∷ 144 ∷ 128 ∷ 128 ∷ []) 65536 × TextOf (244 ∷ 143 ∷ 191 ∷ 191 ∷ []) 1114111
unfolding chars
text_of_four = (simp rows, simp rows)

-- with nothing before or behind it
text_alone : on_nothing (text_word (224 ∷ 160 ∷ 128 ∷ [])) (seen_of []) ≡ gives_elem 0 2048 (done_at 0 0 Value.Unit)
unfolding chars
text_alone = simp rows

text_first : on_nothing (text_word (224 ∷ 160 ∷ 128 ∷ 97 ∷ [])) (seen_of []) ≡ gives_elem 0 2048 (gives_elem 0 97 (done_at 0 0 Value.Unit))
unfolding chars
text_first = simp rows

blocks_empty : on_nothing (blocks_word []) (seen_of []) ≡ done_at 0 0 Value.Unit
blocks_empty = simp rows

blocks_some : on_nothing (blocks_word (codes "ab" ∷ [] ∷ [])) (seen_of []) ≡ gives_piece 0 (codes "ab") (gives_piece 0 [] (done_at 0 0 Value.Unit))
blocks_some = simp rows

texts_empty : on_nothing (texts_word []) (seen_of []) ≡ done_at 0 0 Value.Unit
texts_empty = simp rows

texts_euro : on_nothing (texts_word ((226 ∷ 130 ∷ 172 ∷ []) ∷ [])) (seen_of []) ≡ gives_piece 0 (8364 ∷ []) (done_at 0 0 Value.Unit)
unfolding chars
texts_euro = simp rows

replicate_none : on_nothing (replicate_word 0 (codes "x")) (seen_of []) ≡ done_at 0 0 Value.Unit
replicate_none = simp rows

replicate_some : on_nothing (replicate_word 2 (codes "xy")) (seen_of []) ≡ gives_piece 0 (codes "xy") (gives_piece 0 (codes "xy") (done_at 0 0 Value.Unit))
replicate_some = simp rows

-- `range`: from the first to the last, both with it
range_none : on_nothing (range_word 3 2) (seen_of []) ≡ done_at 0 0 Value.Unit
range_none = simp rows

range_one : on_nothing (range_word 0 0) (seen_of []) ≡ gives_piece 0 (codes "0") (done_at 0 0 Value.Unit)
unfolding encode digits
range_one = simp rows

range_some : on_nothing (range_word 9 11) (seen_of []) ≡ gives_piece 0 (codes "9") (gives_piece 0 (codes "10") (gives_piece 0 (codes "11") (done_at 0 0 Value.Unit)))
unfolding encode digits
range_some = simp rows

-- `sinkFile` opens before it asks, and closes at the end alone
sink_file_empty : on_bytes (sink_file_word (codes "x")) [] Ended ≡ does_at 0 0 (Open 1) (does_at 1 0 (Close 1) (at_end 0))
sink_file_empty = simp rows

sink_file_short : on_bytes (sink_file_word (codes "x")) (codes "ab") Ended ≡ does_at 0 0 (Open 1) (does_at 1 1 (Put 1 97) (does_at 2 2 (Put 1 98) (does_at 3 2 (Close 1) (at_end 2))))
sink_file_short = simp rows

sink_file_waits : on_bytes (sink_file_word (codes "x")) (codes "a") waiting ≡ does_at 0 0 (Open 1) (does_at 1 1 (Put 1 97) (waits_past 1))
sink_file_waits = simp rows

sink_file_fault : on_bytes (sink_file_word (codes "x")) (codes "a") (Halted (Stop (bad_text 4))) ≡ does_at 0 0 (Open 1) (does_at 1 1 (Put 1 97) (stops_at 2 1 (bad_text 4)))
sink_file_fault = simp rows

-- `stdout`
stdout_empty : on_bytes stdout_word [] Ended ≡ at_end 0
stdout_empty = simp rows

stdout_short : on_bytes stdout_word (codes "ab") Ended ≡ does_at 1 1 (Put 1 97) (does_at 2 2 (Put 1 98) (at_end 2))
stdout_short = simp rows

stdout_waits : on_bytes stdout_word (codes "a") waiting ≡ does_at 1 1 (Put 1 97) (waits_past 1)
stdout_waits = simp rows

-- `mark` closes where its body is done, and its file comes before the body's sites
mark_empty : on_bytes (mark_form (codes "m") pass_e) [] Ended ≡ does_at 0 0 (Open 1) (does_at 1 0 (Close 1) (at_end 0))
mark_empty = simp rows

mark_ends : on_bytes (mark_form (codes "m") (take_e 1)) (codes "ab") waiting ≡ does_at 0 0 (Open 1) (gives_elem 1 97 (does_at 1 1 (Close 1) (done_at 1 1 Value.Unit)))
mark_ends = simp rows

mark_waits : on_bytes (mark_form (codes "m") (take_e 2)) (codes "a") waiting ≡ does_at 0 0 (Open 1) (gives_elem 1 97 (waits_past 1))
mark_waits = simp rows

mark_fault : on_bytes (mark_form (codes "m") hex_decode_word) (codes "GG") Ended ≡ does_at 0 0 (Open 1) (stops_at 2 2 (bad_hex 0))
mark_fault = simp rows

mark_sites : on_bytes (mark_form (codes "m") stdout_word) (codes "a") Ended ≡ does_at 0 0 (Open 1) (does_at 1 1 (Put 2 97) (does_at 2 1 (Close 1) (at_end 1)))
mark_sites = simp rows

mark_value : on_bytes (mark_form (codes "m") head_e) (codes "a") Ended ≡ does_at 0 0 (Open 1) (does_at 1 1 (Close 1) (done_at 1 1 (present (Value.Byte 97))))
mark_value = simp rows
