-- Operators, sections, sequences and zips, with the stamps of the whole.
use Rattle.std.specs.Prelude.{◌≡◌, [], ◌∷◌, codes}
use Rattle.std.specs.Str.{chars}
use Rattle.cd_meaning.specs.Stream.{Another, bad_base64, bad_hex, Ended, NoValues, Open, Put, Value, absent, present}
use Rattle.cd_meaning.specs.RunShapes.{AtEnd, MayGoOn}
use Rattle.cd_meaning.specs.Rows.Short.{base64_decode_word, blocks_word, bytes_word, chunks_of_word, digit, drop_e, drop_word, empty, exactly_e_form, exactly_form, filter_e, flat_word, head_e, head_word, hex_decode_word, length_e, length_word, line_e_form, lines_word, map_e, map_word, pass_e, pass_word, peek_e, peek_word, piped, piped_asked, piped_both, piped_keep, piped_return, piped_up, reversed, sequence_form, sink_file_word, sink_null, source_file_word, stdin_word, stdout_word, take_e, take_while_e, take_while_word, take_word, tee_form, texts_word, xor, zip_conduit_form, zip_sink_form, zip_source_form}
use Rattle.cd_meaning.specs.Rows.Given.{rows, at_end, does_at, done_at, gives_elem, gives_piece, late_elem, on_blocks, on_bytes, on_chars, on_nothing, on_texts, seen_of, stops_at, told_of, waiting, waits_for, waits_past, waits_reading}

-- `|`: the stamps are the first part's, where the second one asked
piped_empty : on_bytes (piped (pass_e ∷ length_e ∷ [])) [] Ended ≡ done_at 1 0 (Value.Num 0)
piped_empty = simp rows

piped_short : on_bytes (piped (take_e 2 ∷ length_e ∷ [])) (codes "abc") waiting ≡ done_at 2 2 (Value.Num 2)
piped_short = simp rows

piped_waits : on_bytes (piped (take_e 2 ∷ length_e ∷ [])) (codes "a") waiting ≡ waits_past 1
piped_waits = simp rows

piped_ends : on_bytes (piped (filter_e digit ∷ take_e 1 ∷ [])) (codes "a1b") waiting ≡ gives_elem 2 49 (done_at 2 2 Value.Unit)
piped_ends = simp rows

piped_unasked : on_bytes (piped (pass_e ∷ take_e 0 ∷ [])) (codes "a") waiting ≡ done_at 0 0 Value.Unit
piped_unasked = simp rows

piped_leftover : on_bytes (piped (pass_e ∷ peek_e ∷ [])) (codes "a") waiting ≡ done_at 1 1 (present (Value.Byte 97))
piped_leftover = simp rows

piped_fault : on_bytes (piped (hex_decode_word ∷ pass_e ∷ [])) (codes "4a4") Ended ≡ gives_elem 2 74 (stops_at 4 3 (bad_hex 2))
piped_fault = simp rows

piped_late : on_bytes (piped (chunks_of_word 2 ∷ flat_word ∷ [])) (codes "abc") Ended ≡ gives_elem 2 97 (gives_elem 2 98 (late_elem 3 99 (at_end 3)))
piped_late = simp rows

-- `|=`: the stamps are the second part's
keep_empty : on_bytes (piped_keep (map_e (xor 1) ∷ peek_e ∷ [])) [] Ended ≡ done_at 1 0 absent
keep_empty = simp rows

keep_leftover : on_bytes (piped_keep (map_e (xor 1) ∷ peek_e ∷ [])) (codes "a") waiting ≡ done_at 1 0 (present (Value.Byte 96))
keep_leftover = simp rows

keep_own_stamps : on_bytes (piped_keep (pass_e ∷ sequence_form (peek_e ∷ sink_file_word (codes "x") ∷ []) ∷ [])) (codes "a") waiting ≡ does_at 1 0 (Open 1) (does_at 1 1 (Put 1 97) (waits_past 1))
keep_own_stamps = simp rows

keep_short : on_bytes (piped_keep (map_e (xor 1) ∷ take_e 2 ∷ [])) (codes "a") Ended ≡ gives_elem 1 96 (at_end 1)
keep_short = simp rows

keep_waits : on_bytes (piped_keep (map_e (xor 1) ∷ take_e 2 ∷ [])) (codes "a") waiting ≡ gives_elem 1 96 (waits_past 1)
keep_waits = simp rows

-- `|+`: what the second part gave back, of the first one's pieces
return_empty : on_blocks (piped_return (pass_word ∷ peek_word ∷ [])) [] Ended ≡ done_at 1 0 (Value.Pair absent (Value.ListV NoValues))
return_empty = simp rows

return_peeked : on_blocks (piped_return (pass_word ∷ peek_word ∷ [])) (codes "a" ∷ codes "b" ∷ []) waiting ≡ done_at 1 1 (Value.Pair (present (Value.BytesV (codes "a"))) (Value.ListV (Another (Value.BytesV (codes "a")) NoValues)))
return_peeked = simp rows

return_taken : on_texts (piped_return (pass_word ∷ head_word ∷ [])) (codes "a" ∷ codes "b" ∷ []) waiting ≡ done_at 1 1 (Value.Pair (present (Value.TextV (codes "a"))) (Value.ListV NoValues))
return_taken = simp rows

return_later : on_texts (piped_return (pass_word ∷ take_while_word empty ∷ [])) ([] ∷ codes "b" ∷ codes "c" ∷ []) waiting ≡ gives_piece 1 [] (done_at 2 2 (Value.Pair Value.Unit (Value.ListV (Another (Value.TextV (codes "b")) NoValues))))
return_later = simp rows

return_of_nothing : on_bytes (piped_return (drop_e 1 ∷ length_word ∷ [])) (codes "a") waiting ≡ done_at 1 1 (Value.Pair (Value.Num 0) (Value.ListV NoValues))
return_of_nothing = simp rows

return_short : on_blocks (piped_return (pass_word ∷ length_word ∷ [])) (codes "a" ∷ []) Ended ≡ done_at 2 1 (Value.Pair (Value.Num 1) (Value.ListV NoValues))
return_short = simp rows

return_waits : on_blocks (piped_return (pass_word ∷ length_word ∷ [])) (codes "a" ∷ []) waiting ≡ waits_past 1
return_waits = simp rows

-- `|&`: the first part goes on to its own end
both_empty : on_bytes (piped_both (pass_e ∷ length_e ∷ [])) [] Ended ≡ done_at 1 0 (Value.Pair Value.Unit (Value.Num 0))
both_empty = simp rows

both_units : on_bytes (piped_both (pass_e ∷ take_e 1 ∷ [])) (codes "ab") Ended ≡ gives_elem 1 97 (at_end 2)
both_units = simp rows

both_waits : on_bytes (piped_both (pass_e ∷ take_e 1 ∷ [])) (codes "ab") waiting ≡ gives_elem 1 97 (waits_past 2)
both_waits = simp rows

both_values : on_blocks (piped_both (sequence_form (take_word 1 ∷ length_word ∷ []) ∷ head_word ∷ [])) (codes "a" ∷ codes "b" ∷ codes "c" ∷ []) Ended ≡ done_at 4 3 (Value.Pair (Value.Num 2) (present (Value.BytesV (codes "a"))))
both_values = simp rows

both_drains : on_bytes (piped_both (sequence_form (take_e 1 ∷ stdout_word ∷ []) ∷ drop_e 1 ∷ [])) (codes "ab") Ended ≡ does_at 2 2 (Put 1 98) (at_end 2)
both_drains = simp rows

-- `|<`: the first part's value alone
up_empty : on_blocks (piped_up (sequence_form (take_word 1 ∷ length_word ∷ []) ∷ drop_word 1 ∷ [])) [] Ended ≡ done_at 1 0 (Value.Num 0)
up_empty = simp rows

up_value : on_blocks (piped_up (sequence_form (take_word 1 ∷ length_word ∷ []) ∷ drop_word 1 ∷ [])) (codes "a" ∷ codes "b" ∷ codes "c" ∷ []) Ended ≡ done_at 4 3 (Value.Num 2)
up_value = simp rows

up_waits : on_blocks (piped_up (sequence_form (take_word 1 ∷ length_word ∷ []) ∷ drop_word 1 ∷ [])) (codes "a" ∷ []) waiting ≡ waits_past 1
up_waits = simp rows

-- `|?`: whether the second part asked past the first one's end
asked_short : on_blocks (piped_asked (pass_word ∷ drop_word 2 ∷ [])) (codes "a" ∷ []) Ended ≡ done_at 2 1 (Value.Pair (present Value.Unit) Value.Unit)
asked_short = simp rows

asked_empty : on_bytes (piped_asked (pass_e ∷ drop_e 1 ∷ [])) [] Ended ≡ done_at 1 0 (Value.Pair (present Value.Unit) Value.Unit)
asked_empty = simp rows

asked_not : on_bytes (piped_asked (take_e 2 ∷ drop_e 2 ∷ [])) (codes "abc") waiting ≡ done_at 2 2 (Value.Pair absent Value.Unit)
asked_not = simp rows

asked_past : on_bytes (piped_asked (take_e 2 ∷ drop_e 3 ∷ [])) (codes "abc") waiting ≡ done_at 2 2 (Value.Pair (present Value.Unit) Value.Unit)
asked_past = simp rows

asked_waits : on_bytes (piped_asked (take_e 2 ∷ drop_e 3 ∷ [])) (codes "a") waiting ≡ waits_past 1
asked_waits = simp rows

-- `exactlyE` and `exactly`
exactly_e_empty : on_bytes (exactly_e_form 2 head_e) [] Ended ≡ done_at 1 0 absent
exactly_e_empty = simp rows

exactly_e_short : on_bytes (exactly_e_form 2 head_e) (codes "a") Ended ≡ done_at 2 1 (present (Value.Byte 97))
exactly_e_short = simp rows

exactly_e_waits : on_bytes (exactly_e_form 2 head_e) (codes "a") waiting ≡ waits_past 1
exactly_e_waits = simp rows

exactly_e_ends : on_bytes (exactly_e_form 2 head_e) (codes "abc") waiting ≡ done_at 2 2 (present (Value.Byte 97))
exactly_e_ends = simp rows

exactly_e_gives : on_bytes (exactly_e_form 2 pass_e) (codes "abc") waiting ≡ gives_elem 1 97 (gives_elem 2 98 (done_at 2 2 Value.Unit))
exactly_e_gives = simp rows

exactly_e_none : on_bytes (exactly_e_form 0 head_e) (codes "abc") waiting ≡ done_at 0 0 absent
exactly_e_none = simp rows

exactly_empty : on_blocks (exactly_form 2 length_word) [] Ended ≡ done_at 1 0 (Value.Num 0)
exactly_empty = simp rows

exactly_short : on_blocks (exactly_form 5 length_word) (codes "a" ∷ codes "b" ∷ []) Ended ≡ done_at 3 2 (Value.Num 2)
exactly_short = simp rows

exactly_waits : on_blocks (exactly_form 2 head_word) (codes "a" ∷ []) waiting ≡ waits_past 1
exactly_waits = simp rows

exactly_ends : on_blocks (exactly_form 2 length_word) (codes "a" ∷ codes "b" ∷ codes "c" ∷ []) waiting ≡ done_at 2 2 (Value.Num 2)
exactly_ends = simp rows

-- `lineE` takes the newline too
line_e_empty : on_bytes (line_e_form length_e) [] Ended ≡ done_at 1 0 (Value.Num 0)
line_e_empty = simp rows

line_e_short : on_bytes (line_e_form length_e) (codes "ab") Ended ≡ done_at 3 2 (Value.Num 2)
line_e_short = simp rows

line_e_waits : on_bytes (line_e_form length_e) (codes "ab") waiting ≡ waits_past 2
line_e_waits = simp rows

line_e_ends : on_bytes (line_e_form length_e) (codes "ab\nc") waiting ≡ done_at 3 3 (Value.Num 2)
line_e_ends = simp rows

line_e_drains : on_bytes (line_e_form (take_e 1)) (codes "ab\nc") waiting ≡ gives_elem 1 97 (done_at 3 3 Value.Unit)
line_e_drains = simp rows

line_e_blank : on_chars (line_e_form length_e) (codes "\n") waiting ≡ done_at 1 1 (Value.Num 0)
line_e_blank = simp rows

-- a sequence: the second part begins behind what the first one took
sequence_empty : on_bytes (sequence_form (take_e 1 ∷ pass_e ∷ [])) [] Ended ≡ at_end 0
sequence_empty = simp rows

sequence_short : on_bytes (sequence_form (take_e 1 ∷ pass_e ∷ [])) (codes "ab") Ended ≡ gives_elem 1 97 (gives_elem 2 98 (at_end 2))
sequence_short = simp rows

sequence_waits : on_bytes (sequence_form (take_e 1 ∷ length_e ∷ [])) (codes "ab") waiting ≡ gives_elem 1 97 (waits_past 2)
sequence_waits = simp rows

sequence_back : on_bytes (sequence_form (take_while_e digit ∷ take_e 1 ∷ [])) (codes "1x") waiting ≡ gives_elem 1 49 (gives_elem 2 120 (done_at 2 2 Value.Unit))
sequence_back = simp rows

sequence_peeked : on_bytes (sequence_form (peek_e ∷ head_e ∷ [])) (codes "a") waiting ≡ done_at 1 1 (present (Value.Byte 97))
sequence_peeked = simp rows

sequence_unasked : on_bytes (sequence_form (peek_e ∷ take_e 0 ∷ [])) (codes "a") waiting ≡ done_at 1 0 Value.Unit
sequence_unasked = simp rows

sequence_first_waits : on_bytes (sequence_form (drop_e 2 ∷ stdout_word ∷ [])) (codes "a") waiting ≡ waits_past 1
sequence_first_waits = simp rows

sequence_fault : on_bytes (sequence_form (drop_e 1 ∷ hex_decode_word ∷ [])) (codes "x4G") waiting ≡ stops_at 3 3 (bad_hex 0)
sequence_fault = simp rows

-- what was given back before it waits or stops was not taken: the net is less than the need
sequence_reading_waits : on_bytes (sequence_form (peek_e ∷ stdin_word ∷ [])) (codes "a") waiting ≡ waits_reading 1 0 1
sequence_reading_waits = simp rows

sequence_piped_stops : on_bytes (piped (sequence_form (peek_e ∷ bytes_word (codes "GG") ∷ []) ∷ hex_decode_word ∷ [])) (codes "a") waiting ≡ stops_at 1 0 (bad_hex 0)
sequence_piped_stops = simp rows

-- `zipSink`: at equal need the first part's acts come first
zip_sink_empty : on_bytes (zip_sink_form head_e length_e) [] Ended ≡ done_at 1 0 (Value.Pair absent (Value.Num 0))
zip_sink_empty = simp rows

zip_sink_short : on_bytes (zip_sink_form head_e length_e) (codes "ab") Ended ≡ done_at 3 2 (Value.Pair (present (Value.Byte 97)) (Value.Num 2))
zip_sink_short = simp rows

zip_sink_waits : on_bytes (zip_sink_form head_e length_e) (codes "ab") waiting ≡ waits_past 2
zip_sink_waits = simp rows

zip_sink_units : on_bytes (zip_sink_form (drop_e 1) sink_null) (codes "ab") Ended ≡ at_end 2
zip_sink_units = simp rows

zip_sink_peeks : on_bytes (zip_sink_form peek_e peek_e) (codes "ab") waiting ≡ done_at 1 1 (Value.Pair (present (Value.Byte 97)) (present (Value.Byte 97)))
zip_sink_peeks = simp rows

zip_sink_order : on_bytes (zip_sink_form stdout_word sink_null) (codes "ab") Ended ≡ does_at 1 1 (Put 1 97) (does_at 2 2 (Put 1 98) (at_end 2))
zip_sink_order = simp rows

-- an ending stands behind the acts of its own part, and before those of the second part at the same need
zip_sink_stops_second : on_bytes (zip_sink_form stdout_word hex_decode_word) (codes "GG") Ended ≡ does_at 1 1 (Put 1 71) (does_at 2 2 (Put 1 71) (stops_at 2 2 (bad_hex 0)))
zip_sink_stops_second = simp rows

zip_sink_stops_first : on_bytes (zip_sink_form hex_decode_word stdout_word) (codes "GG") Ended ≡ does_at 1 1 (Put 1 71) (stops_at 2 2 (bad_hex 0))
zip_sink_stops_first = simp rows

-- of two at one need the first part's
zip_sink_both_stop : on_bytes (zip_sink_form hex_decode_word base64_decode_word) (codes "4aG=") Ended ≡ gives_elem 2 74 (stops_at 4 4 (bad_hex 2))
zip_sink_both_stop = simp rows

zip_sink_both_stop_turned : on_bytes (zip_sink_form base64_decode_word hex_decode_word) (codes "4aG=") Ended ≡ gives_elem 2 74 (stops_at 4 4 (bad_base64 0))
zip_sink_both_stop_turned = simp rows

-- of two at different needs the earlier one
zip_sink_earlier_stop : on_bytes (zip_sink_form base64_decode_word hex_decode_word) (codes "GGG=") Ended ≡ stops_at 2 2 (bad_hex 0)
zip_sink_earlier_stop = simp rows

-- `zipConduit`
zip_conduit_empty : on_blocks (zip_conduit_form pass_word (map_word reversed)) [] Ended ≡ at_end 0
zip_conduit_empty = simp rows

zip_conduit_short : on_blocks (zip_conduit_form pass_word (map_word reversed)) (codes "ab" ∷ codes "cd" ∷ []) Ended ≡ gives_piece 1 (codes "ab") (gives_piece 1 (codes "ba") (gives_piece 2 (codes "cd") (gives_piece 2 (codes "dc") (at_end 2))))
zip_conduit_short = simp rows

zip_conduit_waits : on_blocks (zip_conduit_form (take_word 1) pass_word) (codes "a" ∷ codes "b" ∷ []) waiting ≡ gives_piece 1 (codes "a") (gives_piece 1 (codes "a") (gives_piece 2 (codes "b") (waits_past 2)))
zip_conduit_waits = simp rows

zip_conduit_both : on_blocks (zip_conduit_form (take_word 1) (take_word 2)) (codes "a" ∷ codes "b" ∷ codes "c" ∷ []) waiting ≡ gives_piece 1 (codes "a") (gives_piece 1 (codes "a") (gives_piece 2 (codes "b") (done_at 2 2 Value.Unit)))
zip_conduit_both = simp rows

-- `tee`: the sink has a piece before it is passed on
tee_empty : on_blocks (tee_form sink_null) [] Ended ≡ at_end 0
tee_empty = simp rows

tee_short : on_blocks (tee_form (piped (flat_word ∷ stdout_word ∷ []))) (codes "a" ∷ codes "b" ∷ []) Ended ≡ does_at 1 1 (Put 1 97) (gives_piece 1 (codes "a") (does_at 2 2 (Put 1 98) (gives_piece 2 (codes "b") (at_end 2))))
tee_short = simp rows

tee_waits : on_blocks (tee_form (drop_word 1)) (codes "a" ∷ codes "b" ∷ []) waiting ≡ gives_piece 1 (codes "a") (gives_piece 2 (codes "b") (waits_past 2))
tee_waits = simp rows

-- `zipSource` asks the first part, then the second, then gives both pieces
zip_source_empty : on_nothing (zip_source_form (codes ":") (blocks_word []) (blocks_word (codes "1" ∷ []))) (seen_of []) ≡ done_at 0 0 Value.Unit
zip_source_empty = simp rows

zip_source_second_ends : on_nothing (zip_source_form (codes ":") (blocks_word (codes "a" ∷ codes "b" ∷ [])) (blocks_word (codes "1" ∷ []))) (seen_of []) ≡ gives_piece 0 (codes "a:1") (done_at 0 0 Value.Unit)
zip_source_second_ends = simp rows

zip_source_texts : on_nothing (zip_source_form (226 ∷ 130 ∷ 172 ∷ []) (texts_word (codes "a" ∷ [])) (texts_word (codes "b" ∷ []))) (seen_of []) ≡ gives_piece 0 (97 ∷ 8364 ∷ 98 ∷ []) (done_at 0 0 Value.Unit)
unfolding chars
zip_source_texts = simp rows

zip_source_waits : on_nothing (zip_source_form (codes ":") (blocks_word (codes "a" ∷ [])) (piped (source_file_word (codes "a") ∷ lines_word 9 ∷ []))) (seen_of (told_of 1 (codes "x") MayGoOn ∷ [])) ≡ does_at 0 0 (Open 1) (waits_for 1)
zip_source_waits = simp rows

zip_source_first_ends : on_nothing (zip_source_form (codes ":") (blocks_word (codes "a" ∷ [])) (piped (source_file_word (codes "a") ∷ lines_word 9 ∷ []))) (seen_of (told_of 1 (codes "x\n") AtEnd ∷ [])) ≡ does_at 0 0 (Open 1) (gives_piece 0 (codes "a:x") (done_at 0 0 Value.Unit))
zip_source_first_ends = simp rows
