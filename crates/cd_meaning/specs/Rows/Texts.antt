-- UTF-8, on empty inputs, on inputs that end or wait, and on bad ones.
use Rattle.std.specs.Prelude.{◌≡◌, [], ◌∷◌}
use lib.Utf8.{encode}
use Rattle.cd_meaning.specs.Stream.{bad_text, Ended, Halted, ReadBad, Stop}
use Rattle.cd_meaning.specs.Rows.Short.{utf8_encode_word, utf8_lenient_word, utf8_word}
use Rattle.cd_meaning.specs.Rows.Given.{rows, at_end, gives_elem, late_elem, on_bytes, on_chars, stops_at, waiting, waits_past}

-- `utf8`: a character comes at its last byte
utf8_empty : on_bytes utf8_word [] Ended ≡ at_end 0
utf8_empty = simp rows

utf8_short : on_bytes utf8_word (97 ∷ 226 ∷ 130 ∷ 172 ∷ []) Ended ≡ gives_elem 1 97 (gives_elem 4 8364 (at_end 4))
utf8_short = simp rows

utf8_waits : on_bytes utf8_word (97 ∷ 226 ∷ 130 ∷ []) waiting ≡ gives_elem 1 97 (waits_past 3)
utf8_waits = simp rows

utf8_waits_whole : on_bytes utf8_word (97 ∷ []) waiting ≡ gives_elem 1 97 (waits_past 1)
utf8_waits_whole = simp rows

-- the first and the last character of each length
utf8_one : on_bytes utf8_word (0 ∷ 127 ∷ []) Ended ≡ gives_elem 1 0 (gives_elem 2 127 (at_end 2))
utf8_one = simp rows

utf8_two : on_bytes utf8_word (194 ∷ 128 ∷ 223 ∷ 191 ∷ []) Ended ≡ gives_elem 2 128 (gives_elem 4 2047 (at_end 4))
utf8_two = simp rows

utf8_three : on_bytes utf8_word (224 ∷ 160 ∷ 128 ∷ 239 ∷ 191 ∷ 191 ∷ []) Ended ≡ gives_elem 3 2048 (gives_elem 6 65535 (at_end 6))
utf8_three = simp rows

utf8_four : on_bytes utf8_word (240 ∷ 144 ∷ 128 ∷ 128 ∷ 244 ∷ 143 ∷ 191 ∷ 191 ∷ []) Ended ≡ gives_elem 4 65536 (gives_elem 8 1114111 (at_end 8))
utf8_four = simp rows

-- bytes that begin nothing, and bytes that go nowhere
utf8_bad_first : on_bytes utf8_word (65 ∷ 255 ∷ []) Ended ≡ gives_elem 1 65 (stops_at 2 2 (bad_text 1))
utf8_bad_first = simp rows

utf8_overlong_two : on_bytes utf8_word (192 ∷ 128 ∷ []) Ended ≡ stops_at 1 1 (bad_text 0)
utf8_overlong_two = simp rows

utf8_overlong_last : on_bytes utf8_word (193 ∷ 191 ∷ []) Ended ≡ stops_at 1 1 (bad_text 0)
utf8_overlong_last = simp rows

utf8_surrogate : on_bytes utf8_word (65 ∷ 237 ∷ 160 ∷ 128 ∷ []) Ended ≡ gives_elem 1 65 (stops_at 3 3 (bad_text 1))
utf8_surrogate = simp rows

utf8_bad_later : on_bytes utf8_word (226 ∷ 130 ∷ 65 ∷ []) Ended ≡ stops_at 3 3 (bad_text 0)
utf8_bad_later = simp rows

-- an unfinished character at the end
utf8_unfinished : on_bytes utf8_word (65 ∷ 226 ∷ 130 ∷ []) Ended ≡ gives_elem 1 65 (stops_at 4 3 (bad_text 1))
utf8_unfinished = simp rows

utf8_unfinished_fault : on_bytes utf8_word (65 ∷ 226 ∷ []) (Halted (Stop (ReadBad 4))) ≡ gives_elem 1 65 (stops_at 3 2 (ReadBad 4))
utf8_unfinished_fault = simp rows

-- `utf8Lenient`: U+FFFD is 65533
lenient_empty : on_bytes utf8_lenient_word [] Ended ≡ at_end 0
lenient_empty = simp rows

lenient_short : on_bytes utf8_lenient_word (97 ∷ 226 ∷ 130 ∷ 172 ∷ []) Ended ≡ gives_elem 1 97 (gives_elem 4 8364 (at_end 4))
lenient_short = simp rows

lenient_waits : on_bytes utf8_lenient_word (226 ∷ 130 ∷ []) waiting ≡ waits_past 2
lenient_waits = simp rows

lenient_bad_first : on_bytes utf8_lenient_word (255 ∷ 65 ∷ []) Ended ≡ gives_elem 1 65533 (gives_elem 2 65 (at_end 2))
lenient_bad_first = simp rows

lenient_anew : on_bytes utf8_lenient_word (226 ∷ 130 ∷ 65 ∷ []) Ended ≡ gives_elem 3 65533 (gives_elem 3 65 (at_end 3))
lenient_anew = simp rows

lenient_anew_begins : on_bytes utf8_lenient_word (226 ∷ 195 ∷ 169 ∷ []) Ended ≡ gives_elem 2 65533 (gives_elem 3 233 (at_end 3))
lenient_anew_begins = simp rows

lenient_both : on_bytes utf8_lenient_word (226 ∷ 130 ∷ 255 ∷ []) Ended ≡ gives_elem 3 65533 (gives_elem 3 65533 (at_end 3))
lenient_both = simp rows

lenient_surrogate : on_bytes utf8_lenient_word (237 ∷ 160 ∷ 128 ∷ []) Ended ≡ gives_elem 2 65533 (gives_elem 2 65533 (gives_elem 3 65533 (at_end 3)))
lenient_surrogate = simp rows

lenient_unfinished : on_bytes utf8_lenient_word (65 ∷ 226 ∷ 130 ∷ []) Ended ≡ gives_elem 1 65 (late_elem 3 65533 (at_end 3))
lenient_unfinished = simp rows

-- `utf8Encode`
encode_empty : on_chars utf8_encode_word [] Ended ≡ at_end 0
encode_empty = simp rows

encode_short : on_chars utf8_encode_word (97 ∷ 8364 ∷ []) Ended ≡ gives_elem 1 97 (gives_elem 2 226 (gives_elem 2 130 (gives_elem 2 172 (at_end 2))))
unfolding encode
encode_short = simp rows

encode_waits : on_chars utf8_encode_word (233 ∷ []) waiting ≡ gives_elem 1 195 (gives_elem 1 169 (waits_past 1))
unfolding encode
encode_waits = simp rows

encode_four : on_chars utf8_encode_word (128512 ∷ []) Ended ≡ gives_elem 1 240 (gives_elem 1 159 (gives_elem 1 152 (gives_elem 1 128 (at_end 1))))
unfolding encode
encode_four = simp rows
