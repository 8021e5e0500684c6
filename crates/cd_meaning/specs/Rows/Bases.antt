-- Base16 and base64, on empty inputs, on inputs that end or wait, and on bad ones.
use Rattle.std.specs.Prelude.{◌≡◌, ℕ, List, [], ◌∷◌, codes}
use Rattle.cd_meaning.specs.Stream.{bad_base64, bad_hex, Ended}
use Rattle.cd_meaning.specs.Rows.Short.{base64_decode_word, base64_encode_word, hex_decode_word, hex_encode_word}
use Rattle.cd_meaning.specs.Rows.Given.{rows, at_end, gives_elem, late_elem, on_bytes, stops_at, waiting, waits_past}

-- `hexEncode`: `J` is 4a
hex_encode_empty : on_bytes hex_encode_word [] Ended ≡ at_end 0
hex_encode_empty = simp rows

hex_encode_short : on_bytes hex_encode_word (74 ∷ 255 ∷ []) Ended ≡ gives_elem 1 52 (gives_elem 1 97 (gives_elem 2 102 (gives_elem 2 102 (at_end 2))))
hex_encode_short = simp rows

hex_encode_waits : on_bytes hex_encode_word (9 ∷ []) waiting ≡ gives_elem 1 48 (gives_elem 1 57 (waits_past 1))
hex_encode_waits = simp rows

-- each sort of digit, first and last
hex_encode_digits : on_bytes hex_encode_word (9 ∷ 144 ∷ 175 ∷ 250 ∷ []) Ended ≡ gives_elem 1 48 (gives_elem 1 57 (gives_elem 2 57 (gives_elem 2 48 (gives_elem 3 97 (gives_elem 3 102 (gives_elem 4 102 (gives_elem 4 97 (at_end 4))))))))
hex_encode_digits = simp rows

-- `hexDecode`: a group is met at its last character
hex_decode_empty : on_bytes hex_decode_word [] Ended ≡ at_end 0
hex_decode_empty = simp rows

hex_decode_short : on_bytes hex_decode_word (codes "4aFf") Ended ≡ gives_elem 2 74 (gives_elem 4 255 (at_end 4))
hex_decode_short = simp rows

hex_decode_waits : on_bytes hex_decode_word (codes "4a4") waiting ≡ gives_elem 2 74 (waits_past 3)
hex_decode_waits = simp rows

hex_decode_waits_bad : on_bytes hex_decode_word (codes "G") waiting ≡ waits_past 1
hex_decode_waits_bad = simp rows

hex_decode_lone : on_bytes hex_decode_word (codes "4a4") Ended ≡ gives_elem 2 74 (stops_at 4 3 (bad_hex 2))
hex_decode_lone = simp rows

hex_decode_bad_first : on_bytes hex_decode_word (codes "4aG4") Ended ≡ gives_elem 2 74 (stops_at 4 4 (bad_hex 2))
hex_decode_bad_first = simp rows

hex_decode_bad_second : on_bytes hex_decode_word (codes "4g") waiting ≡ stops_at 2 2 (bad_hex 0)
hex_decode_bad_second = simp rows

hex_decode_bad_between : on_bytes hex_decode_word (codes ":@") Ended ≡ stops_at 2 2 (bad_hex 0)
hex_decode_bad_between = simp rows

hex_decode_lone_first : on_bytes hex_decode_word (codes "4") Ended ≡ stops_at 2 1 (bad_hex 0)
hex_decode_lone_first = simp rows

hex_decode_upper : on_bytes hex_decode_word (codes "4A") Ended ≡ gives_elem 2 74 (at_end 2)
hex_decode_upper = simp rows

-- each sort of digit, first and last, in both places
hex_decode_digits : on_bytes hex_decode_word (codes "0990AFFAaffa") Ended ≡ gives_elem 2 9 (gives_elem 4 144 (gives_elem 6 175 (gives_elem 8 250 (gives_elem 10 175 (gives_elem 12 250 (at_end 12))))))
hex_decode_digits = simp rows

-- the characters just outside each sort, in both places
abbrev BadHex : List ℕ → Type 0
BadHex group = on_bytes hex_decode_word group waiting ≡ stops_at 2 2 (bad_hex 0)

hex_decode_outside_first : BadHex (codes "/0") × BadHex (codes ":0") × BadHex (codes "@0") × BadHex (codes "G0") × BadHex (codes "`0") × BadHex (codes "g0")
hex_decode_outside_first = (simp rows, simp rows, simp rows, simp rows, simp rows, simp rows)

hex_decode_outside_second : BadHex (codes "0/") × BadHex (codes "0:") × BadHex (codes "0@") × BadHex (codes "0G") × BadHex (codes "0`") × BadHex (codes "0g")
hex_decode_outside_second = (simp rows, simp rows, simp rows, simp rows, simp rows, simp rows)

-- `base64Encode`: the words of RFC 4648, section 10
base64_encode_empty : on_bytes base64_encode_word [] Ended ≡ at_end 0
base64_encode_empty = simp rows

base64_encode_one : on_bytes base64_encode_word (codes "f") Ended ≡ late_elem 1 90 (late_elem 1 103 (late_elem 1 61 (late_elem 1 61 (at_end 1))))
base64_encode_one = simp rows

base64_encode_two : on_bytes base64_encode_word (codes "fo") Ended ≡ late_elem 2 90 (late_elem 2 109 (late_elem 2 56 (late_elem 2 61 (at_end 2))))
base64_encode_two = simp rows

base64_encode_three : on_bytes base64_encode_word (codes "foo") Ended ≡ gives_elem 3 90 (gives_elem 3 109 (gives_elem 3 57 (gives_elem 3 118 (at_end 3))))
base64_encode_three = simp rows

base64_encode_waits : on_bytes base64_encode_word (codes "foob") waiting ≡ gives_elem 3 90 (gives_elem 3 109 (gives_elem 3 57 (gives_elem 3 118 (waits_past 4))))
base64_encode_waits = simp rows

base64_encode_last_digits : on_bytes base64_encode_word (251 ∷ 255 ∷ 190 ∷ []) Ended ≡ gives_elem 3 43 (gives_elem 3 47 (gives_elem 3 43 (gives_elem 3 43 (at_end 3))))
base64_encode_last_digits = simp rows

-- each sort of digit, first and last: `AZaz09+/`
base64_encode_digits : on_bytes base64_encode_word (1 ∷ 150 ∷ 179 ∷ 211 ∷ 223 ∷ 191 ∷ []) Ended ≡ gives_elem 3 65 (gives_elem 3 90 (gives_elem 3 97 (gives_elem 3 122 (gives_elem 6 48 (gives_elem 6 57 (gives_elem 6 43 (gives_elem 6 47 (at_end 6))))))))
base64_encode_digits = simp rows

-- `base64Decode`
base64_decode_empty : on_bytes base64_decode_word [] Ended ≡ at_end 0
base64_decode_empty = simp rows

base64_decode_three : on_bytes base64_decode_word (codes "Zm9v") Ended ≡ gives_elem 4 102 (gives_elem 4 111 (gives_elem 4 111 (at_end 4)))
base64_decode_three = simp rows

base64_decode_two : on_bytes base64_decode_word (codes "Zm8=") Ended ≡ gives_elem 4 102 (gives_elem 4 111 (at_end 4))
base64_decode_two = simp rows

base64_decode_one : on_bytes base64_decode_word (codes "Zg==") Ended ≡ gives_elem 4 102 (at_end 4)
base64_decode_one = simp rows

base64_decode_last_digits : on_bytes base64_decode_word (codes "+/++") Ended ≡ gives_elem 4 251 (gives_elem 4 255 (gives_elem 4 190 (at_end 4)))
base64_decode_last_digits = simp rows

base64_decode_waits : on_bytes base64_decode_word (codes "Zm9vY") waiting ≡ gives_elem 4 102 (gives_elem 4 111 (gives_elem 4 111 (waits_past 5)))
base64_decode_waits = simp rows

base64_decode_short : on_bytes base64_decode_word (codes "Zm9vYm") Ended ≡ gives_elem 4 102 (gives_elem 4 111 (gives_elem 4 111 (stops_at 7 6 (bad_base64 4))))
base64_decode_short = simp rows

base64_decode_character : on_bytes base64_decode_word (codes "Zm-v") Ended ≡ stops_at 4 4 (bad_base64 0)
base64_decode_character = simp rows

base64_decode_low_four : on_bytes base64_decode_word (codes "Zh==") Ended ≡ stops_at 4 4 (bad_base64 0)
base64_decode_low_four = simp rows

base64_decode_low_two : on_bytes base64_decode_word (codes "Zm9=") Ended ≡ stops_at 4 4 (bad_base64 0)
base64_decode_low_two = simp rows

base64_decode_low_fourth : on_bytes base64_decode_word (codes "Zo==") Ended ≡ stops_at 4 4 (bad_base64 0)
base64_decode_low_fourth = simp rows

base64_decode_low_second : on_bytes base64_decode_word (codes "Zm+=") Ended ≡ stops_at 4 4 (bad_base64 0)
base64_decode_low_second = simp rows

base64_decode_padding_within : on_bytes base64_decode_word (codes "Z=9v") Ended ≡ stops_at 4 4 (bad_base64 0)
base64_decode_padding_within = simp rows

base64_decode_padding_third : on_bytes base64_decode_word (codes "Zm=v") Ended ≡ stops_at 4 4 (bad_base64 0)
base64_decode_padding_third = simp rows

base64_decode_padding_all : on_bytes base64_decode_word (codes "====") Ended ≡ stops_at 4 4 (bad_base64 0)
base64_decode_padding_all = simp rows

base64_decode_behind_padding : on_bytes base64_decode_word (codes "Zg==Zm9v") Ended ≡ gives_elem 4 102 (stops_at 8 8 (bad_base64 4))
base64_decode_behind_padding = simp rows

base64_decode_rest_behind_padding : on_bytes base64_decode_word (codes "Zg==Z") waiting ≡ gives_elem 4 102 (waits_past 5)
base64_decode_rest_behind_padding = simp rows

base64_decode_digits : on_bytes base64_decode_word (codes "AZaz09+/") Ended ≡ gives_elem 4 1 (gives_elem 4 150 (gives_elem 4 179 (gives_elem 8 211 (gives_elem 8 223 (gives_elem 8 191 (at_end 8))))))
base64_decode_digits = simp rows

-- the characters just outside each sort, in each place
abbrev BadBase64 : List ℕ → Type 0
BadBase64 group = on_bytes base64_decode_word group waiting ≡ stops_at 4 4 (bad_base64 0)

base64_decode_outside_first : BadBase64 (codes "*AAA") × BadBase64 (codes ",AAA") × BadBase64 (codes ".AAA") × BadBase64 (codes ":AAA") × BadBase64 (codes "@AAA") × BadBase64 (codes "[AAA") × BadBase64 (codes "`AAA") × BadBase64 (codes "{AAA")
base64_decode_outside_first = (simp rows, simp rows, simp rows, simp rows, simp rows, simp rows, simp rows, simp rows)

base64_decode_outside_second : BadBase64 (codes "A*AA") × BadBase64 (codes "A{AA") × BadBase64 (codes "A{==")
base64_decode_outside_second = (simp rows, simp rows, simp rows)

base64_decode_outside_third : BadBase64 (codes "AA*A") × BadBase64 (codes "AA{A") × BadBase64 (codes "AA{=")
base64_decode_outside_third = (simp rows, simp rows, simp rows)

base64_decode_outside_fourth : BadBase64 (codes "AAA*") × BadBase64 (codes "AAA{")
base64_decode_outside_fourth = (simp rows, simp rows)

-- a last group of one to three characters, first or behind another
base64_decode_lone : on_bytes base64_decode_word (codes "Z") Ended ≡ stops_at 2 1 (bad_base64 0)
base64_decode_lone = simp rows

base64_decode_lone_two : on_bytes base64_decode_word (codes "Zm") Ended ≡ stops_at 3 2 (bad_base64 0)
base64_decode_lone_two = simp rows

base64_decode_lone_three : on_bytes base64_decode_word (codes "Zm9") Ended ≡ stops_at 4 3 (bad_base64 0)
base64_decode_lone_three = simp rows

base64_decode_lone_behind : on_bytes base64_decode_word (codes "Zm9vY") Ended ≡ gives_elem 4 102 (gives_elem 4 111 (gives_elem 4 111 (stops_at 6 5 (bad_base64 4))))
base64_decode_lone_behind = simp rows

base64_decode_three_behind : on_bytes base64_decode_word (codes "Zm9vYm9") Ended ≡ gives_elem 4 102 (gives_elem 4 111 (gives_elem 4 111 (stops_at 8 7 (bad_base64 4))))
base64_decode_three_behind = simp rows
