-- UTF-8 at the edges of the Unicode Standard, Table 3-7: each sort of byte at both ends of its range, and one past them.
use Rattle.std.specs.Prelude.{◌≡◌, ℕ, List, [], ◌∷◌, length}
use lib.Utf8.{encode}
use Rattle.cd_meaning.specs.Stream.{bad_text, Ended}
use Rattle.cd_meaning.specs.Run.{Run}
use Rattle.cd_meaning.specs.Rows.Short.{utf8_encode_word, utf8_lenient_word, utf8_word}
use Rattle.cd_meaning.specs.Rows.Given.{rows, at_end, gives_elem, on_bytes, on_chars, stops_at, waiting, waits_past}

-- these bytes are one character, which comes at the last of them
abbrev Good : List ℕ → ℕ → Type 0
Good bytes c =
    let n = length bytes in
    (on_bytes utf8_word bytes waiting ≡ gives_elem n c (waits_past n)) × (on_bytes utf8_lenient_word bytes waiting ≡ gives_elem n c (waits_past n))

-- The last of these bytes is bad: `utf8` stops at it, and of `utf8Lenient` this comes at it.
abbrev Stops : List ℕ → (Run → Run) → Type 0
Stops bytes replaced =
    let n = length bytes in
    (on_bytes utf8_word bytes waiting ≡ stops_at n n (bad_text 0)) × (on_bytes utf8_lenient_word bytes waiting ≡ replaced (waits_past n))

-- it begins nothing, so it is replaced, as are those before it together: U+FFFD twice
abbrev Bad : List ℕ → Type 0
Bad bytes = Stops bytes (λ r. gives_elem (length bytes) 65533 (gives_elem (length bytes) 65533 r))

-- it is 127, which is itself: U+FFFD once
abbrev BadBefore : List ℕ → Type 0
BadBefore bytes = Stops bytes (λ r. gives_elem (length bytes) 65533 (gives_elem (length bytes) 127 r))

-- a byte that begins nothing, with nothing before it
abbrev Alone : ℕ → Type 0
Alone b = Stops (b ∷ []) (gives_elem 1 65533)

-- a byte that others must follow
abbrev Begins : ℕ → Type 0
Begins b = (on_bytes utf8_word (b ∷ []) waiting ≡ waits_past 1) × (on_bytes utf8_lenient_word (b ∷ []) waiting ≡ waits_past 1)

-- the second byte, behind the first and the last of each sort of first byte: one below the least, the least, the greatest, and one past it
second_behind_194 : BadBefore (194 ∷ 127 ∷ []) × Good (194 ∷ 128 ∷ []) 128 × Good (194 ∷ 191 ∷ []) 191 × Bad (194 ∷ 192 ∷ [])
second_behind_194 = ((simp rows, simp rows), (simp rows, simp rows), (simp rows, simp rows), (simp rows, simp rows))

second_behind_223 : BadBefore (223 ∷ 127 ∷ []) × Good (223 ∷ 128 ∷ []) 1984 × Good (223 ∷ 191 ∷ []) 2047 × Bad (223 ∷ 192 ∷ [])
second_behind_223 = ((simp rows, simp rows), (simp rows, simp rows), (simp rows, simp rows), (simp rows, simp rows))

second_behind_224 : Bad (224 ∷ 159 ∷ []) × Good (224 ∷ 160 ∷ 128 ∷ []) 2048 × Good (224 ∷ 191 ∷ 191 ∷ []) 4095 × Bad (224 ∷ 192 ∷ [])
second_behind_224 = ((simp rows, simp rows), (simp rows, simp rows), (simp rows, simp rows), (simp rows, simp rows))

second_behind_225 : BadBefore (225 ∷ 127 ∷ []) × Good (225 ∷ 128 ∷ 128 ∷ []) 4096 × Good (225 ∷ 191 ∷ 191 ∷ []) 8191 × Bad (225 ∷ 192 ∷ [])
second_behind_225 = ((simp rows, simp rows), (simp rows, simp rows), (simp rows, simp rows), (simp rows, simp rows))

second_behind_236 : BadBefore (236 ∷ 127 ∷ []) × Good (236 ∷ 128 ∷ 128 ∷ []) 49152 × Good (236 ∷ 191 ∷ 191 ∷ []) 53247 × Bad (236 ∷ 192 ∷ [])
second_behind_236 = ((simp rows, simp rows), (simp rows, simp rows), (simp rows, simp rows), (simp rows, simp rows))

second_behind_237 : BadBefore (237 ∷ 127 ∷ []) × Good (237 ∷ 128 ∷ 128 ∷ []) 53248 × Good (237 ∷ 159 ∷ 191 ∷ []) 55295 × Bad (237 ∷ 160 ∷ [])
second_behind_237 = ((simp rows, simp rows), (simp rows, simp rows), (simp rows, simp rows), (simp rows, simp rows))

second_behind_238 : BadBefore (238 ∷ 127 ∷ []) × Good (238 ∷ 128 ∷ 128 ∷ []) 57344 × Good (238 ∷ 191 ∷ 191 ∷ []) 61439 × Bad (238 ∷ 192 ∷ [])
second_behind_238 = ((simp rows, simp rows), (simp rows, simp rows), (simp rows, simp rows), (simp rows, simp rows))

second_behind_239 : BadBefore (239 ∷ 127 ∷ []) × Good (239 ∷ 128 ∷ 128 ∷ []) 61440 × Good (239 ∷ 191 ∷ 191 ∷ []) 65535 × Bad (239 ∷ 192 ∷ [])
second_behind_239 = ((simp rows, simp rows), (simp rows, simp rows), (simp rows, simp rows), (simp rows, simp rows))

second_behind_240 : Bad (240 ∷ 143 ∷ []) × Good (240 ∷ 144 ∷ 128 ∷ 128 ∷ []) 65536 × Good (240 ∷ 191 ∷ 191 ∷ 191 ∷ []) 262143 × Bad (240 ∷ 192 ∷ [])
second_behind_240 = ((simp rows, simp rows), (simp rows, simp rows), (simp rows, simp rows), (simp rows, simp rows))

second_behind_241 : BadBefore (241 ∷ 127 ∷ []) × Good (241 ∷ 128 ∷ 128 ∷ 128 ∷ []) 262144 × Good (241 ∷ 191 ∷ 191 ∷ 191 ∷ []) 524287 × Bad (241 ∷ 192 ∷ [])
second_behind_241 = ((simp rows, simp rows), (simp rows, simp rows), (simp rows, simp rows), (simp rows, simp rows))

second_behind_243 : BadBefore (243 ∷ 127 ∷ []) × Good (243 ∷ 128 ∷ 128 ∷ 128 ∷ []) 786432 × Good (243 ∷ 191 ∷ 191 ∷ 191 ∷ []) 1048575 × Bad (243 ∷ 192 ∷ [])
second_behind_243 = ((simp rows, simp rows), (simp rows, simp rows), (simp rows, simp rows), (simp rows, simp rows))

second_behind_244 : BadBefore (244 ∷ 127 ∷ []) × Good (244 ∷ 128 ∷ 128 ∷ 128 ∷ []) 1048576 × Good (244 ∷ 143 ∷ 191 ∷ 191 ∷ []) 1114111 × Bad (244 ∷ 144 ∷ [])
second_behind_244 = ((simp rows, simp rows), (simp rows, simp rows), (simp rows, simp rows), (simp rows, simp rows))

-- the third byte, and the fourth
third_behind_224 : BadBefore (224 ∷ 160 ∷ 127 ∷ []) × Bad (224 ∷ 160 ∷ 192 ∷ [])
third_behind_224 = ((simp rows, simp rows), (simp rows, simp rows))

third_behind_225 : BadBefore (225 ∷ 128 ∷ 127 ∷ []) × Bad (225 ∷ 128 ∷ 192 ∷ [])
third_behind_225 = ((simp rows, simp rows), (simp rows, simp rows))

third_behind_237 : BadBefore (237 ∷ 159 ∷ 127 ∷ []) × Bad (237 ∷ 159 ∷ 192 ∷ [])
third_behind_237 = ((simp rows, simp rows), (simp rows, simp rows))

third_behind_239 : BadBefore (239 ∷ 191 ∷ 127 ∷ []) × Bad (239 ∷ 191 ∷ 192 ∷ [])
third_behind_239 = ((simp rows, simp rows), (simp rows, simp rows))

third_behind_240 : BadBefore (240 ∷ 144 ∷ 127 ∷ []) × Bad (240 ∷ 144 ∷ 192 ∷ [])
third_behind_240 = ((simp rows, simp rows), (simp rows, simp rows))

third_behind_241 : BadBefore (241 ∷ 128 ∷ 127 ∷ []) × Bad (241 ∷ 128 ∷ 192 ∷ [])
third_behind_241 = ((simp rows, simp rows), (simp rows, simp rows))

third_behind_244 : BadBefore (244 ∷ 143 ∷ 127 ∷ []) × Bad (244 ∷ 143 ∷ 192 ∷ [])
third_behind_244 = ((simp rows, simp rows), (simp rows, simp rows))

fourth_behind_240 : BadBefore (240 ∷ 144 ∷ 128 ∷ 127 ∷ []) × Bad (240 ∷ 144 ∷ 128 ∷ 192 ∷ [])
fourth_behind_240 = ((simp rows, simp rows), (simp rows, simp rows))

fourth_behind_243 : BadBefore (243 ∷ 191 ∷ 191 ∷ 127 ∷ []) × Bad (243 ∷ 191 ∷ 191 ∷ 192 ∷ [])
fourth_behind_243 = ((simp rows, simp rows), (simp rows, simp rows))

fourth_behind_244 : BadBefore (244 ∷ 143 ∷ 191 ∷ 127 ∷ []) × Bad (244 ∷ 143 ∷ 191 ∷ 192 ∷ [])
fourth_behind_244 = ((simp rows, simp rows), (simp rows, simp rows))

-- bytes that begin nothing, and the last and the first ones that begin something
first_bytes : Alone 128 × Alone 191 × Alone 192 × Alone 193 × Alone 245 × Alone 255 × Good (127 ∷ []) 127 × Begins 194 × Begins 244
first_bytes = ((simp rows, simp rows), (simp rows, simp rows), (simp rows, simp rows), (simp rows, simp rows), (simp rows, simp rows), (simp rows, simp rows), (simp rows, simp rows), (simp rows, simp rows), (simp rows, simp rows))

-- `utf8Encode`: the first and the last character of each length
encode_one : on_chars utf8_encode_word (0 ∷ 127 ∷ []) Ended ≡ gives_elem 1 0 (gives_elem 2 127 (at_end 2))
unfolding encode
encode_one = simp rows

encode_two : on_chars utf8_encode_word (128 ∷ 2047 ∷ []) Ended ≡ gives_elem 1 194 (gives_elem 1 128 (gives_elem 2 223 (gives_elem 2 191 (at_end 2))))
unfolding encode
encode_two = simp rows

encode_three : on_chars utf8_encode_word (2048 ∷ 65535 ∷ []) Ended ≡ gives_elem 1 224 (gives_elem 1 160 (gives_elem 1 128 (gives_elem 2 239 (gives_elem 2 191 (gives_elem 2 191 (at_end 2))))))
unfolding encode
encode_three = simp rows

encode_four : on_chars utf8_encode_word (65536 ∷ 1114111 ∷ []) Ended ≡ gives_elem 1 240 (gives_elem 1 144 (gives_elem 1 128 (gives_elem 1 128 (gives_elem 2 244 (gives_elem 2 143 (gives_elem 2 191 (gives_elem 2 191 (at_end 2))))))))
unfolding encode
encode_four = simp rows
