-- Cases of tools/cases/words.jsonl, written by tools/cases.py: the number in a name is the line of the case.
use Rattle.std.specs.Prelude.{[], ◌∷◌, ◌≡◌, codes, map, true, false}
use lib.Utf8.{encode}
use Rattle.std.specs.Str.{chars}
use Rattle.cd_meaning.specs.Stream.{Sort, Elem, Piece, Value, absent, present, Reading, More, Stop, bad_text, bad_hex, Ended, Halted, Done, Halts, Out, Do, Open, Put, Close}
use Rattle.cd_meaning.specs.Run.{stamp, Then, Ends}
use Rattle.cd_meaning.specs.Rows.Short.{pass_e, take_e, take_while_e, map_e, repeat_e, peek_e, last_e, length_e, sum_e, null_e, sink_null, pass_word, take_word, take_while_word, repeat_word, map_word, peek_word, length_word, null_word, lines_word, split_word, unlines_word, utf8_word, utf8_lenient_word, utf8_encode_word, sink_file_word, stdout_word, digit, lower, is_scalar, empty, ends, xor, add, rot13, prefix, suffix, reversed, not_test}
use Rattle.cd_meaning.specs.Cases.Known.{word_run, runs_so}

-- lastE
word_172 : word_run last_e Sort.Chars [] Ended ≡ Ends (stamp 1 0) (Done absent)
word_172 = runs_so _ _ _ _

-- length
word_177 : word_run length_word Sort.Text (map Piece ((48 ∷ 233 ∷ 98 ∷ []) ∷ (codes "AG") ∷ (codes "1") ∷ (13 ∷ []) ∷ [])) Ended ≡ Ends (stamp 5 4)
    (Done (Value.Num 4))
word_177 = runs_so _ _ _ _

-- length
word_178 : word_run length_word Sort.Block [] Ended ≡ Ends (stamp 1 0) (Done (Value.Num 0))
word_178 = runs_so _ _ _ _

-- length
word_179 : word_run length_word Sort.Block (map Piece ((codes "A") ∷ (233 ∷ 172 ∷ []) ∷ [] ∷ (65 ∷ 10 ∷ 32 ∷ []) ∷ [])) (Halted (Stop (bad_hex 7))) ≡
    Ends (stamp 5 4) (Halts (Stop (bad_hex 7)))
word_179 = runs_so _ _ _ _

-- lengthE
word_185 : word_run length_e Sort.Bytes (map Elem (226 ∷ 98 ∷ 65 ∷ [])) (Halted (More (Reading 1))) ≡ Ends (stamp 4 3) (Halts (More (Reading 1)))
word_185 = runs_so _ _ _ _

-- lengthE
word_186 : word_run length_e Sort.Chars (map Elem (233 ∷ 98 ∷ 97 ∷ 233 ∷ 61 ∷ [])) Ended ≡ Ends (stamp 6 5) (Done (Value.Num 5))
word_186 = runs_so _ _ _ _

-- lengthE
word_187 : word_run length_e Sort.Chars (map Elem (128512 ∷ [])) (Halted (Stop (bad_hex 7))) ≡ Ends (stamp 2 1) (Halts (Stop (bad_hex 7)))
word_187 = runs_so _ _ _ _

-- lines 4
word_193 : word_run (lines_word 4) Sort.Chars (map Elem (233 ∷ 71 ∷ 71 ∷ 32 ∷ 98 ∷ [])) Ended ≡ Then (stamp 4 4) (Out (Piece (233 ∷ 71 ∷ 71 ∷ 32 ∷
    []))) (Then (stamp 6 5) (Out (Piece (codes "b"))) (Ends (stamp 6 5) (Done Value.Unit)))
word_193 = runs_so _ _ _ _

-- lines 4
word_194 : word_run (lines_word 4) Sort.Bytes (map Elem (61 ∷ 0 ∷ 48 ∷ 71 ∷ 130 ∷ 97 ∷ 0 ∷ 97 ∷ 32 ∷ [])) Ended ≡ Then (stamp 4 4) (Out (Piece (61 ∷ 0
    ∷ 48 ∷ 71 ∷ []))) (Then (stamp 8 8) (Out (Piece (130 ∷ 97 ∷ 0 ∷ 97 ∷ []))) (Then (stamp 10 9) (Out (Piece (32 ∷ []))) (Ends (stamp 10 9) (Done
    Value.Unit))))
word_194 = runs_so _ _ _ _

-- lines 3
word_195 : word_run (lines_word 3) Sort.Chars (map Elem (48 ∷ 8364 ∷ 128512 ∷ 61 ∷ 8364 ∷ [])) Ended ≡ Then (stamp 3 3) (Out (Piece (48 ∷ 8364 ∷
    128512 ∷ []))) (Then (stamp 6 5) (Out (Piece (61 ∷ 8364 ∷ []))) (Ends (stamp 6 5) (Done Value.Unit)))
word_195 = runs_so _ _ _ _

-- map suffix "é\nx\n"
word_201 : word_run (map_word (suffix (195 ∷ 169 ∷ 10 ∷ 120 ∷ 10 ∷ []))) Sort.Text [] (Halted (More (Reading 1))) ≡ Ends (stamp 1 0) (Halts (More
    (Reading 1)))
unfolding chars
word_201 = runs_so _ _ _ _

-- map prefix "b"
word_202 : word_run (map_word (prefix (codes "b"))) Sort.Text (map Piece ((codes "00") ∷ [])) Ended ≡ Then (stamp 1 1) (Out (Piece (codes "b00")))
    (Ends (stamp 2 1) (Done Value.Unit))
unfolding chars
word_202 = runs_so _ _ _ _

-- map reverse
word_203 : word_run (map_word reversed) Sort.Text (map Piece ((codes "GA1") ∷ (8364 ∷ 8364 ∷ []) ∷ (codes "0") ∷ (98 ∷ 48 ∷ 13 ∷ []) ∷ (233 ∷ []) ∷
    [])) (Halted (More (Reading 1))) ≡ Then (stamp 1 1) (Out (Piece (codes "1AG"))) (Then (stamp 2 2) (Out (Piece (8364 ∷ 8364 ∷ []))) (Then (stamp 3
    3) (Out (Piece (codes "0"))) (Then (stamp 4 4) (Out (Piece (13 ∷ 48 ∷ 98 ∷ []))) (Then (stamp 5 5) (Out (Piece (233 ∷ []))) (Ends (stamp 6 5)
    (Halts (More (Reading 1))))))))
word_203 = runs_so _ _ _ _

-- map suffix "😀"
word_204 : word_run (map_word (suffix (240 ∷ 159 ∷ 152 ∷ 128 ∷ []))) Sort.Block (map Piece ((codes "Ab") ∷ (codes "=4") ∷ (13 ∷ 233 ∷ []) ∷ (10 ∷ [])
    ∷ (codes "A") ∷ [])) Ended ≡ Then (stamp 1 1) (Out (Piece (65 ∷ 98 ∷ 240 ∷ 159 ∷ 152 ∷ 128 ∷ []))) (Then (stamp 2 2) (Out (Piece (61 ∷ 52 ∷ 240 ∷
    159 ∷ 152 ∷ 128 ∷ []))) (Then (stamp 3 3) (Out (Piece (13 ∷ 233 ∷ 240 ∷ 159 ∷ 152 ∷ 128 ∷ []))) (Then (stamp 4 4) (Out (Piece (10 ∷ 240 ∷ 159 ∷
    152 ∷ 128 ∷ []))) (Then (stamp 5 5) (Out (Piece (65 ∷ 240 ∷ 159 ∷ 152 ∷ 128 ∷ []))) (Ends (stamp 6 5) (Done Value.Unit))))))
word_204 = runs_so _ _ _ _

-- map prefix "\""
word_205 : word_run (map_word (prefix (34 ∷ []))) Sort.Text [] Ended ≡ Ends (stamp 1 0) (Done Value.Unit)
unfolding chars
word_205 = runs_so _ _ _ _

-- map suffix "é"
word_206 : word_run (map_word (suffix (195 ∷ 169 ∷ []))) Sort.Block (map Piece ((97 ∷ 233 ∷ []) ∷ (172 ∷ 49 ∷ 172 ∷ []) ∷ (codes "=") ∷ (codes "4") ∷
    (0 ∷ []) ∷ [])) Ended ≡ Then (stamp 1 1) (Out (Piece (97 ∷ 233 ∷ 195 ∷ 169 ∷ []))) (Then (stamp 2 2) (Out (Piece (172 ∷ 49 ∷ 172 ∷ 195 ∷ 169 ∷
    []))) (Then (stamp 3 3) (Out (Piece (61 ∷ 195 ∷ 169 ∷ []))) (Then (stamp 4 4) (Out (Piece (52 ∷ 195 ∷ 169 ∷ []))) (Then (stamp 5 5) (Out (Piece (0
    ∷ 195 ∷ 169 ∷ []))) (Ends (stamp 6 5) (Done Value.Unit))))))
word_206 = runs_so _ _ _ _

-- map prefix "ab"
word_207 : word_run (map_word (prefix (codes "ab"))) Sort.Block (map Piece ((10 ∷ 52 ∷ []) ∷ (13 ∷ []) ∷ [])) Ended ≡ Then (stamp 1 1) (Out (Piece (97
    ∷ 98 ∷ 10 ∷ 52 ∷ []))) (Then (stamp 2 2) (Out (Piece (97 ∷ 98 ∷ 13 ∷ []))) (Ends (stamp 3 2) (Done Value.Unit)))
word_207 = runs_so _ _ _ _

-- mapE xor 32
word_209 : word_run (map_e (xor 32)) Sort.Bytes (map Elem (49 ∷ 226 ∷ [])) Ended ≡ Then (stamp 1 1) (Out (Elem 17)) (Then (stamp 2 2) (Out (Elem 194))
    (Ends (stamp 3 2) (Done Value.Unit)))
word_209 = runs_so _ _ _ _

-- mapE add 1
word_210 : word_run (map_e (add 1)) Sort.Bytes (map Elem (13 ∷ 52 ∷ 172 ∷ 52 ∷ [])) Ended ≡ Then (stamp 1 1) (Out (Elem 14)) (Then (stamp 2 2) (Out
    (Elem 53)) (Then (stamp 3 3) (Out (Elem 173)) (Then (stamp 4 4) (Out (Elem 53)) (Ends (stamp 5 4) (Done Value.Unit)))))
word_210 = runs_so _ _ _ _

-- mapE rot13
word_211 : word_run (map_e rot13) Sort.Chars (map Elem (233 ∷ 52 ∷ 71 ∷ 233 ∷ [])) (Halted (More (Reading 1))) ≡ Then (stamp 1 1) (Out (Elem 233))
    (Then (stamp 2 2) (Out (Elem 52)) (Then (stamp 3 3) (Out (Elem 84)) (Then (stamp 4 4) (Out (Elem 233)) (Ends (stamp 5 4) (Halts (More (Reading
    1)))))))
word_211 = runs_so _ _ _ _

-- mapE rot13
word_212 : word_run (map_e rot13) Sort.Chars (map Elem (codes "A")) Ended ≡ Then (stamp 1 1) (Out (Elem 78)) (Ends (stamp 2 1) (Done Value.Unit))
word_212 = runs_so _ _ _ _

-- mapE rot13
word_213 : word_run (map_e rot13) Sort.Chars (map Elem (61 ∷ 61 ∷ 49 ∷ 65 ∷ 13 ∷ 8364 ∷ 65 ∷ 32 ∷ 13 ∷ [])) (Halted (Stop (bad_hex 7))) ≡ Then (stamp
    1 1) (Out (Elem 61)) (Then (stamp 2 2) (Out (Elem 61)) (Then (stamp 3 3) (Out (Elem 49)) (Then (stamp 4 4) (Out (Elem 78)) (Then (stamp 5 5) (Out
    (Elem 13)) (Then (stamp 6 6) (Out (Elem 8364)) (Then (stamp 7 7) (Out (Elem 78)) (Then (stamp 8 8) (Out (Elem 32)) (Then (stamp 9 9) (Out (Elem
    13)) (Ends (stamp 10 9) (Halts (Stop (bad_hex 7))))))))))))
word_213 = runs_so _ _ _ _

-- null
word_217 : word_run null_word Sort.Text (map Piece ((128512 ∷ 233 ∷ []) ∷ [])) Ended ≡ Ends (stamp 1 0) (Done (Value.Bool false))
word_217 = runs_so _ _ _ _

-- null
word_218 : word_run null_word Sort.Block [] Ended ≡ Ends (stamp 1 0) (Done (Value.Bool true))
word_218 = runs_so _ _ _ _

-- null
word_219 : word_run null_word Sort.Text (map Piece ((codes "a") ∷ (71 ∷ 8364 ∷ 97 ∷ []) ∷ [] ∷ (32 ∷ 48 ∷ []) ∷ [])) (Halted (Stop (bad_hex 7))) ≡
    Ends (stamp 1 0) (Done (Value.Bool false))
word_219 = runs_so _ _ _ _

-- nullE
word_225 : word_run null_e Sort.Chars (map Elem (48 ∷ 8364 ∷ 10 ∷ [])) (Halted (Stop (bad_hex 7))) ≡ Ends (stamp 1 0) (Done (Value.Bool false))
word_225 = runs_so _ _ _ _

-- nullE
word_226 : word_run null_e Sort.Bytes (map Elem (65 ∷ 13 ∷ 172 ∷ 48 ∷ 52 ∷ [])) Ended ≡ Ends (stamp 1 0) (Done (Value.Bool false))
word_226 = runs_so _ _ _ _

-- nullE
word_227 : word_run null_e Sort.Chars (map Elem (codes "0")) Ended ≡ Ends (stamp 1 0) (Done (Value.Bool false))
word_227 = runs_so _ _ _ _

-- pass
word_233 : word_run pass_word Sort.Block (map Piece ([] ∷ (codes "b") ∷ [])) Ended ≡ Then (stamp 1 1) (Out (Piece [])) (Then (stamp 2 2) (Out (Piece
    (codes "b"))) (Ends (stamp 3 2) (Done Value.Unit)))
word_233 = runs_so _ _ _ _

-- pass
word_234 : word_run pass_word Sort.Text (map Piece ((52 ∷ 32 ∷ []) ∷ (codes "0a") ∷ (codes "a") ∷ (codes "b") ∷ (codes "G") ∷ [])) Ended ≡ Then (stamp
    1 1) (Out (Piece (52 ∷ 32 ∷ []))) (Then (stamp 2 2) (Out (Piece (codes "0a"))) (Then (stamp 3 3) (Out (Piece (codes "a"))) (Then (stamp 4 4) (Out
    (Piece (codes "b"))) (Then (stamp 5 5) (Out (Piece (codes "G"))) (Ends (stamp 6 5) (Done Value.Unit))))))
word_234 = runs_so _ _ _ _

-- pass
word_235 : word_run pass_word Sort.Block (map Piece ((0 ∷ 233 ∷ 98 ∷ []) ∷ [] ∷ (codes "A") ∷ (10 ∷ 32 ∷ []) ∷ (codes "1") ∷ [])) Ended ≡ Then (stamp
    1 1) (Out (Piece (0 ∷ 233 ∷ 98 ∷ []))) (Then (stamp 2 2) (Out (Piece [])) (Then (stamp 3 3) (Out (Piece (codes "A"))) (Then (stamp 4 4) (Out
    (Piece (10 ∷ 32 ∷ []))) (Then (stamp 5 5) (Out (Piece (codes "1"))) (Ends (stamp 6 5) (Done Value.Unit))))))
word_235 = runs_so _ _ _ _

-- passE
word_241 : word_run pass_e Sort.Bytes [] (Halted (Stop (bad_hex 7))) ≡ Ends (stamp 1 0) (Halts (Stop (bad_hex 7)))
word_241 = runs_so _ _ _ _

-- passE
word_242 : word_run pass_e Sort.Bytes (map Elem (98 ∷ 0 ∷ 255 ∷ [])) (Halted (More (Reading 1))) ≡ Then (stamp 1 1) (Out (Elem 98)) (Then (stamp 2 2)
    (Out (Elem 0)) (Then (stamp 3 3) (Out (Elem 255)) (Ends (stamp 4 3) (Halts (More (Reading 1))))))
word_242 = runs_so _ _ _ _

-- passE
word_243 : word_run pass_e Sort.Bytes [] (Halted (Stop (bad_hex 7))) ≡ Ends (stamp 1 0) (Halts (Stop (bad_hex 7)))
word_243 = runs_so _ _ _ _

-- peek
word_249 : word_run peek_word Sort.Text (map Piece ((32 ∷ 8364 ∷ []) ∷ [])) Ended ≡ Ends (stamp 1 0) (Done (present (Value.TextV (32 ∷ 8364 ∷ []))))
word_249 = runs_so _ _ _ _

-- peek
word_250 : word_run peek_word Sort.Text (map Piece ((61 ∷ 13 ∷ []) ∷ (codes "4") ∷ (codes "=b1") ∷ (codes "aG=") ∷ (10 ∷ 13 ∷ 128512 ∷ []) ∷ []))
    Ended ≡ Ends (stamp 1 0) (Done (present (Value.TextV (61 ∷ 13 ∷ []))))
word_250 = runs_so _ _ _ _

-- peek
word_251 : word_run peek_word Sort.Block (map Piece ((13 ∷ 52 ∷ []) ∷ (10 ∷ []) ∷ (codes "bG") ∷ [])) Ended ≡ Ends (stamp 1 0) (Done (present
    (Value.BytesV (13 ∷ 52 ∷ []))))
word_251 = runs_so _ _ _ _

-- peek
word_254 : word_run peek_word Sort.Block [] Ended ≡ Ends (stamp 1 0) (Done absent)
word_254 = runs_so _ _ _ _

-- peekE
word_257 : word_run peek_e Sort.Bytes (map Elem (98 ∷ 32 ∷ [])) Ended ≡ Ends (stamp 1 0) (Done (present (Value.Byte 98)))
word_257 = runs_so _ _ _ _

-- peekE
word_258 : word_run peek_e Sort.Chars (map Elem (52 ∷ 49 ∷ 71 ∷ 61 ∷ 65 ∷ 71 ∷ 128512 ∷ 8364 ∷ 49 ∷ [])) Ended ≡ Ends (stamp 1 0) (Done (present
    (Value.Char 52)))
word_258 = runs_so _ _ _ _

-- peekE
word_259 : word_run peek_e Sort.Chars (map Elem (codes "Aa")) Ended ≡ Ends (stamp 1 0) (Done (present (Value.Char 65)))
word_259 = runs_so _ _ _ _

-- repeat 2
word_265 : word_run (repeat_word 2) Sort.Block (map Piece ((233 ∷ 0 ∷ []) ∷ (codes "=") ∷ (10 ∷ []) ∷ (codes "A0") ∷ (codes "G") ∷ [])) Ended ≡ Then
    (stamp 1 1) (Out (Piece (233 ∷ 0 ∷ []))) (Then (stamp 1 1) (Out (Piece (233 ∷ 0 ∷ []))) (Then (stamp 2 2) (Out (Piece (codes "="))) (Then (stamp 2
    2) (Out (Piece (codes "="))) (Then (stamp 3 3) (Out (Piece (10 ∷ []))) (Then (stamp 3 3) (Out (Piece (10 ∷ []))) (Then (stamp 4 4) (Out (Piece
    (codes "A0"))) (Then (stamp 4 4) (Out (Piece (codes "A0"))) (Then (stamp 5 5) (Out (Piece (codes "G"))) (Then (stamp 5 5) (Out (Piece (codes
    "G"))) (Ends (stamp 6 5) (Done Value.Unit)))))))))))
word_265 = runs_so _ _ _ _

-- repeat 3
word_266 : word_run (repeat_word 3) Sort.Block (map Piece ((172 ∷ 13 ∷ 52 ∷ []) ∷ [])) (Halted (Stop (bad_hex 7))) ≡ Then (stamp 1 1) (Out (Piece (172
    ∷ 13 ∷ 52 ∷ []))) (Then (stamp 1 1) (Out (Piece (172 ∷ 13 ∷ 52 ∷ []))) (Then (stamp 1 1) (Out (Piece (172 ∷ 13 ∷ 52 ∷ []))) (Ends (stamp 2 1)
    (Halts (Stop (bad_hex 7))))))
word_266 = runs_so _ _ _ _

-- repeat 1
word_267 : word_run (repeat_word 1) Sort.Block (map Piece ((0 ∷ []) ∷ [])) Ended ≡ Then (stamp 1 1) (Out (Piece (0 ∷ []))) (Ends (stamp 2 1) (Done
    Value.Unit))
word_267 = runs_so _ _ _ _

-- repeatE 0
word_273 : word_run (repeat_e 0) Sort.Chars (map Elem (codes "4")) Ended ≡ Ends (stamp 2 1) (Done Value.Unit)
word_273 = runs_so _ _ _ _

-- repeatE 3
word_274 : word_run (repeat_e 3) Sort.Chars (map Elem (98 ∷ 233 ∷ 233 ∷ 97 ∷ 65 ∷ [])) Ended ≡ Then (stamp 1 1) (Out (Elem 98)) (Then (stamp 1 1) (Out
    (Elem 98)) (Then (stamp 1 1) (Out (Elem 98)) (Then (stamp 2 2) (Out (Elem 233)) (Then (stamp 2 2) (Out (Elem 233)) (Then (stamp 2 2) (Out (Elem
    233)) (Then (stamp 3 3) (Out (Elem 233)) (Then (stamp 3 3) (Out (Elem 233)) (Then (stamp 3 3) (Out (Elem 233)) (Then (stamp 4 4) (Out (Elem 97))
    (Then (stamp 4 4) (Out (Elem 97)) (Then (stamp 4 4) (Out (Elem 97)) (Then (stamp 5 5) (Out (Elem 65)) (Then (stamp 5 5) (Out (Elem 65)) (Then
    (stamp 5 5) (Out (Elem 65)) (Ends (stamp 6 5) (Done Value.Unit))))))))))))))))
word_274 = runs_so _ _ _ _

-- repeatE 1
word_275 : word_run (repeat_e 1) Sort.Chars (map Elem (48 ∷ 65 ∷ 61 ∷ 65 ∷ 13 ∷ 10 ∷ 233 ∷ 32 ∷ 10 ∷ [])) (Halted (More (Reading 1))) ≡ Then (stamp 1
    1) (Out (Elem 48)) (Then (stamp 2 2) (Out (Elem 65)) (Then (stamp 3 3) (Out (Elem 61)) (Then (stamp 4 4) (Out (Elem 65)) (Then (stamp 5 5) (Out
    (Elem 13)) (Then (stamp 6 6) (Out (Elem 10)) (Then (stamp 7 7) (Out (Elem 233)) (Then (stamp 8 8) (Out (Elem 32)) (Then (stamp 9 9) (Out (Elem
    10)) (Ends (stamp 10 9) (Halts (More (Reading 1))))))))))))
word_275 = runs_so _ _ _ _

-- sinkFile "x1"
word_281 : word_run (sink_file_word (codes "x1")) Sort.Bytes (map Elem (codes "b")) Ended ≡ Then (stamp 0 0) (Do (Open 2)) (Then (stamp 1 1) (Do (Put
    2 98)) (Then (stamp 2 1) (Do (Close 2)) (Ends (stamp 2 1) (Done Value.Unit))))
word_281 = runs_so _ _ _ _

-- sinkFile "x3"
word_282 : word_run (sink_file_word (codes "x3")) Sort.Bytes (map Elem (172 ∷ 10 ∷ 48 ∷ 52 ∷ 98 ∷ [])) Ended ≡ Then (stamp 0 0) (Do (Open 2)) (Then
    (stamp 1 1) (Do (Put 2 172)) (Then (stamp 2 2) (Do (Put 2 10)) (Then (stamp 3 3) (Do (Put 2 48)) (Then (stamp 4 4) (Do (Put 2 52)) (Then (stamp 5
    5) (Do (Put 2 98)) (Then (stamp 6 5) (Do (Close 2)) (Ends (stamp 6 5) (Done Value.Unit))))))))
word_282 = runs_so _ _ _ _

-- sinkFile "x4"
word_283 : word_run (sink_file_word (codes "x4")) Sort.Bytes (map Elem (61 ∷ 172 ∷ 98 ∷ [])) (Halted (More (Reading 1))) ≡ Then (stamp 0 0) (Do (Open
    2)) (Then (stamp 1 1) (Do (Put 2 61)) (Then (stamp 2 2) (Do (Put 2 172)) (Then (stamp 3 3) (Do (Put 2 98)) (Ends (stamp 4 3) (Halts (More (Reading
    1)))))))
word_283 = runs_so _ _ _ _

-- sinkFile "x6"
word_284 : word_run (sink_file_word (codes "x6")) Sort.Bytes (map Elem (codes "00G")) Ended ≡ Then (stamp 0 0) (Do (Open 2)) (Then (stamp 1 1) (Do
    (Put 2 48)) (Then (stamp 2 2) (Do (Put 2 48)) (Then (stamp 3 3) (Do (Put 2 71)) (Then (stamp 4 3) (Do (Close 2)) (Ends (stamp 4 3) (Done
    Value.Unit))))))
word_284 = runs_so _ _ _ _

-- sinkNull
word_289 : word_run sink_null Sort.Chars [] (Halted (Stop (bad_hex 7))) ≡ Ends (stamp 1 0) (Halts (Stop (bad_hex 7)))
word_289 = runs_so _ _ _ _

-- sinkNull
word_290 : word_run sink_null Sort.Chars (map Elem (65 ∷ 52 ∷ 128512 ∷ [])) Ended ≡ Ends (stamp 4 3) (Done Value.Unit)
word_290 = runs_so _ _ _ _

-- sinkNull
word_291 : word_run sink_null Sort.Bytes (map Elem (0 ∷ 226 ∷ 65 ∷ 61 ∷ 13 ∷ 32 ∷ 0 ∷ 71 ∷ 61 ∷ [])) (Halted (More (Reading 1))) ≡ Ends (stamp 10 9)
    (Halts (More (Reading 1)))
word_291 = runs_so _ _ _ _

-- split "a" 5
word_297 : word_run (split_word 97 5) Sort.Bytes (map Elem (13 ∷ 49 ∷ 172 ∷ 172 ∷ 13 ∷ 61 ∷ 226 ∷ 255 ∷ 13 ∷ [])) Ended ≡ Then (stamp 5 5) (Out (Piece
    (13 ∷ 49 ∷ 172 ∷ 172 ∷ 13 ∷ []))) (Then (stamp 10 9) (Out (Piece (61 ∷ 226 ∷ 255 ∷ 13 ∷ []))) (Ends (stamp 10 9) (Done Value.Unit)))
word_297 = runs_so _ _ _ _

-- split "\n" 2
word_298 : word_run (split_word 10 2) Sort.Bytes (map Elem (0 ∷ [])) (Halted (Stop (bad_hex 7))) ≡ Ends (stamp 2 1) (Halts (Stop (bad_hex 7)))
word_298 = runs_so _ _ _ _

-- split "-" 5
word_299 : word_run (split_word 45 5) Sort.Chars (map Elem (65 ∷ 61 ∷ 233 ∷ 233 ∷ [])) Ended ≡ Then (stamp 5 4) (Out (Piece (65 ∷ 61 ∷ 233 ∷ 233 ∷
    []))) (Ends (stamp 5 4) (Done Value.Unit))
word_299 = runs_so _ _ _ _

-- stdout
word_305 : word_run stdout_word Sort.Bytes (map Elem (255 ∷ [])) (Halted (More (Reading 1))) ≡ Then (stamp 1 1) (Do (Put 2 255)) (Ends (stamp 2 1)
    (Halts (More (Reading 1))))
word_305 = runs_so _ _ _ _

-- stdout
word_306 : word_run stdout_word Sort.Bytes (map Elem (13 ∷ 61 ∷ 61 ∷ 10 ∷ 10 ∷ [])) (Halted (More (Reading 1))) ≡ Then (stamp 1 1) (Do (Put 2 13))
    (Then (stamp 2 2) (Do (Put 2 61)) (Then (stamp 3 3) (Do (Put 2 61)) (Then (stamp 4 4) (Do (Put 2 10)) (Then (stamp 5 5) (Do (Put 2 10)) (Ends
    (stamp 6 5) (Halts (More (Reading 1))))))))
word_306 = runs_so _ _ _ _

-- stdout
word_307 : word_run stdout_word Sort.Bytes (map Elem (32 ∷ [])) (Halted (More (Reading 1))) ≡ Then (stamp 1 1) (Do (Put 2 32)) (Ends (stamp 2 1)
    (Halts (More (Reading 1))))
word_307 = runs_so _ _ _ _

-- sumE
word_313 : word_run sum_e Sort.Bytes (map Elem (130 ∷ [])) Ended ≡ Ends (stamp 2 1) (Done (Value.Num 130))
word_313 = runs_so _ _ _ _

-- sumE
word_314 : word_run sum_e Sort.Bytes [] Ended ≡ Ends (stamp 1 0) (Done (Value.Num 0))
word_314 = runs_so _ _ _ _

-- sumE
word_315 : word_run sum_e Sort.Bytes (map Elem (codes "A")) (Halted (More (Reading 1))) ≡ Ends (stamp 2 1) (Halts (More (Reading 1)))
word_315 = runs_so _ _ _ _

-- take 2
word_321 : word_run (take_word 2) Sort.Text (map Piece ((32 ∷ 97 ∷ 10 ∷ []) ∷ (codes "A") ∷ (codes "G") ∷ [] ∷ [] ∷ [])) (Halted (Stop (bad_hex 7))) ≡
    Then (stamp 1 1) (Out (Piece (32 ∷ 97 ∷ 10 ∷ []))) (Then (stamp 2 2) (Out (Piece (codes "A"))) (Ends (stamp 2 2) (Done Value.Unit)))
word_321 = runs_so _ _ _ _

-- take 3
word_322 : word_run (take_word 3) Sort.Block (map Piece ((10 ∷ 52 ∷ []) ∷ (233 ∷ 65 ∷ []) ∷ (32 ∷ 172 ∷ []) ∷ (codes "4") ∷ (32 ∷ 172 ∷ []) ∷ []))
    Ended ≡ Then (stamp 1 1) (Out (Piece (10 ∷ 52 ∷ []))) (Then (stamp 2 2) (Out (Piece (233 ∷ 65 ∷ []))) (Then (stamp 3 3) (Out (Piece (32 ∷ 172 ∷
    []))) (Ends (stamp 3 3) (Done Value.Unit))))
word_322 = runs_so _ _ _ _

-- take 1
word_323 : word_run (take_word 1) Sort.Block [] Ended ≡ Ends (stamp 1 0) (Done Value.Unit)
word_323 = runs_so _ _ _ _

-- takeE 3
word_329 : word_run (take_e 3) Sort.Bytes (map Elem (codes "14")) Ended ≡ Then (stamp 1 1) (Out (Elem 49)) (Then (stamp 2 2) (Out (Elem 52)) (Ends
    (stamp 3 2) (Done Value.Unit)))
word_329 = runs_so _ _ _ _

-- takeE 7
word_330 : word_run (take_e 7) Sort.Chars (map Elem (128512 ∷ 10 ∷ 49 ∷ 49 ∷ 98 ∷ [])) Ended ≡ Then (stamp 1 1) (Out (Elem 128512)) (Then (stamp 2 2)
    (Out (Elem 10)) (Then (stamp 3 3) (Out (Elem 49)) (Then (stamp 4 4) (Out (Elem 49)) (Then (stamp 5 5) (Out (Elem 98)) (Ends (stamp 6 5) (Done
    Value.Unit))))))
word_330 = runs_so _ _ _ _

-- takeE 3
word_331 : word_run (take_e 3) Sort.Chars [] Ended ≡ Ends (stamp 1 0) (Done Value.Unit)
word_331 = runs_so _ _ _ _

-- takeWhile not ends ","
word_337 : word_run (take_while_word (not_test (ends (codes ",")))) Sort.Block (map Piece ((233 ∷ []) ∷ [] ∷ (codes "G") ∷ [])) Ended ≡ Then (stamp 1
    1) (Out (Piece (233 ∷ []))) (Then (stamp 2 2) (Out (Piece [])) (Then (stamp 3 3) (Out (Piece (codes "G"))) (Ends (stamp 4 3) (Done Value.Unit))))
word_337 = runs_so _ _ _ _

-- takeWhile empty
word_338 : word_run (take_while_word empty) Sort.Block (map Piece ((codes "=") ∷ [])) Ended ≡ Ends (stamp 1 0) (Done Value.Unit)
word_338 = runs_so _ _ _ _

-- takeWhile ends "\""
word_339 : word_run (take_while_word (ends (34 ∷ []))) Sort.Text (map Piece ((61 ∷ 71 ∷ 128512 ∷ []) ∷ (233 ∷ []) ∷ (98 ∷ 233 ∷ 128512 ∷ []) ∷ (codes
    "0") ∷ [] ∷ [])) (Halted (Stop (bad_hex 7))) ≡ Ends (stamp 1 0) (Done Value.Unit)
unfolding chars
word_339 = runs_so _ _ _ _

-- takeWhileE is ","
word_345 : word_run (take_while_e (is_scalar 44)) Sort.Chars (map Elem (32 ∷ 97 ∷ 65 ∷ 10 ∷ 8364 ∷ [])) Ended ≡ Ends (stamp 1 0) (Done Value.Unit)
word_345 = runs_so _ _ _ _

-- takeWhileE lower
word_346 : word_run (take_while_e lower) Sort.Chars (map Elem (codes "A")) Ended ≡ Ends (stamp 1 0) (Done Value.Unit)
word_346 = runs_so _ _ _ _

-- takeWhileE is ","
word_347 : word_run (take_while_e (is_scalar 44)) Sort.Chars (map Elem (codes "A")) Ended ≡ Ends (stamp 1 0) (Done Value.Unit)
word_347 = runs_so _ _ _ _

-- takeWhileE digit
word_350 : word_run (take_while_e digit) Sort.Bytes (map Elem (226 ∷ 49 ∷ 13 ∷ 172 ∷ 71 ∷ 52 ∷ 49 ∷ 61 ∷ 172 ∷ [])) (Halted (Stop (bad_hex 7))) ≡ Ends
    (stamp 1 0) (Done Value.Unit)
word_350 = runs_so _ _ _ _

-- unlines
word_353 : word_run unlines_word Sort.Text (map Piece ([] ∷ (codes "A4") ∷ (13 ∷ 98 ∷ 32 ∷ []) ∷ [])) Ended ≡ Then (stamp 1 1) (Out (Elem 10)) (Then
    (stamp 2 2) (Out (Elem 65)) (Then (stamp 2 2) (Out (Elem 52)) (Then (stamp 2 2) (Out (Elem 10)) (Then (stamp 3 3) (Out (Elem 13)) (Then (stamp 3
    3) (Out (Elem 98)) (Then (stamp 3 3) (Out (Elem 32)) (Then (stamp 3 3) (Out (Elem 10)) (Ends (stamp 4 3) (Done Value.Unit)))))))))
word_353 = runs_so _ _ _ _

-- unlines
word_354 : word_run unlines_word Sort.Block (map Piece ([] ∷ [])) (Halted (More (Reading 1))) ≡ Then (stamp 1 1) (Out (Elem 10)) (Ends (stamp 2 1)
    (Halts (More (Reading 1))))
word_354 = runs_so _ _ _ _

-- unlines
word_355 : word_run unlines_word Sort.Block (map Piece ((172 ∷ 10 ∷ []) ∷ [])) (Halted (Stop (bad_hex 7))) ≡ Then (stamp 1 1) (Out (Elem 172)) (Then
    (stamp 1 1) (Out (Elem 10)) (Then (stamp 1 1) (Out (Elem 10)) (Ends (stamp 2 1) (Halts (Stop (bad_hex 7))))))
word_355 = runs_so _ _ _ _

-- utf8
word_361 : word_run utf8_word Sort.Bytes (map Elem (97 ∷ 195 ∷ 169 ∷ 195 ∷ 169 ∷ 255 ∷ [])) Ended ≡ Then (stamp 1 1) (Out (Elem 97)) (Then (stamp 3 3)
    (Out (Elem 233)) (Then (stamp 5 5) (Out (Elem 233)) (Ends (stamp 6 6) (Halts (Stop (bad_text 5))))))
word_361 = runs_so _ _ _ _

-- utf8
word_362 : word_run utf8_word Sort.Bytes (map Elem (240 ∷ 159 ∷ 152 ∷ 128 ∷ 226 ∷ 130 ∷ 172 ∷ 97 ∷ 65 ∷ [])) Ended ≡ Then (stamp 4 4) (Out (Elem
    128512)) (Then (stamp 7 7) (Out (Elem 8364)) (Then (stamp 8 8) (Out (Elem 97)) (Then (stamp 9 9) (Out (Elem 65)) (Ends (stamp 10 9) (Done
    Value.Unit)))))
word_362 = runs_so _ _ _ _

-- utf8
word_363 : word_run utf8_word Sort.Bytes (map Elem (195 ∷ 169 ∷ 195 ∷ 169 ∷ 97 ∷ [])) (Halted (More (Reading 1))) ≡ Then (stamp 2 2) (Out (Elem 233))
    (Then (stamp 4 4) (Out (Elem 233)) (Then (stamp 5 5) (Out (Elem 97)) (Ends (stamp 6 5) (Halts (More (Reading 1))))))
word_363 = runs_so _ _ _ _

-- utf8
word_365 : word_run utf8_word Sort.Bytes (map Elem (130 ∷ 49 ∷ 10 ∷ 71 ∷ 49 ∷ 226 ∷ 10 ∷ [])) (Halted (More (Reading 1))) ≡ Ends (stamp 1 1) (Halts
    (Stop (bad_text 0)))
word_365 = runs_so _ _ _ _

-- utf8
word_366 : word_run utf8_word Sort.Bytes (map Elem (240 ∷ 159 ∷ 152 ∷ 128 ∷ 226 ∷ 130 ∷ 255 ∷ [])) Ended ≡ Then (stamp 4 4) (Out (Elem 128512)) (Ends
    (stamp 7 7) (Halts (Stop (bad_text 4))))
word_366 = runs_so _ _ _ _

-- utf8Encode
word_369 : word_run utf8_encode_word Sort.Chars (map Elem (8364 ∷ 8364 ∷ 8364 ∷ 8364 ∷ 13 ∷ [])) Ended ≡ Then (stamp 1 1) (Out (Elem 226)) (Then
    (stamp 1 1) (Out (Elem 130)) (Then (stamp 1 1) (Out (Elem 172)) (Then (stamp 2 2) (Out (Elem 226)) (Then (stamp 2 2) (Out (Elem 130)) (Then (stamp
    2 2) (Out (Elem 172)) (Then (stamp 3 3) (Out (Elem 226)) (Then (stamp 3 3) (Out (Elem 130)) (Then (stamp 3 3) (Out (Elem 172)) (Then (stamp 4 4)
    (Out (Elem 226)) (Then (stamp 4 4) (Out (Elem 130)) (Then (stamp 4 4) (Out (Elem 172)) (Then (stamp 5 5) (Out (Elem 13)) (Ends (stamp 6 5) (Done
    Value.Unit))))))))))))))
unfolding encode
word_369 = runs_so _ _ _ _

-- utf8Encode
word_370 : word_run utf8_encode_word Sort.Chars (map Elem (32 ∷ 13 ∷ 13 ∷ [])) Ended ≡ Then (stamp 1 1) (Out (Elem 32)) (Then (stamp 2 2) (Out (Elem
    13)) (Then (stamp 3 3) (Out (Elem 13)) (Ends (stamp 4 3) (Done Value.Unit))))
unfolding encode
word_370 = runs_so _ _ _ _

-- utf8Encode
word_371 : word_run utf8_encode_word Sort.Chars (map Elem (codes "G0")) Ended ≡ Then (stamp 1 1) (Out (Elem 71)) (Then (stamp 2 2) (Out (Elem 48))
    (Ends (stamp 3 2) (Done Value.Unit)))
unfolding encode
word_371 = runs_so _ _ _ _

-- utf8Lenient
word_377 : word_run utf8_lenient_word Sort.Bytes (map Elem (32 ∷ 10 ∷ 48 ∷ 98 ∷ 130 ∷ 71 ∷ 52 ∷ [])) Ended ≡ Then (stamp 1 1) (Out (Elem 32)) (Then
    (stamp 2 2) (Out (Elem 10)) (Then (stamp 3 3) (Out (Elem 48)) (Then (stamp 4 4) (Out (Elem 98)) (Then (stamp 5 5) (Out (Elem 65533)) (Then (stamp
    6 6) (Out (Elem 71)) (Then (stamp 7 7) (Out (Elem 52)) (Ends (stamp 8 7) (Done Value.Unit))))))))
word_377 = runs_so _ _ _ _

-- utf8Lenient
word_378 : word_run utf8_lenient_word Sort.Bytes (map Elem (195 ∷ 169 ∷ 226 ∷ 130 ∷ 172 ∷ 226 ∷ 130 ∷ [])) (Halted (More (Reading 1))) ≡ Then (stamp 2
    2) (Out (Elem 233)) (Then (stamp 5 5) (Out (Elem 8364)) (Ends (stamp 8 7) (Halts (More (Reading 1)))))
word_378 = runs_so _ _ _ _

-- utf8Lenient
word_379 : word_run utf8_lenient_word Sort.Bytes (map Elem (13 ∷ 255 ∷ 13 ∷ 98 ∷ [])) Ended ≡ Then (stamp 1 1) (Out (Elem 13)) (Then (stamp 2 2) (Out
    (Elem 65533)) (Then (stamp 3 3) (Out (Elem 13)) (Then (stamp 4 4) (Out (Elem 98)) (Ends (stamp 5 4) (Done Value.Unit)))))
word_379 = runs_so _ _ _ _
