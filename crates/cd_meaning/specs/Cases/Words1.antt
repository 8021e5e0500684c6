-- Cases of tools/cases/words.jsonl, written by tools/cases.py: the number in a name is the line of the case.
use Rattle.std.specs.Prelude.{[], ◌∷◌, ◌≡◌, codes, map, true, false}
use Rattle.std.specs.Str.{chars}
use Rattle.cd_meaning.specs.Stream.{Sort, Elem, Piece, Value, absent, present, NoValues, Another, Reading, More, Stop, bad_hex, bad_base64, Ended, Halted, Done, Halts, Out}
use Rattle.cd_meaning.specs.Run.{stamp, Then, Ends}
use Rattle.cd_meaning.specs.Rows.Short.{filter_e, drop_e, drop_while_e, head_e, last_e, all_e, any_e, collect_e, filter_word, intersperse_word, drop_word, drop_while_word, head_word, last_word, collect_word, exact_word, chunks_of_word, flat_word, hex_encode_word, hex_decode_word, base64_encode_word, base64_decode_word, digit, upper, lower, alpha, alnum, hexdigit, space, newline, is_scalar, below, empty, begins, ends, shorter, not_class, not_test}
use Rattle.cd_meaning.specs.Cases.Known.{word_run, runs_so}

-- allE digit
word_1 : word_run (all_e digit) Sort.Chars (map Elem (codes "b=")) Ended ≡ Ends (stamp 1 1) (Done (Value.Bool false))
word_1 = runs_so _ _ _ _

-- allE not newline
word_2 : word_run (all_e (not_class newline)) Sort.Bytes (map Elem (172 ∷ 61 ∷ 255 ∷ 52 ∷ 130 ∷ 65 ∷ 10 ∷ 71 ∷ 52 ∷ [])) Ended ≡ Ends (stamp 7 7)
    (Done (Value.Bool false))
word_2 = runs_so _ _ _ _

-- allE alnum
word_3 : word_run (all_e alnum) Sort.Chars (map Elem (233 ∷ [])) (Halted (More (Reading 1))) ≡ Ends (stamp 1 1) (Done (Value.Bool false))
word_3 = runs_so _ _ _ _

-- allE alnum
word_4 : word_run (all_e alnum) Sort.Bytes [] Ended ≡ Ends (stamp 1 0) (Done (Value.Bool true))
word_4 = runs_so _ _ _ _

-- allE not is "1"
word_5 : word_run (all_e (not_class (is_scalar 49))) Sort.Chars (map Elem (8364 ∷ 52 ∷ 97 ∷ 8364 ∷ 52 ∷ 61 ∷ 65 ∷ [])) (Halted (Stop (bad_hex 7))) ≡
    Ends (stamp 8 7) (Halts (Stop (bad_hex 7)))
word_5 = runs_so _ _ _ _

-- allE not space
word_6 : word_run (all_e (not_class space)) Sort.Chars (map Elem (128512 ∷ 71 ∷ 10 ∷ 128512 ∷ 48 ∷ 32 ∷ 128512 ∷ [])) Ended ≡ Ends (stamp 3 3) (Done
    (Value.Bool false))
word_6 = runs_so _ _ _ _

-- allE alpha
word_7 : word_run (all_e alpha) Sort.Chars (map Elem (codes "0")) (Halted (More (Reading 1))) ≡ Ends (stamp 1 1) (Done (Value.Bool false))
word_7 = runs_so _ _ _ _

-- allE not newline
word_8 : word_run (all_e (not_class newline)) Sort.Chars (map Elem (52 ∷ 71 ∷ 10 ∷ [])) (Halted (More (Reading 1))) ≡ Ends (stamp 3 3) (Done
    (Value.Bool false))
word_8 = runs_so _ _ _ _

-- anyE not alnum
word_9 : word_run (any_e (not_class alnum)) Sort.Bytes (map Elem (65 ∷ 130 ∷ 172 ∷ 172 ∷ 48 ∷ 49 ∷ 52 ∷ [])) (Halted (More (Reading 1))) ≡ Ends (stamp
    2 2) (Done (Value.Bool true))
word_9 = runs_so _ _ _ _

-- anyE alpha
word_10 : word_run (any_e alpha) Sort.Chars (map Elem (codes "01")) (Halted (More (Reading 1))) ≡ Ends (stamp 3 2) (Halts (More (Reading 1)))
word_10 = runs_so _ _ _ _

-- anyE alpha
word_11 : word_run (any_e alpha) Sort.Bytes (map Elem (48 ∷ 255 ∷ 255 ∷ 10 ∷ 172 ∷ [])) Ended ≡ Ends (stamp 6 5) (Done (Value.Bool false))
word_11 = runs_so _ _ _ _

-- anyE alpha
word_12 : word_run (any_e alpha) Sort.Chars (map Elem (128512 ∷ 98 ∷ 49 ∷ 65 ∷ 52 ∷ 49 ∷ 8364 ∷ [])) (Halted (More (Reading 1))) ≡ Ends (stamp 2 2)
    (Done (Value.Bool true))
word_12 = runs_so _ _ _ _

-- anyE not upper
word_13 : word_run (any_e (not_class upper)) Sort.Bytes (map Elem (98 ∷ 65 ∷ 130 ∷ 98 ∷ [])) (Halted (Stop (bad_hex 7))) ≡ Ends (stamp 1 1) (Done
    (Value.Bool true))
word_13 = runs_so _ _ _ _

-- anyE hexdigit
word_14 : word_run (any_e hexdigit) Sort.Chars (map Elem (98 ∷ 10 ∷ [])) Ended ≡ Ends (stamp 1 1) (Done (Value.Bool true))
word_14 = runs_so _ _ _ _

-- anyE not lower
word_15 : word_run (any_e (not_class lower)) Sort.Chars (map Elem (32 ∷ 61 ∷ [])) Ended ≡ Ends (stamp 1 1) (Done (Value.Bool true))
word_15 = runs_so _ _ _ _

-- anyE not newline
word_16 : word_run (any_e (not_class newline)) Sort.Bytes [] (Halted (More (Reading 1))) ≡ Ends (stamp 1 0) (Halts (More (Reading 1)))
word_16 = runs_so _ _ _ _

-- base64Decode
word_17 : word_run base64_decode_word Sort.Bytes (map Elem (codes "P49I/w==")) Ended ≡ Then (stamp 4 4) (Out (Elem 63)) (Then (stamp 4 4) (Out (Elem
    143)) (Then (stamp 4 4) (Out (Elem 72)) (Then (stamp 8 8) (Out (Elem 255)) (Ends (stamp 9 8) (Done Value.Unit)))))
word_17 = runs_so _ _ _ _

-- base64Decode
word_18 : word_run base64_decode_word Sort.Bytes (map Elem (codes "Y+7")) Ended ≡ Ends (stamp 4 3) (Halts (Stop (bad_base64 0)))
word_18 = runs_so _ _ _ _

-- base64Decode
word_19 : word_run base64_decode_word Sort.Bytes (map Elem (10 ∷ 226 ∷ 0 ∷ [])) Ended ≡ Ends (stamp 4 3) (Halts (Stop (bad_base64 0)))
word_19 = runs_so _ _ _ _

-- base64Decode
word_20 : word_run base64_decode_word Sort.Bytes (map Elem (0 ∷ 10 ∷ 52 ∷ 52 ∷ [])) Ended ≡ Ends (stamp 4 4) (Halts (Stop (bad_base64 0)))
word_20 = runs_so _ _ _ _

-- base64Decode
word_21 : word_run base64_decode_word Sort.Bytes (map Elem (codes "z/c=!")) Ended ≡ Then (stamp 4 4) (Out (Elem 207)) (Then (stamp 4 4) (Out (Elem
    247)) (Ends (stamp 6 5) (Halts (Stop (bad_base64 4)))))
word_21 = runs_so _ _ _ _

-- base64Decode
word_24 : word_run base64_decode_word Sort.Bytes (map Elem (codes "EEM=")) Ended ≡ Then (stamp 4 4) (Out (Elem 16)) (Then (stamp 4 4) (Out (Elem 67))
    (Ends (stamp 5 4) (Done Value.Unit)))
word_24 = runs_so _ _ _ _

-- base64Encode
word_25 : word_run base64_encode_word Sort.Bytes (map Elem (71 ∷ 172 ∷ 48 ∷ 10 ∷ 61 ∷ [])) Ended ≡ Then (stamp 3 3) (Out (Elem 82)) (Then (stamp 3 3)
    (Out (Elem 54)) (Then (stamp 3 3) (Out (Elem 119)) (Then (stamp 3 3) (Out (Elem 119)) (Then (stamp 6 5) (Out (Elem 67)) (Then (stamp 6 5) (Out
    (Elem 106)) (Then (stamp 6 5) (Out (Elem 48)) (Then (stamp 6 5) (Out (Elem 61)) (Ends (stamp 6 5) (Done Value.Unit)))))))))
word_25 = runs_so _ _ _ _

-- base64Encode
word_26 : word_run base64_encode_word Sort.Bytes (map Elem (61 ∷ 13 ∷ [])) (Halted (More (Reading 1))) ≡ Ends (stamp 3 2) (Halts (More (Reading 1)))
word_26 = runs_so _ _ _ _

-- base64Encode
word_27 : word_run base64_encode_word Sort.Bytes (map Elem (226 ∷ 32 ∷ 32 ∷ 32 ∷ 226 ∷ 52 ∷ 172 ∷ 0 ∷ 65 ∷ [])) (Halted (Stop (bad_hex 7))) ≡ Then
    (stamp 3 3) (Out (Elem 52)) (Then (stamp 3 3) (Out (Elem 105)) (Then (stamp 3 3) (Out (Elem 65)) (Then (stamp 3 3) (Out (Elem 103)) (Then (stamp 6
    6) (Out (Elem 73)) (Then (stamp 6 6) (Out (Elem 79)) (Then (stamp 6 6) (Out (Elem 73)) (Then (stamp 6 6) (Out (Elem 48)) (Then (stamp 9 9) (Out
    (Elem 114)) (Then (stamp 9 9) (Out (Elem 65)) (Then (stamp 9 9) (Out (Elem 66)) (Then (stamp 9 9) (Out (Elem 66)) (Ends (stamp 10 9) (Halts (Stop
    (bad_hex 7)))))))))))))))
word_27 = runs_so _ _ _ _

-- chunksOf 2
word_33 : word_run (chunks_of_word 2) Sort.Chars (map Elem (97 ∷ 32 ∷ [])) Ended ≡ Then (stamp 2 2) (Out (Piece (97 ∷ 32 ∷ []))) (Ends (stamp 3 2)
    (Done Value.Unit))
word_33 = runs_so _ _ _ _

-- chunksOf 2
word_34 : word_run (chunks_of_word 2) Sort.Chars [] Ended ≡ Ends (stamp 1 0) (Done Value.Unit)
word_34 = runs_so _ _ _ _

-- chunksOf 3
word_35 : word_run (chunks_of_word 3) Sort.Chars (map Elem (128512 ∷ 61 ∷ [])) (Halted (Stop (bad_hex 7))) ≡ Ends (stamp 3 2) (Halts (Stop (bad_hex
    7)))
word_35 = runs_so _ _ _ _

-- chunksOf 3
word_36 : word_run (chunks_of_word 3) Sort.Bytes (map Elem (255 ∷ 52 ∷ 226 ∷ [])) Ended ≡ Then (stamp 3 3) (Out (Piece (255 ∷ 52 ∷ 226 ∷ []))) (Ends
    (stamp 4 3) (Done Value.Unit))
word_36 = runs_so _ _ _ _

-- chunksOf 80
word_37 : word_run (chunks_of_word 80) Sort.Chars (map Elem (codes "a")) Ended ≡ Then (stamp 2 1) (Out (Piece (codes "a"))) (Ends (stamp 2 1) (Done
    Value.Unit))
word_37 = runs_so _ _ _ _

-- collect 0
word_41 : word_run (collect_word 0) Sort.Block (map Piece ((172 ∷ 52 ∷ 13 ∷ []) ∷ (codes "1a") ∷ [] ∷ [])) Ended ≡ Ends (stamp 0 0) (Done (Value.ListV
    NoValues))
word_41 = runs_so _ _ _ _

-- collect 9
word_42 : word_run (collect_word 9) Sort.Text (map Piece ([] ∷ [])) Ended ≡ Ends (stamp 2 1) (Done (Value.ListV (Another (Value.TextV []) NoValues)))
word_42 = runs_so _ _ _ _

-- collect 50
word_43 : word_run (collect_word 50) Sort.Text [] Ended ≡ Ends (stamp 1 0) (Done (Value.ListV NoValues))
word_43 = runs_so _ _ _ _

-- collect 50
word_44 : word_run (collect_word 50) Sort.Block (map Piece ((13 ∷ 13 ∷ []) ∷ (codes "04a") ∷ [] ∷ [])) Ended ≡ Ends (stamp 4 3) (Done (Value.ListV
    (Another (Value.BytesV (13 ∷ 13 ∷ [])) (Another (Value.BytesV (codes "04a")) (Another (Value.BytesV []) NoValues)))))
word_44 = runs_so _ _ _ _

-- collect 3
word_46 : word_run (collect_word 3) Sort.Text (map Piece ([] ∷ (codes "aA") ∷ [] ∷ (codes "=") ∷ (codes "4b") ∷ [])) Ended ≡ Ends (stamp 3 3) (Done
    (Value.ListV (Another (Value.TextV []) (Another (Value.TextV (codes "aA")) (Another (Value.TextV []) NoValues)))))
word_46 = runs_so _ _ _ _

-- collectE 50
word_49 : word_run (collect_e 50) Sort.Chars [] (Halted (Stop (bad_hex 7))) ≡ Ends (stamp 1 0) (Halts (Stop (bad_hex 7)))
word_49 = runs_so _ _ _ _

-- collectE 2
word_50 : word_run (collect_e 2) Sort.Bytes (map Elem (13 ∷ [])) Ended ≡ Ends (stamp 2 1) (Done (Value.BytesV (13 ∷ [])))
word_50 = runs_so _ _ _ _

-- collectE 50
word_51 : word_run (collect_e 50) Sort.Bytes (map Elem (0 ∷ 61 ∷ 13 ∷ 10 ∷ 71 ∷ 0 ∷ 13 ∷ 0 ∷ 61 ∷ [])) (Halted (Stop (bad_hex 7))) ≡ Ends (stamp 10 9)
    (Halts (Stop (bad_hex 7)))
word_51 = runs_so _ _ _ _

-- drop 9
word_57 : word_run (drop_word 9) Sort.Block (map Piece ((codes "A") ∷ (61 ∷ 13 ∷ 52 ∷ []) ∷ [])) Ended ≡ Ends (stamp 3 2) (Done Value.Unit)
word_57 = runs_so _ _ _ _

-- drop 2
word_58 : word_run (drop_word 2) Sort.Text (map Piece ((97 ∷ 8364 ∷ []) ∷ (233 ∷ 128512 ∷ []) ∷ [])) Ended ≡ Ends (stamp 2 2) (Done Value.Unit)
word_58 = runs_so _ _ _ _

-- drop 3
word_59 : word_run (drop_word 3) Sort.Block (map Piece ((13 ∷ 32 ∷ []) ∷ [] ∷ (32 ∷ []) ∷ [])) Ended ≡ Ends (stamp 3 3) (Done Value.Unit)
word_59 = runs_so _ _ _ _

-- dropE 4
word_65 : word_run (drop_e 4) Sort.Bytes (map Elem (49 ∷ 32 ∷ 97 ∷ 71 ∷ 65 ∷ [])) (Halted (Stop (bad_hex 7))) ≡ Ends (stamp 4 4) (Done Value.Unit)
word_65 = runs_so _ _ _ _

-- dropE 5
word_66 : word_run (drop_e 5) Sort.Chars (map Elem (codes "a")) Ended ≡ Ends (stamp 2 1) (Done Value.Unit)
word_66 = runs_so _ _ _ _

-- dropE 4
word_67 : word_run (drop_e 4) Sort.Bytes (map Elem (226 ∷ 97 ∷ 52 ∷ 226 ∷ 255 ∷ 48 ∷ 52 ∷ [])) (Halted (Stop (bad_hex 7))) ≡ Ends (stamp 4 4) (Done
    Value.Unit)
word_67 = runs_so _ _ _ _

-- dropWhile ends "\n"
word_73 : word_run (drop_while_word (ends (10 ∷ []))) Sort.Text (map Piece ((32 ∷ 13 ∷ 48 ∷ []) ∷ (codes "a1") ∷ [])) Ended ≡ Ends (stamp 1 0) (Done
    Value.Unit)
unfolding chars
word_73 = runs_so _ _ _ _

-- dropWhile not shorter 0
word_74 : word_run (drop_while_word (not_test (shorter 0))) Sort.Text (map Piece ([] ∷ (codes "a4") ∷ [] ∷ [] ∷ (codes "4") ∷ [])) Ended ≡ Ends (stamp
    6 5) (Done Value.Unit)
word_74 = runs_so _ _ _ _

-- dropWhile shorter 5
word_75 : word_run (drop_while_word (shorter 5)) Sort.Block (map Piece ((13 ∷ 98 ∷ 32 ∷ []) ∷ [] ∷ [])) (Halted (More (Reading 1))) ≡ Ends (stamp 3 2)
    (Halts (More (Reading 1)))
word_75 = runs_so _ _ _ _

-- dropWhile begins "x\n"
word_76 : word_run (drop_while_word (begins (120 ∷ 10 ∷ []))) Sort.Text (map Piece ((codes "a") ∷ [])) Ended ≡ Ends (stamp 1 0) (Done Value.Unit)
unfolding chars
word_76 = runs_so _ _ _ _

-- dropWhile empty
word_77 : word_run (drop_while_word empty) Sort.Text (map Piece ([] ∷ (71 ∷ 10 ∷ []) ∷ (128512 ∷ 32 ∷ 65 ∷ []) ∷ [] ∷ (61 ∷ 128512 ∷ 233 ∷ []) ∷ []))
    Ended ≡ Ends (stamp 2 1) (Done Value.Unit)
word_77 = runs_so _ _ _ _

-- dropWhile begins "éx\n\n"
word_78 : word_run (drop_while_word (begins (195 ∷ 169 ∷ 120 ∷ 10 ∷ 10 ∷ []))) Sort.Text (map Piece ((8364 ∷ []) ∷ (233 ∷ []) ∷ (32 ∷ 13 ∷ []) ∷
    (codes "A") ∷ (65 ∷ 128512 ∷ []) ∷ [])) (Halted (Stop (bad_hex 7))) ≡ Ends (stamp 1 0) (Done Value.Unit)
unfolding chars
word_78 = runs_so _ _ _ _

-- dropWhile not begins "0ab"
word_79 : word_run (drop_while_word (not_test (begins (codes "0ab")))) Sort.Block (map Piece ((codes "0") ∷ (10 ∷ 10 ∷ []) ∷ (52 ∷ 172 ∷ 172 ∷ []) ∷
    (32 ∷ 98 ∷ []) ∷ [] ∷ [])) Ended ≡ Ends (stamp 6 5) (Done Value.Unit)
word_79 = runs_so _ _ _ _

-- dropWhile not empty
word_80 : word_run (drop_while_word (not_test empty)) Sort.Text (map Piece ((codes "Ab") ∷ [] ∷ [] ∷ (codes "4") ∷ (52 ∷ 8364 ∷ []) ∷ [])) (Halted
    (More (Reading 1))) ≡ Ends (stamp 2 1) (Done Value.Unit)
word_80 = runs_so _ _ _ _

-- dropWhileE alpha
word_81 : word_run (drop_while_e alpha) Sort.Bytes [] Ended ≡ Ends (stamp 1 0) (Done Value.Unit)
word_81 = runs_so _ _ _ _

-- dropWhileE not alpha
word_82 : word_run (drop_while_e (not_class alpha)) Sort.Chars (map Elem (10 ∷ [])) Ended ≡ Ends (stamp 2 1) (Done Value.Unit)
word_82 = runs_so _ _ _ _

-- dropWhileE below 9000
word_83 : word_run (drop_while_e (below 9000)) Sort.Chars [] (Halted (More (Reading 1))) ≡ Ends (stamp 1 0) (Halts (More (Reading 1)))
word_83 = runs_so _ _ _ _

-- dropWhileE not space
word_84 : word_run (drop_while_e (not_class space)) Sort.Chars (map Elem (49 ∷ 32 ∷ 98 ∷ 65 ∷ 48 ∷ [])) (Halted (Stop (bad_hex 7))) ≡ Ends (stamp 2 1)
    (Done Value.Unit)
word_84 = runs_so _ _ _ _

-- dropWhileE upper
word_85 : word_run (drop_while_e upper) Sort.Bytes [] Ended ≡ Ends (stamp 1 0) (Done Value.Unit)
word_85 = runs_so _ _ _ _

-- dropWhileE hexdigit
word_86 : word_run (drop_while_e hexdigit) Sort.Bytes (map Elem (10 ∷ [])) Ended ≡ Ends (stamp 1 0) (Done Value.Unit)
word_86 = runs_so _ _ _ _

-- dropWhileE is "a"
word_87 : word_run (drop_while_e (is_scalar 97)) Sort.Bytes (map Elem (65 ∷ 32 ∷ 10 ∷ [])) Ended ≡ Ends (stamp 1 0) (Done Value.Unit)
word_87 = runs_so _ _ _ _

-- dropWhileE not lower
word_88 : word_run (drop_while_e (not_class lower)) Sort.Bytes (map Elem (61 ∷ 226 ∷ 61 ∷ 48 ∷ 61 ∷ 52 ∷ 226 ∷ 49 ∷ 32 ∷ [])) (Halted (More (Reading
    1))) ≡ Ends (stamp 10 9) (Halts (More (Reading 1)))
word_88 = runs_so _ _ _ _

-- exact 3
word_89 : word_run (exact_word 3) Sort.Bytes [] Ended ≡ Ends (stamp 1 0) (Done Value.Unit)
word_89 = runs_so _ _ _ _

-- exact 1
word_90 : word_run (exact_word 1) Sort.Chars (map Elem (10 ∷ 32 ∷ 97 ∷ 233 ∷ 65 ∷ [])) (Halted (Stop (bad_hex 7))) ≡ Then (stamp 1 1) (Out (Piece (10
    ∷ []))) (Then (stamp 2 2) (Out (Piece (32 ∷ []))) (Then (stamp 3 3) (Out (Piece (codes "a"))) (Then (stamp 4 4) (Out (Piece (233 ∷ []))) (Then
    (stamp 5 5) (Out (Piece (codes "A"))) (Ends (stamp 6 5) (Halts (Stop (bad_hex 7))))))))
word_90 = runs_so _ _ _ _

-- exact 2
word_91 : word_run (exact_word 2) Sort.Chars (map Elem (128512 ∷ 98 ∷ 48 ∷ 97 ∷ 13 ∷ 98 ∷ 128512 ∷ 97 ∷ 233 ∷ [])) Ended ≡ Then (stamp 2 2) (Out
    (Piece (128512 ∷ 98 ∷ []))) (Then (stamp 4 4) (Out (Piece (codes "0a"))) (Then (stamp 6 6) (Out (Piece (13 ∷ 98 ∷ []))) (Then (stamp 8 8) (Out
    (Piece (128512 ∷ 97 ∷ []))) (Ends (stamp 10 9) (Done Value.Unit)))))
word_91 = runs_so _ _ _ _

-- filter not shorter 5
word_97 : word_run (filter_word (not_test (shorter 5))) Sort.Text (map Piece ((233 ∷ []) ∷ [])) Ended ≡ Ends (stamp 2 1) (Done Value.Unit)
word_97 = runs_so _ _ _ _

-- filter begins "😀"
word_98 : word_run (filter_word (begins (240 ∷ 159 ∷ 152 ∷ 128 ∷ []))) Sort.Text [] (Halted (Stop (bad_hex 7))) ≡ Ends (stamp 1 0) (Halts (Stop
    (bad_hex 7)))
unfolding chars
word_98 = runs_so _ _ _ _

-- filter ends ","
word_99 : word_run (filter_word (ends (codes ","))) Sort.Block [] Ended ≡ Ends (stamp 1 0) (Done Value.Unit)
word_99 = runs_so _ _ _ _

-- filter ends "ab\n-"
word_100 : word_run (filter_word (ends (97 ∷ 98 ∷ 10 ∷ 45 ∷ []))) Sort.Block (map Piece ((codes "bbA") ∷ [] ∷ [] ∷ (codes "a=") ∷ (97 ∷ 65 ∷ 233 ∷ [])
    ∷ [])) Ended ≡ Ends (stamp 6 5) (Done Value.Unit)
word_100 = runs_so _ _ _ _

-- filter empty
word_102 : word_run (filter_word empty) Sort.Block (map Piece ((32 ∷ 233 ∷ 13 ∷ []) ∷ [] ∷ (0 ∷ 32 ∷ []) ∷ [])) Ended ≡ Then (stamp 2 2) (Out (Piece
    [])) (Ends (stamp 4 3) (Done Value.Unit))
word_102 = runs_so _ _ _ _

-- filterE digit
word_105 : word_run (filter_e digit) Sort.Bytes (map Elem (codes "1")) Ended ≡ Then (stamp 1 1) (Out (Elem 49)) (Ends (stamp 2 1) (Done Value.Unit))
word_105 = runs_so _ _ _ _

-- filterE not hexdigit
word_106 : word_run (filter_e (not_class hexdigit)) Sort.Chars [] Ended ≡ Ends (stamp 1 0) (Done Value.Unit)
word_106 = runs_so _ _ _ _

-- filterE lower
word_107 : word_run (filter_e lower) Sort.Bytes (map Elem (97 ∷ 61 ∷ 98 ∷ 61 ∷ 98 ∷ 255 ∷ 71 ∷ [])) Ended ≡ Then (stamp 1 1) (Out (Elem 97)) (Then
    (stamp 3 3) (Out (Elem 98)) (Then (stamp 5 5) (Out (Elem 98)) (Ends (stamp 8 7) (Done Value.Unit))))
word_107 = runs_so _ _ _ _

-- filterE not is "\r"
word_110 : word_run (filter_e (not_class (is_scalar 13))) Sort.Bytes [] (Halted (Stop (bad_hex 7))) ≡ Ends (stamp 1 0) (Halts (Stop (bad_hex 7)))
word_110 = runs_so _ _ _ _

-- filterE below 256
word_112 : word_run (filter_e (below 256)) Sort.Chars (map Elem (98 ∷ 61 ∷ 98 ∷ 13 ∷ 233 ∷ 52 ∷ 65 ∷ 233 ∷ 233 ∷ [])) (Halted (More (Reading 1))) ≡
    Then (stamp 1 1) (Out (Elem 98)) (Then (stamp 2 2) (Out (Elem 61)) (Then (stamp 3 3) (Out (Elem 98)) (Then (stamp 4 4) (Out (Elem 13)) (Then
    (stamp 5 5) (Out (Elem 233)) (Then (stamp 6 6) (Out (Elem 52)) (Then (stamp 7 7) (Out (Elem 65)) (Then (stamp 8 8) (Out (Elem 233)) (Then (stamp 9
    9) (Out (Elem 233)) (Ends (stamp 10 9) (Halts (More (Reading 1))))))))))))
word_112 = runs_so _ _ _ _

-- flat
word_113 : word_run flat_word Sort.Block (map Piece ((13 ∷ 65 ∷ 65 ∷ []) ∷ (233 ∷ 49 ∷ []) ∷ (codes "G4") ∷ (codes "Ab=") ∷ (172 ∷ []) ∷ [])) (Halted
    (Stop (bad_hex 7))) ≡ Then (stamp 1 1) (Out (Elem 13)) (Then (stamp 1 1) (Out (Elem 65)) (Then (stamp 1 1) (Out (Elem 65)) (Then (stamp 2 2) (Out
    (Elem 233)) (Then (stamp 2 2) (Out (Elem 49)) (Then (stamp 3 3) (Out (Elem 71)) (Then (stamp 3 3) (Out (Elem 52)) (Then (stamp 4 4) (Out (Elem
    65)) (Then (stamp 4 4) (Out (Elem 98)) (Then (stamp 4 4) (Out (Elem 61)) (Then (stamp 5 5) (Out (Elem 172)) (Ends (stamp 6 5) (Halts (Stop
    (bad_hex 7))))))))))))))
word_113 = runs_so _ _ _ _

-- flat
word_114 : word_run flat_word Sort.Text [] (Halted (Stop (bad_hex 7))) ≡ Ends (stamp 1 0) (Halts (Stop (bad_hex 7)))
word_114 = runs_so _ _ _ _

-- flat
word_115 : word_run flat_word Sort.Block (map Piece ((48 ∷ 233 ∷ []) ∷ (172 ∷ 172 ∷ []) ∷ [])) Ended ≡ Then (stamp 1 1) (Out (Elem 48)) (Then (stamp 1
    1) (Out (Elem 233)) (Then (stamp 2 2) (Out (Elem 172)) (Then (stamp 2 2) (Out (Elem 172)) (Ends (stamp 3 2) (Done Value.Unit)))))
word_115 = runs_so _ _ _ _

-- head
word_121 : word_run head_word Sort.Text (map Piece ((codes "aaG") ∷ (32 ∷ 48 ∷ 98 ∷ []) ∷ (13 ∷ 233 ∷ 52 ∷ []) ∷ (codes "bG") ∷ (10 ∷ []) ∷ [])) Ended
    ≡ Ends (stamp 1 1) (Done (present (Value.TextV (codes "aaG"))))
word_121 = runs_so _ _ _ _

-- head
word_122 : word_run head_word Sort.Block (map Piece ([] ∷ [] ∷ (13 ∷ 172 ∷ []) ∷ (233 ∷ 98 ∷ 172 ∷ []) ∷ (0 ∷ 98 ∷ 13 ∷ []) ∷ [])) Ended ≡ Ends (stamp
    1 1) (Done (present (Value.BytesV [])))
word_122 = runs_so _ _ _ _

-- head
word_123 : word_run head_word Sort.Block (map Piece ((98 ∷ 98 ∷ 13 ∷ []) ∷ (codes "ab4") ∷ [] ∷ (codes "1") ∷ (codes "a") ∷ [])) (Halted (More
    (Reading 1))) ≡ Ends (stamp 1 1) (Done (present (Value.BytesV (98 ∷ 98 ∷ 13 ∷ []))))
word_123 = runs_so _ _ _ _

-- headE
word_129 : word_run head_e Sort.Bytes (map Elem (10 ∷ 255 ∷ 172 ∷ 71 ∷ 13 ∷ 65 ∷ 52 ∷ [])) (Halted (More (Reading 1))) ≡ Ends (stamp 1 1) (Done
    (present (Value.Byte 10)))
word_129 = runs_so _ _ _ _

-- headE
word_130 : word_run head_e Sort.Chars (map Elem (52 ∷ 8364 ∷ 61 ∷ 13 ∷ 10 ∷ 48 ∷ 13 ∷ [])) (Halted (More (Reading 1))) ≡ Ends (stamp 1 1) (Done
    (present (Value.Char 52)))
word_130 = runs_so _ _ _ _

-- headE
word_131 : word_run head_e Sort.Chars (map Elem (98 ∷ 52 ∷ 233 ∷ 61 ∷ [])) (Halted (Stop (bad_hex 7))) ≡ Ends (stamp 1 1) (Done (present (Value.Char
    98)))
word_131 = runs_so _ _ _ _

-- headE
word_136 : word_run head_e Sort.Bytes [] Ended ≡ Ends (stamp 1 0) (Done absent)
word_136 = runs_so _ _ _ _

-- hexDecode
word_137 : word_run hex_decode_word Sort.Bytes (map Elem (codes "aa157C4g0")) Ended ≡ Then (stamp 2 2) (Out (Elem 170)) (Then (stamp 4 4) (Out (Elem
    21)) (Then (stamp 6 6) (Out (Elem 124)) (Ends (stamp 8 8) (Halts (Stop (bad_hex 6))))))
word_137 = runs_so _ _ _ _

-- hexDecode
word_138 : word_run hex_decode_word Sort.Bytes (map Elem (codes "6E")) (Halted (Stop (bad_hex 7))) ≡ Then (stamp 2 2) (Out (Elem 110)) (Ends (stamp 3
    2) (Halts (Stop (bad_hex 7))))
word_138 = runs_so _ _ _ _

-- hexDecode
word_139 : word_run hex_decode_word Sort.Bytes (map Elem (codes "E1a79A576")) Ended ≡ Then (stamp 2 2) (Out (Elem 225)) (Then (stamp 4 4) (Out (Elem
    167)) (Then (stamp 6 6) (Out (Elem 154)) (Then (stamp 8 8) (Out (Elem 87)) (Ends (stamp 10 9) (Halts (Stop (bad_hex 8)))))))
word_139 = runs_so _ _ _ _

-- hexEncode
word_145 : word_run hex_encode_word Sort.Bytes (map Elem (10 ∷ [])) Ended ≡ Then (stamp 1 1) (Out (Elem 48)) (Then (stamp 1 1) (Out (Elem 97)) (Ends
    (stamp 2 1) (Done Value.Unit)))
word_145 = runs_so _ _ _ _

-- hexEncode
word_146 : word_run hex_encode_word Sort.Bytes [] (Halted (More (Reading 1))) ≡ Ends (stamp 1 0) (Halts (More (Reading 1)))
word_146 = runs_so _ _ _ _

-- hexEncode
word_147 : word_run hex_encode_word Sort.Bytes (map Elem (226 ∷ 255 ∷ 65 ∷ 71 ∷ 61 ∷ 32 ∷ 71 ∷ 48 ∷ 0 ∷ [])) Ended ≡ Then (stamp 1 1) (Out (Elem 101))
    (Then (stamp 1 1) (Out (Elem 50)) (Then (stamp 2 2) (Out (Elem 102)) (Then (stamp 2 2) (Out (Elem 102)) (Then (stamp 3 3) (Out (Elem 52)) (Then
    (stamp 3 3) (Out (Elem 49)) (Then (stamp 4 4) (Out (Elem 52)) (Then (stamp 4 4) (Out (Elem 55)) (Then (stamp 5 5) (Out (Elem 51)) (Then (stamp 5
    5) (Out (Elem 100)) (Then (stamp 6 6) (Out (Elem 50)) (Then (stamp 6 6) (Out (Elem 48)) (Then (stamp 7 7) (Out (Elem 52)) (Then (stamp 7 7) (Out
    (Elem 55)) (Then (stamp 8 8) (Out (Elem 51)) (Then (stamp 8 8) (Out (Elem 48)) (Then (stamp 9 9) (Out (Elem 48)) (Then (stamp 9 9) (Out (Elem 48))
    (Ends (stamp 10 9) (Done Value.Unit)))))))))))))))))))
word_147 = runs_so _ _ _ _

-- intersperse ","
word_153 : word_run (intersperse_word (codes ",")) Sort.Block (map Piece ((98 ∷ 13 ∷ 61 ∷ []) ∷ [] ∷ (codes "a") ∷ (32 ∷ 32 ∷ []) ∷ [] ∷ [])) Ended ≡
    Then (stamp 1 1) (Out (Piece (98 ∷ 13 ∷ 61 ∷ []))) (Then (stamp 2 2) (Out (Piece (codes ","))) (Then (stamp 2 2) (Out (Piece [])) (Then (stamp 3
    3) (Out (Piece (codes ","))) (Then (stamp 3 3) (Out (Piece (codes "a"))) (Then (stamp 4 4) (Out (Piece (codes ","))) (Then (stamp 4 4) (Out (Piece
    (32 ∷ 32 ∷ []))) (Then (stamp 5 5) (Out (Piece (codes ","))) (Then (stamp 5 5) (Out (Piece [])) (Ends (stamp 6 5) (Done Value.Unit))))))))))
word_153 = runs_so _ _ _ _

-- intersperse "€"
word_154 : word_run (intersperse_word (226 ∷ 130 ∷ 172 ∷ [])) Sort.Block [] Ended ≡ Ends (stamp 1 0) (Done Value.Unit)
word_154 = runs_so _ _ _ _

-- intersperse "x\n-x\n"
word_155 : word_run (intersperse_word (120 ∷ 10 ∷ 45 ∷ 120 ∷ 10 ∷ [])) Sort.Text (map Piece ((codes "a") ∷ [] ∷ [] ∷ [] ∷ (49 ∷ 97 ∷ 128512 ∷ []) ∷
    [])) Ended ≡ Then (stamp 1 1) (Out (Piece (codes "a"))) (Then (stamp 2 2) (Out (Piece (120 ∷ 10 ∷ 45 ∷ 120 ∷ 10 ∷ []))) (Then (stamp 2 2) (Out
    (Piece [])) (Then (stamp 3 3) (Out (Piece (120 ∷ 10 ∷ 45 ∷ 120 ∷ 10 ∷ []))) (Then (stamp 3 3) (Out (Piece [])) (Then (stamp 4 4) (Out (Piece (120
    ∷ 10 ∷ 45 ∷ 120 ∷ 10 ∷ []))) (Then (stamp 4 4) (Out (Piece [])) (Then (stamp 5 5) (Out (Piece (120 ∷ 10 ∷ 45 ∷ 120 ∷ 10 ∷ []))) (Then (stamp 5 5)
    (Out (Piece (49 ∷ 97 ∷ 128512 ∷ []))) (Ends (stamp 6 5) (Done Value.Unit))))))))))
unfolding chars
word_155 = runs_so _ _ _ _

-- last
word_161 : word_run last_word Sort.Block (map Piece ((0 ∷ 61 ∷ 48 ∷ []) ∷ (32 ∷ 172 ∷ []) ∷ (49 ∷ 32 ∷ 32 ∷ []) ∷ [])) Ended ≡ Ends (stamp 4 3) (Done
    (present (Value.BytesV (49 ∷ 32 ∷ 32 ∷ []))))
word_161 = runs_so _ _ _ _

-- last
word_162 : word_run last_word Sort.Text (map Piece ((codes "0") ∷ [] ∷ (233 ∷ 71 ∷ []) ∷ (71 ∷ 71 ∷ 233 ∷ []) ∷ [] ∷ [])) (Halted (More (Reading 1)))
    ≡ Ends (stamp 6 5) (Halts (More (Reading 1)))
word_162 = runs_so _ _ _ _

-- last
word_163 : word_run last_word Sort.Block (map Piece ([] ∷ (codes "0") ∷ [])) Ended ≡ Ends (stamp 3 2) (Done (present (Value.BytesV (codes "0"))))
word_163 = runs_so _ _ _ _

-- lastE
word_169 : word_run last_e Sort.Chars (map Elem (98 ∷ 48 ∷ 128512 ∷ 13 ∷ 98 ∷ 65 ∷ 71 ∷ 128512 ∷ 97 ∷ [])) Ended ≡ Ends (stamp 10 9) (Done (present
    (Value.Char 97)))
word_169 = runs_so _ _ _ _

-- lastE
word_170 : word_run last_e Sort.Bytes (map Elem (32 ∷ 49 ∷ 226 ∷ 130 ∷ 97 ∷ 52 ∷ 65 ∷ [])) Ended ≡ Ends (stamp 8 7) (Done (present (Value.Byte 65)))
word_170 = runs_so _ _ _ _

-- lastE
word_171 : word_run last_e Sort.Chars (map Elem (32 ∷ [])) Ended ≡ Ends (stamp 2 1) (Done (present (Value.Char 32)))
word_171 = runs_so _ _ _ _
