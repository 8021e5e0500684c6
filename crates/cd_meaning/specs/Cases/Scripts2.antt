-- Cases of tools/cases/scripts.jsonl, written by tools/cases.py: the number in a name is the line of the case.
use Rattle.std.specs.Prelude.{List, [], ◌∷◌, ◌≡◌, codes}
use Rattle.std.specs.Fmt.{digits}
use lib.Utf8.{encode}
use Rattle.std.specs.Str.{chars}
use Rattle.cd_meaning.specs.Stream.{Value, Reading, More, Stop, bad_hex, bad_base64, ReadBad, Done, Halts, Open, Put, Close}
use Rattle.cd_meaning.specs.RunShapes.{AtEnd, MayGoOn, Broken}
use Rattle.cd_meaning.specs.Rows.Trees.{Sentence}
use Rattle.cd_meaning.specs.Rows.Short.{pass_e, take_e, take_while_e, filter_e, map_e, repeat_e, drop_while_e, length_e, all_e, any_e, null_e, collect_e, sink_null, pass_word, take_word, take_while_word, filter_word, repeat_word, map_word, intersperse_word, drop_word, drop_while_word, head_word, peek_word, last_word, length_word, null_word, collect_word, lines_word, split_word, chunks_of_word, flat_word, unlines_word, utf8_word, utf8_lenient_word, utf8_encode_word, hex_encode_word, hex_decode_word, base64_decode_word, source_file_word, stdin_word, blocks_word, texts_word, range_word, sink_file_word, digit, alpha, alnum, space, newline, below, empty, begins, ends, shorter, add, prefix, suffix, reversed, not_class, not_test, piped, piped_both, exactly_form, exactly_e_form, line_e_form, mark_form, zip_source_form, zip_sink_form, zip_conduit_form, sequence_form, run_statement, let_statement, close_statement, hold_statement}
use Rattle.cd_meaning.specs.Cases.Known.{nothing_seen, known, effects_of, effects_so, ending_of, ending_so}

-- run sourceFile "d" | mark "m1" { exactlyE 2 { hexEncode } } | zipSink(dropWhileE digit, (lines 8 | head));
abbrev script_22 : List Sentence
script_22 = run_statement (piped (source_file_word (codes "d") ∷ mark_form (codes "m1") (exactly_e_form 2 hex_encode_word) ∷ zip_sink_form
    (drop_while_e digit) (piped (lines_word 8 ∷ head_word ∷ [])) ∷ [])) ∷ []

script_22_effects_1 : effects_of script_22 (known 1 (133 ∷ 126 ∷ []) AtEnd nothing_seen) ≡ Open 2 ∷ Open 1 ∷ Close 2 ∷ Put 0 61 ∷ Put 0 32 ∷ Put 0 40
    ∷ Put 0 40 ∷ Put 0 41 ∷ Put 0 44 ∷ Put 0 32 ∷ Put 0 115 ∷ Put 0 111 ∷ Put 0 109 ∷ Put 0 101 ∷ Put 0 32 ∷ Put 0 34 ∷ Put 0 56 ∷ Put 0 53 ∷ Put 0 55
    ∷ Put 0 101 ∷ Put 0 34 ∷ Put 0 41 ∷ Put 0 10 ∷ []
unfolding digits encode chars
script_22_effects_1 = effects_so _ _

script_22_ending_1 : ending_of script_22 (known 1 (133 ∷ 126 ∷ []) AtEnd nothing_seen) ≡ Done Value.Unit
unfolding digits encode chars
script_22_ending_1 = ending_so _ _

script_22_effects_2 : effects_of script_22 (known 1 (133 ∷ []) MayGoOn nothing_seen) ≡ Open 2 ∷ Open 1 ∷ []
unfolding digits encode chars
script_22_effects_2 = effects_so _ _

script_22_ending_2 : ending_of script_22 (known 1 (133 ∷ []) MayGoOn nothing_seen) ≡ Halts (More (Reading 1))
unfolding digits encode chars
script_22_ending_2 = ending_so _ _

-- run sourceFile "b" | takeWhileE alpha | utf8Lenient | dropWhileE not alpha;
abbrev script_23 : List Sentence
script_23 = run_statement (piped (source_file_word (codes "b") ∷ take_while_e alpha ∷ utf8_lenient_word ∷ drop_while_e (not_class alpha) ∷ [])) ∷ []

script_23_effects_1 : effects_of script_23 (known 1 (240 ∷ 159 ∷ 152 ∷ 128 ∷ 226 ∷ 130 ∷ 172 ∷ 240 ∷ 159 ∷ 152 ∷ 128 ∷ 195 ∷ 169 ∷ 10 ∷ []) AtEnd
    nothing_seen) ≡ Open 1 ∷ []
unfolding digits encode chars
script_23_effects_1 = effects_so _ _

script_23_ending_1 : ending_of script_23 (known 1 (240 ∷ 159 ∷ 152 ∷ 128 ∷ 226 ∷ 130 ∷ 172 ∷ 240 ∷ 159 ∷ 152 ∷ 128 ∷ 195 ∷ 169 ∷ 10 ∷ []) AtEnd
    nothing_seen) ≡ Done Value.Unit
unfolding digits encode chars
script_23_ending_1 = ending_so _ _

script_23_effects_2 : effects_of script_23 (known 1 (240 ∷ 159 ∷ []) Broken nothing_seen) ≡ Open 1 ∷ []
unfolding digits encode chars
script_23_effects_2 = effects_so _ _

script_23_ending_2 : ending_of script_23 (known 1 (240 ∷ 159 ∷ []) Broken nothing_seen) ≡ Done Value.Unit
unfolding digits encode chars
script_23_ending_2 = ending_so _ _

-- let s0 = seal texts ["0"];
-- close s0 | (takeWhile not ends "😀" | (unlines | sinkNull));
-- run (sourceFile "b" | split "a" 3) | flat | mapE add 0 | nullE;
abbrev script_24 : List Sentence
script_24 = let_statement (codes "s0") (texts_word ((codes "0") ∷ [])) ∷ close_statement (codes "s0") (piped (take_while_word (not_test (ends (240 ∷
    159 ∷ 152 ∷ 128 ∷ []))) ∷ piped (unlines_word ∷ sink_null ∷ []) ∷ [])) ∷ run_statement (piped (piped (source_file_word (codes "b") ∷ split_word 97
    3 ∷ []) ∷ flat_word ∷ map_e (add 0) ∷ null_e ∷ [])) ∷ []

script_24_effects_1 : effects_of script_24 (known 1 (10 ∷ 13 ∷ 97 ∷ 10 ∷ 98 ∷ 98 ∷ 10 ∷ 97 ∷ 98 ∷ 10 ∷ 10 ∷ 97 ∷ 97 ∷ 98 ∷ 13 ∷ 10 ∷ 98 ∷ 97 ∷ 98 ∷ 13
    ∷ []) AtEnd nothing_seen) ≡ Open 1 ∷ Put 0 61 ∷ Put 0 32 ∷ Put 0 102 ∷ Put 0 97 ∷ Put 0 108 ∷ Put 0 115 ∷ Put 0 101 ∷ Put 0 10 ∷ []
unfolding digits encode chars
script_24_effects_1 = effects_so _ _

script_24_ending_1 : ending_of script_24 (known 1 (10 ∷ 13 ∷ 97 ∷ 10 ∷ 98 ∷ 98 ∷ 10 ∷ 97 ∷ 98 ∷ 10 ∷ 10 ∷ 97 ∷ 97 ∷ 98 ∷ 13 ∷ 10 ∷ 98 ∷ 97 ∷ 98 ∷ 13 ∷
    []) AtEnd nothing_seen) ≡ Done Value.Unit
unfolding digits encode chars
script_24_ending_1 = ending_so _ _

script_24_effects_2 : effects_of script_24 (known 1 [] MayGoOn nothing_seen) ≡ Open 1 ∷ []
unfolding digits encode chars
script_24_effects_2 = effects_so _ _

script_24_ending_2 : ending_of script_24 (known 1 [] MayGoOn nothing_seen) ≡ Halts (More (Reading 1))
unfolding digits encode chars
script_24_ending_2 = ending_so _ _

-- run { sourceFile "b"; { sourceFile "d"; stdin } } | lengthE;
-- run sourceFile "d" | (mark "m3" { utf8 } | (utf8Encode | allE space));
abbrev script_25 : List Sentence
script_25 = run_statement (piped (sequence_form (source_file_word (codes "b") ∷ sequence_form (source_file_word (codes "d") ∷ stdin_word ∷ []) ∷ []) ∷
    length_e ∷ [])) ∷ run_statement (piped (source_file_word (codes "d") ∷ piped (mark_form (codes "m3") utf8_word ∷ piped (utf8_encode_word ∷ all_e
    space ∷ []) ∷ []) ∷ [])) ∷ []

script_25_effects_1 : effects_of script_25 (known 1 (10 ∷ 44 ∷ 99 ∷ 99 ∷ []) AtEnd (known 2 (10 ∷ 10 ∷ 98 ∷ 97 ∷ []) AtEnd (known 3 (codes "ae") AtEnd
    (known 4 (10 ∷ 10 ∷ 98 ∷ 97 ∷ []) AtEnd nothing_seen)))) ≡ Open 1 ∷ Close 1 ∷ Open 2 ∷ Close 2 ∷ Put 0 61 ∷ Put 0 32 ∷ Put 0 49 ∷ Put 0 48 ∷ Put 0
    10 ∷ Open 5 ∷ Open 4 ∷ Put 0 61 ∷ Put 0 32 ∷ Put 0 102 ∷ Put 0 97 ∷ Put 0 108 ∷ Put 0 115 ∷ Put 0 101 ∷ Put 0 10 ∷ []
unfolding digits encode chars
script_25_effects_1 = effects_so _ _

script_25_ending_1 : ending_of script_25 (known 1 (10 ∷ 44 ∷ 99 ∷ 99 ∷ []) AtEnd (known 2 (10 ∷ 10 ∷ 98 ∷ 97 ∷ []) AtEnd (known 3 (codes "ae") AtEnd
    (known 4 (10 ∷ 10 ∷ 98 ∷ 97 ∷ []) AtEnd nothing_seen)))) ≡ Done Value.Unit
unfolding digits encode chars
script_25_ending_1 = ending_so _ _

script_25_effects_2 : effects_of script_25 (known 1 (10 ∷ 44 ∷ 99 ∷ []) MayGoOn (known 2 (10 ∷ 10 ∷ []) Broken (known 3 (codes "a") Broken (known 4
    (10 ∷ []) MayGoOn nothing_seen)))) ≡ Open 1 ∷ []
unfolding digits encode chars
script_25_effects_2 = effects_so _ _

script_25_ending_2 : ending_of script_25 (known 1 (10 ∷ 44 ∷ 99 ∷ []) MayGoOn (known 2 (10 ∷ 10 ∷ []) Broken (known 3 (codes "a") Broken (known 4 (10
    ∷ []) MayGoOn nothing_seen)))) ≡ Halts (More (Reading 1))
unfolding digits encode chars
script_25_ending_2 = ending_so _ _

-- run zipSource(sourceFile "a" | lines 9, zipSource(sourceFile "b" | lines 9, sourceFile "b" | lines 9, "0,"), "aa") | take 1 | take 9 | pass | dropWhile ends "😀";
abbrev script_26 : List Sentence
script_26 = run_statement (piped (zip_source_form (codes "aa") (piped (source_file_word (codes "a") ∷ lines_word 9 ∷ [])) (zip_source_form (codes
    "0,") (piped (source_file_word (codes "b") ∷ lines_word 9 ∷ [])) (piped (source_file_word (codes "b") ∷ lines_word 9 ∷ []))) ∷ take_word 1 ∷
    take_word 9 ∷ pass_word ∷ drop_while_word (ends (240 ∷ 159 ∷ 152 ∷ 128 ∷ [])) ∷ [])) ∷ []

script_26_effects_1 : effects_of script_26 (known 1 (codes "Ro3YSy2WneY=") AtEnd (known 2 (0 ∷ 0 ∷ 0 ∷ 1 ∷ 98 ∷ 0 ∷ 0 ∷ 0 ∷ 0 ∷ 0 ∷ 0 ∷ 0 ∷ 0 ∷ 0 ∷ 0
    ∷ 1 ∷ []) AtEnd (known 3 (0 ∷ 0 ∷ 0 ∷ 1 ∷ 98 ∷ 0 ∷ 0 ∷ 0 ∷ 0 ∷ 0 ∷ 0 ∷ 0 ∷ 0 ∷ 0 ∷ 0 ∷ 1 ∷ []) AtEnd nothing_seen))) ≡ Open 1 ∷ Open 2 ∷ Open 3 ∷
    []
unfolding digits encode chars
script_26_effects_1 = effects_so _ _

script_26_ending_1 : ending_of script_26 (known 1 (codes "Ro3YSy2WneY=") AtEnd (known 2 (0 ∷ 0 ∷ 0 ∷ 1 ∷ 98 ∷ 0 ∷ 0 ∷ 0 ∷ 0 ∷ 0 ∷ 0 ∷ 0 ∷ 0 ∷ 0 ∷ 0 ∷
    1 ∷ []) AtEnd (known 3 (0 ∷ 0 ∷ 0 ∷ 1 ∷ 98 ∷ 0 ∷ 0 ∷ 0 ∷ 0 ∷ 0 ∷ 0 ∷ 0 ∷ 0 ∷ 0 ∷ 0 ∷ 1 ∷ []) AtEnd nothing_seen))) ≡ Done Value.Unit
unfolding digits encode chars
script_26_ending_1 = ending_so _ _

script_26_effects_2 : effects_of script_26 (known 1 (codes "Ro3YS") Broken (known 2 (0 ∷ 0 ∷ 0 ∷ 1 ∷ 98 ∷ 0 ∷ 0 ∷ 0 ∷ 0 ∷ 0 ∷ 0 ∷ 0 ∷ 0 ∷ 0 ∷ [])
    MayGoOn (known 3 (0 ∷ 0 ∷ 0 ∷ 1 ∷ []) MayGoOn nothing_seen))) ≡ Open 1 ∷ []
unfolding digits encode chars
script_26_effects_2 = effects_so _ _

script_26_ending_2 : ending_of script_26 (known 1 (codes "Ro3YS") Broken (known 2 (0 ∷ 0 ∷ 0 ∷ 1 ∷ 98 ∷ 0 ∷ 0 ∷ 0 ∷ 0 ∷ 0 ∷ 0 ∷ 0 ∷ 0 ∷ 0 ∷ [])
    MayGoOn (known 3 (0 ∷ 0 ∷ 0 ∷ 1 ∷ []) MayGoOn nothing_seen))) ≡ Halts (Stop (ReadBad 1))
unfolding digits encode chars
script_26_ending_2 = ending_so _ _

-- hold k0 = mark "m1";
abbrev script_27 : List Sentence
script_27 = hold_statement (codes "k0") (codes "m1") ∷ []

script_27_effects_1 : effects_of script_27 nothing_seen ≡ Open 1 ∷ []
unfolding digits encode chars
script_27_effects_1 = effects_so _ _

script_27_ending_1 : ending_of script_27 nothing_seen ≡ Done Value.Unit
unfolding digits encode chars
script_27_ending_1 = ending_so _ _

-- run stdin | (lineE { split "a" 4 } |& length);
abbrev script_28 : List Sentence
script_28 = run_statement (piped (stdin_word ∷ piped_both (line_e_form (split_word 97 4) ∷ length_word ∷ []) ∷ [])) ∷ []

script_28_effects_1 : effects_of script_28 (known 1 (10 ∷ 10 ∷ 10 ∷ 98 ∷ 97 ∷ 10 ∷ 10 ∷ 98 ∷ []) AtEnd nothing_seen) ≡ Put 0 61 ∷ Put 0 32 ∷ Put 0 40
    ∷ Put 0 40 ∷ Put 0 41 ∷ Put 0 44 ∷ Put 0 32 ∷ Put 0 48 ∷ Put 0 41 ∷ Put 0 10 ∷ []
unfolding digits encode chars
script_28_effects_1 = effects_so _ _

script_28_ending_1 : ending_of script_28 (known 1 (10 ∷ 10 ∷ 10 ∷ 98 ∷ 97 ∷ 10 ∷ 10 ∷ 98 ∷ []) AtEnd nothing_seen) ≡ Done Value.Unit
unfolding digits encode chars
script_28_ending_1 = ending_so _ _

script_28_effects_2 : effects_of script_28 (known 1 [] MayGoOn nothing_seen) ≡ []
unfolding digits encode chars
script_28_effects_2 = effects_so _ _

script_28_ending_2 : ending_of script_28 (known 1 [] MayGoOn nothing_seen) ≡ Halts (More (Reading 1))
unfolding digits encode chars
script_28_ending_2 = ending_so _ _

-- run ((sourceFile "d" | utf8) | (takeE 3 | passE)) | exactlyE 9 { lines 4 } | (zipConduit(take 3, map prefix "\"a\"") | zipSink(length, peek));
abbrev script_29 : List Sentence
script_29 = run_statement (piped (piped (piped (source_file_word (codes "d") ∷ utf8_word ∷ []) ∷ piped (take_e 3 ∷ pass_e ∷ []) ∷ []) ∷ exactly_e_form
    9 (lines_word 4) ∷ piped (zip_conduit_form (take_word 3) (map_word (prefix (34 ∷ 97 ∷ 34 ∷ []))) ∷ zip_sink_form length_word peek_word ∷ []) ∷
    [])) ∷ []

script_29_effects_1 : effects_of script_29 (known 1 (codes "3717") AtEnd nothing_seen) ≡ Open 1 ∷ Put 0 61 ∷ Put 0 32 ∷ Put 0 40 ∷ Put 0 50 ∷ Put 0 44
    ∷ Put 0 32 ∷ Put 0 115 ∷ Put 0 111 ∷ Put 0 109 ∷ Put 0 101 ∷ Put 0 32 ∷ Put 0 34 ∷ Put 0 51 ∷ Put 0 55 ∷ Put 0 49 ∷ Put 0 34 ∷ Put 0 41 ∷ Put 0 10
    ∷ []
unfolding digits encode chars
script_29_effects_1 = effects_so _ _

script_29_ending_1 : ending_of script_29 (known 1 (codes "3717") AtEnd nothing_seen) ≡ Done Value.Unit
unfolding digits encode chars
script_29_ending_1 = ending_so _ _

script_29_effects_2 : effects_of script_29 (known 1 (codes "37") MayGoOn nothing_seen) ≡ Open 1 ∷ []
unfolding digits encode chars
script_29_effects_2 = effects_so _ _

script_29_ending_2 : ending_of script_29 (known 1 (codes "37") MayGoOn nothing_seen) ≡ Halts (More (Reading 1))
unfolding digits encode chars
script_29_ending_2 = ending_so _ _

-- run sourceFile "c" | exactlyE 2 { { sinkNull; mapE add 255; hexEncode } } | repeatE 3 | filterE not newline | collectE 3;
abbrev script_30 : List Sentence
script_30 = run_statement (piped (source_file_word (codes "c") ∷ exactly_e_form 2 (sequence_form (sink_null ∷ map_e (add 255) ∷ hex_encode_word ∷ []))
    ∷ repeat_e 3 ∷ filter_e (not_class newline) ∷ collect_e 3 ∷ [])) ∷ []

script_30_effects_1 : effects_of script_30 (known 1 (codes "b") AtEnd nothing_seen) ≡ Open 1 ∷ Close 1 ∷ Put 0 61 ∷ Put 0 32 ∷ Put 0 34 ∷ Put 0 34 ∷
    Put 0 10 ∷ []
unfolding digits encode chars
script_30_effects_1 = effects_so _ _

script_30_ending_1 : ending_of script_30 (known 1 (codes "b") AtEnd nothing_seen) ≡ Done Value.Unit
unfolding digits encode chars
script_30_ending_1 = ending_so _ _

script_30_effects_2 : effects_of script_30 (known 1 [] MayGoOn nothing_seen) ≡ Open 1 ∷ []
unfolding digits encode chars
script_30_effects_2 = effects_so _ _

script_30_ending_2 : ending_of script_30 (known 1 [] MayGoOn nothing_seen) ≡ Halts (More (Reading 1))
unfolding digits encode chars
script_30_ending_2 = ending_so _ _

-- run zipSource(sourceFile "a" | lines 9, sourceFile "d" | lines 9, "€") | filter begins "aa" | { { takeWhile begins "€"; map prefix "\u{7f}" }; intersperse "€" } | exactly 3 { zipConduit(pass, intersperse "\"") } | null;
abbrev script_31 : List Sentence
script_31 = run_statement (piped (zip_source_form (226 ∷ 130 ∷ 172 ∷ []) (piped (source_file_word (codes "a") ∷ lines_word 9 ∷ [])) (piped
    (source_file_word (codes "d") ∷ lines_word 9 ∷ [])) ∷ filter_word (begins (codes "aa")) ∷ sequence_form (sequence_form (take_while_word (begins
    (226 ∷ 130 ∷ 172 ∷ [])) ∷ map_word (prefix (127 ∷ [])) ∷ []) ∷ intersperse_word (226 ∷ 130 ∷ 172 ∷ []) ∷ []) ∷ exactly_form 3 (zip_conduit_form
    pass_word (intersperse_word (34 ∷ []))) ∷ null_word ∷ [])) ∷ []

script_31_effects_1 : effects_of script_31 (known 1 (codes "1:1,1:1,1:,,1:ab") AtEnd (known 2 [] AtEnd nothing_seen)) ≡ Open 1 ∷ Open 2 ∷ Close 2 ∷
    Put 0 61 ∷ Put 0 32 ∷ Put 0 116 ∷ Put 0 114 ∷ Put 0 117 ∷ Put 0 101 ∷ Put 0 10 ∷ []
unfolding digits encode chars
script_31_effects_1 = effects_so _ _

script_31_ending_1 : ending_of script_31 (known 1 (codes "1:1,1:1,1:,,1:ab") AtEnd (known 2 [] AtEnd nothing_seen)) ≡ Done Value.Unit
unfolding digits encode chars
script_31_ending_1 = ending_so _ _

script_31_effects_2 : effects_of script_31 (known 1 [] MayGoOn (known 2 [] MayGoOn nothing_seen)) ≡ Open 1 ∷ []
unfolding digits encode chars
script_31_effects_2 = effects_so _ _

script_31_ending_2 : ending_of script_31 (known 1 [] MayGoOn (known 2 [] MayGoOn nothing_seen)) ≡ Halts (More (Reading 1))
unfolding digits encode chars
script_31_ending_2 = ending_so _ _

-- run ({ sourceFile "d"; sourceFile "c" } | hexDecode) | lines 80 | null;
abbrev script_32 : List Sentence
script_32 = run_statement (piped (piped (sequence_form (source_file_word (codes "d") ∷ source_file_word (codes "c") ∷ []) ∷ hex_decode_word ∷ []) ∷
    lines_word 80 ∷ null_word ∷ [])) ∷ []

script_32_effects_1 : effects_of script_32 (known 1 (0 ∷ 0 ∷ 0 ∷ 1 ∷ 98 ∷ 0 ∷ 0 ∷ 0 ∷ 0 ∷ 0 ∷ 0 ∷ 0 ∷ 3 ∷ 97 ∷ 97 ∷ 97 ∷ 0 ∷ []) AtEnd (known 2 (120 ∷
    97 ∷ 45 ∷ 97 ∷ 97 ∷ 45 ∷ 45 ∷ 98 ∷ 99 ∷ 44 ∷ 98 ∷ 120 ∷ 49 ∷ 32 ∷ 49 ∷ 32 ∷ 99 ∷ 98 ∷ 120 ∷ 98 ∷ []) AtEnd nothing_seen)) ≡ Open 1 ∷ []
unfolding digits encode chars
script_32_effects_1 = effects_so _ _

script_32_ending_1 : ending_of script_32 (known 1 (0 ∷ 0 ∷ 0 ∷ 1 ∷ 98 ∷ 0 ∷ 0 ∷ 0 ∷ 0 ∷ 0 ∷ 0 ∷ 0 ∷ 3 ∷ 97 ∷ 97 ∷ 97 ∷ 0 ∷ []) AtEnd (known 2 (120 ∷
    97 ∷ 45 ∷ 97 ∷ 97 ∷ 45 ∷ 45 ∷ 98 ∷ 99 ∷ 44 ∷ 98 ∷ 120 ∷ 49 ∷ 32 ∷ 49 ∷ 32 ∷ 99 ∷ 98 ∷ 120 ∷ 98 ∷ []) AtEnd nothing_seen)) ≡ Halts (Stop (bad_hex
    0))
unfolding digits encode chars
script_32_ending_1 = ending_so _ _

script_32_effects_2 : effects_of script_32 (known 1 (0 ∷ 0 ∷ 0 ∷ 1 ∷ 98 ∷ 0 ∷ 0 ∷ 0 ∷ 0 ∷ []) MayGoOn (known 2 (codes "xa-aa--bc,") MayGoOn
    nothing_seen)) ≡ Open 1 ∷ []
unfolding digits encode chars
script_32_effects_2 = effects_so _ _

script_32_ending_2 : ending_of script_32 (known 1 (0 ∷ 0 ∷ 0 ∷ 1 ∷ 98 ∷ 0 ∷ 0 ∷ 0 ∷ 0 ∷ []) MayGoOn (known 2 (codes "xa-aa--bc,") MayGoOn
    nothing_seen)) ≡ Halts (Stop (bad_hex 0))
unfolding digits encode chars
script_32_ending_2 = ending_so _ _

-- run blocks ["€", "é-", "-"] | takeWhile empty | head;
abbrev script_33 : List Sentence
script_33 = run_statement (piped (blocks_word ((226 ∷ 130 ∷ 172 ∷ []) ∷ (195 ∷ 169 ∷ 45 ∷ []) ∷ (codes "-") ∷ []) ∷ take_while_word empty ∷ head_word
    ∷ [])) ∷ []

script_33_effects_1 : effects_of script_33 nothing_seen ≡ Put 0 61 ∷ Put 0 32 ∷ Put 0 110 ∷ Put 0 111 ∷ Put 0 110 ∷ Put 0 101 ∷ Put 0 10 ∷ []
unfolding digits encode chars
script_33_effects_1 = effects_so _ _

script_33_ending_1 : ending_of script_33 nothing_seen ≡ Done Value.Unit
unfolding digits encode chars
script_33_ending_1 = ending_so _ _

-- hold k0 = mark "m1";
abbrev script_34 : List Sentence
script_34 = hold_statement (codes "k0") (codes "m1") ∷ []

script_34_effects_1 : effects_of script_34 nothing_seen ≡ Open 1 ∷ []
unfolding digits encode chars
script_34_effects_1 = effects_so _ _

script_34_ending_1 : ending_of script_34 nothing_seen ≡ Done Value.Unit
unfolding digits encode chars
script_34_ending_1 = ending_so _ _

-- run sourceFile "d" | split "," 1 | (take 9223372036854775808 | { pass; map prefix "0"; take 65536 }) | takeWhile empty | { (intersperse "," | dropWhile ends "\n"); ({ unlines; sinkNull } |& collectE 4) };
abbrev script_35 : List Sentence
script_35 = run_statement (piped (source_file_word (codes "d") ∷ split_word 44 1 ∷ piped (take_word 9223372036854775808 ∷ sequence_form (pass_word ∷
    map_word (prefix (codes "0")) ∷ take_word 65536 ∷ []) ∷ []) ∷ take_while_word empty ∷ sequence_form (piped (intersperse_word (codes ",") ∷
    drop_while_word (ends (10 ∷ [])) ∷ []) ∷ piped_both (sequence_form (unlines_word ∷ sink_null ∷ []) ∷ collect_e 4 ∷ []) ∷ []) ∷ [])) ∷ []

script_35_effects_1 : effects_of script_35 (known 1 (121 ∷ 204 ∷ 37 ∷ 250 ∷ []) AtEnd nothing_seen) ≡ Open 1 ∷ Put 0 61 ∷ Put 0 32 ∷ Put 0 40 ∷ Put 0
    40 ∷ Put 0 41 ∷ Put 0 44 ∷ Put 0 32 ∷ Put 0 34 ∷ Put 0 34 ∷ Put 0 41 ∷ Put 0 10 ∷ []
unfolding digits encode chars
script_35_effects_1 = effects_so _ _

script_35_ending_1 : ending_of script_35 (known 1 (121 ∷ 204 ∷ 37 ∷ 250 ∷ []) AtEnd nothing_seen) ≡ Done Value.Unit
unfolding digits encode chars
script_35_ending_1 = ending_so _ _

script_35_effects_2 : effects_of script_35 (known 1 [] MayGoOn nothing_seen) ≡ Open 1 ∷ []
unfolding digits encode chars
script_35_effects_2 = effects_so _ _

script_35_ending_2 : ending_of script_35 (known 1 [] MayGoOn nothing_seen) ≡ Halts (More (Reading 1))
unfolding digits encode chars
script_35_ending_2 = ending_so _ _

-- run range 1 13 | (exactly 7 { map suffix "ab" } | zipSink(head, peek));
abbrev script_36 : List Sentence
script_36 = run_statement (piped (range_word 1 13 ∷ piped (exactly_form 7 (map_word (suffix (codes "ab"))) ∷ zip_sink_form head_word peek_word ∷ []) ∷
    [])) ∷ []

script_36_effects_1 : effects_of script_36 nothing_seen ≡ Put 0 61 ∷ Put 0 32 ∷ Put 0 40 ∷ Put 0 115 ∷ Put 0 111 ∷ Put 0 109 ∷ Put 0 101 ∷ Put 0 32 ∷
    Put 0 34 ∷ Put 0 49 ∷ Put 0 97 ∷ Put 0 98 ∷ Put 0 34 ∷ Put 0 44 ∷ Put 0 32 ∷ Put 0 115 ∷ Put 0 111 ∷ Put 0 109 ∷ Put 0 101 ∷ Put 0 32 ∷ Put 0 34 ∷
    Put 0 49 ∷ Put 0 97 ∷ Put 0 98 ∷ Put 0 34 ∷ Put 0 41 ∷ Put 0 10 ∷ []
unfolding digits encode chars
script_36_effects_1 = effects_so _ _

script_36_ending_1 : ending_of script_36 nothing_seen ≡ Done Value.Unit
unfolding digits encode chars
script_36_ending_1 = ending_so _ _

-- run sourceFile "d" | split "1" 4 | filter empty | null;
abbrev script_37 : List Sentence
script_37 = run_statement (piped (source_file_word (codes "d") ∷ split_word 49 4 ∷ filter_word empty ∷ null_word ∷ [])) ∷ []

script_37_effects_1 : effects_of script_37 (known 1 (49 ∷ 98 ∷ 49 ∷ 98 ∷ 45 ∷ 120 ∷ 44 ∷ 45 ∷ 97 ∷ 98 ∷ 49 ∷ 98 ∷ 44 ∷ 97 ∷ 99 ∷ 99 ∷ 120 ∷ 98 ∷ 98 ∷
    10 ∷ []) AtEnd nothing_seen) ≡ Open 1 ∷ Put 0 61 ∷ Put 0 32 ∷ Put 0 102 ∷ Put 0 97 ∷ Put 0 108 ∷ Put 0 115 ∷ Put 0 101 ∷ Put 0 10 ∷ []
unfolding digits encode chars
script_37_effects_1 = effects_so _ _

script_37_ending_1 : ending_of script_37 (known 1 (49 ∷ 98 ∷ 49 ∷ 98 ∷ 45 ∷ 120 ∷ 44 ∷ 45 ∷ 97 ∷ 98 ∷ 49 ∷ 98 ∷ 44 ∷ 97 ∷ 99 ∷ 99 ∷ 120 ∷ 98 ∷ 98 ∷ 10
    ∷ []) AtEnd nothing_seen) ≡ Done Value.Unit
unfolding digits encode chars
script_37_ending_1 = ending_so _ _

script_37_effects_2 : effects_of script_37 (known 1 (codes "1b1b-x") Broken nothing_seen) ≡ Open 1 ∷ Put 0 61 ∷ Put 0 32 ∷ Put 0 102 ∷ Put 0 97 ∷ Put
    0 108 ∷ Put 0 115 ∷ Put 0 101 ∷ Put 0 10 ∷ []
unfolding digits encode chars
script_37_effects_2 = effects_so _ _

script_37_ending_2 : ending_of script_37 (known 1 (codes "1b1b-x") Broken nothing_seen) ≡ Done Value.Unit
unfolding digits encode chars
script_37_ending_2 = ending_so _ _

-- run stdin | base64Decode | anyE not below 256;
abbrev script_38 : List Sentence
script_38 = run_statement (piped (stdin_word ∷ base64_decode_word ∷ any_e (not_class (below 256)) ∷ [])) ∷ []

script_38_effects_1 : effects_of script_38 (known 1 (120 ∷ 97 ∷ 98 ∷ 10 ∷ []) AtEnd nothing_seen) ≡ []
unfolding digits encode chars
script_38_effects_1 = effects_so _ _

script_38_ending_1 : ending_of script_38 (known 1 (120 ∷ 97 ∷ 98 ∷ 10 ∷ []) AtEnd nothing_seen) ≡ Halts (Stop (bad_base64 0))
unfolding digits encode chars
script_38_ending_1 = ending_so _ _

script_38_effects_2 : effects_of script_38 (known 1 (codes "xa") MayGoOn nothing_seen) ≡ []
unfolding digits encode chars
script_38_effects_2 = effects_so _ _

script_38_ending_2 : ending_of script_38 (known 1 (codes "xa") MayGoOn nothing_seen) ≡ Halts (More (Reading 1))
unfolding digits encode chars
script_38_ending_2 = ending_so _ _

-- run stdin | (base64Decode | utf8Lenient) | filterE alnum | ((lines 8 | repeat 0) | map reverse) | { peek; zipSink(last, collect 50); (takeWhile not shorter 2 | drop 7) };
abbrev script_39 : List Sentence
script_39 = run_statement (piped (stdin_word ∷ piped (base64_decode_word ∷ utf8_lenient_word ∷ []) ∷ filter_e alnum ∷ piped (piped (lines_word 8 ∷
    repeat_word 0 ∷ []) ∷ map_word reversed ∷ []) ∷ sequence_form (peek_word ∷ zip_sink_form last_word (collect_word 50) ∷ piped (take_while_word
    (not_test (shorter 2)) ∷ drop_word 7 ∷ []) ∷ []) ∷ [])) ∷ []

script_39_effects_1 : effects_of script_39 (known 1 (codes "2:a1,2:1a,2:b:,1:ab") AtEnd nothing_seen) ≡ []
unfolding digits encode chars
script_39_effects_1 = effects_so _ _

script_39_ending_1 : ending_of script_39 (known 1 (codes "2:a1,2:1a,2:b:,1:ab") AtEnd nothing_seen) ≡ Halts (Stop (bad_base64 0))
unfolding digits encode chars
script_39_ending_1 = ending_so _ _

script_39_effects_2 : effects_of script_39 (known 1 (codes "2:") Broken nothing_seen) ≡ []
unfolding digits encode chars
script_39_effects_2 = effects_so _ _

script_39_ending_2 : ending_of script_39 (known 1 (codes "2:") Broken nothing_seen) ≡ Halts (Stop (ReadBad 1))
unfolding digits encode chars
script_39_ending_2 = ending_so _ _

-- run (sourceFile "b" | (lines 1 | map prefix "\"")) | zipConduit(map suffix "x\n", mark "m1" { drop 4 }) | repeat 2 | drop 1;
abbrev script_40 : List Sentence
script_40 = run_statement (piped (piped (source_file_word (codes "b") ∷ piped (lines_word 1 ∷ map_word (prefix (34 ∷ [])) ∷ []) ∷ []) ∷
    zip_conduit_form (map_word (suffix (120 ∷ 10 ∷ []))) (mark_form (codes "m1") (drop_word 4)) ∷ repeat_word 2 ∷ drop_word 1 ∷ [])) ∷ []

script_40_effects_1 : effects_of script_40 (known 1 (codes "0:,1:b,1:b,1:ab") AtEnd nothing_seen) ≡ Open 2 ∷ Open 1 ∷ []
unfolding digits encode chars
script_40_effects_1 = effects_so _ _

script_40_ending_1 : ending_of script_40 (known 1 (codes "0:,1:b,1:b,1:ab") AtEnd nothing_seen) ≡ Done Value.Unit
unfolding digits encode chars
script_40_ending_1 = ending_so _ _

script_40_effects_2 : effects_of script_40 (known 1 [] MayGoOn nothing_seen) ≡ Open 2 ∷ Open 1 ∷ []
unfolding digits encode chars
script_40_effects_2 = effects_so _ _

script_40_ending_2 : ending_of script_40 (known 1 [] MayGoOn nothing_seen) ≡ Halts (More (Reading 1))
unfolding digits encode chars
script_40_ending_2 = ending_so _ _

-- run { stdin; { sourceFile "b"; sourceFile "c" } } | zipSink(({ lines 8; allE alnum } |& peek), sinkFile "x2");
-- run sourceFile "d" | repeatE 0 | repeatE 2 | sinkFile "x3";
abbrev script_41 : List Sentence
script_41 = run_statement (piped (sequence_form (stdin_word ∷ sequence_form (source_file_word (codes "b") ∷ source_file_word (codes "c") ∷ []) ∷ []) ∷
    zip_sink_form (piped_both (sequence_form (lines_word 8 ∷ all_e alnum ∷ []) ∷ peek_word ∷ [])) (sink_file_word (codes "x2")) ∷ [])) ∷ run_statement
    (piped (source_file_word (codes "d") ∷ repeat_e 0 ∷ repeat_e 2 ∷ sink_file_word (codes "x3") ∷ [])) ∷ []

script_41_effects_1 : effects_of script_41 (known 1 (10 ∷ 98 ∷ []) AtEnd (known 2 (97 ∷ 51 ∷ 103 ∷ 138 ∷ []) AtEnd (known 3 (codes "5695338894802")
    AtEnd (known 5 (codes "44301427356817109216") AtEnd nothing_seen)))) ≡ Open 4 ∷ Put 4 10 ∷ Put 4 98 ∷ Open 2 ∷ Put 4 97 ∷ Put 4 51 ∷ Put 4 103 ∷
    Put 4 138 ∷ Close 2 ∷ Open 3 ∷ Put 4 53 ∷ Put 4 54 ∷ Put 4 57 ∷ Put 4 53 ∷ Put 4 51 ∷ Put 4 51 ∷ Put 4 56 ∷ Put 4 56 ∷ Put 4 57 ∷ Put 4 52 ∷ Put 4
    56 ∷ Put 4 48 ∷ Put 4 50 ∷ Close 3 ∷ Close 4 ∷ Put 0 61 ∷ Put 0 32 ∷ Put 0 40 ∷ Put 0 40 ∷ Put 0 116 ∷ Put 0 114 ∷ Put 0 117 ∷ Put 0 101 ∷ Put 0
    44 ∷ Put 0 32 ∷ Put 0 115 ∷ Put 0 111 ∷ Put 0 109 ∷ Put 0 101 ∷ Put 0 32 ∷ Put 0 34 ∷ Put 0 34 ∷ Put 0 41 ∷ Put 0 44 ∷ Put 0 32 ∷ Put 0 40 ∷ Put 0
    41 ∷ Put 0 41 ∷ Put 0 10 ∷ Open 6 ∷ Open 5 ∷ Close 5 ∷ Close 6 ∷ []
unfolding digits encode chars
script_41_effects_1 = effects_so _ _

script_41_ending_1 : ending_of script_41 (known 1 (10 ∷ 98 ∷ []) AtEnd (known 2 (97 ∷ 51 ∷ 103 ∷ 138 ∷ []) AtEnd (known 3 (codes "5695338894802")
    AtEnd (known 5 (codes "44301427356817109216") AtEnd nothing_seen)))) ≡ Done Value.Unit
unfolding digits encode chars
script_41_ending_1 = ending_so _ _

script_41_effects_2 : effects_of script_41 (known 1 (10 ∷ []) MayGoOn (known 2 (codes "a") Broken (known 3 (codes "56") MayGoOn (known 5 (codes
    "44301427356817109") Broken nothing_seen)))) ≡ Open 4 ∷ Put 4 10 ∷ []
unfolding digits encode chars
script_41_effects_2 = effects_so _ _

script_41_ending_2 : ending_of script_41 (known 1 (10 ∷ []) MayGoOn (known 2 (codes "a") Broken (known 3 (codes "56") MayGoOn (known 5 (codes
    "44301427356817109") Broken nothing_seen)))) ≡ Halts (More (Reading 1))
unfolding digits encode chars
script_41_ending_2 = ending_so _ _

-- run sourceFile "d" | chunksOf 2 | flat | sinkFile "x1";
abbrev script_42 : List Sentence
script_42 = run_statement (piped (source_file_word (codes "d") ∷ chunks_of_word 2 ∷ flat_word ∷ sink_file_word (codes "x1") ∷ [])) ∷ []

script_42_effects_1 : effects_of script_42 (known 1 (codes "2") AtEnd nothing_seen) ≡ Open 2 ∷ Open 1 ∷ Close 1 ∷ Put 2 50 ∷ Close 2 ∷ []
unfolding digits encode chars
script_42_effects_1 = effects_so _ _

script_42_ending_1 : ending_of script_42 (known 1 (codes "2") AtEnd nothing_seen) ≡ Done Value.Unit
unfolding digits encode chars
script_42_ending_1 = ending_so _ _

script_42_effects_2 : effects_of script_42 (known 1 [] MayGoOn nothing_seen) ≡ Open 2 ∷ Open 1 ∷ []
unfolding digits encode chars
script_42_effects_2 = effects_so _ _

script_42_ending_2 : ending_of script_42 (known 1 [] MayGoOn nothing_seen) ≡ Halts (More (Reading 1))
unfolding digits encode chars
script_42_ending_2 = ending_so _ _
