-- Cases of tools/cases/scripts.jsonl, written by tools/cases.py: the number in a name is the line of the case.
use Rattle.std.specs.Prelude.{List, [], ◌∷◌, ◌≡◌, codes}
use Rattle.std.specs.Fmt.{digits}
use lib.Utf8.{encode}
use Rattle.std.specs.Str.{chars}
use Rattle.cd_meaning.specs.Stream.{Value, Reading, More, Stop, bad_hex, ReadBad, Done, Halts, Open, Put, Close}
use Rattle.cd_meaning.specs.RunShapes.{AtEnd, MayGoOn, Broken}
use Rattle.cd_meaning.specs.Rows.Trees.{Sentence}
use Rattle.cd_meaning.specs.Rows.Short.{pass_e, take_e, take_while_e, filter_e, map_e, repeat_e, drop_e, drop_while_e, head_e, last_e, length_e, sum_e, all_e, any_e, null_e, collect_e, sink_null, take_word, take_while_word, filter_word, repeat_word, map_word, intersperse_word, drop_word, drop_while_word, head_word, peek_word, last_word, length_word, collect_word, lines_word, split_word, exact_word, chunks_of_word, flat_word, unlines_word, utf8_word, utf8_encode_word, hex_encode_word, hex_decode_word, base64_encode_word, source_file_word, stdin_word, bytes_word, text_word, blocks_word, texts_word, range_word, sink_file_word, stdout_word, upper, alpha, hexdigit, space, newline, is_scalar, begins, ends, shorter, xor, add, rot13, prefix, suffix, reversed, not_test, piped, piped_keep, piped_up, piped_asked, exactly_form, exactly_e_form, line_e_form, mark_form, tee_form, zip_source_form, zip_sink_form, zip_conduit_form, sequence_form, run_statement, let_statement, feed_statement, close_statement, hold_statement}
use Rattle.cd_meaning.specs.Cases.Known.{nothing_seen, known, effects_of, effects_so, ending_of, ending_so}

-- run sourceFile "a" | (hexEncode | mapE rot13) | zipSink(exactlyE 1 { sumE }, zipSink(stdout, sinkNull));
abbrev script_79 : List Sentence
script_79 = run_statement (piped (source_file_word (codes "a") ∷ piped (hex_encode_word ∷ map_e rot13 ∷ []) ∷ zip_sink_form (exactly_e_form 1 sum_e)
    (zip_sink_form stdout_word sink_null) ∷ [])) ∷ []

script_79_effects_1 : effects_of script_79 (known 1 (10 ∷ 195 ∷ 192 ∷ 97 ∷ []) AtEnd nothing_seen) ≡ Open 1 ∷ Put 2 48 ∷ Put 2 110 ∷ Put 2 112 ∷ Put 2
    51 ∷ Put 2 112 ∷ Put 2 48 ∷ Put 2 54 ∷ Put 2 49 ∷ Close 1 ∷ Put 0 61 ∷ Put 0 32 ∷ Put 0 40 ∷ Put 0 52 ∷ Put 0 56 ∷ Put 0 44 ∷ Put 0 32 ∷ Put 0 40
    ∷ Put 0 41 ∷ Put 0 41 ∷ Put 0 10 ∷ []
unfolding digits encode chars
script_79_effects_1 = effects_so _ _

script_79_ending_1 : ending_of script_79 (known 1 (10 ∷ 195 ∷ 192 ∷ 97 ∷ []) AtEnd nothing_seen) ≡ Done Value.Unit
unfolding digits encode chars
script_79_ending_1 = ending_so _ _

script_79_effects_2 : effects_of script_79 (known 1 (10 ∷ 195 ∷ []) MayGoOn nothing_seen) ≡ Open 1 ∷ Put 2 48 ∷ Put 2 110 ∷ Put 2 112 ∷ Put 2 51 ∷ []
unfolding digits encode chars
script_79_effects_2 = effects_so _ _

script_79_ending_2 : ending_of script_79 (known 1 (10 ∷ 195 ∷ []) MayGoOn nothing_seen) ≡ Halts (More (Reading 1))
unfolding digits encode chars
script_79_ending_2 = ending_so _ _

-- run texts ["bx\n\"", "\r"] | flat | (mapE rot13 |= repeatE 3) | zipSink(zipSink(collectE 1, allE alpha), collectE 50);
abbrev script_80 : List Sentence
script_80 = run_statement (piped (texts_word ((98 ∷ 120 ∷ 10 ∷ 34 ∷ []) ∷ (13 ∷ []) ∷ []) ∷ flat_word ∷ piped_keep (map_e rot13 ∷ repeat_e 3 ∷ []) ∷
    zip_sink_form (zip_sink_form (collect_e 1) (all_e alpha)) (collect_e 50) ∷ [])) ∷ []

script_80_effects_1 : effects_of script_80 nothing_seen ≡ Put 0 61 ∷ Put 0 32 ∷ Put 0 40 ∷ Put 0 40 ∷ Put 0 34 ∷ Put 0 111 ∷ Put 0 34 ∷ Put 0 44 ∷ Put
    0 32 ∷ Put 0 102 ∷ Put 0 97 ∷ Put 0 108 ∷ Put 0 115 ∷ Put 0 101 ∷ Put 0 41 ∷ Put 0 44 ∷ Put 0 32 ∷ Put 0 34 ∷ Put 0 111 ∷ Put 0 111 ∷ Put 0 111 ∷
    Put 0 107 ∷ Put 0 107 ∷ Put 0 107 ∷ Put 0 92 ∷ Put 0 117 ∷ Put 0 123 ∷ Put 0 97 ∷ Put 0 125 ∷ Put 0 92 ∷ Put 0 117 ∷ Put 0 123 ∷ Put 0 97 ∷ Put 0
    125 ∷ Put 0 92 ∷ Put 0 117 ∷ Put 0 123 ∷ Put 0 97 ∷ Put 0 125 ∷ Put 0 92 ∷ Put 0 34 ∷ Put 0 92 ∷ Put 0 34 ∷ Put 0 92 ∷ Put 0 34 ∷ Put 0 92 ∷ Put 0
    117 ∷ Put 0 123 ∷ Put 0 100 ∷ Put 0 125 ∷ Put 0 92 ∷ Put 0 117 ∷ Put 0 123 ∷ Put 0 100 ∷ Put 0 125 ∷ Put 0 92 ∷ Put 0 117 ∷ Put 0 123 ∷ Put 0 100
    ∷ Put 0 125 ∷ Put 0 34 ∷ Put 0 41 ∷ Put 0 10 ∷ []
unfolding digits encode chars
script_80_effects_1 = effects_so _ _

script_80_ending_1 : ending_of script_80 nothing_seen ≡ Done Value.Unit
unfolding digits encode chars
script_80_ending_1 = ending_so _ _

-- run sourceFile "d" | { hexDecode; (mapE add 2 |= hexEncode) } | sinkFile "x1";
abbrev script_81 : List Sentence
script_81 = run_statement (piped (source_file_word (codes "d") ∷ sequence_form (hex_decode_word ∷ piped_keep (map_e (add 2) ∷ hex_encode_word ∷ []) ∷
    []) ∷ sink_file_word (codes "x1") ∷ [])) ∷ []

script_81_effects_1 : effects_of script_81 (known 1 (98 ∷ 10 ∷ 98 ∷ 97 ∷ []) AtEnd nothing_seen) ≡ Open 2 ∷ Open 1 ∷ []
unfolding digits encode chars
script_81_effects_1 = effects_so _ _

script_81_ending_1 : ending_of script_81 (known 1 (98 ∷ 10 ∷ 98 ∷ 97 ∷ []) AtEnd nothing_seen) ≡ Halts (Stop (bad_hex 0))
unfolding digits encode chars
script_81_ending_1 = ending_so _ _

script_81_effects_2 : effects_of script_81 (known 1 [] MayGoOn nothing_seen) ≡ Open 2 ∷ Open 1 ∷ []
unfolding digits encode chars
script_81_effects_2 = effects_so _ _

script_81_ending_2 : ending_of script_81 (known 1 [] MayGoOn nothing_seen) ≡ Halts (More (Reading 1))
unfolding digits encode chars
script_81_ending_2 = ending_so _ _

-- run bytes "😀" | hexEncode | { split "a" 80; exact 4 } | intersperse "," | last;
abbrev script_84 : List Sentence
script_84 = run_statement (piped (bytes_word (240 ∷ 159 ∷ 152 ∷ 128 ∷ []) ∷ hex_encode_word ∷ sequence_form (split_word 97 80 ∷ exact_word 4 ∷ []) ∷
    intersperse_word (codes ",") ∷ last_word ∷ [])) ∷ []

script_84_effects_1 : effects_of script_84 nothing_seen ≡ Put 0 61 ∷ Put 0 32 ∷ Put 0 115 ∷ Put 0 111 ∷ Put 0 109 ∷ Put 0 101 ∷ Put 0 32 ∷ Put 0 34 ∷
    Put 0 102 ∷ Put 0 48 ∷ Put 0 57 ∷ Put 0 102 ∷ Put 0 57 ∷ Put 0 56 ∷ Put 0 56 ∷ Put 0 48 ∷ Put 0 34 ∷ Put 0 10 ∷ []
unfolding digits encode chars
script_84_effects_1 = effects_so _ _

script_84_ending_1 : ending_of script_84 nothing_seen ≡ Done Value.Unit
unfolding digits encode chars
script_84_ending_1 = ending_so _ _

-- run bytes "😀" | lines 4 | take 4 | exactly 4 { zipConduit(flat, flat) } | { sumE; dropWhileE space };
abbrev script_85 : List Sentence
script_85 = run_statement (piped (bytes_word (240 ∷ 159 ∷ 152 ∷ 128 ∷ []) ∷ lines_word 4 ∷ take_word 4 ∷ exactly_form 4 (zip_conduit_form flat_word
    flat_word) ∷ sequence_form (sum_e ∷ drop_while_e space ∷ []) ∷ [])) ∷ []

script_85_effects_1 : effects_of script_85 nothing_seen ≡ []
unfolding digits encode chars
script_85_effects_1 = effects_so _ _

script_85_ending_1 : ending_of script_85 nothing_seen ≡ Done Value.Unit
unfolding digits encode chars
script_85_ending_1 = ending_so _ _

-- let s0 = seal (text "ab" | utf8Encode);
-- run range 8 9 | flat | utf8 | lengthE;
-- close s0 | exactlyE 7 { ((base64Encode | repeatE 3) | lineE { headE }) };
abbrev script_87 : List Sentence
script_87 = let_statement (codes "s0") (piped (text_word (codes "ab") ∷ utf8_encode_word ∷ [])) ∷ run_statement (piped (range_word 8 9 ∷ flat_word ∷
    utf8_word ∷ length_e ∷ [])) ∷ close_statement (codes "s0") (exactly_e_form 7 (piped (piped (base64_encode_word ∷ repeat_e 3 ∷ []) ∷ line_e_form
    head_e ∷ []))) ∷ []

script_87_effects_1 : effects_of script_87 nothing_seen ≡ Put 0 61 ∷ Put 0 32 ∷ Put 0 50 ∷ Put 0 10 ∷ Put 0 61 ∷ Put 0 32 ∷ Put 0 115 ∷ Put 0 111 ∷
    Put 0 109 ∷ Put 0 101 ∷ Put 0 32 ∷ Put 0 56 ∷ Put 0 57 ∷ Put 0 10 ∷ []
unfolding digits encode chars
script_87_effects_1 = effects_so _ _

script_87_ending_1 : ending_of script_87 nothing_seen ≡ Done Value.Unit
unfolding digits encode chars
script_87_ending_1 = ending_so _ _

-- run sourceFile "c" | (split "1" 3 | sinkNull);
-- run sourceFile "d" | filterE newline | lineE { { utf8 } } | lines 3 | dropWhile shorter 1;
abbrev script_91 : List Sentence
script_91 = run_statement (piped (source_file_word (codes "c") ∷ piped (split_word 49 3 ∷ sink_null ∷ []) ∷ [])) ∷ run_statement (piped
    (source_file_word (codes "d") ∷ filter_e newline ∷ line_e_form (sequence_form (utf8_word ∷ [])) ∷ lines_word 3 ∷ drop_while_word (shorter 1) ∷
    [])) ∷ []

script_91_effects_1 : effects_of script_91 (known 1 (0 ∷ 0 ∷ 0 ∷ 0 ∷ 0 ∷ 0 ∷ 0 ∷ 3 ∷ 97 ∷ 97 ∷ 97 ∷ 0 ∷ 0 ∷ 0 ∷ 1 ∷ 0 ∷ []) AtEnd (known 2 (codes
    "1aaa") AtEnd nothing_seen)) ≡ Open 1 ∷ Close 1 ∷ Open 2 ∷ Close 2 ∷ []
unfolding digits encode chars
script_91_effects_1 = effects_so _ _

script_91_ending_1 : ending_of script_91 (known 1 (0 ∷ 0 ∷ 0 ∷ 0 ∷ 0 ∷ 0 ∷ 0 ∷ 3 ∷ 97 ∷ 97 ∷ 97 ∷ 0 ∷ 0 ∷ 0 ∷ 1 ∷ 0 ∷ []) AtEnd (known 2 (codes
    "1aaa") AtEnd nothing_seen)) ≡ Done Value.Unit
unfolding digits encode chars
script_91_ending_1 = ending_so _ _

script_91_effects_2 : effects_of script_91 (known 1 (0 ∷ 0 ∷ 0 ∷ 0 ∷ 0 ∷ 0 ∷ 0 ∷ 3 ∷ 97 ∷ 97 ∷ 97 ∷ 0 ∷ 0 ∷ 0 ∷ 1 ∷ []) Broken (known 2 (codes "1a")
    Broken nothing_seen)) ≡ Open 1 ∷ []
unfolding digits encode chars
script_91_effects_2 = effects_so _ _

script_91_ending_2 : ending_of script_91 (known 1 (0 ∷ 0 ∷ 0 ∷ 0 ∷ 0 ∷ 0 ∷ 0 ∷ 3 ∷ 97 ∷ 97 ∷ 97 ∷ 0 ∷ 0 ∷ 0 ∷ 1 ∷ []) Broken (known 2 (codes "1a")
    Broken nothing_seen)) ≡ Halts (Stop (ReadBad 1))
unfolding digits encode chars
script_91_ending_2 = ending_so _ _

-- run { stdin; mark "m1" { sourceFile "a" } } | (mapE rot13 |= { repeatE 1; takeE 7 }) | (takeWhileE space | (mapE rot13 |= split "\n" 1)) | peek;
-- run blocks ["x\n", ",", ",bb"] | unlines | lastE;
abbrev script_92 : List Sentence
script_92 = run_statement (piped (sequence_form (stdin_word ∷ mark_form (codes "m1") (source_file_word (codes "a")) ∷ []) ∷ piped_keep (map_e rot13 ∷
    sequence_form (repeat_e 1 ∷ take_e 7 ∷ []) ∷ []) ∷ piped (take_while_e space ∷ piped_keep (map_e rot13 ∷ split_word 10 1 ∷ []) ∷ []) ∷ peek_word ∷
    [])) ∷ run_statement (piped (blocks_word ((120 ∷ 10 ∷ []) ∷ (codes ",") ∷ (codes ",bb") ∷ []) ∷ unlines_word ∷ last_e ∷ [])) ∷ []

script_92_effects_1 : effects_of script_92 (known 1 (0 ∷ 0 ∷ 0 ∷ 3 ∷ 98 ∷ 0 ∷ 97 ∷ 0 ∷ 0 ∷ 0 ∷ 0 ∷ 0 ∷ 0 ∷ 0 ∷ 0 ∷ []) AtEnd (known 3 (0 ∷ 0 ∷ 0 ∷ 1 ∷
    98 ∷ 0 ∷ 0 ∷ 0 ∷ 1 ∷ 0 ∷ 0 ∷ 0 ∷ 0 ∷ 1 ∷ 98 ∷ []) AtEnd nothing_seen)) ≡ Put 0 61 ∷ Put 0 32 ∷ Put 0 110 ∷ Put 0 111 ∷ Put 0 110 ∷ Put 0 101 ∷ Put
    0 10 ∷ Put 0 61 ∷ Put 0 32 ∷ Put 0 115 ∷ Put 0 111 ∷ Put 0 109 ∷ Put 0 101 ∷ Put 0 32 ∷ Put 0 49 ∷ Put 0 48 ∷ Put 0 10 ∷ []
unfolding digits encode chars
script_92_effects_1 = effects_so _ _

script_92_ending_1 : ending_of script_92 (known 1 (0 ∷ 0 ∷ 0 ∷ 3 ∷ 98 ∷ 0 ∷ 97 ∷ 0 ∷ 0 ∷ 0 ∷ 0 ∷ 0 ∷ 0 ∷ 0 ∷ 0 ∷ []) AtEnd (known 3 (0 ∷ 0 ∷ 0 ∷ 1 ∷
    98 ∷ 0 ∷ 0 ∷ 0 ∷ 1 ∷ 0 ∷ 0 ∷ 0 ∷ 0 ∷ 1 ∷ 98 ∷ []) AtEnd nothing_seen)) ≡ Done Value.Unit
unfolding digits encode chars
script_92_ending_1 = ending_so _ _

script_92_effects_2 : effects_of script_92 (known 1 (0 ∷ 0 ∷ 0 ∷ 3 ∷ 98 ∷ 0 ∷ 97 ∷ 0 ∷ 0 ∷ 0 ∷ 0 ∷ 0 ∷ 0 ∷ 0 ∷ []) MayGoOn (known 3 (0 ∷ 0 ∷ 0 ∷ 1 ∷
    98 ∷ []) Broken nothing_seen)) ≡ Put 0 61 ∷ Put 0 32 ∷ Put 0 110 ∷ Put 0 111 ∷ Put 0 110 ∷ Put 0 101 ∷ Put 0 10 ∷ Put 0 61 ∷ Put 0 32 ∷ Put 0 115
    ∷ Put 0 111 ∷ Put 0 109 ∷ Put 0 101 ∷ Put 0 32 ∷ Put 0 49 ∷ Put 0 48 ∷ Put 0 10 ∷ []
unfolding digits encode chars
script_92_effects_2 = effects_so _ _

script_92_ending_2 : ending_of script_92 (known 1 (0 ∷ 0 ∷ 0 ∷ 3 ∷ 98 ∷ 0 ∷ 97 ∷ 0 ∷ 0 ∷ 0 ∷ 0 ∷ 0 ∷ 0 ∷ 0 ∷ []) MayGoOn (known 3 (0 ∷ 0 ∷ 0 ∷ 1 ∷ 98
    ∷ []) Broken nothing_seen)) ≡ Done Value.Unit
unfolding digits encode chars
script_92_ending_2 = ending_so _ _

-- run zipSource((sourceFile "b" | split "1" 2), (sourceFile "a" | exact 1), "\\") | (flat | split "," 80) | exactly 3 { map suffix "\u{7f}aa" } | dropWhile begins ",";
abbrev script_94 : List Sentence
script_94 = run_statement (piped (zip_source_form (92 ∷ []) (piped (source_file_word (codes "b") ∷ split_word 49 2 ∷ [])) (piped (source_file_word
    (codes "a") ∷ exact_word 1 ∷ [])) ∷ piped (flat_word ∷ split_word 44 80 ∷ []) ∷ exactly_form 3 (map_word (suffix (127 ∷ 97 ∷ 97 ∷ []))) ∷
    drop_while_word (begins (codes ",")) ∷ [])) ∷ []

script_94_effects_1 : effects_of script_94 (known 1 (codes "6610") AtEnd (known 2 (10 ∷ 10 ∷ 13 ∷ 98 ∷ []) AtEnd nothing_seen)) ≡ Open 1 ∷ Open 2 ∷
    Close 1 ∷ []
unfolding digits encode chars
script_94_effects_1 = effects_so _ _

script_94_ending_1 : ending_of script_94 (known 1 (codes "6610") AtEnd (known 2 (10 ∷ 10 ∷ 13 ∷ 98 ∷ []) AtEnd nothing_seen)) ≡ Done Value.Unit
unfolding digits encode chars
script_94_ending_1 = ending_so _ _

script_94_effects_2 : effects_of script_94 (known 1 [] MayGoOn (known 2 (10 ∷ 10 ∷ 13 ∷ []) MayGoOn nothing_seen)) ≡ Open 1 ∷ []
unfolding digits encode chars
script_94_effects_2 = effects_so _ _

script_94_ending_2 : ending_of script_94 (known 1 [] MayGoOn (known 2 (10 ∷ 10 ∷ 13 ∷ []) MayGoOn nothing_seen)) ≡ Halts (More (Reading 1))
unfolding digits encode chars
script_94_ending_2 = ending_so _ _

-- run sourceFile "b" | (takeWhileE hexdigit | exact 4) | (unlines | zipSink(dropWhileE newline, lastE));
abbrev script_97 : List Sentence
script_97 = run_statement (piped (source_file_word (codes "b") ∷ piped (take_while_e hexdigit ∷ exact_word 4 ∷ []) ∷ piped (unlines_word ∷
    zip_sink_form (drop_while_e newline) last_e ∷ []) ∷ [])) ∷ []

script_97_effects_1 : effects_of script_97 (known 1 (97 ∷ 10 ∷ 97 ∷ 120 ∷ 97 ∷ 32 ∷ 10 ∷ 49 ∷ 45 ∷ 99 ∷ 32 ∷ 97 ∷ 45 ∷ 99 ∷ 98 ∷ 97 ∷ 97 ∷ 120 ∷ 44 ∷
    10 ∷ []) AtEnd nothing_seen) ≡ Open 1 ∷ Put 0 61 ∷ Put 0 32 ∷ Put 0 40 ∷ Put 0 40 ∷ Put 0 41 ∷ Put 0 44 ∷ Put 0 32 ∷ Put 0 110 ∷ Put 0 111 ∷ Put 0
    110 ∷ Put 0 101 ∷ Put 0 41 ∷ Put 0 10 ∷ []
unfolding digits encode chars
script_97_effects_1 = effects_so _ _

script_97_ending_1 : ending_of script_97 (known 1 (97 ∷ 10 ∷ 97 ∷ 120 ∷ 97 ∷ 32 ∷ 10 ∷ 49 ∷ 45 ∷ 99 ∷ 32 ∷ 97 ∷ 45 ∷ 99 ∷ 98 ∷ 97 ∷ 97 ∷ 120 ∷ 44 ∷ 10
    ∷ []) AtEnd nothing_seen) ≡ Done Value.Unit
unfolding digits encode chars
script_97_ending_1 = ending_so _ _

script_97_effects_2 : effects_of script_97 (known 1 (97 ∷ 10 ∷ 97 ∷ 120 ∷ 97 ∷ 32 ∷ 10 ∷ 49 ∷ 45 ∷ 99 ∷ []) Broken nothing_seen) ≡ Open 1 ∷ Put 0 61 ∷
    Put 0 32 ∷ Put 0 40 ∷ Put 0 40 ∷ Put 0 41 ∷ Put 0 44 ∷ Put 0 32 ∷ Put 0 110 ∷ Put 0 111 ∷ Put 0 110 ∷ Put 0 101 ∷ Put 0 41 ∷ Put 0 10 ∷ []
unfolding digits encode chars
script_97_effects_2 = effects_so _ _

script_97_ending_2 : ending_of script_97 (known 1 (97 ∷ 10 ∷ 97 ∷ 120 ∷ 97 ∷ 32 ∷ 10 ∷ 49 ∷ 45 ∷ 99 ∷ []) Broken nothing_seen) ≡ Done Value.Unit
unfolding digits encode chars
script_97_ending_2 = ending_so _ _

-- run range 0 0 | zipSink(exactly 7 { dropWhile ends "ab" }, length);
-- run mark "m1" { text "\\" } | { takeE 5; mapE rot13 } | allE is "a";
-- run sourceFile "d" | lineE { mapE add 1 } | (mapE rot13 |= split "\n" 1) | drop 2;
abbrev script_98 : List Sentence
script_98 = run_statement (piped (range_word 0 0 ∷ zip_sink_form (exactly_form 7 (drop_while_word (ends (codes "ab")))) length_word ∷ [])) ∷
    run_statement (piped (mark_form (codes "m1") (text_word (92 ∷ [])) ∷ sequence_form (take_e 5 ∷ map_e rot13 ∷ []) ∷ all_e (is_scalar 97) ∷ [])) ∷
    run_statement (piped (source_file_word (codes "d") ∷ line_e_form (map_e (add 1)) ∷ piped_keep (map_e rot13 ∷ split_word 10 1 ∷ []) ∷ drop_word 2 ∷
    [])) ∷ []

script_98_effects_1 : effects_of script_98 (known 2 (254 ∷ 97 ∷ 162 ∷ []) AtEnd nothing_seen) ≡ Put 0 61 ∷ Put 0 32 ∷ Put 0 40 ∷ Put 0 40 ∷ Put 0 41 ∷
    Put 0 44 ∷ Put 0 32 ∷ Put 0 49 ∷ Put 0 41 ∷ Put 0 10 ∷ Open 1 ∷ Put 0 61 ∷ Put 0 32 ∷ Put 0 102 ∷ Put 0 97 ∷ Put 0 108 ∷ Put 0 115 ∷ Put 0 101 ∷
    Put 0 10 ∷ Open 2 ∷ []
unfolding digits encode chars
script_98_effects_1 = effects_so _ _

script_98_ending_1 : ending_of script_98 (known 2 (254 ∷ 97 ∷ 162 ∷ []) AtEnd nothing_seen) ≡ Done Value.Unit
unfolding digits encode chars
script_98_ending_1 = ending_so _ _

script_98_effects_2 : effects_of script_98 (known 2 (254 ∷ 97 ∷ 162 ∷ []) MayGoOn nothing_seen) ≡ Put 0 61 ∷ Put 0 32 ∷ Put 0 40 ∷ Put 0 40 ∷ Put 0 41
    ∷ Put 0 44 ∷ Put 0 32 ∷ Put 0 49 ∷ Put 0 41 ∷ Put 0 10 ∷ Open 1 ∷ Put 0 61 ∷ Put 0 32 ∷ Put 0 102 ∷ Put 0 97 ∷ Put 0 108 ∷ Put 0 115 ∷ Put 0 101 ∷
    Put 0 10 ∷ Open 2 ∷ []
unfolding digits encode chars
script_98_effects_2 = effects_so _ _

script_98_ending_2 : ending_of script_98 (known 2 (254 ∷ 97 ∷ 162 ∷ []) MayGoOn nothing_seen) ≡ Done Value.Unit
unfolding digits encode chars
script_98_ending_2 = ending_so _ _

-- run { sourceFile "c"; sourceFile "c" } | anyE hexdigit;
-- let s0 = seal blocks [",\"\r", "aa"];
-- run sourceFile "a" | lineE { takeE 5 } | anyE space;
-- feed s0 | collect 50;
abbrev script_102 : List Sentence
script_102 = run_statement (piped (sequence_form (source_file_word (codes "c") ∷ source_file_word (codes "c") ∷ []) ∷ any_e hexdigit ∷ [])) ∷
    let_statement (codes "s0") (blocks_word ((44 ∷ 34 ∷ 13 ∷ []) ∷ (codes "aa") ∷ [])) ∷ run_statement (piped (source_file_word (codes "a") ∷
    line_e_form (take_e 5) ∷ any_e space ∷ [])) ∷ feed_statement (codes "s0") (collect_word 50) ∷ []

script_102_effects_1 : effects_of script_102 (known 1 (195 ∷ 207 ∷ 254 ∷ 198 ∷ 75 ∷ 44 ∷ 130 ∷ 222 ∷ 223 ∷ 133 ∷ 193 ∷ 154 ∷ 46 ∷ 168 ∷ 3 ∷ 93 ∷ 182 ∷
    57 ∷ 177 ∷ 219 ∷ []) AtEnd (known 2 (195 ∷ 207 ∷ 254 ∷ 198 ∷ 75 ∷ 44 ∷ 130 ∷ 222 ∷ 223 ∷ 133 ∷ 193 ∷ 154 ∷ 46 ∷ 168 ∷ 3 ∷ 93 ∷ 182 ∷ 57 ∷ 177 ∷
    219 ∷ []) AtEnd (known 3 (98 ∷ 10 ∷ 97 ∷ 10 ∷ 10 ∷ 97 ∷ 98 ∷ 10 ∷ 97 ∷ 97 ∷ 10 ∷ 10 ∷ 10 ∷ 10 ∷ 98 ∷ 10 ∷ 97 ∷ 10 ∷ 97 ∷ 97 ∷ []) AtEnd
    nothing_seen))) ≡ Open 1 ∷ Put 0 61 ∷ Put 0 32 ∷ Put 0 116 ∷ Put 0 114 ∷ Put 0 117 ∷ Put 0 101 ∷ Put 0 10 ∷ Open 3 ∷ Put 0 61 ∷ Put 0 32 ∷ Put 0
    102 ∷ Put 0 97 ∷ Put 0 108 ∷ Put 0 115 ∷ Put 0 101 ∷ Put 0 10 ∷ Put 0 61 ∷ Put 0 32 ∷ Put 0 91 ∷ Put 0 34 ∷ Put 0 44 ∷ Put 0 92 ∷ Put 0 34 ∷ Put 0
    92 ∷ Put 0 120 ∷ Put 0 48 ∷ Put 0 100 ∷ Put 0 34 ∷ Put 0 44 ∷ Put 0 32 ∷ Put 0 34 ∷ Put 0 97 ∷ Put 0 97 ∷ Put 0 34 ∷ Put 0 93 ∷ Put 0 10 ∷ []
unfolding digits encode chars
script_102_effects_1 = effects_so _ _

script_102_ending_1 : ending_of script_102 (known 1 (195 ∷ 207 ∷ 254 ∷ 198 ∷ 75 ∷ 44 ∷ 130 ∷ 222 ∷ 223 ∷ 133 ∷ 193 ∷ 154 ∷ 46 ∷ 168 ∷ 3 ∷ 93 ∷ 182 ∷
    57 ∷ 177 ∷ 219 ∷ []) AtEnd (known 2 (195 ∷ 207 ∷ 254 ∷ 198 ∷ 75 ∷ 44 ∷ 130 ∷ 222 ∷ 223 ∷ 133 ∷ 193 ∷ 154 ∷ 46 ∷ 168 ∷ 3 ∷ 93 ∷ 182 ∷ 57 ∷ 177 ∷
    219 ∷ []) AtEnd (known 3 (98 ∷ 10 ∷ 97 ∷ 10 ∷ 10 ∷ 97 ∷ 98 ∷ 10 ∷ 97 ∷ 97 ∷ 10 ∷ 10 ∷ 10 ∷ 10 ∷ 98 ∷ 10 ∷ 97 ∷ 10 ∷ 97 ∷ 97 ∷ []) AtEnd
    nothing_seen))) ≡ Done Value.Unit
unfolding digits encode chars
script_102_ending_1 = ending_so _ _

script_102_effects_2 : effects_of script_102 (known 1 (195 ∷ 207 ∷ 254 ∷ 198 ∷ 75 ∷ 44 ∷ 130 ∷ 222 ∷ 223 ∷ 133 ∷ 193 ∷ 154 ∷ []) MayGoOn (known 2 (195
    ∷ 207 ∷ 254 ∷ 198 ∷ 75 ∷ []) MayGoOn (known 3 (98 ∷ 10 ∷ 97 ∷ 10 ∷ 10 ∷ 97 ∷ 98 ∷ 10 ∷ []) MayGoOn nothing_seen))) ≡ Open 1 ∷ []
unfolding digits encode chars
script_102_effects_2 = effects_so _ _

script_102_ending_2 : ending_of script_102 (known 1 (195 ∷ 207 ∷ 254 ∷ 198 ∷ 75 ∷ 44 ∷ 130 ∷ 222 ∷ 223 ∷ 133 ∷ 193 ∷ 154 ∷ []) MayGoOn (known 2 (195 ∷
    207 ∷ 254 ∷ 198 ∷ 75 ∷ []) MayGoOn (known 3 (98 ∷ 10 ∷ 97 ∷ 10 ∷ 10 ∷ 97 ∷ 98 ∷ 10 ∷ []) MayGoOn nothing_seen))) ≡ Halts (More (Reading 1))
unfolding digits encode chars
script_102_ending_2 = ending_so _ _

-- run mark "m1" { (stdin | hexDecode) } | filterE upper | (lines 8 | unlines) | ((takeE 3 | takeWhileE newline) | (takeE 3 |? collectE 50));
abbrev script_104 : List Sentence
script_104 = run_statement (piped (mark_form (codes "m1") (piped (stdin_word ∷ hex_decode_word ∷ [])) ∷ filter_e upper ∷ piped (lines_word 8 ∷
    unlines_word ∷ []) ∷ piped (piped (take_e 3 ∷ take_while_e newline ∷ []) ∷ piped_asked (take_e 3 ∷ collect_e 50 ∷ []) ∷ []) ∷ [])) ∷ []

script_104_effects_1 : effects_of script_104 (known 2 (codes "514") AtEnd nothing_seen) ≡ Open 1 ∷ []
unfolding digits encode chars
script_104_effects_1 = effects_so _ _

script_104_ending_1 : ending_of script_104 (known 2 (codes "514") AtEnd nothing_seen) ≡ Halts (Stop (bad_hex 2))
unfolding digits encode chars
script_104_ending_1 = ending_so _ _

script_104_effects_2 : effects_of script_104 (known 2 (codes "5") MayGoOn nothing_seen) ≡ Open 1 ∷ []
unfolding digits encode chars
script_104_effects_2 = effects_so _ _

script_104_ending_2 : ending_of script_104 (known 2 (codes "5") MayGoOn nothing_seen) ≡ Halts (More (Reading 2))
unfolding digits encode chars
script_104_ending_2 = ending_so _ _

-- hold k0 = mark "m1";
-- let s0 = seal sourceFile "c" | chunksOf 2;
-- hold k1 = mark "m2";
-- run text "ab" | takeWhileE newline | dropE 5;
-- feed s0 | map suffix "é-," | collect 0;
-- close s0 | repeat 0 | length;
abbrev script_105 : List Sentence
script_105 = hold_statement (codes "k0") (codes "m1") ∷ let_statement (codes "s0") (piped (source_file_word (codes "c") ∷ chunks_of_word 2 ∷ [])) ∷
    hold_statement (codes "k1") (codes "m2") ∷ run_statement (piped (text_word (codes "ab") ∷ take_while_e newline ∷ drop_e 5 ∷ [])) ∷ feed_statement
    (codes "s0") (piped (map_word (suffix (195 ∷ 169 ∷ 45 ∷ 44 ∷ [])) ∷ collect_word 0 ∷ [])) ∷ close_statement (codes "s0") (piped (repeat_word 0 ∷
    length_word ∷ [])) ∷ []

script_105_effects_1 : effects_of script_105 (known 2 (45 ∷ 97 ∷ 120 ∷ 99 ∷ 45 ∷ 98 ∷ 44 ∷ 32 ∷ 32 ∷ 97 ∷ 120 ∷ 98 ∷ 98 ∷ 32 ∷ 45 ∷ 44 ∷ 98 ∷ 32 ∷ 97
    ∷ 49 ∷ []) AtEnd nothing_seen) ≡ Open 1 ∷ Open 3 ∷ Put 0 61 ∷ Put 0 32 ∷ Put 0 91 ∷ Put 0 93 ∷ Put 0 10 ∷ Open 2 ∷ Close 2 ∷ Put 0 61 ∷ Put 0 32 ∷
    Put 0 48 ∷ Put 0 10 ∷ []
unfolding digits encode chars
script_105_effects_1 = effects_so _ _

script_105_ending_1 : ending_of script_105 (known 2 (45 ∷ 97 ∷ 120 ∷ 99 ∷ 45 ∷ 98 ∷ 44 ∷ 32 ∷ 32 ∷ 97 ∷ 120 ∷ 98 ∷ 98 ∷ 32 ∷ 45 ∷ 44 ∷ 98 ∷ 32 ∷ 97 ∷
    49 ∷ []) AtEnd nothing_seen) ≡ Done Value.Unit
unfolding digits encode chars
script_105_ending_1 = ending_so _ _

script_105_effects_2 : effects_of script_105 (known 2 (45 ∷ 97 ∷ 120 ∷ 99 ∷ 45 ∷ 98 ∷ 44 ∷ 32 ∷ 32 ∷ 97 ∷ 120 ∷ 98 ∷ 98 ∷ 32 ∷ 45 ∷ 44 ∷ 98 ∷ 32 ∷ [])
    Broken nothing_seen) ≡ Open 1 ∷ Open 3 ∷ Put 0 61 ∷ Put 0 32 ∷ Put 0 91 ∷ Put 0 93 ∷ Put 0 10 ∷ Open 2 ∷ []
unfolding digits encode chars
script_105_effects_2 = effects_so _ _

script_105_ending_2 : ending_of script_105 (known 2 (45 ∷ 97 ∷ 120 ∷ 99 ∷ 45 ∷ 98 ∷ 44 ∷ 32 ∷ 32 ∷ 97 ∷ 120 ∷ 98 ∷ 98 ∷ 32 ∷ 45 ∷ 44 ∷ 98 ∷ 32 ∷ [])
    Broken nothing_seen) ≡ Halts (Stop (ReadBad 2))
unfolding digits encode chars
script_105_ending_2 = ending_so _ _

-- run sourceFile "a" | (repeatE 1 | base64Encode) | hexEncode | ((base64Encode | lines 3) | (flat |? sinkFile "x1"));
abbrev script_109 : List Sentence
script_109 = run_statement (piped (source_file_word (codes "a") ∷ piped (repeat_e 1 ∷ base64_encode_word ∷ []) ∷ hex_encode_word ∷ piped (piped
    (base64_encode_word ∷ lines_word 3 ∷ []) ∷ piped_asked (flat_word ∷ sink_file_word (codes "x1") ∷ []) ∷ []) ∷ [])) ∷ []

script_109_effects_1 : effects_of script_109 (known 1 (98 ∷ 32 ∷ 97 ∷ 98 ∷ 32 ∷ 98 ∷ 10 ∷ 98 ∷ 98 ∷ 120 ∷ 97 ∷ 97 ∷ 99 ∷ 120 ∷ 98 ∷ 97 ∷ 10 ∷ 10 ∷ 44
    ∷ 98 ∷ []) AtEnd nothing_seen) ≡ Open 2 ∷ Open 1 ∷ Put 2 78 ∷ Put 2 84 ∷ Put 2 107 ∷ Put 2 50 ∷ Put 2 79 ∷ Put 2 84 ∷ Put 2 81 ∷ Put 2 121 ∷ Put 2
    78 ∷ Put 2 106 ∷ Put 2 103 ∷ Put 2 49 ∷ Put 2 79 ∷ Put 2 84 ∷ Put 2 89 ∷ Put 2 53 ∷ Put 2 78 ∷ Put 2 68 ∷ Put 2 73 ∷ Put 2 50 ∷ Put 2 79 ∷ Put 2
    84 ∷ Put 2 81 ∷ Put 2 122 ∷ Put 2 78 ∷ Put 2 109 ∷ Put 2 81 ∷ Put 2 48 ∷ Put 2 89 ∷ Put 2 84 ∷ Put 2 89 ∷ Put 2 53 ∷ Put 2 78 ∷ Put 2 106 ∷ Put 2
    85 ∷ Put 2 48 ∷ Put 2 78 ∷ Put 2 122 ∷ Put 2 81 ∷ Put 2 50 ∷ Put 2 78 ∷ Put 2 106 ∷ Put 2 103 ∷ Put 2 49 ∷ Put 2 79 ∷ Put 2 84 ∷ Put 2 77 ∷ Put 2
    122 ∷ Put 2 78 ∷ Put 2 106 ∷ Put 2 103 ∷ Put 2 50 ∷ Put 2 79 ∷ Put 2 84 ∷ Put 2 85 ∷ Put 2 53 ∷ Put 2 78 ∷ Put 2 84 ∷ Put 2 69 ∷ Put 2 50 ∷ Put 2
    90 ∷ Put 2 106 ∷ Put 2 82 ∷ Close 1 ∷ Put 2 105 ∷ Put 2 78 ∷ Put 2 71 ∷ Put 2 77 ∷ Put 2 48 ∷ Put 2 78 ∷ Put 2 122 ∷ Put 2 81 ∷ Put 2 53 ∷ Put 2
    77 ∷ Put 2 50 ∷ Put 2 81 ∷ Put 2 61 ∷ Close 2 ∷ Put 0 61 ∷ Put 0 32 ∷ Put 0 40 ∷ Put 0 115 ∷ Put 0 111 ∷ Put 0 109 ∷ Put 0 101 ∷ Put 0 32 ∷ Put 0
    40 ∷ Put 0 41 ∷ Put 0 44 ∷ Put 0 32 ∷ Put 0 40 ∷ Put 0 41 ∷ Put 0 41 ∷ Put 0 10 ∷ []
unfolding digits encode chars
script_109_effects_1 = effects_so _ _

script_109_ending_1 : ending_of script_109 (known 1 (98 ∷ 32 ∷ 97 ∷ 98 ∷ 32 ∷ 98 ∷ 10 ∷ 98 ∷ 98 ∷ 120 ∷ 97 ∷ 97 ∷ 99 ∷ 120 ∷ 98 ∷ 97 ∷ 10 ∷ 10 ∷ 44 ∷
    98 ∷ []) AtEnd nothing_seen) ≡ Done Value.Unit
unfolding digits encode chars
script_109_ending_1 = ending_so _ _

script_109_effects_2 : effects_of script_109 (known 1 (98 ∷ 32 ∷ 97 ∷ 98 ∷ 32 ∷ []) MayGoOn nothing_seen) ≡ Open 2 ∷ Open 1 ∷ Put 2 78 ∷ Put 2 84 ∷
    Put 2 107 ∷ Put 2 50 ∷ Put 2 79 ∷ Put 2 84 ∷ []
unfolding digits encode chars
script_109_effects_2 = effects_so _ _

script_109_ending_2 : ending_of script_109 (known 1 (98 ∷ 32 ∷ 97 ∷ 98 ∷ 32 ∷ []) MayGoOn nothing_seen) ≡ Halts (More (Reading 1))
unfolding digits encode chars
script_109_ending_2 = ending_so _ _

-- run mark "m1" { stdin } | ({ sumE; utf8 } | repeatE 1) | (passE | (exact 4 |? head));
-- run (texts [] | (map reverse |= unlines)) | split "é" 3 | (filter not begins "-\"x\n" | sinkNull);
abbrev script_112 : List Sentence
script_112 = run_statement (piped (mark_form (codes "m1") stdin_word ∷ piped (sequence_form (sum_e ∷ utf8_word ∷ []) ∷ repeat_e 1 ∷ []) ∷ piped
    (pass_e ∷ piped_asked (exact_word 4 ∷ head_word ∷ []) ∷ []) ∷ [])) ∷ run_statement (piped (piped (texts_word [] ∷ piped_keep (map_word reversed ∷
    unlines_word ∷ []) ∷ []) ∷ split_word 233 3 ∷ piped (filter_word (not_test (begins (45 ∷ 34 ∷ 120 ∷ 10 ∷ []))) ∷ sink_null ∷ []) ∷ [])) ∷ []

script_112_effects_1 : effects_of script_112 (known 2 (codes "86189") AtEnd nothing_seen) ≡ Open 1 ∷ Close 1 ∷ Put 0 61 ∷ Put 0 32 ∷ Put 0 40 ∷ Put 0
    115 ∷ Put 0 111 ∷ Put 0 109 ∷ Put 0 101 ∷ Put 0 32 ∷ Put 0 40 ∷ Put 0 41 ∷ Put 0 44 ∷ Put 0 32 ∷ Put 0 110 ∷ Put 0 111 ∷ Put 0 110 ∷ Put 0 101 ∷
    Put 0 41 ∷ Put 0 10 ∷ []
unfolding digits encode chars
script_112_effects_1 = effects_so _ _

script_112_ending_1 : ending_of script_112 (known 2 (codes "86189") AtEnd nothing_seen) ≡ Done Value.Unit
unfolding digits encode chars
script_112_ending_1 = ending_so _ _

script_112_effects_2 : effects_of script_112 (known 2 (codes "861") MayGoOn nothing_seen) ≡ Open 1 ∷ []
unfolding digits encode chars
script_112_effects_2 = effects_so _ _

script_112_ending_2 : ending_of script_112 (known 2 (codes "861") MayGoOn nothing_seen) ≡ Halts (More (Reading 2))
unfolding digits encode chars
script_112_ending_2 = ending_so _ _

-- run range 0 0 | takeWhile not begins "ab" | tee((flat |< sinkNull)) | zipSink((unlines |? nullE), zipSink(peek, head));
abbrev script_120 : List Sentence
script_120 = run_statement (piped (range_word 0 0 ∷ take_while_word (not_test (begins (codes "ab"))) ∷ tee_form (piped_up (flat_word ∷ sink_null ∷
    [])) ∷ zip_sink_form (piped_asked (unlines_word ∷ null_e ∷ [])) (zip_sink_form peek_word head_word) ∷ [])) ∷ []

script_120_effects_1 : effects_of script_120 nothing_seen ≡ Put 0 61 ∷ Put 0 32 ∷ Put 0 40 ∷ Put 0 40 ∷ Put 0 110 ∷ Put 0 111 ∷ Put 0 110 ∷ Put 0 101
    ∷ Put 0 44 ∷ Put 0 32 ∷ Put 0 102 ∷ Put 0 97 ∷ Put 0 108 ∷ Put 0 115 ∷ Put 0 101 ∷ Put 0 41 ∷ Put 0 44 ∷ Put 0 32 ∷ Put 0 40 ∷ Put 0 115 ∷ Put 0
    111 ∷ Put 0 109 ∷ Put 0 101 ∷ Put 0 32 ∷ Put 0 34 ∷ Put 0 48 ∷ Put 0 34 ∷ Put 0 44 ∷ Put 0 32 ∷ Put 0 115 ∷ Put 0 111 ∷ Put 0 109 ∷ Put 0 101 ∷
    Put 0 32 ∷ Put 0 34 ∷ Put 0 48 ∷ Put 0 34 ∷ Put 0 41 ∷ Put 0 41 ∷ Put 0 10 ∷ []
unfolding digits encode chars
script_120_effects_1 = effects_so _ _

script_120_ending_1 : ending_of script_120 nothing_seen ≡ Done Value.Unit
unfolding digits encode chars
script_120_ending_1 = ending_so _ _

-- run zipSource(sourceFile "missing" | lines 9, bytes "€" | lines 9, "") | tee((repeat 3 | drop 1000)) | { zipSink(dropWhile not ends "aa", head); exactly 1 { collect 9 } };
abbrev script_122 : List Sentence
script_122 = run_statement (piped (zip_source_form [] (piped (source_file_word (codes "missing") ∷ lines_word 9 ∷ [])) (piped (bytes_word (226 ∷ 130 ∷
    172 ∷ []) ∷ lines_word 9 ∷ [])) ∷ tee_form (piped (repeat_word 3 ∷ drop_word 1000 ∷ [])) ∷ sequence_form (zip_sink_form (drop_while_word (not_test
    (ends (codes "aa")))) head_word ∷ exactly_form 1 (collect_word 9) ∷ []) ∷ [])) ∷ []

script_122_effects_1 : effects_of script_122 (known 1 [] AtEnd nothing_seen) ≡ Open 1 ∷ Close 1 ∷ Put 0 61 ∷ Put 0 32 ∷ Put 0 91 ∷ Put 0 93 ∷ Put 0 10
    ∷ []
unfolding digits encode chars
script_122_effects_1 = effects_so _ _

script_122_ending_1 : ending_of script_122 (known 1 [] AtEnd nothing_seen) ≡ Done Value.Unit
unfolding digits encode chars
script_122_ending_1 = ending_so _ _

script_122_effects_2 : effects_of script_122 (known 1 [] Broken nothing_seen) ≡ Open 1 ∷ []
unfolding digits encode chars
script_122_effects_2 = effects_so _ _

script_122_ending_2 : ending_of script_122 (known 1 [] Broken nothing_seen) ≡ Halts (Stop (ReadBad 1))
unfolding digits encode chars
script_122_ending_2 = ending_so _ _

-- run blocks ["aa\n", "éa-", "x\n", "ab"] | tee((flat | stdout)) | unlines | (mapE xor 32 |= passE) | sinkFile "x5";
abbrev script_123 : List Sentence
script_123 = run_statement (piped (blocks_word ((97 ∷ 97 ∷ 10 ∷ []) ∷ (195 ∷ 169 ∷ 97 ∷ 45 ∷ []) ∷ (120 ∷ 10 ∷ []) ∷ (codes "ab") ∷ []) ∷ tee_form
    (piped (flat_word ∷ stdout_word ∷ [])) ∷ unlines_word ∷ piped_keep (map_e (xor 32) ∷ pass_e ∷ []) ∷ sink_file_word (codes "x5") ∷ [])) ∷ []

script_123_effects_1 : effects_of script_123 nothing_seen ≡ Open 2 ∷ Put 1 97 ∷ Put 1 97 ∷ Put 1 10 ∷ Put 2 65 ∷ Put 2 65 ∷ Put 2 42 ∷ Put 2 42 ∷ Put
    1 195 ∷ Put 1 169 ∷ Put 1 97 ∷ Put 1 45 ∷ Put 2 227 ∷ Put 2 137 ∷ Put 2 65 ∷ Put 2 13 ∷ Put 2 42 ∷ Put 1 120 ∷ Put 1 10 ∷ Put 2 88 ∷ Put 2 42 ∷
    Put 2 42 ∷ Put 1 97 ∷ Put 1 98 ∷ Put 2 65 ∷ Put 2 66 ∷ Put 2 42 ∷ Close 2 ∷ []
unfolding digits encode chars
script_123_effects_1 = effects_so _ _

script_123_ending_1 : ending_of script_123 nothing_seen ≡ Done Value.Unit
unfolding digits encode chars
script_123_ending_1 = ending_so _ _

-- run sourceFile "b" | ({ dropE 7; chunksOf 5; lines 5 } | (take 7 | flat)) | collectE 50;
-- run sourceFile "b" | lines 3 | zipConduit((map suffix "bax\n" | intersperse "é"), map prefix "\u{7f}\u{7f}😀") | (flat |< dropE 2);
abbrev script_125 : List Sentence
script_125 = run_statement (piped (source_file_word (codes "b") ∷ piped (sequence_form (drop_e 7 ∷ chunks_of_word 5 ∷ lines_word 5 ∷ []) ∷ piped
    (take_word 7 ∷ flat_word ∷ []) ∷ []) ∷ collect_e 50 ∷ [])) ∷ run_statement (piped (source_file_word (codes "b") ∷ lines_word 3 ∷ zip_conduit_form
    (piped (map_word (suffix (98 ∷ 97 ∷ 120 ∷ 10 ∷ [])) ∷ intersperse_word (195 ∷ 169 ∷ []) ∷ [])) (map_word (prefix (127 ∷ 127 ∷ 240 ∷ 159 ∷ 152 ∷
    128 ∷ []))) ∷ piped_up (flat_word ∷ drop_e 2 ∷ []) ∷ [])) ∷ []

script_125_effects_1 : effects_of script_125 (known 1 (98 ∷ 10 ∷ 97 ∷ 10 ∷ 10 ∷ 98 ∷ 97 ∷ 10 ∷ 98 ∷ 10 ∷ 97 ∷ 10 ∷ 97 ∷ 97 ∷ 10 ∷ 98 ∷ 10 ∷ 10 ∷ 98 ∷
    98 ∷ []) AtEnd (known 2 (98 ∷ 10 ∷ 97 ∷ 10 ∷ 10 ∷ 98 ∷ 97 ∷ 10 ∷ 98 ∷ 10 ∷ 97 ∷ 10 ∷ 97 ∷ 97 ∷ 10 ∷ 98 ∷ 10 ∷ 10 ∷ 98 ∷ 98 ∷ []) AtEnd
    nothing_seen)) ≡ Open 1 ∷ Close 1 ∷ Put 0 61 ∷ Put 0 32 ∷ Put 0 34 ∷ Put 0 92 ∷ Put 0 120 ∷ Put 0 48 ∷ Put 0 97 ∷ Put 0 98 ∷ Put 0 92 ∷ Put 0 120
    ∷ Put 0 48 ∷ Put 0 97 ∷ Put 0 97 ∷ Put 0 92 ∷ Put 0 120 ∷ Put 0 48 ∷ Put 0 97 ∷ Put 0 97 ∷ Put 0 97 ∷ Put 0 92 ∷ Put 0 120 ∷ Put 0 48 ∷ Put 0 97 ∷
    Put 0 98 ∷ Put 0 92 ∷ Put 0 120 ∷ Put 0 48 ∷ Put 0 97 ∷ Put 0 92 ∷ Put 0 120 ∷ Put 0 48 ∷ Put 0 97 ∷ Put 0 98 ∷ Put 0 98 ∷ Put 0 34 ∷ Put 0 10 ∷
    Open 2 ∷ Close 2 ∷ []
unfolding digits encode chars
script_125_effects_1 = effects_so _ _

script_125_ending_1 : ending_of script_125 (known 1 (98 ∷ 10 ∷ 97 ∷ 10 ∷ 10 ∷ 98 ∷ 97 ∷ 10 ∷ 98 ∷ 10 ∷ 97 ∷ 10 ∷ 97 ∷ 97 ∷ 10 ∷ 98 ∷ 10 ∷ 10 ∷ 98 ∷ 98
    ∷ []) AtEnd (known 2 (98 ∷ 10 ∷ 97 ∷ 10 ∷ 10 ∷ 98 ∷ 97 ∷ 10 ∷ 98 ∷ 10 ∷ 97 ∷ 10 ∷ 97 ∷ 97 ∷ 10 ∷ 98 ∷ 10 ∷ 10 ∷ 98 ∷ 98 ∷ []) AtEnd nothing_seen))
    ≡ Done Value.Unit
unfolding digits encode chars
script_125_ending_1 = ending_so _ _

script_125_effects_2 : effects_of script_125 (known 1 (98 ∷ 10 ∷ 97 ∷ 10 ∷ 10 ∷ 98 ∷ 97 ∷ 10 ∷ 98 ∷ 10 ∷ 97 ∷ 10 ∷ 97 ∷ 97 ∷ 10 ∷ []) Broken (known 2
    (98 ∷ 10 ∷ 97 ∷ 10 ∷ 10 ∷ 98 ∷ 97 ∷ 10 ∷ 98 ∷ 10 ∷ 97 ∷ 10 ∷ 97 ∷ 97 ∷ 10 ∷ 98 ∷ 10 ∷ 10 ∷ 98 ∷ []) MayGoOn nothing_seen)) ≡ Open 1 ∷ []
unfolding digits encode chars
script_125_effects_2 = effects_so _ _

script_125_ending_2 : ending_of script_125 (known 1 (98 ∷ 10 ∷ 97 ∷ 10 ∷ 10 ∷ 98 ∷ 97 ∷ 10 ∷ 98 ∷ 10 ∷ 97 ∷ 10 ∷ 97 ∷ 97 ∷ 10 ∷ []) Broken (known 2
    (98 ∷ 10 ∷ 97 ∷ 10 ∷ 10 ∷ 98 ∷ 97 ∷ 10 ∷ 98 ∷ 10 ∷ 97 ∷ 10 ∷ 97 ∷ 97 ∷ 10 ∷ 98 ∷ 10 ∷ 10 ∷ 98 ∷ []) MayGoOn nothing_seen)) ≡ Halts (Stop (ReadBad
    1))
unfolding digits encode chars
script_125_ending_2 = ending_so _ _
