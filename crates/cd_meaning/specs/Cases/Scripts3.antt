-- Cases of tools/cases/scripts.jsonl, written by tools/cases.py: the number in a name is the line of the case.
use Rattle.std.specs.Prelude.{List, [], ◌∷◌, ◌≡◌, codes}
use Rattle.std.specs.Fmt.{digits}
use lib.Utf8.{encode}
use Rattle.std.specs.Str.{chars}
use Rattle.cd_meaning.specs.Stream.{Value, Reading, More, Stop, bad_base64, ReadBad, Done, Halts, Open, Put, Close}
use Rattle.cd_meaning.specs.RunShapes.{AtEnd, MayGoOn, Broken}
use Rattle.cd_meaning.specs.Rows.Trees.{Sentence}
use Rattle.cd_meaning.specs.Rows.Short.{take_e, take_while_e, filter_e, map_e, repeat_e, drop_while_e, head_e, last_e, length_e, any_e, null_e, collect_e, sink_null, pass_word, take_word, take_while_word, filter_word, repeat_word, map_word, intersperse_word, drop_while_word, head_word, peek_word, last_word, length_word, collect_word, lines_word, split_word, exact_word, chunks_of_word, flat_word, unlines_word, utf8_word, utf8_lenient_word, utf8_encode_word, base64_encode_word, base64_decode_word, source_file_word, stdin_word, bytes_word, text_word, blocks_word, texts_word, range_word, sink_file_word, stdout_word, digit, upper, lower, alnum, newline, is_scalar, empty, begins, shorter, add, rot13, prefix, suffix, reversed, not_class, not_test, piped, piped_keep, piped_return, piped_both, exactly_form, exactly_e_form, line_e_form, mark_form, zip_source_form, zip_sink_form, zip_conduit_form, sequence_form, run_statement, let_statement, feed_statement}
use Rattle.cd_meaning.specs.Cases.Known.{nothing_seen, known, effects_of, effects_so, ending_of, ending_so}

-- run sourceFile "d" | utf8 | (mapE rot13 | exactlyE 2 { mapE rot13 }) | lines 1 | exactly 3 { peek };
abbrev script_43 : List Sentence
script_43 = run_statement (piped (source_file_word (codes "d") ∷ utf8_word ∷ piped (map_e rot13 ∷ exactly_e_form 2 (map_e rot13) ∷ []) ∷ lines_word 1
    ∷ exactly_form 3 peek_word ∷ [])) ∷ []

script_43_effects_1 : effects_of script_43 (known 1 (98 ∷ 44 ∷ 45 ∷ 97 ∷ 120 ∷ 120 ∷ 98 ∷ 97 ∷ 45 ∷ 45 ∷ 98 ∷ 98 ∷ 44 ∷ 44 ∷ 49 ∷ 98 ∷ 120 ∷ 10 ∷ 10 ∷
    44 ∷ []) AtEnd nothing_seen) ≡ Open 1 ∷ Put 0 61 ∷ Put 0 32 ∷ Put 0 115 ∷ Put 0 111 ∷ Put 0 109 ∷ Put 0 101 ∷ Put 0 32 ∷ Put 0 34 ∷ Put 0 98 ∷ Put
    0 34 ∷ Put 0 10 ∷ []
unfolding digits encode chars
script_43_effects_1 = effects_so _ _

script_43_ending_1 : ending_of script_43 (known 1 (98 ∷ 44 ∷ 45 ∷ 97 ∷ 120 ∷ 120 ∷ 98 ∷ 97 ∷ 45 ∷ 45 ∷ 98 ∷ 98 ∷ 44 ∷ 44 ∷ 49 ∷ 98 ∷ 120 ∷ 10 ∷ 10 ∷
    44 ∷ []) AtEnd nothing_seen) ≡ Done Value.Unit
unfolding digits encode chars
script_43_ending_1 = ending_so _ _

script_43_effects_2 : effects_of script_43 (known 1 (codes "b,-a") MayGoOn nothing_seen) ≡ Open 1 ∷ Put 0 61 ∷ Put 0 32 ∷ Put 0 115 ∷ Put 0 111 ∷ Put
    0 109 ∷ Put 0 101 ∷ Put 0 32 ∷ Put 0 34 ∷ Put 0 98 ∷ Put 0 34 ∷ Put 0 10 ∷ []
unfolding digits encode chars
script_43_effects_2 = effects_so _ _

script_43_ending_2 : ending_of script_43 (known 1 (codes "b,-a") MayGoOn nothing_seen) ≡ Done Value.Unit
unfolding digits encode chars
script_43_ending_2 = ending_so _ _

-- run mark "m1" { stdin } | (takeWhileE newline | stdout);
abbrev script_44 : List Sentence
script_44 = run_statement (piped (mark_form (codes "m1") stdin_word ∷ piped (take_while_e newline ∷ stdout_word ∷ []) ∷ [])) ∷ []

script_44_effects_1 : effects_of script_44 (known 2 (98 ∷ 10 ∷ []) AtEnd nothing_seen) ≡ Open 1 ∷ []
unfolding digits encode chars
script_44_effects_1 = effects_so _ _

script_44_ending_1 : ending_of script_44 (known 2 (98 ∷ 10 ∷ []) AtEnd nothing_seen) ≡ Done Value.Unit
unfolding digits encode chars
script_44_ending_1 = ending_so _ _

script_44_effects_2 : effects_of script_44 (known 2 (codes "b") MayGoOn nothing_seen) ≡ Open 1 ∷ []
unfolding digits encode chars
script_44_effects_2 = effects_so _ _

script_44_ending_2 : ending_of script_44 (known 2 (codes "b") MayGoOn nothing_seen) ≡ Done Value.Unit
unfolding digits encode chars
script_44_ending_2 = ending_so _ _

-- run { bytes "\n"; { sourceFile "c"; sourceFile "d" } } | ((mapE rot13 |= split "\n" 1) | takeWhile shorter 2) | (take 1 | unlines) | collectE 1;
abbrev script_46 : List Sentence
script_46 = run_statement (piped (sequence_form (bytes_word (10 ∷ []) ∷ sequence_form (source_file_word (codes "c") ∷ source_file_word (codes "d") ∷
    []) ∷ []) ∷ piped (piped_keep (map_e rot13 ∷ split_word 10 1 ∷ []) ∷ take_while_word (shorter 2) ∷ []) ∷ piped (take_word 1 ∷ unlines_word ∷ []) ∷
    collect_e 1 ∷ [])) ∷ []

script_46_effects_1 : effects_of script_46 (known 1 (0 ∷ 0 ∷ 0 ∷ 0 ∷ 0 ∷ 0 ∷ 0 ∷ 1 ∷ 97 ∷ 0 ∷ 0 ∷ 0 ∷ 1 ∷ 98 ∷ 0 ∷ []) AtEnd (known 2 (10 ∷ 10 ∷ 10 ∷
    []) AtEnd nothing_seen)) ≡ Put 0 61 ∷ Put 0 32 ∷ Put 0 34 ∷ Put 0 92 ∷ Put 0 120 ∷ Put 0 48 ∷ Put 0 97 ∷ Put 0 34 ∷ Put 0 10 ∷ []
unfolding digits encode chars
script_46_effects_1 = effects_so _ _

script_46_ending_1 : ending_of script_46 (known 1 (0 ∷ 0 ∷ 0 ∷ 0 ∷ 0 ∷ 0 ∷ 0 ∷ 1 ∷ 97 ∷ 0 ∷ 0 ∷ 0 ∷ 1 ∷ 98 ∷ 0 ∷ []) AtEnd (known 2 (10 ∷ 10 ∷ 10 ∷
    []) AtEnd nothing_seen)) ≡ Done Value.Unit
unfolding digits encode chars
script_46_ending_1 = ending_so _ _

script_46_effects_2 : effects_of script_46 (known 1 (0 ∷ 0 ∷ 0 ∷ 0 ∷ 0 ∷ 0 ∷ 0 ∷ []) Broken (known 2 (10 ∷ []) MayGoOn nothing_seen)) ≡ Put 0 61 ∷ Put
    0 32 ∷ Put 0 34 ∷ Put 0 92 ∷ Put 0 120 ∷ Put 0 48 ∷ Put 0 97 ∷ Put 0 34 ∷ Put 0 10 ∷ []
unfolding digits encode chars
script_46_effects_2 = effects_so _ _

script_46_ending_2 : ending_of script_46 (known 1 (0 ∷ 0 ∷ 0 ∷ 0 ∷ 0 ∷ 0 ∷ 0 ∷ []) Broken (known 2 (10 ∷ []) MayGoOn nothing_seen)) ≡ Done Value.Unit
unfolding digits encode chars
script_46_ending_2 = ending_so _ _

-- run ({ sourceFile "d"; sourceFile "a" } | utf8) | filterE alnum | { split "1" 4; split "-" 3 } | ((pass | flat) | chunksOf 2) | length;
abbrev script_47 : List Sentence
script_47 = run_statement (piped (piped (sequence_form (source_file_word (codes "d") ∷ source_file_word (codes "a") ∷ []) ∷ utf8_word ∷ []) ∷ filter_e
    alnum ∷ sequence_form (split_word 49 4 ∷ split_word 45 3 ∷ []) ∷ piped (piped (pass_word ∷ flat_word ∷ []) ∷ chunks_of_word 2 ∷ []) ∷ length_word
    ∷ [])) ∷ []

script_47_effects_1 : effects_of script_47 (known 1 (codes "a") AtEnd (known 2 (codes "Ce850") AtEnd nothing_seen)) ≡ Open 1 ∷ Close 1 ∷ Open 2 ∷
    Close 2 ∷ Put 0 61 ∷ Put 0 32 ∷ Put 0 51 ∷ Put 0 10 ∷ []
unfolding digits encode chars
script_47_effects_1 = effects_so _ _

script_47_ending_1 : ending_of script_47 (known 1 (codes "a") AtEnd (known 2 (codes "Ce850") AtEnd nothing_seen)) ≡ Done Value.Unit
unfolding digits encode chars
script_47_ending_1 = ending_so _ _

script_47_effects_2 : effects_of script_47 (known 1 [] MayGoOn (known 2 (codes "Ce") MayGoOn nothing_seen)) ≡ Open 1 ∷ []
unfolding digits encode chars
script_47_effects_2 = effects_so _ _

script_47_ending_2 : ending_of script_47 (known 1 [] MayGoOn (known 2 (codes "Ce") MayGoOn nothing_seen)) ≡ Halts (More (Reading 1))
unfolding digits encode chars
script_47_ending_2 = ending_so _ _

-- run (zipSource(sourceFile "c" | lines 9, sourceFile "c" | lines 9, "ab") | exactly 3 { intersperse "x\n" }) | flat | stdout;
abbrev script_48 : List Sentence
script_48 = run_statement (piped (piped (zip_source_form (codes "ab") (piped (source_file_word (codes "c") ∷ lines_word 9 ∷ [])) (piped
    (source_file_word (codes "c") ∷ lines_word 9 ∷ [])) ∷ exactly_form 3 (intersperse_word (120 ∷ 10 ∷ [])) ∷ []) ∷ flat_word ∷ stdout_word ∷ [])) ∷
    []

script_48_effects_1 : effects_of script_48 (known 1 (97 ∷ 10 ∷ 13 ∷ 10 ∷ 10 ∷ 13 ∷ 10 ∷ 10 ∷ []) AtEnd (known 2 (97 ∷ 10 ∷ 13 ∷ 10 ∷ 10 ∷ 13 ∷ 10 ∷ 10
    ∷ []) AtEnd nothing_seen)) ≡ Open 1 ∷ Open 2 ∷ Put 3 97 ∷ Put 3 97 ∷ Put 3 98 ∷ Put 3 97 ∷ Put 3 120 ∷ Put 3 10 ∷ Put 3 13 ∷ Put 3 97 ∷ Put 3 98 ∷
    Put 3 13 ∷ Put 3 120 ∷ Put 3 10 ∷ Put 3 97 ∷ Put 3 98 ∷ []
unfolding digits encode chars
script_48_effects_1 = effects_so _ _

script_48_ending_1 : ending_of script_48 (known 1 (97 ∷ 10 ∷ 13 ∷ 10 ∷ 10 ∷ 13 ∷ 10 ∷ 10 ∷ []) AtEnd (known 2 (97 ∷ 10 ∷ 13 ∷ 10 ∷ 10 ∷ 13 ∷ 10 ∷ 10 ∷
    []) AtEnd nothing_seen)) ≡ Done Value.Unit
unfolding digits encode chars
script_48_ending_1 = ending_so _ _

script_48_effects_2 : effects_of script_48 (known 1 (97 ∷ 10 ∷ 13 ∷ 10 ∷ 10 ∷ []) MayGoOn (known 2 (97 ∷ 10 ∷ 13 ∷ 10 ∷ []) MayGoOn nothing_seen)) ≡
    Open 1 ∷ Open 2 ∷ Put 3 97 ∷ Put 3 97 ∷ Put 3 98 ∷ Put 3 97 ∷ Put 3 120 ∷ Put 3 10 ∷ Put 3 13 ∷ Put 3 97 ∷ Put 3 98 ∷ Put 3 13 ∷ []
unfolding digits encode chars
script_48_effects_2 = effects_so _ _

script_48_ending_2 : ending_of script_48 (known 1 (97 ∷ 10 ∷ 13 ∷ 10 ∷ 10 ∷ []) MayGoOn (known 2 (97 ∷ 10 ∷ 13 ∷ 10 ∷ []) MayGoOn nothing_seen)) ≡
    Halts (More (Reading 2))
unfolding digits encode chars
script_48_ending_2 = ending_so _ _

-- run range 8 7 | ((filter shorter 1 | takeWhile not begins "x\n") | (filter not begins "ab\n\"" |+ dropWhile empty));
abbrev script_52 : List Sentence
script_52 = run_statement (piped (range_word 8 7 ∷ piped (piped (filter_word (shorter 1) ∷ take_while_word (not_test (begins (120 ∷ 10 ∷ []))) ∷ []) ∷
    piped_return (filter_word (not_test (begins (97 ∷ 98 ∷ 10 ∷ 34 ∷ []))) ∷ drop_while_word empty ∷ []) ∷ []) ∷ [])) ∷ []

script_52_effects_1 : effects_of script_52 nothing_seen ≡ Put 0 61 ∷ Put 0 32 ∷ Put 0 40 ∷ Put 0 40 ∷ Put 0 41 ∷ Put 0 44 ∷ Put 0 32 ∷ Put 0 91 ∷ Put
    0 93 ∷ Put 0 41 ∷ Put 0 10 ∷ []
unfolding digits encode chars
script_52_effects_1 = effects_so _ _

script_52_ending_1 : ending_of script_52 nothing_seen ≡ Done Value.Unit
unfolding digits encode chars
script_52_ending_1 = ending_so _ _

-- run ((stdin | base64Decode) | lineE { base64Decode }) | repeatE 0 | base64Encode | sinkFile "x2";
abbrev script_53 : List Sentence
script_53 = run_statement (piped (piped (piped (stdin_word ∷ base64_decode_word ∷ []) ∷ line_e_form base64_decode_word ∷ []) ∷ repeat_e 0 ∷
    base64_encode_word ∷ sink_file_word (codes "x2") ∷ [])) ∷ []

script_53_effects_1 : effects_of script_53 (known 1 (49 ∷ 32 ∷ 97 ∷ 10 ∷ 32 ∷ 97 ∷ 45 ∷ 32 ∷ 97 ∷ 44 ∷ 98 ∷ 99 ∷ 98 ∷ []) AtEnd nothing_seen) ≡ Open 2
    ∷ []
unfolding digits encode chars
script_53_effects_1 = effects_so _ _

script_53_ending_1 : ending_of script_53 (known 1 (49 ∷ 32 ∷ 97 ∷ 10 ∷ 32 ∷ 97 ∷ 45 ∷ 32 ∷ 97 ∷ 44 ∷ 98 ∷ 99 ∷ 98 ∷ []) AtEnd nothing_seen) ≡ Halts
    (Stop (bad_base64 0))
unfolding digits encode chars
script_53_ending_1 = ending_so _ _

script_53_effects_2 : effects_of script_53 (known 1 (49 ∷ 32 ∷ 97 ∷ 10 ∷ 32 ∷ 97 ∷ 45 ∷ 32 ∷ 97 ∷ 44 ∷ 98 ∷ 99 ∷ []) MayGoOn nothing_seen) ≡ Open 2 ∷
    []
unfolding digits encode chars
script_53_effects_2 = effects_so _ _

script_53_ending_2 : ending_of script_53 (known 1 (49 ∷ 32 ∷ 97 ∷ 10 ∷ 32 ∷ 97 ∷ 45 ∷ 32 ∷ 97 ∷ 44 ∷ 98 ∷ 99 ∷ []) MayGoOn nothing_seen) ≡ Halts (Stop
    (bad_base64 0))
unfolding digits encode chars
script_53_ending_2 = ending_so _ _

-- run sourceFile "missing" | base64Encode | stdout;
-- run sourceFile "c" | lineE { mark "m7" { takeE 3 } } | collectE 50;
-- run sourceFile "b" | nullE;
abbrev script_54 : List Sentence
script_54 = run_statement (piped (source_file_word (codes "missing") ∷ base64_encode_word ∷ stdout_word ∷ [])) ∷ run_statement (piped
    (source_file_word (codes "c") ∷ line_e_form (mark_form (codes "m7") (take_e 3)) ∷ collect_e 50 ∷ [])) ∷ run_statement (piped (source_file_word
    (codes "b") ∷ null_e ∷ [])) ∷ []

script_54_effects_1 : effects_of script_54 (known 1 [] AtEnd (known 3 (10 ∷ 13 ∷ 97 ∷ 10 ∷ []) AtEnd (known 5 (codes "3:,,:,9:a1,a1b,,a,0:,9") AtEnd
    nothing_seen))) ≡ Open 1 ∷ Close 1 ∷ Open 4 ∷ Open 3 ∷ Close 4 ∷ Put 0 61 ∷ Put 0 32 ∷ Put 0 34 ∷ Put 0 34 ∷ Put 0 10 ∷ Open 5 ∷ Put 0 61 ∷ Put 0
    32 ∷ Put 0 102 ∷ Put 0 97 ∷ Put 0 108 ∷ Put 0 115 ∷ Put 0 101 ∷ Put 0 10 ∷ []
unfolding digits encode chars
script_54_effects_1 = effects_so _ _

script_54_ending_1 : ending_of script_54 (known 1 [] AtEnd (known 3 (10 ∷ 13 ∷ 97 ∷ 10 ∷ []) AtEnd (known 5 (codes "3:,,:,9:a1,a1b,,a,0:,9") AtEnd
    nothing_seen))) ≡ Done Value.Unit
unfolding digits encode chars
script_54_ending_1 = ending_so _ _

script_54_effects_2 : effects_of script_54 (known 1 [] MayGoOn (known 3 (10 ∷ 13 ∷ 97 ∷ []) MayGoOn (known 5 [] Broken nothing_seen))) ≡ Open 1 ∷ []
unfolding digits encode chars
script_54_effects_2 = effects_so _ _

script_54_ending_2 : ending_of script_54 (known 1 [] MayGoOn (known 3 (10 ∷ 13 ∷ 97 ∷ []) MayGoOn (known 5 [] Broken nothing_seen))) ≡ Halts (More
    (Reading 1))
unfolding digits encode chars
script_54_ending_2 = ending_so _ _

-- run zipSource(sourceFile "c" | lines 9, sourceFile "c" | lines 9, "0") | flat | { { sinkNull; nullE }; dropWhileE not digit; zipSink(collectE 50, headE) };
abbrev script_57 : List Sentence
script_57 = run_statement (piped (zip_source_form (codes "0") (piped (source_file_word (codes "c") ∷ lines_word 9 ∷ [])) (piped (source_file_word
    (codes "c") ∷ lines_word 9 ∷ [])) ∷ flat_word ∷ sequence_form (sequence_form (sink_null ∷ null_e ∷ []) ∷ drop_while_e (not_class digit) ∷
    zip_sink_form (collect_e 50) head_e ∷ []) ∷ [])) ∷ []

script_57_effects_1 : effects_of script_57 (known 1 (codes "AR8=") AtEnd (known 2 (codes "AR8=") AtEnd nothing_seen)) ≡ Open 1 ∷ Close 1 ∷ Open 2 ∷
    Close 2 ∷ Put 0 61 ∷ Put 0 32 ∷ Put 0 40 ∷ Put 0 34 ∷ Put 0 34 ∷ Put 0 44 ∷ Put 0 32 ∷ Put 0 110 ∷ Put 0 111 ∷ Put 0 110 ∷ Put 0 101 ∷ Put 0 41 ∷
    Put 0 10 ∷ []
unfolding digits encode chars
script_57_effects_1 = effects_so _ _

script_57_ending_1 : ending_of script_57 (known 1 (codes "AR8=") AtEnd (known 2 (codes "AR8=") AtEnd nothing_seen)) ≡ Done Value.Unit
unfolding digits encode chars
script_57_ending_1 = ending_so _ _

script_57_effects_2 : effects_of script_57 (known 1 (codes "A") MayGoOn (known 2 (codes "A") MayGoOn nothing_seen)) ≡ Open 1 ∷ []
unfolding digits encode chars
script_57_effects_2 = effects_so _ _

script_57_ending_2 : ending_of script_57 (known 1 (codes "A") MayGoOn (known 2 (codes "A") MayGoOn nothing_seen)) ≡ Halts (More (Reading 1))
unfolding digits encode chars
script_57_ending_2 = ending_so _ _

-- run text "" | utf8Encode | (split "\n" 80 | exactly 4 { unlines }) | mark "m1" { lineE { utf8 } } | collectE 50;
-- run texts [] | (unlines | utf8Encode) | takeE 9 | stdout;
abbrev script_58 : List Sentence
script_58 = run_statement (piped (text_word [] ∷ utf8_encode_word ∷ piped (split_word 10 80 ∷ exactly_form 4 unlines_word ∷ []) ∷ mark_form (codes
    "m1") (line_e_form utf8_word) ∷ collect_e 50 ∷ [])) ∷ run_statement (piped (texts_word [] ∷ piped (unlines_word ∷ utf8_encode_word ∷ []) ∷ take_e
    9 ∷ stdout_word ∷ [])) ∷ []

script_58_effects_1 : effects_of script_58 nothing_seen ≡ Open 1 ∷ Close 1 ∷ Put 0 61 ∷ Put 0 32 ∷ Put 0 34 ∷ Put 0 34 ∷ Put 0 10 ∷ []
unfolding digits encode chars
script_58_effects_1 = effects_so _ _

script_58_ending_1 : ending_of script_58 nothing_seen ≡ Done Value.Unit
unfolding digits encode chars
script_58_ending_1 = ending_so _ _

-- run sourceFile "a" | chunksOf 1 | (take 2 | (map reverse | head));
abbrev script_59 : List Sentence
script_59 = run_statement (piped (source_file_word (codes "a") ∷ chunks_of_word 1 ∷ piped (take_word 2 ∷ piped (map_word reversed ∷ head_word ∷ []) ∷
    []) ∷ [])) ∷ []

script_59_effects_1 : effects_of script_59 (known 1 (98 ∷ 10 ∷ 10 ∷ 10 ∷ 10 ∷ 10 ∷ 10 ∷ 98 ∷ 98 ∷ 10 ∷ 97 ∷ 10 ∷ 10 ∷ []) AtEnd nothing_seen) ≡ Open 1
    ∷ Put 0 61 ∷ Put 0 32 ∷ Put 0 115 ∷ Put 0 111 ∷ Put 0 109 ∷ Put 0 101 ∷ Put 0 32 ∷ Put 0 34 ∷ Put 0 98 ∷ Put 0 34 ∷ Put 0 10 ∷ []
unfolding digits encode chars
script_59_effects_1 = effects_so _ _

script_59_ending_1 : ending_of script_59 (known 1 (98 ∷ 10 ∷ 10 ∷ 10 ∷ 10 ∷ 10 ∷ 10 ∷ 98 ∷ 98 ∷ 10 ∷ 97 ∷ 10 ∷ 10 ∷ []) AtEnd nothing_seen) ≡ Done
    Value.Unit
unfolding digits encode chars
script_59_ending_1 = ending_so _ _

script_59_effects_2 : effects_of script_59 (known 1 (98 ∷ 10 ∷ []) MayGoOn nothing_seen) ≡ Open 1 ∷ Put 0 61 ∷ Put 0 32 ∷ Put 0 115 ∷ Put 0 111 ∷ Put
    0 109 ∷ Put 0 101 ∷ Put 0 32 ∷ Put 0 34 ∷ Put 0 98 ∷ Put 0 34 ∷ Put 0 10 ∷ []
unfolding digits encode chars
script_59_effects_2 = effects_so _ _

script_59_ending_2 : ending_of script_59 (known 1 (98 ∷ 10 ∷ []) MayGoOn nothing_seen) ≡ Done Value.Unit
unfolding digits encode chars
script_59_ending_2 = ending_so _ _

-- run texts ["\\", "\\", "😀", "😀"] | (map prefix "-x\n0" |= (map reverse |= unlines)) | ({ split "-" 2; anyE not lower } |& length);
abbrev script_60 : List Sentence
script_60 = run_statement (piped (texts_word ((92 ∷ []) ∷ (92 ∷ []) ∷ (240 ∷ 159 ∷ 152 ∷ 128 ∷ []) ∷ (240 ∷ 159 ∷ 152 ∷ 128 ∷ []) ∷ []) ∷ piped_keep
    (map_word (prefix (45 ∷ 120 ∷ 10 ∷ 48 ∷ [])) ∷ piped_keep (map_word reversed ∷ unlines_word ∷ []) ∷ []) ∷ piped_both (sequence_form (split_word 45
    2 ∷ any_e (not_class lower) ∷ []) ∷ length_word ∷ []) ∷ [])) ∷ []

script_60_effects_1 : effects_of script_60 nothing_seen ≡ Put 0 61 ∷ Put 0 32 ∷ Put 0 40 ∷ Put 0 102 ∷ Put 0 97 ∷ Put 0 108 ∷ Put 0 115 ∷ Put 0 101 ∷
    Put 0 44 ∷ Put 0 32 ∷ Put 0 49 ∷ Put 0 50 ∷ Put 0 41 ∷ Put 0 10 ∷ []
unfolding digits encode chars
script_60_effects_1 = effects_so _ _

script_60_ending_1 : ending_of script_60 nothing_seen ≡ Done Value.Unit
unfolding digits encode chars
script_60_ending_1 = ending_so _ _

-- run (zipSource(blocks ["😀", ",", "\n", "0"], sourceFile "a" | lines 9, "x\n") | { unlines; unlines }) | utf8 | lastE;
-- run mark "m2" { bytes "x\n" } | utf8Lenient | utf8Encode | (split "," 3 | pass) | last;
abbrev script_61 : List Sentence
script_61 = run_statement (piped (piped (zip_source_form (120 ∷ 10 ∷ []) (blocks_word ((240 ∷ 159 ∷ 152 ∷ 128 ∷ []) ∷ (codes ",") ∷ (10 ∷ []) ∷ (codes
    "0") ∷ [])) (piped (source_file_word (codes "a") ∷ lines_word 9 ∷ [])) ∷ sequence_form (unlines_word ∷ unlines_word ∷ []) ∷ []) ∷ utf8_word ∷
    last_e ∷ [])) ∷ run_statement (piped (mark_form (codes "m2") (bytes_word (120 ∷ 10 ∷ [])) ∷ utf8_lenient_word ∷ utf8_encode_word ∷ piped
    (split_word 44 3 ∷ pass_word ∷ []) ∷ last_word ∷ [])) ∷ []

script_61_effects_1 : effects_of script_61 (known 1 (codes "JyYK/7W6MBk=") AtEnd nothing_seen) ≡ Open 1 ∷ Close 1 ∷ Put 0 61 ∷ Put 0 32 ∷ Put 0 115 ∷
    Put 0 111 ∷ Put 0 109 ∷ Put 0 101 ∷ Put 0 32 ∷ Put 0 34 ∷ Put 0 92 ∷ Put 0 117 ∷ Put 0 123 ∷ Put 0 97 ∷ Put 0 125 ∷ Put 0 34 ∷ Put 0 10 ∷ Open 2 ∷
    Close 2 ∷ Put 0 61 ∷ Put 0 32 ∷ Put 0 115 ∷ Put 0 111 ∷ Put 0 109 ∷ Put 0 101 ∷ Put 0 32 ∷ Put 0 34 ∷ Put 0 120 ∷ Put 0 92 ∷ Put 0 120 ∷ Put 0 48
    ∷ Put 0 97 ∷ Put 0 34 ∷ Put 0 10 ∷ []
unfolding digits encode chars
script_61_effects_1 = effects_so _ _

script_61_ending_1 : ending_of script_61 (known 1 (codes "JyYK/7W6MBk=") AtEnd nothing_seen) ≡ Done Value.Unit
unfolding digits encode chars
script_61_ending_1 = ending_so _ _

script_61_effects_2 : effects_of script_61 (known 1 (codes "JyYK/7") MayGoOn nothing_seen) ≡ Open 1 ∷ []
unfolding digits encode chars
script_61_effects_2 = effects_so _ _

script_61_ending_2 : ending_of script_61 (known 1 (codes "JyYK/7") MayGoOn nothing_seen) ≡ Halts (More (Reading 1))
unfolding digits encode chars
script_61_ending_2 = ending_so _ _

-- run ((bytes "\\" | takeE 4) | split "1" 2) | zipConduit((repeat 3 | map reverse), filter not begins ",") | ((filter shorter 9 | take 9) | length);
-- run sourceFile "b" | utf8 | { { nullE; lengthE } };
abbrev script_64 : List Sentence
script_64 = run_statement (piped (piped (piped (bytes_word (92 ∷ []) ∷ take_e 4 ∷ []) ∷ split_word 49 2 ∷ []) ∷ zip_conduit_form (piped (repeat_word 3
    ∷ map_word reversed ∷ [])) (filter_word (not_test (begins (codes ",")))) ∷ piped (piped (filter_word (shorter 9) ∷ take_word 9 ∷ []) ∷ length_word
    ∷ []) ∷ [])) ∷ run_statement (piped (source_file_word (codes "b") ∷ utf8_word ∷ sequence_form (sequence_form (null_e ∷ length_e ∷ []) ∷ []) ∷ []))
    ∷ []

script_64_effects_1 : effects_of script_64 (known 1 [] AtEnd nothing_seen) ≡ Put 0 61 ∷ Put 0 32 ∷ Put 0 52 ∷ Put 0 10 ∷ Open 1 ∷ Close 1 ∷ Put 0 61 ∷
    Put 0 32 ∷ Put 0 48 ∷ Put 0 10 ∷ []
unfolding digits encode chars
script_64_effects_1 = effects_so _ _

script_64_ending_1 : ending_of script_64 (known 1 [] AtEnd nothing_seen) ≡ Done Value.Unit
unfolding digits encode chars
script_64_ending_1 = ending_so _ _

script_64_effects_2 : effects_of script_64 (known 1 [] MayGoOn nothing_seen) ≡ Put 0 61 ∷ Put 0 32 ∷ Put 0 52 ∷ Put 0 10 ∷ Open 1 ∷ []
unfolding digits encode chars
script_64_effects_2 = effects_so _ _

script_64_ending_2 : ending_of script_64 (known 1 [] MayGoOn nothing_seen) ≡ Halts (More (Reading 1))
unfolding digits encode chars
script_64_ending_2 = ending_so _ _

-- run { sourceFile "a"; sourceFile "d" } | base64Encode | nullE;
abbrev script_65 : List Sentence
script_65 = run_statement (piped (sequence_form (source_file_word (codes "a") ∷ source_file_word (codes "d") ∷ []) ∷ base64_encode_word ∷ null_e ∷
    [])) ∷ []

script_65_effects_1 : effects_of script_65 (known 1 (codes "b") AtEnd (known 2 [] AtEnd nothing_seen)) ≡ Open 1 ∷ Close 1 ∷ Open 2 ∷ Close 2 ∷ Put 0
    61 ∷ Put 0 32 ∷ Put 0 102 ∷ Put 0 97 ∷ Put 0 108 ∷ Put 0 115 ∷ Put 0 101 ∷ Put 0 10 ∷ []
unfolding digits encode chars
script_65_effects_1 = effects_so _ _

script_65_ending_1 : ending_of script_65 (known 1 (codes "b") AtEnd (known 2 [] AtEnd nothing_seen)) ≡ Done Value.Unit
unfolding digits encode chars
script_65_ending_1 = ending_so _ _

script_65_effects_2 : effects_of script_65 (known 1 (codes "b") Broken (known 2 [] Broken nothing_seen)) ≡ Open 1 ∷ []
unfolding digits encode chars
script_65_effects_2 = effects_so _ _

script_65_ending_2 : ending_of script_65 (known 1 (codes "b") Broken (known 2 [] Broken nothing_seen)) ≡ Halts (Stop (ReadBad 1))
unfolding digits encode chars
script_65_ending_2 = ending_so _ _

-- run sourceFile "b" | filterE not is "\n" | takeWhileE lower | (mapE rot13 |= filterE not lower) | stdout;
abbrev script_71 : List Sentence
script_71 = run_statement (piped (source_file_word (codes "b") ∷ filter_e (not_class (is_scalar 10)) ∷ take_while_e lower ∷ piped_keep (map_e rot13 ∷
    filter_e (not_class lower) ∷ []) ∷ stdout_word ∷ [])) ∷ []

script_71_effects_1 : effects_of script_71 (known 1 (codes "92340785") AtEnd nothing_seen) ≡ Open 1 ∷ []
unfolding digits encode chars
script_71_effects_1 = effects_so _ _

script_71_ending_1 : ending_of script_71 (known 1 (codes "92340785") AtEnd nothing_seen) ≡ Done Value.Unit
unfolding digits encode chars
script_71_ending_1 = ending_so _ _

script_71_effects_2 : effects_of script_71 (known 1 (codes "923") MayGoOn nothing_seen) ≡ Open 1 ∷ []
unfolding digits encode chars
script_71_effects_2 = effects_so _ _

script_71_ending_2 : ending_of script_71 (known 1 (codes "923") MayGoOn nothing_seen) ≡ Done Value.Unit
unfolding digits encode chars
script_71_ending_2 = ending_so _ _

-- run range 95 96 | map suffix "\u{7f}" | { zipSink(collect 0, head) };
-- run (sourceFile "c" | mapE add 0) | lastE;
abbrev script_72 : List Sentence
script_72 = run_statement (piped (range_word 95 96 ∷ map_word (suffix (127 ∷ [])) ∷ sequence_form (zip_sink_form (collect_word 0) head_word ∷ []) ∷
    [])) ∷ run_statement (piped (piped (source_file_word (codes "c") ∷ map_e (add 0) ∷ []) ∷ last_e ∷ [])) ∷ []

script_72_effects_1 : effects_of script_72 (known 1 (44 ∷ 10 ∷ 98 ∷ 97 ∷ []) AtEnd nothing_seen) ≡ Put 0 61 ∷ Put 0 32 ∷ Put 0 40 ∷ Put 0 91 ∷ Put 0
    93 ∷ Put 0 44 ∷ Put 0 32 ∷ Put 0 115 ∷ Put 0 111 ∷ Put 0 109 ∷ Put 0 101 ∷ Put 0 32 ∷ Put 0 34 ∷ Put 0 57 ∷ Put 0 53 ∷ Put 0 92 ∷ Put 0 120 ∷ Put
    0 55 ∷ Put 0 102 ∷ Put 0 34 ∷ Put 0 41 ∷ Put 0 10 ∷ Open 1 ∷ Close 1 ∷ Put 0 61 ∷ Put 0 32 ∷ Put 0 115 ∷ Put 0 111 ∷ Put 0 109 ∷ Put 0 101 ∷ Put 0
    32 ∷ Put 0 57 ∷ Put 0 55 ∷ Put 0 10 ∷ []
unfolding digits encode chars
script_72_effects_1 = effects_so _ _

script_72_ending_1 : ending_of script_72 (known 1 (44 ∷ 10 ∷ 98 ∷ 97 ∷ []) AtEnd nothing_seen) ≡ Done Value.Unit
unfolding digits encode chars
script_72_ending_1 = ending_so _ _

script_72_effects_2 : effects_of script_72 (known 1 (44 ∷ 10 ∷ 98 ∷ []) MayGoOn nothing_seen) ≡ Put 0 61 ∷ Put 0 32 ∷ Put 0 40 ∷ Put 0 91 ∷ Put 0 93 ∷
    Put 0 44 ∷ Put 0 32 ∷ Put 0 115 ∷ Put 0 111 ∷ Put 0 109 ∷ Put 0 101 ∷ Put 0 32 ∷ Put 0 34 ∷ Put 0 57 ∷ Put 0 53 ∷ Put 0 92 ∷ Put 0 120 ∷ Put 0 55
    ∷ Put 0 102 ∷ Put 0 34 ∷ Put 0 41 ∷ Put 0 10 ∷ Open 1 ∷ []
unfolding digits encode chars
script_72_effects_2 = effects_so _ _

script_72_ending_2 : ending_of script_72 (known 1 (44 ∷ 10 ∷ 98 ∷ []) MayGoOn nothing_seen) ≡ Halts (More (Reading 1))
unfolding digits encode chars
script_72_ending_2 = ending_so _ _

-- run (sourceFile "missing" | takeWhileE is ",") | { (utf8Lenient | split "\r" 3) } | (unlines | repeatE 1) | zipSink((repeatE 0 |& lengthE), (lines 2 |+ length));
abbrev script_73 : List Sentence
script_73 = run_statement (piped (piped (source_file_word (codes "missing") ∷ take_while_e (is_scalar 44) ∷ []) ∷ sequence_form (piped
    (utf8_lenient_word ∷ split_word 13 3 ∷ []) ∷ []) ∷ piped (unlines_word ∷ repeat_e 1 ∷ []) ∷ zip_sink_form (piped_both (repeat_e 0 ∷ length_e ∷
    [])) (piped_return (lines_word 2 ∷ length_word ∷ [])) ∷ [])) ∷ []

script_73_effects_1 : effects_of script_73 (known 1 [] AtEnd nothing_seen) ≡ Open 1 ∷ Close 1 ∷ Put 0 61 ∷ Put 0 32 ∷ Put 0 40 ∷ Put 0 40 ∷ Put 0 40 ∷
    Put 0 41 ∷ Put 0 44 ∷ Put 0 32 ∷ Put 0 48 ∷ Put 0 41 ∷ Put 0 44 ∷ Put 0 32 ∷ Put 0 40 ∷ Put 0 48 ∷ Put 0 44 ∷ Put 0 32 ∷ Put 0 91 ∷ Put 0 93 ∷ Put
    0 41 ∷ Put 0 41 ∷ Put 0 10 ∷ []
unfolding digits encode chars
script_73_effects_1 = effects_so _ _

script_73_ending_1 : ending_of script_73 (known 1 [] AtEnd nothing_seen) ≡ Done Value.Unit
unfolding digits encode chars
script_73_ending_1 = ending_so _ _

script_73_effects_2 : effects_of script_73 (known 1 [] MayGoOn nothing_seen) ≡ Open 1 ∷ []
unfolding digits encode chars
script_73_effects_2 = effects_so _ _

script_73_ending_2 : ending_of script_73 (known 1 [] MayGoOn nothing_seen) ≡ Halts (More (Reading 1))
unfolding digits encode chars
script_73_ending_2 = ending_so _ _

-- run (sourceFile "c" | filterE lower) | sinkFile "x1";
-- let s0 = seal { (sourceFile "c" | split "a" 3); (sourceFile "c" | exact 5) } | (map reverse | { pass });
-- feed s0 | head;
-- feed s0 | (pass | length);
abbrev script_74 : List Sentence
script_74 = run_statement (piped (piped (source_file_word (codes "c") ∷ filter_e lower ∷ []) ∷ sink_file_word (codes "x1") ∷ [])) ∷ let_statement
    (codes "s0") (piped (sequence_form (piped (source_file_word (codes "c") ∷ split_word 97 3 ∷ []) ∷ piped (source_file_word (codes "c") ∷ exact_word
    5 ∷ []) ∷ []) ∷ piped (map_word reversed ∷ sequence_form (pass_word ∷ []) ∷ []) ∷ [])) ∷ feed_statement (codes "s0") head_word ∷ feed_statement
    (codes "s0") (piped (pass_word ∷ length_word ∷ [])) ∷ []

script_74_effects_1 : effects_of script_74 (known 1 [] AtEnd (known 3 [] AtEnd (known 4 [] AtEnd nothing_seen))) ≡ Open 2 ∷ Open 1 ∷ Close 1 ∷ Close 2
    ∷ Open 3 ∷ Close 3 ∷ Open 4 ∷ Close 4 ∷ Put 0 61 ∷ Put 0 32 ∷ Put 0 110 ∷ Put 0 111 ∷ Put 0 110 ∷ Put 0 101 ∷ Put 0 10 ∷ Put 0 61 ∷ Put 0 32 ∷ Put
    0 48 ∷ Put 0 10 ∷ []
unfolding digits encode chars
script_74_effects_1 = effects_so _ _

script_74_ending_1 : ending_of script_74 (known 1 [] AtEnd (known 3 [] AtEnd (known 4 [] AtEnd nothing_seen))) ≡ Done Value.Unit
unfolding digits encode chars
script_74_ending_1 = ending_so _ _

script_74_effects_2 : effects_of script_74 (known 1 [] MayGoOn (known 3 [] MayGoOn (known 4 [] MayGoOn nothing_seen))) ≡ Open 2 ∷ Open 1 ∷ []
unfolding digits encode chars
script_74_effects_2 = effects_so _ _

script_74_ending_2 : ending_of script_74 (known 1 [] MayGoOn (known 3 [] MayGoOn (known 4 [] MayGoOn nothing_seen))) ≡ Halts (More (Reading 1))
unfolding digits encode chars
script_74_ending_2 = ending_so _ _

-- run stdin | lineE { { collectE 50; anyE not upper } };
abbrev script_77 : List Sentence
script_77 = run_statement (piped (stdin_word ∷ line_e_form (sequence_form (collect_e 50 ∷ any_e (not_class upper) ∷ [])) ∷ [])) ∷ []

script_77_effects_1 : effects_of script_77 (known 1 (45 ∷ 10 ∷ []) AtEnd nothing_seen) ≡ Put 0 61 ∷ Put 0 32 ∷ Put 0 102 ∷ Put 0 97 ∷ Put 0 108 ∷ Put
    0 115 ∷ Put 0 101 ∷ Put 0 10 ∷ []
unfolding digits encode chars
script_77_effects_1 = effects_so _ _

script_77_ending_1 : ending_of script_77 (known 1 (45 ∷ 10 ∷ []) AtEnd nothing_seen) ≡ Done Value.Unit
unfolding digits encode chars
script_77_ending_1 = ending_so _ _

script_77_effects_2 : effects_of script_77 (known 1 (codes "-") Broken nothing_seen) ≡ []
unfolding digits encode chars
script_77_effects_2 = effects_so _ _

script_77_ending_2 : ending_of script_77 (known 1 (codes "-") Broken nothing_seen) ≡ Halts (Stop (ReadBad 1))
unfolding digits encode chars
script_77_ending_2 = ending_so _ _
