-- Cases of tools/cases/scripts.jsonl, written by tools/cases.py: the number in a name is the line of the case.
use Rattle.std.specs.Prelude.{List, [], ◌∷◌, ◌≡◌, codes}
use Rattle.std.specs.Fmt.{digits}
use lib.Utf8.{encode}
use Rattle.std.specs.Str.{chars}
use Rattle.cd_meaning.specs.Stream.{Value, Reading, More, Stop, bad_base64, ReadBad, Done, Halts, Open, Put, Close}
use Rattle.cd_meaning.specs.RunShapes.{AtEnd, MayGoOn, Broken}
use Rattle.cd_meaning.specs.Rows.Trees.{Sentence}
use Rattle.cd_meaning.specs.Rows.Short.{pass_e, take_e, take_while_e, filter_e, map_e, repeat_e, drop_e, drop_while_e, head_e, peek_e, last_e, length_e, any_e, null_e, collect_e, sink_null, pass_word, take_word, take_while_word, filter_word, repeat_word, map_word, intersperse_word, drop_word, drop_while_word, peek_word, last_word, length_word, collect_word, lines_word, split_word, chunks_of_word, flat_word, unlines_word, utf8_word, utf8_lenient_word, hex_encode_word, hex_decode_word, base64_decode_word, source_file_word, stdin_word, bytes_word, blocks_word, replicate_word, range_word, sink_file_word, stdout_word, upper, alpha, hexdigit, is_scalar, empty, begins, ends, xor, rot13, prefix, suffix, reversed, not_class, not_test, piped, piped_keep, piped_both, exactly_e_form, line_e_form, mark_form, zip_source_form, zip_sink_form, sequence_form, run_statement, let_statement, feed_statement, hold_statement}
use Rattle.cd_meaning.specs.Cases.Known.{nothing_seen, known, effects_of, effects_so, ending_of, ending_so}

-- run stdin | hexEncode | split "," 1 | { { unlines; collect 50 }; flat } | zipSink(mark "m1" { anyE not is "-" }, exactlyE 0 { peekE });
-- run sourceFile "c" | utf8 | lineE { lastE };
abbrev script_1 : List Sentence
script_1 = run_statement (piped (stdin_word ∷ hex_encode_word ∷ split_word 44 1 ∷ sequence_form (sequence_form (unlines_word ∷ collect_word 50 ∷ []) ∷
    flat_word ∷ []) ∷ zip_sink_form (mark_form (codes "m1") (any_e (not_class (is_scalar 45)))) (exactly_e_form 0 peek_e) ∷ [])) ∷ run_statement
    (piped (source_file_word (codes "c") ∷ utf8_word ∷ line_e_form last_e ∷ [])) ∷ []

script_1_effects_1 : effects_of script_1 (known 1 (codes "3:11,,8:,,b:,ba,,0:,05:") AtEnd (known 3 (codes "6315") AtEnd nothing_seen)) ≡ Open 2 ∷
    Close 2 ∷ Put 0 61 ∷ Put 0 32 ∷ Put 0 40 ∷ Put 0 116 ∷ Put 0 114 ∷ Put 0 117 ∷ Put 0 101 ∷ Put 0 44 ∷ Put 0 32 ∷ Put 0 110 ∷ Put 0 111 ∷ Put 0 110
    ∷ Put 0 101 ∷ Put 0 41 ∷ Put 0 10 ∷ Open 3 ∷ Close 3 ∷ Put 0 61 ∷ Put 0 32 ∷ Put 0 115 ∷ Put 0 111 ∷ Put 0 109 ∷ Put 0 101 ∷ Put 0 32 ∷ Put 0 34 ∷
    Put 0 53 ∷ Put 0 34 ∷ Put 0 10 ∷ []
unfolding digits encode chars
script_1_effects_1 = effects_so _ _

script_1_ending_1 : ending_of script_1 (known 1 (codes "3:11,,8:,,b:,ba,,0:,05:") AtEnd (known 3 (codes "6315") AtEnd nothing_seen)) ≡ Done Value.Unit
unfolding digits encode chars
script_1_ending_1 = ending_so _ _

script_1_effects_2 : effects_of script_1 (known 1 (codes "3:11,,8:,,b:,ba") Broken (known 3 (codes "6315") MayGoOn nothing_seen)) ≡ Open 2 ∷ Close 2 ∷
    Put 0 61 ∷ Put 0 32 ∷ Put 0 40 ∷ Put 0 116 ∷ Put 0 114 ∷ Put 0 117 ∷ Put 0 101 ∷ Put 0 44 ∷ Put 0 32 ∷ Put 0 110 ∷ Put 0 111 ∷ Put 0 110 ∷ Put 0
    101 ∷ Put 0 41 ∷ Put 0 10 ∷ Open 3 ∷ []
unfolding digits encode chars
script_1_effects_2 = effects_so _ _

script_1_ending_2 : ending_of script_1 (known 1 (codes "3:11,,8:,,b:,ba") Broken (known 3 (codes "6315") MayGoOn nothing_seen)) ≡ Halts (More (Reading
    3))
unfolding digits encode chars
script_1_ending_2 = ending_so _ _

-- run zipSource(sourceFile "d" | lines 9, replicate 30 "", "x\n") | intersperse "0" | flat | headE;
-- run sourceFile "d" | exactlyE 1 { passE } | (utf8Lenient | mark "m8" { dropWhileE is "1" });
abbrev script_2 : List Sentence
script_2 = run_statement (piped (zip_source_form (120 ∷ 10 ∷ []) (piped (source_file_word (codes "d") ∷ lines_word 9 ∷ [])) (replicate_word 30 []) ∷
    intersperse_word (codes "0") ∷ flat_word ∷ head_e ∷ [])) ∷ run_statement (piped (source_file_word (codes "d") ∷ exactly_e_form 1 pass_e ∷ piped
    (utf8_lenient_word ∷ mark_form (codes "m8") (drop_while_e (is_scalar 49)) ∷ []) ∷ [])) ∷ []

script_2_effects_1 : effects_of script_2 (known 1 (codes "0:,3:aba,1:,,0") AtEnd (known 2 (codes "0:,3:aba,1:,,0") AtEnd nothing_seen)) ≡ Open 1 ∷ Put
    0 61 ∷ Put 0 32 ∷ Put 0 115 ∷ Put 0 111 ∷ Put 0 109 ∷ Put 0 101 ∷ Put 0 32 ∷ Put 0 52 ∷ Put 0 56 ∷ Put 0 10 ∷ Open 3 ∷ Open 2 ∷ Close 3 ∷ []
unfolding digits encode chars
script_2_effects_1 = effects_so _ _

script_2_ending_1 : ending_of script_2 (known 1 (codes "0:,3:aba,1:,,0") AtEnd (known 2 (codes "0:,3:aba,1:,,0") AtEnd nothing_seen)) ≡ Done
    Value.Unit
unfolding digits encode chars
script_2_ending_1 = ending_so _ _

script_2_effects_2 : effects_of script_2 (known 1 (codes "0:,3:a") MayGoOn (known 2 (codes "0:,") MayGoOn nothing_seen)) ≡ Open 1 ∷ []
unfolding digits encode chars
script_2_effects_2 = effects_so _ _

script_2_ending_2 : ending_of script_2 (known 1 (codes "0:,3:a") MayGoOn (known 2 (codes "0:,") MayGoOn nothing_seen)) ≡ Halts (More (Reading 1))
unfolding digits encode chars
script_2_ending_2 = ending_so _ _

-- hold k0 = mark "m1";
abbrev script_3 : List Sentence
script_3 = hold_statement (codes "k0") (codes "m1") ∷ []

script_3_effects_1 : effects_of script_3 nothing_seen ≡ Open 1 ∷ []
unfolding digits encode chars
script_3_effects_1 = effects_so _ _

script_3_ending_1 : ending_of script_3 nothing_seen ≡ Done Value.Unit
unfolding digits encode chars
script_3_ending_1 = ending_so _ _

-- run range 0 3 | mark "m1" { (unlines | repeatE 3) } | (chunksOf 8 | zipSink(dropWhile begins "b", peek));
-- run sourceFile "missing" | sinkNull;
-- run sourceFile "d" | base64Decode | stdout;
abbrev script_4 : List Sentence
script_4 = run_statement (piped (range_word 0 3 ∷ mark_form (codes "m1") (piped (unlines_word ∷ repeat_e 3 ∷ [])) ∷ piped (chunks_of_word 8 ∷
    zip_sink_form (drop_while_word (begins (codes "b"))) peek_word ∷ []) ∷ [])) ∷ run_statement (piped (source_file_word (codes "missing") ∷ sink_null
    ∷ [])) ∷ run_statement (piped (source_file_word (codes "d") ∷ base64_decode_word ∷ stdout_word ∷ [])) ∷ []

script_4_effects_1 : effects_of script_4 (known 2 [] AtEnd (known 3 (codes "a") AtEnd nothing_seen)) ≡ Open 1 ∷ Put 0 61 ∷ Put 0 32 ∷ Put 0 40 ∷ Put 0
    40 ∷ Put 0 41 ∷ Put 0 44 ∷ Put 0 32 ∷ Put 0 115 ∷ Put 0 111 ∷ Put 0 109 ∷ Put 0 101 ∷ Put 0 32 ∷ Put 0 34 ∷ Put 0 48 ∷ Put 0 48 ∷ Put 0 48 ∷ Put 0
    92 ∷ Put 0 120 ∷ Put 0 48 ∷ Put 0 97 ∷ Put 0 92 ∷ Put 0 120 ∷ Put 0 48 ∷ Put 0 97 ∷ Put 0 92 ∷ Put 0 120 ∷ Put 0 48 ∷ Put 0 97 ∷ Put 0 49 ∷ Put 0
    49 ∷ Put 0 34 ∷ Put 0 41 ∷ Put 0 10 ∷ Open 2 ∷ Close 2 ∷ Open 3 ∷ Close 3 ∷ []
unfolding digits encode chars
script_4_effects_1 = effects_so _ _

script_4_ending_1 : ending_of script_4 (known 2 [] AtEnd (known 3 (codes "a") AtEnd nothing_seen)) ≡ Halts (Stop (bad_base64 0))
unfolding digits encode chars
script_4_ending_1 = ending_so _ _

script_4_effects_2 : effects_of script_4 (known 2 [] MayGoOn (known 3 [] Broken nothing_seen)) ≡ Open 1 ∷ Put 0 61 ∷ Put 0 32 ∷ Put 0 40 ∷ Put 0 40 ∷
    Put 0 41 ∷ Put 0 44 ∷ Put 0 32 ∷ Put 0 115 ∷ Put 0 111 ∷ Put 0 109 ∷ Put 0 101 ∷ Put 0 32 ∷ Put 0 34 ∷ Put 0 48 ∷ Put 0 48 ∷ Put 0 48 ∷ Put 0 92 ∷
    Put 0 120 ∷ Put 0 48 ∷ Put 0 97 ∷ Put 0 92 ∷ Put 0 120 ∷ Put 0 48 ∷ Put 0 97 ∷ Put 0 92 ∷ Put 0 120 ∷ Put 0 48 ∷ Put 0 97 ∷ Put 0 49 ∷ Put 0 49 ∷
    Put 0 34 ∷ Put 0 41 ∷ Put 0 10 ∷ Open 2 ∷ []
unfolding digits encode chars
script_4_effects_2 = effects_so _ _

script_4_ending_2 : ending_of script_4 (known 2 [] MayGoOn (known 3 [] Broken nothing_seen)) ≡ Halts (More (Reading 2))
unfolding digits encode chars
script_4_ending_2 = ending_so _ _

-- run mark "m1" { (replicate 0 "\n" | repeat 2) } | (unlines | (lines 80 | unlines)) | passE | zipSink(sinkFile "x2", zipSink(sinkNull, sinkNull));
abbrev script_5 : List Sentence
script_5 = run_statement (piped (mark_form (codes "m1") (piped (replicate_word 0 (10 ∷ []) ∷ repeat_word 2 ∷ [])) ∷ piped (unlines_word ∷ piped
    (lines_word 80 ∷ unlines_word ∷ []) ∷ []) ∷ pass_e ∷ zip_sink_form (sink_file_word (codes "x2")) (zip_sink_form sink_null sink_null) ∷ [])) ∷ []

script_5_effects_1 : effects_of script_5 nothing_seen ≡ Open 2 ∷ Open 1 ∷ Close 1 ∷ Close 2 ∷ []
unfolding digits encode chars
script_5_effects_1 = effects_so _ _

script_5_ending_1 : ending_of script_5 nothing_seen ≡ Done Value.Unit
unfolding digits encode chars
script_5_ending_1 = ending_so _ _

-- run blocks ["\n"] | { map suffix "a"; drop 1 } | { zipSink(collect 50, length); intersperse "é"; filter begins "\\" } | drop 4;
-- run (mark "m1" { sourceFile "c" } | filterE is ",") | { sinkNull };
abbrev script_6 : List Sentence
script_6 = run_statement (piped (blocks_word ((10 ∷ []) ∷ []) ∷ sequence_form (map_word (suffix (codes "a")) ∷ drop_word 1 ∷ []) ∷ sequence_form
    (zip_sink_form (collect_word 50) length_word ∷ intersperse_word (195 ∷ 169 ∷ []) ∷ filter_word (begins (92 ∷ [])) ∷ []) ∷ drop_word 4 ∷ [])) ∷
    run_statement (piped (piped (mark_form (codes "m1") (source_file_word (codes "c")) ∷ filter_e (is_scalar 44) ∷ []) ∷ sequence_form (sink_null ∷
    []) ∷ [])) ∷ []

script_6_effects_1 : effects_of script_6 (known 2 (10 ∷ 10 ∷ 97 ∷ 97 ∷ 97 ∷ []) AtEnd nothing_seen) ≡ Open 1 ∷ Open 2 ∷ Close 2 ∷ Close 1 ∷ []
unfolding digits encode chars
script_6_effects_1 = effects_so _ _

script_6_ending_1 : ending_of script_6 (known 2 (10 ∷ 10 ∷ 97 ∷ 97 ∷ 97 ∷ []) AtEnd nothing_seen) ≡ Done Value.Unit
unfolding digits encode chars
script_6_ending_1 = ending_so _ _

script_6_effects_2 : effects_of script_6 (known 2 (10 ∷ 10 ∷ 97 ∷ []) MayGoOn nothing_seen) ≡ Open 1 ∷ Open 2 ∷ []
unfolding digits encode chars
script_6_effects_2 = effects_so _ _

script_6_ending_2 : ending_of script_6 (known 2 (10 ∷ 10 ∷ 97 ∷ []) MayGoOn nothing_seen) ≡ Halts (More (Reading 2))
unfolding digits encode chars
script_6_ending_2 = ending_so _ _

-- run mark "m1" { sourceFile "a" } | takeWhileE hexdigit | mapE xor 1 | lineE { (split "\n" 4096 | collect 50) };
abbrev script_7 : List Sentence
script_7 = run_statement (piped (mark_form (codes "m1") (source_file_word (codes "a")) ∷ take_while_e hexdigit ∷ map_e (xor 1) ∷ line_e_form (piped
    (split_word 10 4096 ∷ collect_word 50 ∷ [])) ∷ [])) ∷ []

script_7_effects_1 : effects_of script_7 (known 2 (codes "PEriZbE=") AtEnd nothing_seen) ≡ Open 1 ∷ Open 2 ∷ Put 0 61 ∷ Put 0 32 ∷ Put 0 91 ∷ Put 0 93
    ∷ Put 0 10 ∷ []
unfolding digits encode chars
script_7_effects_1 = effects_so _ _

script_7_ending_1 : ending_of script_7 (known 2 (codes "PEriZbE=") AtEnd nothing_seen) ≡ Done Value.Unit
unfolding digits encode chars
script_7_ending_1 = ending_so _ _

script_7_effects_2 : effects_of script_7 (known 2 [] MayGoOn nothing_seen) ≡ Open 1 ∷ Open 2 ∷ []
unfolding digits encode chars
script_7_effects_2 = effects_so _ _

script_7_ending_2 : ending_of script_7 (known 2 [] MayGoOn nothing_seen) ≡ Halts (More (Reading 2))
unfolding digits encode chars
script_7_ending_2 = ending_so _ _

-- let s0 = seal replicate 2 "aaaba";
-- run blocks [] | (flat | split "-" 3) | (map prefix "," |= filter ends "\n") | unlines | headE;
-- feed s0 | ({ map reverse; length } |& { drop 7; collect 1 });
abbrev script_8 : List Sentence
script_8 = let_statement (codes "s0") (replicate_word 2 (codes "aaaba")) ∷ run_statement (piped (blocks_word [] ∷ piped (flat_word ∷ split_word 45 3 ∷
    []) ∷ piped_keep (map_word (prefix (codes ",")) ∷ filter_word (ends (10 ∷ [])) ∷ []) ∷ unlines_word ∷ head_e ∷ [])) ∷ feed_statement (codes "s0")
    (piped_both (sequence_form (map_word reversed ∷ length_word ∷ []) ∷ sequence_form (drop_word 7 ∷ collect_word 1 ∷ []) ∷ [])) ∷ []

script_8_effects_1 : effects_of script_8 nothing_seen ≡ Put 0 61 ∷ Put 0 32 ∷ Put 0 110 ∷ Put 0 111 ∷ Put 0 110 ∷ Put 0 101 ∷ Put 0 10 ∷ Put 0 61 ∷
    Put 0 32 ∷ Put 0 40 ∷ Put 0 48 ∷ Put 0 44 ∷ Put 0 32 ∷ Put 0 91 ∷ Put 0 93 ∷ Put 0 41 ∷ Put 0 10 ∷ []
unfolding digits encode chars
script_8_effects_1 = effects_so _ _

script_8_ending_1 : ending_of script_8 nothing_seen ≡ Done Value.Unit
unfolding digits encode chars
script_8_ending_1 = ending_so _ _

-- run mark "m1" { sourceFile "d" } | lines 3 | unlines | lineE { (base64Decode | utf8Lenient) } | dropE 5;
abbrev script_9 : List Sentence
script_9 = run_statement (piped (mark_form (codes "m1") (source_file_word (codes "d")) ∷ lines_word 3 ∷ unlines_word ∷ line_e_form (piped
    (base64_decode_word ∷ utf8_lenient_word ∷ [])) ∷ drop_e 5 ∷ [])) ∷ []

script_9_effects_1 : effects_of script_9 (known 2 (0 ∷ 0 ∷ 0 ∷ 3 ∷ 0 ∷ 0 ∷ 0 ∷ 0 ∷ 0 ∷ 0 ∷ 3 ∷ 98 ∷ 97 ∷ 98 ∷ 0 ∷ 0 ∷ 0 ∷ 0 ∷ []) AtEnd nothing_seen)
    ≡ Open 1 ∷ Open 2 ∷ []
unfolding digits encode chars
script_9_effects_1 = effects_so _ _

script_9_ending_1 : ending_of script_9 (known 2 (0 ∷ 0 ∷ 0 ∷ 3 ∷ 0 ∷ 0 ∷ 0 ∷ 0 ∷ 0 ∷ 0 ∷ 3 ∷ 98 ∷ 97 ∷ 98 ∷ 0 ∷ 0 ∷ 0 ∷ 0 ∷ []) AtEnd nothing_seen) ≡
    Halts (Stop (bad_base64 0))
unfolding digits encode chars
script_9_ending_1 = ending_so _ _

script_9_effects_2 : effects_of script_9 (known 2 (0 ∷ 0 ∷ 0 ∷ 3 ∷ []) Broken nothing_seen) ≡ Open 1 ∷ Open 2 ∷ []
unfolding digits encode chars
script_9_effects_2 = effects_so _ _

script_9_ending_2 : ending_of script_9 (known 2 (0 ∷ 0 ∷ 0 ∷ 3 ∷ []) Broken nothing_seen) ≡ Halts (Stop (bad_base64 0))
unfolding digits encode chars
script_9_ending_2 = ending_so _ _

-- run bytes "\n" | ((mapE xor 32 |= utf8Lenient) | sinkNull);
-- run blocks ["€\"é"] | filter begins "," | collect 50;
abbrev script_10 : List Sentence
script_10 = run_statement (piped (bytes_word (10 ∷ []) ∷ piped (piped_keep (map_e (xor 32) ∷ utf8_lenient_word ∷ []) ∷ sink_null ∷ []) ∷ [])) ∷
    run_statement (piped (blocks_word ((226 ∷ 130 ∷ 172 ∷ 34 ∷ 195 ∷ 169 ∷ []) ∷ []) ∷ filter_word (begins (codes ",")) ∷ collect_word 50 ∷ [])) ∷ []

script_10_effects_1 : effects_of script_10 nothing_seen ≡ Put 0 61 ∷ Put 0 32 ∷ Put 0 91 ∷ Put 0 93 ∷ Put 0 10 ∷ []
unfolding digits encode chars
script_10_effects_1 = effects_so _ _

script_10_ending_1 : ending_of script_10 nothing_seen ≡ Done Value.Unit
unfolding digits encode chars
script_10_ending_1 = ending_so _ _

-- run zipSource(zipSource(sourceFile "c" | lines 9, sourceFile "missing" | lines 9, "\u{7f}"), replicate 0 "\n", "a") | { collect 50; take 2 } | (take 1 | (map suffix "aa" |= pass)) | collect 50;
abbrev script_11 : List Sentence
script_11 = run_statement (piped (zip_source_form (codes "a") (zip_source_form (127 ∷ []) (piped (source_file_word (codes "c") ∷ lines_word 9 ∷ []))
    (piped (source_file_word (codes "missing") ∷ lines_word 9 ∷ []))) (replicate_word 0 (10 ∷ [])) ∷ sequence_form (collect_word 50 ∷ take_word 2 ∷
    []) ∷ piped (take_word 1 ∷ piped_keep (map_word (suffix (codes "aa")) ∷ pass_word ∷ []) ∷ []) ∷ collect_word 50 ∷ [])) ∷ []

script_11_effects_1 : effects_of script_11 (known 1 (codes "elHDe9h=elHD") AtEnd (known 2 [] AtEnd nothing_seen)) ≡ Open 1 ∷ Open 2 ∷ Close 2 ∷ Put 0
    61 ∷ Put 0 32 ∷ Put 0 91 ∷ Put 0 93 ∷ Put 0 10 ∷ []
unfolding digits encode chars
script_11_effects_1 = effects_so _ _

script_11_ending_1 : ending_of script_11 (known 1 (codes "elHDe9h=elHD") AtEnd (known 2 [] AtEnd nothing_seen)) ≡ Done Value.Unit
unfolding digits encode chars
script_11_ending_1 = ending_so _ _

script_11_effects_2 : effects_of script_11 (known 1 (codes "elHDe9h=elHD") MayGoOn (known 2 [] MayGoOn nothing_seen)) ≡ Open 1 ∷ Open 2 ∷ []
unfolding digits encode chars
script_11_effects_2 = effects_so _ _

script_11_ending_2 : ending_of script_11 (known 1 (codes "elHDe9h=elHD") MayGoOn (known 2 [] MayGoOn nothing_seen)) ≡ Halts (More (Reading 2))
unfolding digits encode chars
script_11_ending_2 = ending_so _ _

-- run zipSource(sourceFile "d" | lines 9, replicate 5 ",é", "\"") | unlines | collectE 50;
-- run range 1 1 | sinkNull;
abbrev script_12 : List Sentence
script_12 = run_statement (piped (zip_source_form (34 ∷ []) (piped (source_file_word (codes "d") ∷ lines_word 9 ∷ [])) (replicate_word 5 (44 ∷ 195 ∷
    169 ∷ [])) ∷ unlines_word ∷ collect_e 50 ∷ [])) ∷ run_statement (piped (range_word 1 1 ∷ sink_null ∷ [])) ∷ []

script_12_effects_1 : effects_of script_12 (known 1 (codes "`Cd") AtEnd nothing_seen) ≡ Open 1 ∷ Close 1 ∷ Put 0 61 ∷ Put 0 32 ∷ Put 0 34 ∷ Put 0 96 ∷
    Put 0 67 ∷ Put 0 100 ∷ Put 0 92 ∷ Put 0 34 ∷ Put 0 44 ∷ Put 0 92 ∷ Put 0 120 ∷ Put 0 99 ∷ Put 0 51 ∷ Put 0 92 ∷ Put 0 120 ∷ Put 0 97 ∷ Put 0 57 ∷
    Put 0 92 ∷ Put 0 120 ∷ Put 0 48 ∷ Put 0 97 ∷ Put 0 34 ∷ Put 0 10 ∷ []
unfolding digits encode chars
script_12_effects_1 = effects_so _ _

script_12_ending_1 : ending_of script_12 (known 1 (codes "`Cd") AtEnd nothing_seen) ≡ Done Value.Unit
unfolding digits encode chars
script_12_ending_1 = ending_so _ _

script_12_effects_2 : effects_of script_12 (known 1 (codes "`Cd") MayGoOn nothing_seen) ≡ Open 1 ∷ []
unfolding digits encode chars
script_12_effects_2 = effects_so _ _

script_12_ending_2 : ending_of script_12 (known 1 (codes "`Cd") MayGoOn nothing_seen) ≡ Halts (More (Reading 1))
unfolding digits encode chars
script_12_ending_2 = ending_so _ _

-- run sourceFile "b" | { takeWhileE not upper; { takeE 1; hexDecode; takeE 1 }; mapE rot13 } | zipSink((lines 2 | collect 0), exactlyE 3 { sinkFile "x1" });
abbrev script_13 : List Sentence
script_13 = run_statement (piped (source_file_word (codes "b") ∷ sequence_form (take_while_e (not_class upper) ∷ sequence_form (take_e 1 ∷
    hex_decode_word ∷ take_e 1 ∷ []) ∷ map_e rot13 ∷ []) ∷ zip_sink_form (piped (lines_word 2 ∷ collect_word 0 ∷ [])) (exactly_e_form 3
    (sink_file_word (codes "x1"))) ∷ [])) ∷ []

script_13_effects_1 : effects_of script_13 (known 1 (codes "9Ab8c5cdb05Fa3fCea440") AtEnd nothing_seen) ≡ Open 2 ∷ Open 1 ∷ Put 2 57 ∷ Put 2 65 ∷ Put
    2 184 ∷ Close 2 ∷ Put 0 61 ∷ Put 0 32 ∷ Put 0 40 ∷ Put 0 91 ∷ Put 0 93 ∷ Put 0 44 ∷ Put 0 32 ∷ Put 0 40 ∷ Put 0 41 ∷ Put 0 41 ∷ Put 0 10 ∷ []
unfolding digits encode chars
script_13_effects_1 = effects_so _ _

script_13_ending_1 : ending_of script_13 (known 1 (codes "9Ab8c5cdb05Fa3fCea440") AtEnd nothing_seen) ≡ Done Value.Unit
unfolding digits encode chars
script_13_ending_1 = ending_so _ _

script_13_effects_2 : effects_of script_13 (known 1 (codes "9Ab8c5cdb05") MayGoOn nothing_seen) ≡ Open 2 ∷ Open 1 ∷ Put 2 57 ∷ Put 2 65 ∷ Put 2 184 ∷
    Close 2 ∷ Put 0 61 ∷ Put 0 32 ∷ Put 0 40 ∷ Put 0 91 ∷ Put 0 93 ∷ Put 0 44 ∷ Put 0 32 ∷ Put 0 40 ∷ Put 0 41 ∷ Put 0 41 ∷ Put 0 10 ∷ []
unfolding digits encode chars
script_13_effects_2 = effects_so _ _

script_13_ending_2 : ending_of script_13 (known 1 (codes "9Ab8c5cdb05") MayGoOn nothing_seen) ≡ Done Value.Unit
unfolding digits encode chars
script_13_ending_2 = ending_so _ _

-- run sourceFile "c" | mapE xor 0 | sinkFile "x3";
abbrev script_14 : List Sentence
script_14 = run_statement (piped (source_file_word (codes "c") ∷ map_e (xor 0) ∷ sink_file_word (codes "x3") ∷ [])) ∷ []

script_14_effects_1 : effects_of script_14 (known 1 (98 ∷ 97 ∷ 45 ∷ 99 ∷ 10 ∷ 10 ∷ 49 ∷ 97 ∷ []) AtEnd nothing_seen) ≡ Open 2 ∷ Open 1 ∷ Put 2 98 ∷
    Put 2 97 ∷ Put 2 45 ∷ Put 2 99 ∷ Put 2 10 ∷ Put 2 10 ∷ Put 2 49 ∷ Put 2 97 ∷ Close 1 ∷ Close 2 ∷ []
unfolding digits encode chars
script_14_effects_1 = effects_so _ _

script_14_ending_1 : ending_of script_14 (known 1 (98 ∷ 97 ∷ 45 ∷ 99 ∷ 10 ∷ 10 ∷ 49 ∷ 97 ∷ []) AtEnd nothing_seen) ≡ Done Value.Unit
unfolding digits encode chars
script_14_ending_1 = ending_so _ _

script_14_effects_2 : effects_of script_14 (known 1 (codes "ba-c") MayGoOn nothing_seen) ≡ Open 2 ∷ Open 1 ∷ Put 2 98 ∷ Put 2 97 ∷ Put 2 45 ∷ Put 2 99
    ∷ []
unfolding digits encode chars
script_14_effects_2 = effects_so _ _

script_14_ending_2 : ending_of script_14 (known 1 (codes "ba-c") MayGoOn nothing_seen) ≡ Halts (More (Reading 1))
unfolding digits encode chars
script_14_ending_2 = ending_so _ _

-- run (sourceFile "d" | lines 5) | map prefix "é" | zipSink({ length; peek }, (unlines | headE));
abbrev script_15 : List Sentence
script_15 = run_statement (piped (piped (source_file_word (codes "d") ∷ lines_word 5 ∷ []) ∷ map_word (prefix (195 ∷ 169 ∷ [])) ∷ zip_sink_form
    (sequence_form (length_word ∷ peek_word ∷ [])) (piped (unlines_word ∷ head_e ∷ [])) ∷ [])) ∷ []

script_15_effects_1 : effects_of script_15 (known 1 (codes "38") AtEnd nothing_seen) ≡ Open 1 ∷ Close 1 ∷ Put 0 61 ∷ Put 0 32 ∷ Put 0 40 ∷ Put 0 110 ∷
    Put 0 111 ∷ Put 0 110 ∷ Put 0 101 ∷ Put 0 44 ∷ Put 0 32 ∷ Put 0 115 ∷ Put 0 111 ∷ Put 0 109 ∷ Put 0 101 ∷ Put 0 32 ∷ Put 0 49 ∷ Put 0 57 ∷ Put 0
    53 ∷ Put 0 41 ∷ Put 0 10 ∷ []
unfolding digits encode chars
script_15_effects_1 = effects_so _ _

script_15_ending_1 : ending_of script_15 (known 1 (codes "38") AtEnd nothing_seen) ≡ Done Value.Unit
unfolding digits encode chars
script_15_ending_1 = ending_so _ _

script_15_effects_2 : effects_of script_15 (known 1 [] MayGoOn nothing_seen) ≡ Open 1 ∷ []
unfolding digits encode chars
script_15_effects_2 = effects_so _ _

script_15_ending_2 : ending_of script_15 (known 1 [] MayGoOn nothing_seen) ≡ Halts (More (Reading 1))
unfolding digits encode chars
script_15_ending_2 = ending_so _ _

-- run sourceFile "d" | takeWhileE not upper | headE;
abbrev script_16 : List Sentence
script_16 = run_statement (piped (source_file_word (codes "d") ∷ take_while_e (not_class upper) ∷ head_e ∷ [])) ∷ []

script_16_effects_1 : effects_of script_16 (known 1 (195 ∷ 169 ∷ 10 ∷ 226 ∷ 130 ∷ 172 ∷ 97 ∷ 10 ∷ 195 ∷ 169 ∷ 10 ∷ 226 ∷ 130 ∷ []) AtEnd nothing_seen)
    ≡ Open 1 ∷ Put 0 61 ∷ Put 0 32 ∷ Put 0 115 ∷ Put 0 111 ∷ Put 0 109 ∷ Put 0 101 ∷ Put 0 32 ∷ Put 0 49 ∷ Put 0 57 ∷ Put 0 53 ∷ Put 0 10 ∷ []
unfolding digits encode chars
script_16_effects_1 = effects_so _ _

script_16_ending_1 : ending_of script_16 (known 1 (195 ∷ 169 ∷ 10 ∷ 226 ∷ 130 ∷ 172 ∷ 97 ∷ 10 ∷ 195 ∷ 169 ∷ 10 ∷ 226 ∷ 130 ∷ []) AtEnd nothing_seen) ≡
    Done Value.Unit
unfolding digits encode chars
script_16_ending_1 = ending_so _ _

script_16_effects_2 : effects_of script_16 (known 1 (195 ∷ 169 ∷ 10 ∷ 226 ∷ []) Broken nothing_seen) ≡ Open 1 ∷ Put 0 61 ∷ Put 0 32 ∷ Put 0 115 ∷ Put
    0 111 ∷ Put 0 109 ∷ Put 0 101 ∷ Put 0 32 ∷ Put 0 49 ∷ Put 0 57 ∷ Put 0 53 ∷ Put 0 10 ∷ []
unfolding digits encode chars
script_16_effects_2 = effects_so _ _

script_16_ending_2 : ending_of script_16 (known 1 (195 ∷ 169 ∷ 10 ∷ 226 ∷ []) Broken nothing_seen) ≡ Done Value.Unit
unfolding digits encode chars
script_16_ending_2 = ending_so _ _

-- let s0 = seal stdin | split "1" 1;
-- run (zipSource(sourceFile "c" | lines 9, sourceFile "b" | lines 9, "") | takeWhile ends "-") | collect 9;
-- run replicate 0 "\"" | last;
abbrev script_17 : List Sentence
script_17 = let_statement (codes "s0") (piped (stdin_word ∷ split_word 49 1 ∷ [])) ∷ run_statement (piped (piped (zip_source_form [] (piped
    (source_file_word (codes "c") ∷ lines_word 9 ∷ [])) (piped (source_file_word (codes "b") ∷ lines_word 9 ∷ [])) ∷ take_while_word (ends (codes
    "-")) ∷ []) ∷ collect_word 9 ∷ [])) ∷ run_statement (piped (replicate_word 0 (34 ∷ []) ∷ last_word ∷ [])) ∷ []

script_17_effects_1 : effects_of script_17 (known 1 (codes "475e6") AtEnd (known 2 (codes "rmp44dfQaZU=") AtEnd (known 3 [] AtEnd nothing_seen))) ≡
    Open 2 ∷ Open 3 ∷ Close 3 ∷ Put 0 61 ∷ Put 0 32 ∷ Put 0 91 ∷ Put 0 93 ∷ Put 0 10 ∷ Put 0 61 ∷ Put 0 32 ∷ Put 0 110 ∷ Put 0 111 ∷ Put 0 110 ∷ Put 0
    101 ∷ Put 0 10 ∷ []
unfolding digits encode chars
script_17_effects_1 = effects_so _ _

script_17_ending_1 : ending_of script_17 (known 1 (codes "475e6") AtEnd (known 2 (codes "rmp44dfQaZU=") AtEnd (known 3 [] AtEnd nothing_seen))) ≡ Done
    Value.Unit
unfolding digits encode chars
script_17_ending_1 = ending_so _ _

script_17_effects_2 : effects_of script_17 (known 1 [] MayGoOn (known 2 (codes "rmp44dfQ") MayGoOn (known 3 [] MayGoOn nothing_seen))) ≡ Open 2 ∷ []
unfolding digits encode chars
script_17_effects_2 = effects_so _ _

script_17_ending_2 : ending_of script_17 (known 1 [] MayGoOn (known 2 (codes "rmp44dfQ") MayGoOn (known 3 [] MayGoOn nothing_seen))) ≡ Halts (More
    (Reading 2))
unfolding digits encode chars
script_17_ending_2 = ending_so _ _

-- run { (sourceFile "a" | chunksOf 65536); replicate 5 "a" } | collect 50;
abbrev script_18 : List Sentence
script_18 = run_statement (piped (sequence_form (piped (source_file_word (codes "a") ∷ chunks_of_word 65536 ∷ []) ∷ replicate_word 5 (codes "a") ∷ [])
    ∷ collect_word 50 ∷ [])) ∷ []

script_18_effects_1 : effects_of script_18 (known 1 [] AtEnd nothing_seen) ≡ Open 1 ∷ Close 1 ∷ Put 0 61 ∷ Put 0 32 ∷ Put 0 91 ∷ Put 0 34 ∷ Put 0 97 ∷
    Put 0 34 ∷ Put 0 44 ∷ Put 0 32 ∷ Put 0 34 ∷ Put 0 97 ∷ Put 0 34 ∷ Put 0 44 ∷ Put 0 32 ∷ Put 0 34 ∷ Put 0 97 ∷ Put 0 34 ∷ Put 0 44 ∷ Put 0 32 ∷ Put
    0 34 ∷ Put 0 97 ∷ Put 0 34 ∷ Put 0 44 ∷ Put 0 32 ∷ Put 0 34 ∷ Put 0 97 ∷ Put 0 34 ∷ Put 0 93 ∷ Put 0 10 ∷ []
unfolding digits encode chars
script_18_effects_1 = effects_so _ _

script_18_ending_1 : ending_of script_18 (known 1 [] AtEnd nothing_seen) ≡ Done Value.Unit
unfolding digits encode chars
script_18_ending_1 = ending_so _ _

script_18_effects_2 : effects_of script_18 (known 1 [] Broken nothing_seen) ≡ Open 1 ∷ []
unfolding digits encode chars
script_18_effects_2 = effects_so _ _

script_18_ending_2 : ending_of script_18 (known 1 [] Broken nothing_seen) ≡ Halts (Stop (ReadBad 1))
unfolding digits encode chars
script_18_ending_2 = ending_so _ _

-- run sourceFile "c" | utf8 | repeatE 2 | { { collectE 3 }; mapE rot13; exactlyE 4 { takeWhileE alpha } } | lengthE;
-- run sourceFile "b" | split "a" 2 | dropWhile not begins "\r";
abbrev script_19 : List Sentence
script_19 = run_statement (piped (source_file_word (codes "c") ∷ utf8_word ∷ repeat_e 2 ∷ sequence_form (sequence_form (collect_e 3 ∷ []) ∷ map_e
    rot13 ∷ exactly_e_form 4 (take_while_e alpha) ∷ []) ∷ length_e ∷ [])) ∷ run_statement (piped (source_file_word (codes "b") ∷ split_word 97 2 ∷
    drop_while_word (not_test (begins (13 ∷ []))) ∷ [])) ∷ []

script_19_effects_1 : effects_of script_19 (known 1 (99 ∷ 10 ∷ 49 ∷ 98 ∷ 99 ∷ 32 ∷ 97 ∷ 120 ∷ 10 ∷ 32 ∷ 44 ∷ 10 ∷ 98 ∷ []) AtEnd (known 2 (codes
    "YtxNOA==YtxN") AtEnd nothing_seen)) ≡ Open 1 ∷ Close 1 ∷ Put 0 61 ∷ Put 0 32 ∷ Put 0 50 ∷ Put 0 51 ∷ Put 0 10 ∷ Open 2 ∷ Close 2 ∷ []
unfolding digits encode chars
script_19_effects_1 = effects_so _ _

script_19_ending_1 : ending_of script_19 (known 1 (99 ∷ 10 ∷ 49 ∷ 98 ∷ 99 ∷ 32 ∷ 97 ∷ 120 ∷ 10 ∷ 32 ∷ 44 ∷ 10 ∷ 98 ∷ []) AtEnd (known 2 (codes
    "YtxNOA==YtxN") AtEnd nothing_seen)) ≡ Done Value.Unit
unfolding digits encode chars
script_19_ending_1 = ending_so _ _

script_19_effects_2 : effects_of script_19 (known 1 (99 ∷ 10 ∷ 49 ∷ 98 ∷ 99 ∷ 32 ∷ 97 ∷ 120 ∷ 10 ∷ 32 ∷ 44 ∷ 10 ∷ 98 ∷ []) MayGoOn (known 2 (codes
    "YtxNOA==") Broken nothing_seen)) ≡ Open 1 ∷ []
unfolding digits encode chars
script_19_effects_2 = effects_so _ _

script_19_ending_2 : ending_of script_19 (known 1 (99 ∷ 10 ∷ 49 ∷ 98 ∷ 99 ∷ 32 ∷ 97 ∷ 120 ∷ 10 ∷ 32 ∷ 44 ∷ 10 ∷ 98 ∷ []) MayGoOn (known 2 (codes
    "YtxNOA==") Broken nothing_seen)) ≡ Halts (More (Reading 1))
unfolding digits encode chars
script_19_ending_2 = ending_so _ _

-- run { stdin; mark "m1" { sourceFile "a" } } | utf8 | (repeatE 0 | zipSink(lastE, nullE));
abbrev script_20 : List Sentence
script_20 = run_statement (piped (sequence_form (stdin_word ∷ mark_form (codes "m1") (source_file_word (codes "a")) ∷ []) ∷ utf8_word ∷ piped
    (repeat_e 0 ∷ zip_sink_form last_e null_e ∷ []) ∷ [])) ∷ []

script_20_effects_1 : effects_of script_20 (known 1 (codes "b") AtEnd (known 3 (10 ∷ 10 ∷ 98 ∷ 98 ∷ 98 ∷ []) AtEnd nothing_seen)) ≡ Open 2 ∷ Open 3 ∷
    Close 3 ∷ Close 2 ∷ Put 0 61 ∷ Put 0 32 ∷ Put 0 40 ∷ Put 0 110 ∷ Put 0 111 ∷ Put 0 110 ∷ Put 0 101 ∷ Put 0 44 ∷ Put 0 32 ∷ Put 0 116 ∷ Put 0 114 ∷
    Put 0 117 ∷ Put 0 101 ∷ Put 0 41 ∷ Put 0 10 ∷ []
unfolding digits encode chars
script_20_effects_1 = effects_so _ _

script_20_ending_1 : ending_of script_20 (known 1 (codes "b") AtEnd (known 3 (10 ∷ 10 ∷ 98 ∷ 98 ∷ 98 ∷ []) AtEnd nothing_seen)) ≡ Done Value.Unit
unfolding digits encode chars
script_20_ending_1 = ending_so _ _

script_20_effects_2 : effects_of script_20 (known 1 [] MayGoOn (known 3 (10 ∷ []) MayGoOn nothing_seen)) ≡ []
unfolding digits encode chars
script_20_effects_2 = effects_so _ _

script_20_ending_2 : ending_of script_20 (known 1 [] MayGoOn (known 3 (10 ∷ []) MayGoOn nothing_seen)) ≡ Halts (More (Reading 1))
unfolding digits encode chars
script_20_ending_2 = ending_so _ _

-- run range 8 11 | zipSink(dropWhile empty, mark "m1" { length });
abbrev script_21 : List Sentence
script_21 = run_statement (piped (range_word 8 11 ∷ zip_sink_form (drop_while_word empty) (mark_form (codes "m1") length_word) ∷ [])) ∷ []

script_21_effects_1 : effects_of script_21 nothing_seen ≡ Open 1 ∷ Close 1 ∷ Put 0 61 ∷ Put 0 32 ∷ Put 0 40 ∷ Put 0 40 ∷ Put 0 41 ∷ Put 0 44 ∷ Put 0
    32 ∷ Put 0 52 ∷ Put 0 41 ∷ Put 0 10 ∷ []
unfolding digits encode chars
script_21_effects_1 = effects_so _ _

script_21_ending_1 : ending_of script_21 nothing_seen ≡ Done Value.Unit
unfolding digits encode chars
script_21_ending_1 = ending_so _ _
