-- Cases of tools/cases/types.jsonl, written by tools/type_cases.py: the number in a name is the line of the case.
use Rattle.std.specs.Prelude.{List, [], ◌∷◌, ◌≡◌, codes}
use Rattle.std.specs.Str.{chars}
use Rattle.cd_meaning.specs.Places.{Reads, ReadsInput, Writes, WritesOutput, Marks}
use Rattle.cd_meaning.specs.Rows.Trees.{Sentence}
use Rattle.cd_meaning.specs.Rows.Short.{pass_e, take_e, take_while_e, filter_e, map_e, repeat_e, drop_e, head_e, peek_e, last_e, length_e, sum_e, all_e, any_e, null_e, collect_e, sink_null, pass_word, take_word, take_while_word, filter_word, repeat_word, map_word, intersperse_word, drop_word, drop_while_word, head_word, peek_word, last_word, length_word, null_word, collect_word, lines_word, split_word, exact_word, chunks_of_word, flat_word, unlines_word, utf8_word, utf8_lenient_word, utf8_encode_word, hex_encode_word, hex_decode_word, base64_encode_word, base64_decode_word, source_file_word, stdin_word, bytes_word, text_word, blocks_word, texts_word, replicate_word, range_word, sink_file_word, stdout_word, digit, upper, lower, alpha, alnum, hexdigit, space, newline, is_scalar, below, empty, begins, ends, shorter, add, rot13, prefix, suffix, reversed, not_class, not_test, piped, piped_keep, piped_return, piped_both, piped_up, piped_asked, exactly_form, exactly_e_form, line_e_form, mark_form, tee_form, zip_source_form, zip_sink_form, zip_conduit_form, sequence_form, run_statement, let_statement, feed_statement, close_statement, hold_statement, release_statement}
use Rattle.cd_types.specs.declared.refusal.RefusalKind.TheVariants.{KindMismatch, SeesChunks, NeedsElements, NotInvertible, NameTwice, ResultLost, OpenEnd}
use Rattle.cd_types.specs.Rows.Trees.{verdict, verdict_is, refused, passed, names, names_are, counted}

-- run ({ sourceFile "d"; stdin; sourceFile "a" } | hexEncode) | lastE;
abbrev script_1 : List Sentence
script_1 = run_statement (piped (piped (sequence_form (source_file_word (codes "d") ∷ stdin_word ∷ source_file_word (codes "a") ∷ []) ∷
    hex_encode_word ∷ []) ∷ last_e ∷ [])) ∷ []

script_1_answer : verdict script_1 ≡ passed ((Reads (codes "d")) ∷ ReadsInput ∷ (Reads (codes "a")) ∷ []) 1
script_1_answer = verdict_is script_1

-- run (mark "m1" { stdin } | passE) | passE | peekE;
abbrev script_2 : List Sentence
script_2 = run_statement (piped (piped (mark_form (codes "m1") stdin_word ∷ pass_e ∷ []) ∷ pass_e ∷ peek_e ∷ [])) ∷ []

script_2_answer : verdict script_2 ≡ passed ((Marks (codes "m1")) ∷ ReadsInput ∷ []) 0
script_2_answer = verdict_is script_2

-- run mark "m1" { { zipSource(zipConduit(sourceFile "a", sourceFile "a") | lines 9, sourceFile "a" | lines 9, "\\") } } | intersperse "b" | collect 50;
abbrev script_3 : List Sentence
script_3 = run_statement (piped (mark_form (codes "m1") (sequence_form (zip_source_form (92 ∷ []) (piped (zip_conduit_form (source_file_word (codes
    "a")) (source_file_word (codes "a")) ∷ lines_word 9 ∷ [])) (piped (source_file_word (codes "a") ∷ lines_word 9 ∷ [])) ∷ [])) ∷ intersperse_word
    (codes "b") ∷ collect_word 50 ∷ [])) ∷ []

script_3_answer : verdict script_3 ≡ refused OpenEnd 1 6
unfolding chars
script_3_answer = verdict_is script_3

-- let s0 = seal mark "m1" { zipSource(stdin | lines 9, sourceFile "c" | lines 9, "-") };
-- feed s0 | zipConduit({ filter ends "\\"; map prefix "x\n" }, repeat 2) | lengthE;
-- run range 8 20 | unlines | (passE | base64Decode) | allE alpha;
abbrev script_4 : List Sentence
script_4 = let_statement (codes "s0") (mark_form (codes "m1") (zip_source_form (codes "-") (piped (stdin_word ∷ lines_word 9 ∷ [])) (piped
    (source_file_word (codes "c") ∷ lines_word 9 ∷ [])))) ∷ feed_statement (codes "s0") (piped (zip_conduit_form (sequence_form (filter_word (ends (92
    ∷ [])) ∷ map_word (prefix (120 ∷ 10 ∷ [])) ∷ [])) (repeat_word 2) ∷ length_e ∷ [])) ∷ run_statement (piped (range_word 8 20 ∷ unlines_word ∷ piped
    (pass_e ∷ base64_decode_word ∷ []) ∷ all_e alpha ∷ [])) ∷ []

script_4_answer : verdict script_4 ≡ refused NeedsElements 2 7
unfolding chars
script_4_answer = verdict_is script_4

-- run sourceFile "a" | takeWhileE space | sumE;
-- run sourceFile "a" | filterE newline | { utf8Lenient } | lastE;
-- run bytes "x\n" | passE | lineE { lines 3 } | head;
abbrev script_5 : List Sentence
script_5 = run_statement (piped (source_file_word (codes "a") ∷ take_while_e space ∷ sum_e ∷ [])) ∷ run_statement (piped (source_file_word (codes "a")
    ∷ filter_e newline ∷ sequence_form (utf8_lenient_word ∷ []) ∷ last_e ∷ [])) ∷ run_statement (piped (bytes_word (120 ∷ 10 ∷ []) ∷ pass_e ∷
    line_e_form (lines_word 3) ∷ head_word ∷ [])) ∷ []

script_5_answer : verdict script_5 ≡ passed ((Reads (codes "a")) ∷ (Reads (codes "a")) ∷ []) 7
script_5_answer = verdict_is script_5

-- run sourceFile "c" | { lineE { takeWhileE newline }; takeWhileE newline } | split "\r" 2 | { intersperse "😀"; headE | split "-" 80 } | mark "m5" { peek };
abbrev script_6 : List Sentence
script_6 = run_statement (piped (source_file_word (codes "c") ∷ sequence_form (line_e_form (take_while_e newline) ∷ take_while_e newline ∷ []) ∷
    split_word 13 2 ∷ sequence_form (intersperse_word (240 ∷ 159 ∷ 152 ∷ 128 ∷ []) ∷ piped (head_e ∷ split_word 45 80 ∷ []) ∷ []) ∷ mark_form (codes
    "m5") peek_word ∷ [])) ∷ []

script_6_answer : verdict script_6 ≡ refused NeedsElements 1 11
unfolding chars
script_6_answer = verdict_is script_6

-- run mark "m1" { sourceFile "c" } | tee(utf8) | repeatE 3 | mapE rot13 | allE below 256;
abbrev script_7 : List Sentence
script_7 = run_statement (piped (mark_form (codes "m1") (source_file_word (codes "c")) ∷ tee_form utf8_word ∷ repeat_e 3 ∷ map_e rot13 ∷ all_e (below
    256) ∷ [])) ∷ []

script_7_answer : verdict script_7 ≡ refused SeesChunks 1 4
script_7_answer = verdict_is script_7

-- run mark "m1" { sourceFile "c" } | ((sumE | exact 4) | repeat 2) | exactly 1000 { map reverse | takeWhile ends "a" } | (flat | allE alnum);
abbrev script_8 : List Sentence
script_8 = run_statement (piped (mark_form (codes "m1") (source_file_word (codes "c")) ∷ piped (piped (sum_e ∷ exact_word 4 ∷ []) ∷ repeat_word 2 ∷
    []) ∷ exactly_form 1000 (piped (map_word reversed ∷ take_while_word (ends (codes "a")) ∷ [])) ∷ piped (flat_word ∷ all_e alnum ∷ []) ∷ [])) ∷ []

script_8_answer : verdict script_8 ≡ refused ResultLost 1 6
script_8_answer = verdict_is script_8

-- run text "😀" | takeE 0 | tee(filterE upper) | split "-" 1 | collect 50;
-- run text "😀" | takeE 0 | tee(filterE upper) | split "-" 1 | collect 50;
-- run lineE { stdin } | stdout;
abbrev script_9 : List Sentence
script_9 = run_statement (piped (text_word (240 ∷ 159 ∷ 152 ∷ 128 ∷ []) ∷ take_e 0 ∷ tee_form (filter_e upper) ∷ split_word 45 1 ∷ collect_word 50 ∷
    [])) ∷ run_statement (piped (text_word (240 ∷ 159 ∷ 152 ∷ 128 ∷ []) ∷ take_e 0 ∷ tee_form (filter_e upper) ∷ split_word 45 1 ∷ collect_word 50 ∷
    [])) ∷ run_statement (piped (line_e_form stdin_word ∷ stdout_word ∷ [])) ∷ []

script_9_answer : verdict script_9 ≡ refused SeesChunks 1 4
script_9_answer = verdict_is script_9

-- run (zipSource(sourceFile "a" | lines 9, stdin | lines 9, "a") | (intersperse "\u{7f}-aa" | intersperse "aa")) | unlines | headE;
abbrev script_10 : List Sentence
script_10 = run_statement (piped (piped (zip_source_form (codes "a") (piped (source_file_word (codes "a") ∷ lines_word 9 ∷ [])) (piped (stdin_word ∷
    lines_word 9 ∷ [])) ∷ piped (intersperse_word (127 ∷ 45 ∷ 97 ∷ 97 ∷ []) ∷ intersperse_word (codes "aa") ∷ []) ∷ []) ∷ unlines_word ∷ head_e ∷ []))
    ∷ []

script_10_answer : verdict script_10 ≡ passed ((Reads (codes "a")) ∷ ReadsInput ∷ []) 28
unfolding chars
script_10_answer = verdict_is script_10

-- run sourceFile "d" | lastE;
-- run texts [] | { pass; flat | utf8Lenient; intersperse "😀" } | ((map suffix "aax\né" |= filter empty) | (repeat 0 | repeat 0)) | (takeWhile empty | map prefix "\"-ab") | last;
abbrev script_11 : List Sentence
script_11 = run_statement (piped (source_file_word (codes "d") ∷ last_e ∷ [])) ∷ run_statement (piped (texts_word [] ∷ sequence_form (pass_word ∷
    piped (flat_word ∷ utf8_lenient_word ∷ []) ∷ intersperse_word (240 ∷ 159 ∷ 152 ∷ 128 ∷ []) ∷ []) ∷ piped (piped_keep (map_word (suffix (97 ∷ 97 ∷
    120 ∷ 10 ∷ 195 ∷ 169 ∷ [])) ∷ filter_word empty ∷ []) ∷ piped (repeat_word 0 ∷ repeat_word 0 ∷ []) ∷ []) ∷ piped (take_while_word empty ∷ map_word
    (prefix (34 ∷ 45 ∷ 97 ∷ 98 ∷ [])) ∷ []) ∷ last_word ∷ [])) ∷ []

script_11_answer : verdict script_11 ≡ refused KindMismatch 2 7
unfolding chars
script_11_answer = verdict_is script_11

-- run sourceFile "d" | stdout | base64Encode | sinkFile "x1";
abbrev script_12 : List Sentence
script_12 = run_statement (piped (source_file_word (codes "d") ∷ stdout_word ∷ base64_encode_word ∷ sink_file_word (codes "x1") ∷ [])) ∷ []

script_12_answer : verdict script_12 ≡ refused OpenEnd 1 4
script_12_answer = verdict_is script_12

-- run sourceFile "b" | takeE 9 | filterE digit | ((utf8 | filterE hexdigit | collect 16777216) | exactlyE 1 { utf8Encode });
abbrev script_13 : List Sentence
script_13 = run_statement (piped (source_file_word (codes "b") ∷ take_e 9 ∷ filter_e digit ∷ piped (piped (utf8_word ∷ filter_e hexdigit ∷
    collect_word 16777216 ∷ []) ∷ exactly_e_form 1 utf8_encode_word ∷ []) ∷ [])) ∷ []

script_13_answer : verdict script_13 ≡ refused SeesChunks 1 9
script_13_answer = verdict_is script_13

-- hold k0 = mark "m1";
-- run sourceFile "b" | filterE newline;
-- run text "😀" | mark "m3" { utf8Encode |& sumE };
-- run ((sourceFile "a" | takeWhileE not is "1") | repeatE 3) | split "-" 2 | ({ unlines; unlines } | (split "-" 80 |+ sinkNull));
abbrev script_14 : List Sentence
script_14 = hold_statement (codes "k0") (codes "m1") ∷ run_statement (piped (source_file_word (codes "b") ∷ filter_e newline ∷ [])) ∷ run_statement
    (piped (text_word (240 ∷ 159 ∷ 152 ∷ 128 ∷ []) ∷ mark_form (codes "m3") (piped_both (utf8_encode_word ∷ sum_e ∷ [])) ∷ [])) ∷ run_statement (piped
    (piped (piped (source_file_word (codes "a") ∷ take_while_e (not_class (is_scalar 49)) ∷ []) ∷ repeat_e 3 ∷ []) ∷ split_word 45 2 ∷ piped
    (sequence_form (unlines_word ∷ unlines_word ∷ []) ∷ piped_return (split_word 45 80 ∷ sink_null ∷ []) ∷ []) ∷ [])) ∷ []

script_14_answer : verdict script_14 ≡ refused OpenEnd 2 1
script_14_answer = verdict_is script_14

-- run replicate 30 "-" | { { zipSink(collect 50, pass) }; filter ends "aa" | map suffix "€"; filter ends "ab" } | map suffix "" | sinkNull;
abbrev script_15 : List Sentence
script_15 = run_statement (piped (replicate_word 30 (codes "-") ∷ sequence_form (sequence_form (zip_sink_form (collect_word 50) pass_word ∷ []) ∷
    piped (filter_word (ends (codes "aa")) ∷ map_word (suffix (226 ∷ 130 ∷ 172 ∷ [])) ∷ []) ∷ filter_word (ends (codes "ab")) ∷ []) ∷ map_word (suffix
    []) ∷ sink_null ∷ [])) ∷ []

script_15_answer : verdict script_15 ≡ refused KindMismatch 1 7
unfolding chars
script_15_answer = verdict_is script_15

abbrev script_16 : List Sentence
script_16 = []

script_16_answer : verdict script_16 ≡ passed [] 0
script_16_answer = verdict_is script_16

-- run lineE { (sourceFile "b" | filterE is "-") | collectE 50 };
abbrev script_17 : List Sentence
script_17 = run_statement (line_e_form (piped (piped (source_file_word (codes "b") ∷ filter_e (is_scalar 45) ∷ []) ∷ collect_e 50 ∷ []))) ∷ []

script_17_answer : verdict script_17 ≡ refused OpenEnd 1 1
script_17_answer = verdict_is script_17

-- run mark "m1" { sourceFile "b" | split "\r" 2 } | zipSink(map prefix "é" | drop 3, { unlines; drop 4 } |& headE);
abbrev script_18 : List Sentence
script_18 = run_statement (piped (mark_form (codes "m1") (piped (source_file_word (codes "b") ∷ split_word 13 2 ∷ [])) ∷ zip_sink_form (piped
    (map_word (prefix (195 ∷ 169 ∷ [])) ∷ drop_word 3 ∷ [])) (piped_both (sequence_form (unlines_word ∷ drop_word 4 ∷ []) ∷ head_e ∷ [])) ∷ [])) ∷ []

script_18_answer : verdict script_18 ≡ passed ((Marks (codes "m1")) ∷ (Reads (codes "b")) ∷ []) 2
unfolding chars
script_18_answer = verdict_is script_18

-- run mark "m1" { sourceFile "d" } | passE | split "\n" 3 | length;
-- run stdin | { mark "m2" { chunksOf 3 }; { dropE 2 }; mark "m3" { split "-" 2 } } | head;
abbrev script_19 : List Sentence
script_19 = run_statement (piped (mark_form (codes "m1") (source_file_word (codes "d")) ∷ pass_e ∷ split_word 10 3 ∷ length_word ∷ [])) ∷
    run_statement (piped (stdin_word ∷ sequence_form (mark_form (codes "m2") (chunks_of_word 3) ∷ sequence_form (drop_e 2 ∷ []) ∷ mark_form (codes
    "m3") (split_word 45 2) ∷ []) ∷ head_word ∷ [])) ∷ []

script_19_answer : verdict script_19 ≡ passed ((Marks (codes "m1")) ∷ (Reads (codes "d")) ∷ ReadsInput ∷ (Marks (codes "m2")) ∷ (Marks (codes "m3")) ∷
    []) 8
script_19_answer = verdict_is script_19

-- let s0 = seal mark "m1" { stdin | repeatE 1 } | { passE };
-- run ((sourceFile "a" | takeWhileE space) | last) | split "é" 8 | collect 50;
-- run mark "m5" { mark "m4" { sourceFile "d" } } | hexEncode | collectE 2;
-- close s0 | exactlyE 9 { collectE 1 };
abbrev script_20 : List Sentence
script_20 = let_statement (codes "s0") (piped (mark_form (codes "m1") (piped (stdin_word ∷ repeat_e 1 ∷ [])) ∷ sequence_form (pass_e ∷ []) ∷ [])) ∷
    run_statement (piped (piped (piped (source_file_word (codes "a") ∷ take_while_e space ∷ []) ∷ last_word ∷ []) ∷ split_word 233 8 ∷ collect_word 50
    ∷ [])) ∷ run_statement (piped (mark_form (codes "m5") (mark_form (codes "m4") (source_file_word (codes "d"))) ∷ hex_encode_word ∷ collect_e 2 ∷
    [])) ∷ close_statement (codes "s0") (exactly_e_form 9 (collect_e 1)) ∷ []

script_20_answer : verdict script_20 ≡ refused SeesChunks 2 6
script_20_answer = verdict_is script_20

-- run sourceFile "c" | headE;
-- run blocks ["b\u{7f}é"] | exactly 2 { takeWhile shorter 1 } | sinkNull;
-- run sourceFile "d" | base64Decode | (base64Decode | zipSink(stdout, nullE));
abbrev script_21 : List Sentence
script_21 = run_statement (piped (source_file_word (codes "c") ∷ head_e ∷ [])) ∷ run_statement (piped (blocks_word ((98 ∷ 127 ∷ 195 ∷ 169 ∷ []) ∷ [])
    ∷ exactly_form 2 (take_while_word (shorter 1)) ∷ sink_null ∷ [])) ∷ run_statement (piped (source_file_word (codes "d") ∷ base64_decode_word ∷
    piped (base64_decode_word ∷ zip_sink_form stdout_word null_e ∷ []) ∷ [])) ∷ []

script_21_answer : verdict script_21 ≡ passed ((Reads (codes "c")) ∷ (Reads (codes "d")) ∷ WritesOutput ∷ []) 6
script_21_answer = verdict_is script_21

-- run range 0 3 | (lineE { takeWhile begins "€" } | exactly 3 { repeat 1 } | bytes "a") | { collect 50; { flat; last } |& peekE; dropWhile ends "x\n" };
abbrev script_22 : List Sentence
script_22 = run_statement (piped (range_word 0 3 ∷ piped (line_e_form (take_while_word (begins (226 ∷ 130 ∷ 172 ∷ []))) ∷ exactly_form 3 (repeat_word
    1) ∷ bytes_word (codes "a") ∷ []) ∷ sequence_form (collect_word 50 ∷ piped_both (sequence_form (flat_word ∷ last_word ∷ []) ∷ peek_e ∷ []) ∷
    drop_while_word (ends (120 ∷ 10 ∷ [])) ∷ []) ∷ [])) ∷ []

script_22_answer : verdict script_22 ≡ refused NeedsElements 1 4
script_22_answer = verdict_is script_22

-- run lineE { sourceFile "missing" } | (chunksOf 4 | lines 3) | collect 50;
abbrev script_23 : List Sentence
script_23 = run_statement (piped (line_e_form (source_file_word (codes "missing")) ∷ piped (chunks_of_word 4 ∷ lines_word 3 ∷ []) ∷ collect_word 50 ∷
    [])) ∷ []

script_23_answer : verdict script_23 ≡ refused OpenEnd 1 2
script_23_answer = verdict_is script_23

-- run mark "m1" { sourceFile "a" } | stdout;
-- run stdin | passE | collectE 50;
abbrev script_24 : List Sentence
script_24 = run_statement (piped (mark_form (codes "m1") (source_file_word (codes "a")) ∷ stdout_word ∷ [])) ∷ run_statement (piped (stdin_word ∷
    pass_e ∷ collect_e 50 ∷ [])) ∷ []

script_24_answer : verdict script_24 ≡ passed ((Marks (codes "m1")) ∷ (Reads (codes "a")) ∷ WritesOutput ∷ ReadsInput ∷ []) 50
script_24_answer = verdict_is script_24

-- run zipSource(sourceFile "b", lengthE, ":") | sinkFile "x1";
abbrev script_25 : List Sentence
script_25 = run_statement (piped (zip_source_form (codes ":") (source_file_word (codes "b")) length_e ∷ sink_file_word (codes "x1") ∷ [])) ∷ []

script_25_answer : verdict script_25 ≡ refused SeesChunks 1 3
unfolding chars
script_25_answer = verdict_is script_25

-- let s0 = seal sourceFile "d";
-- close s0 | zipSource(lines 2, passE, ":") | length;
-- run mark "m3" { mark "m2" { stdin } } | exactlyE 3 { hexDecode } | lineE { dropE 5 };
abbrev script_26 : List Sentence
script_26 = let_statement (codes "s0") (source_file_word (codes "d")) ∷ close_statement (codes "s0") (piped (zip_source_form (codes ":") (lines_word
    2) pass_e ∷ length_word ∷ [])) ∷ run_statement (piped (mark_form (codes "m3") (mark_form (codes "m2") stdin_word) ∷ exactly_e_form 3
    hex_decode_word ∷ line_e_form (drop_e 5) ∷ [])) ∷ []

script_26_answer : verdict script_26 ≡ refused OpenEnd 2 3
unfolding chars
script_26_answer = verdict_is script_26

-- hold s1 = mark "m1";
abbrev script_27 : List Sentence
script_27 = hold_statement (codes "s1") (codes "m1") ∷ []

script_27_answer : verdict script_27 ≡ passed ((Marks (codes "m1")) ∷ []) 0
script_27_answer = verdict_is script_27

script_27_names : names script_27 ≡ counted 0 1
script_27_names = names_are script_27

-- run bytes "😀" | mapE rot13 | utf8Lenient | collectE 50;
abbrev script_28 : List Sentence
script_28 = run_statement (piped (bytes_word (240 ∷ 159 ∷ 152 ∷ 128 ∷ []) ∷ map_e rot13 ∷ utf8_lenient_word ∷ collect_e 50 ∷ [])) ∷ []

script_28_answer : verdict script_28 ≡ passed [] 53
script_28_answer = verdict_is script_28

-- run sourceFile "a" | takeWhileE is "1" | { repeatE 3; { zipConduit(peekE, peekE) }; mapE add 2 | base64Decode } | (mapE rot13 | (mapE rot13 | allE alnum));
abbrev script_29 : List Sentence
script_29 = run_statement (piped (source_file_word (codes "a") ∷ take_while_e (is_scalar 49) ∷ sequence_form (repeat_e 3 ∷ sequence_form
    (zip_conduit_form peek_e peek_e ∷ []) ∷ piped (map_e (add 2) ∷ base64_decode_word ∷ []) ∷ []) ∷ piped (map_e rot13 ∷ piped (map_e rot13 ∷ all_e
    alnum ∷ []) ∷ []) ∷ [])) ∷ []

script_29_answer : verdict script_29 ≡ refused SeesChunks 1 7
script_29_answer = verdict_is script_29

-- let s0 = seal replicate 0 "x\n" | (takeWhile not shorter 4 | map reverse);
-- feed s0 | ((takeWhile not empty | take 9) | map suffix "a") | dropWhile empty;
-- feed s0 | null;
-- run sinkFile "c" | exactlyE 1 { passE } | { lineE { lineE { stdout } } };
abbrev script_30 : List Sentence
script_30 = let_statement (codes "s0") (piped (replicate_word 0 (120 ∷ 10 ∷ []) ∷ piped (take_while_word (not_test (shorter 4)) ∷ map_word reversed ∷
    []) ∷ [])) ∷ feed_statement (codes "s0") (piped (piped (piped (take_while_word (not_test empty) ∷ take_word 9 ∷ []) ∷ map_word (suffix (codes
    "a")) ∷ []) ∷ drop_while_word empty ∷ [])) ∷ feed_statement (codes "s0") null_word ∷ run_statement (piped (sink_file_word (codes "c") ∷
    exactly_e_form 1 pass_e ∷ sequence_form (line_e_form (line_e_form stdout_word) ∷ []) ∷ [])) ∷ []

script_30_answer : verdict script_30 ≡ refused OpenEnd 4 2
unfolding chars
script_30_answer = verdict_is script_30

-- run sourceFile "c" | base64Decode | passE | hexEncode | mark "m1" { exactlyE 2 { takeE 0 } | collectE 50 };
abbrev script_31 : List Sentence
script_31 = run_statement (piped (source_file_word (codes "c") ∷ base64_decode_word ∷ pass_e ∷ hex_encode_word ∷ mark_form (codes "m1") (piped
    (exactly_e_form 2 (take_e 0) ∷ collect_e 50 ∷ [])) ∷ [])) ∷ []

script_31_answer : verdict script_31 ≡ passed ((Reads (codes "c")) ∷ (Marks (codes "m1")) ∷ []) 53
script_31_answer = verdict_is script_31

-- hold k0 = mark "m1";
-- release k0;
-- run { sourceFile "d"; sourceFile "d" } | collectE 50;
abbrev script_32 : List Sentence
script_32 = hold_statement (codes "k0") (codes "m1") ∷ release_statement (codes "k0") ∷ run_statement (piped (sequence_form (source_file_word (codes
    "d") ∷ source_file_word (codes "d") ∷ []) ∷ collect_e 50 ∷ [])) ∷ []

script_32_answer : verdict script_32 ≡ passed ((Marks (codes "m1")) ∷ (Reads (codes "d")) ∷ (Reads (codes "d")) ∷ []) 50
script_32_answer = verdict_is script_32

script_32_names : names script_32 ≡ counted 0 1
script_32_names = names_are script_32

-- let s0 = seal sourceFile "a" | chunksOf 4;
-- feed s0 | peek;
-- feed s0 | (takeWhile shorter 3 | { repeat 0; map prefix "a" }) | ((flat | base64Decode) |? { anyE lower; nullE; collectE 9 });
abbrev script_33 : List Sentence
script_33 = let_statement (codes "s0") (piped (source_file_word (codes "a") ∷ chunks_of_word 4 ∷ [])) ∷ feed_statement (codes "s0") peek_word ∷
    feed_statement (codes "s0") (piped (piped (take_while_word (shorter 3) ∷ sequence_form (repeat_word 0 ∷ map_word (prefix (codes "a")) ∷ []) ∷ [])
    ∷ piped_asked (piped (flat_word ∷ base64_decode_word ∷ []) ∷ sequence_form (any_e lower ∷ null_e ∷ collect_e 9 ∷ []) ∷ []) ∷ [])) ∷ []

script_33_answer : verdict script_33 ≡ passed ((Reads (codes "a")) ∷ []) 16
unfolding chars
script_33_answer = verdict_is script_33

script_33_names : names script_33 ≡ counted 1 0
script_33_names = names_are script_33

-- run zipSource(mark "m1" { range 18446744073709551613 18446744073709551615 }, bytes "é" | lineE { lines 9 }, "-€\r") | exactly 3 { intersperse "aa" } | last;
abbrev script_34 : List Sentence
script_34 = run_statement (piped (zip_source_form (45 ∷ 226 ∷ 130 ∷ 172 ∷ 13 ∷ []) (mark_form (codes "m1") (range_word 18446744073709551613
    18446744073709551615)) (piped (bytes_word (195 ∷ 169 ∷ []) ∷ line_e_form (lines_word 9) ∷ [])) ∷ exactly_form 3 (intersperse_word (codes "aa")) ∷
    last_word ∷ [])) ∷ []

script_34_answer : verdict script_34 ≡ passed ((Marks (codes "m1")) ∷ []) 65
unfolding chars
script_34_answer = verdict_is script_34

-- run zipSource(mark "a" { sourceFile "d" } | lines 9, sourceFile "a" | lines 9, "😀") | pass | tee(sinkNull) | unlines | nullE;
abbrev script_35 : List Sentence
script_35 = run_statement (piped (zip_source_form (240 ∷ 159 ∷ 152 ∷ 128 ∷ []) (piped (mark_form (codes "a") (source_file_word (codes "d")) ∷
    lines_word 9 ∷ [])) (piped (source_file_word (codes "a") ∷ lines_word 9 ∷ [])) ∷ pass_word ∷ tee_form sink_null ∷ unlines_word ∷ null_e ∷ [])) ∷
    []

script_35_answer : verdict script_35 ≡ refused NameTwice 1 8
unfolding chars
script_35_answer = verdict_is script_35

-- run stdin | exactlyE 2 { hexEncode } | (mark "x" { hexDecode } | ({ base64Encode; mark "m" { sinkFile "x1" } } |& sumE));
abbrev script_36 : List Sentence
script_36 = run_statement (piped (stdin_word ∷ exactly_e_form 2 hex_encode_word ∷ piped (mark_form (codes "x") hex_decode_word ∷ piped_both
    (sequence_form (base64_encode_word ∷ mark_form (codes "m") (sink_file_word (codes "x1")) ∷ []) ∷ sum_e ∷ []) ∷ []) ∷ [])) ∷ []

script_36_answer : verdict script_36 ≡ passed (ReadsInput ∷ (Marks (codes "x")) ∷ (Marks (codes "m")) ∷ (Writes (codes "x1")) ∷ []) 3
script_36_answer = verdict_is script_36

-- run sourceFile "a" | takeE 4 | stdout;
-- run blocks ["-"] | intersperse "\n" | repeat 0 | intersperse "€" | tee(length);
abbrev script_37 : List Sentence
script_37 = run_statement (piped (source_file_word (codes "a") ∷ take_e 4 ∷ stdout_word ∷ [])) ∷ run_statement (piped (blocks_word ((codes "-") ∷ [])
    ∷ intersperse_word (10 ∷ []) ∷ repeat_word 0 ∷ intersperse_word (226 ∷ 130 ∷ 172 ∷ []) ∷ tee_form length_word ∷ [])) ∷ []

script_37_answer : verdict script_37 ≡ refused ResultLost 2 7
unfolding chars
script_37_answer = verdict_is script_37

-- run texts ["\"éaa", "aa"] | mark "m1" { flat } | ((chunksOf 4 | mark "m" { map reverse }) | { collect 2; sinkNull });
abbrev script_38 : List Sentence
script_38 = run_statement (piped (texts_word ((34 ∷ 195 ∷ 169 ∷ 97 ∷ 97 ∷ []) ∷ (codes "aa") ∷ []) ∷ mark_form (codes "m1") flat_word ∷ piped (piped
    (chunks_of_word 4 ∷ mark_form (codes "m") (map_word reversed) ∷ []) ∷ sequence_form (collect_word 2 ∷ sink_null ∷ []) ∷ []) ∷ [])) ∷ []

script_38_answer : verdict script_38 ≡ passed ((Marks (codes "m1")) ∷ (Marks (codes "m")) ∷ []) 14
unfolding chars
script_38_answer = verdict_is script_38

-- run text "\n" | exact 1 | map suffix "a" | { map prefix "\"" | take 1; zipSource(intersperse "a", intersperse "a", ":") | map suffix "0" } | null;
abbrev script_40 : List Sentence
script_40 = run_statement (piped (text_word (10 ∷ []) ∷ exact_word 1 ∷ map_word (suffix (codes "a")) ∷ sequence_form (piped (map_word (prefix (34 ∷
    [])) ∷ take_word 1 ∷ []) ∷ piped (zip_source_form (codes ":") (intersperse_word (codes "a")) (intersperse_word (codes "a")) ∷ map_word (suffix
    (codes "0")) ∷ []) ∷ []) ∷ null_word ∷ [])) ∷ []

script_40_answer : verdict script_40 ≡ refused OpenEnd 1 11
unfolding chars
script_40_answer = verdict_is script_40

-- run mark "m2" { sourceFile "c" |= split "1" 5 } | flat | headE;
abbrev script_41 : List Sentence
script_41 = run_statement (piped (mark_form (codes "m2") (piped_keep (source_file_word (codes "c") ∷ split_word 49 5 ∷ [])) ∷ flat_word ∷ head_e ∷
    [])) ∷ []

script_41_answer : verdict script_41 ≡ refused NotInvertible 1 4
script_41_answer = verdict_is script_41

-- run (sourceFile "a" | exactlyE 5 { utf8 }) | filterE below 256 | { utf8Encode; { mapE rot13 } |= utf8Encode; utf8Encode } | ((takeWhileE upper | takeWhileE not alnum) | (split "1" 2 | length));
abbrev script_42 : List Sentence
script_42 = run_statement (piped (piped (source_file_word (codes "a") ∷ exactly_e_form 5 utf8_word ∷ []) ∷ filter_e (below 256) ∷ sequence_form
    (utf8_encode_word ∷ piped_keep (sequence_form (map_e rot13 ∷ []) ∷ utf8_encode_word ∷ []) ∷ utf8_encode_word ∷ []) ∷ piped (piped (take_while_e
    upper ∷ take_while_e (not_class alnum) ∷ []) ∷ piped (split_word 49 2 ∷ length_word ∷ []) ∷ []) ∷ [])) ∷ []

script_42_answer : verdict script_42 ≡ refused NotInvertible 1 10
script_42_answer = verdict_is script_42

-- let s0 = seal sourceFile "c";
-- run bytes "\n" | takeE 0 | ((mapE rot13 |= base64Encode) | split "\r" 3) | (pass | (flat |& lastE));
-- feed s0 | exactlyE 2 { sinkNull };
-- run (stdin | filterE upper) | lengthE;
-- feed s0 | exactlyE 2 { (repeatE 1 | lastE) };
abbrev script_43 : List Sentence
script_43 = let_statement (codes "s0") (source_file_word (codes "c")) ∷ run_statement (piped (bytes_word (10 ∷ []) ∷ take_e 0 ∷ piped (piped_keep
    (map_e rot13 ∷ base64_encode_word ∷ []) ∷ split_word 13 3 ∷ []) ∷ piped (pass_word ∷ piped_both (flat_word ∷ last_e ∷ []) ∷ []) ∷ [])) ∷
    feed_statement (codes "s0") (exactly_e_form 2 sink_null) ∷ run_statement (piped (piped (stdin_word ∷ filter_e upper ∷ []) ∷ length_e ∷ [])) ∷
    feed_statement (codes "s0") (exactly_e_form 2 (piped (repeat_e 1 ∷ last_e ∷ []))) ∷ []

script_43_answer : verdict script_43 ≡ passed ((Reads (codes "c")) ∷ ReadsInput ∷ []) 7
script_43_answer = verdict_is script_43

script_43_names : names script_43 ≡ counted 1 0
script_43_names = names_are script_43

-- run zipSource((sourceFile "a" | takeE 1) | lines 9, { sourceFile "d"; sourceFile "d" } | zipConduit(lines 9, passE), "€") | collect 50;
abbrev script_44 : List Sentence
script_44 = run_statement (piped (zip_source_form (226 ∷ 130 ∷ 172 ∷ []) (piped (piped (source_file_word (codes "a") ∷ take_e 1 ∷ []) ∷ lines_word 9 ∷
    [])) (piped (sequence_form (source_file_word (codes "d") ∷ source_file_word (codes "d") ∷ []) ∷ zip_conduit_form (lines_word 9) pass_e ∷ [])) ∷
    collect_word 50 ∷ [])) ∷ []

script_44_answer : verdict script_44 ≡ refused SeesChunks 1 12
unfolding chars
script_44_answer = verdict_is script_44

-- run zipSource(sourceFile "c" | lines 9, sourceFile "d" | lines 9, "\n") | ((take 1 | pass) |< (filter empty | drop 3));
abbrev script_45 : List Sentence
script_45 = run_statement (piped (zip_source_form (10 ∷ []) (piped (source_file_word (codes "c") ∷ lines_word 9 ∷ [])) (piped (source_file_word (codes
    "d") ∷ lines_word 9 ∷ [])) ∷ piped_up (piped (take_word 1 ∷ pass_word ∷ []) ∷ piped (filter_word empty ∷ drop_word 3 ∷ []) ∷ []) ∷ [])) ∷ []

script_45_answer : verdict script_45 ≡ passed ((Reads (codes "c")) ∷ (Reads (codes "d")) ∷ []) 28
unfolding chars
script_45_answer = verdict_is script_45

-- run { stdin; sourceFile "a" | takeE 3 } | split "\n" 4 | exactly 3 { zipSink(exactlyE 2 { collect 5 }, collect 50) };
abbrev script_46 : List Sentence
script_46 = run_statement (piped (sequence_form (stdin_word ∷ piped (source_file_word (codes "a") ∷ take_e 3 ∷ []) ∷ []) ∷ split_word 10 4 ∷
    exactly_form 3 (zip_sink_form (exactly_e_form 2 (collect_word 5)) (collect_word 50)) ∷ [])) ∷ []

script_46_answer : verdict script_46 ≡ refused NeedsElements 1 10
script_46_answer = verdict_is script_46

-- run { zipSource((sourceFile "a" | takeWhileE not alnum) | lines 9, sourceFile "a" | lines 9, "") } | map suffix "\r" | length;
abbrev script_48 : List Sentence
script_48 = run_statement (piped (sequence_form (zip_source_form [] (piped (piped (source_file_word (codes "a") ∷ take_while_e (not_class alnum) ∷ [])
    ∷ lines_word 9 ∷ [])) (piped (source_file_word (codes "a") ∷ lines_word 9 ∷ [])) ∷ []) ∷ map_word (suffix (13 ∷ [])) ∷ length_word ∷ [])) ∷ []

script_48_answer : verdict script_48 ≡ passed ((Reads (codes "a")) ∷ (Reads (codes "a")) ∷ []) 28
unfolding chars
script_48_answer = verdict_is script_48

-- run sourceFile "c" | utf8Lenient | nullE;
-- let s0 = seal mark "m1" { range 1 4 };
-- close s0 | (map prefix "€,€" |= intersperse "ab") | exactly 2 { drop 3 };
-- run sourceFile "b" | mapE add 1 | { collectE 50; chunksOf 1 | sinkNull };
abbrev script_49 : List Sentence
script_49 = run_statement (piped (source_file_word (codes "c") ∷ utf8_lenient_word ∷ null_e ∷ [])) ∷ let_statement (codes "s0") (mark_form (codes
    "m1") (range_word 1 4)) ∷ close_statement (codes "s0") (piped (piped_keep (map_word (prefix (226 ∷ 130 ∷ 172 ∷ 44 ∷ 226 ∷ 130 ∷ 172 ∷ [])) ∷
    intersperse_word (codes "ab") ∷ []) ∷ exactly_form 2 (drop_word 3) ∷ [])) ∷ run_statement (piped (source_file_word (codes "b") ∷ map_e (add 1) ∷
    sequence_form (collect_e 50 ∷ piped (chunks_of_word 1 ∷ sink_null ∷ []) ∷ []) ∷ [])) ∷ []

script_49_answer : verdict script_49 ≡ passed ((Reads (codes "c")) ∷ (Marks (codes "m1")) ∷ (Reads (codes "b")) ∷ []) 54
unfolding chars
script_49_answer = verdict_is script_49

script_49_names : names script_49 ≡ counted 1 0
script_49_names = names_are script_49
