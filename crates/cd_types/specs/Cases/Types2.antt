-- Cases of tools/cases/types.jsonl, written by tools/type_cases.py: the number in a name is the line of the case.
use Rattle.std.specs.Prelude.{List, [], ◌∷◌, ◌≡◌, codes}
use Rattle.std.specs.Str.{chars}
use Rattle.cd_meaning.specs.Places.{Reads, ReadsInput, Writes, WritesOutput, Marks}
use Rattle.cd_meaning.specs.Rows.Trees.{Sentence}
use Rattle.cd_meaning.specs.Rows.Short.{pass_e, take_e, take_while_e, filter_e, map_e, repeat_e, drop_e, drop_while_e, head_e, peek_e, last_e, length_e, sum_e, all_e, any_e, null_e, collect_e, sink_null, pass_word, take_word, take_while_word, filter_word, repeat_word, map_word, intersperse_word, drop_word, drop_while_word, head_word, peek_word, last_word, length_word, null_word, collect_word, lines_word, split_word, exact_word, chunks_of_word, flat_word, unlines_word, utf8_word, utf8_lenient_word, utf8_encode_word, hex_encode_word, hex_decode_word, base64_encode_word, base64_decode_word, source_file_word, stdin_word, bytes_word, text_word, blocks_word, texts_word, replicate_word, range_word, sink_file_word, stdout_word, digit, upper, lower, alpha, alnum, hexdigit, space, newline, is_scalar, below, empty, begins, ends, shorter, xor, add, rot13, prefix, suffix, reversed, not_class, not_test, piped, piped_keep, piped_return, piped_both, piped_up, piped_asked, exactly_form, exactly_e_form, line_e_form, mark_form, tee_form, zip_source_form, zip_sink_form, zip_conduit_form, sequence_form, run_statement, let_statement, feed_statement, close_statement, hold_statement, release_statement}
use Rattle.cd_types.specs.declared.refusal.RefusalKind.TheVariants.{KindMismatch, SeesChunks, NeedsElements, NotInvertible, Seal, ResultLost, OpenEnd}
use Rattle.cd_types.specs.Rows.Trees.{verdict, verdict_is, refused, passed, names, names_are, counted}

-- run tee(replicate 1099511627776 "a" |< unlines |< utf8 |< lineE { { lastE; filterE not newline } } |< lineE { dropWhileE not digit });
abbrev script_50 : List Sentence
script_50 = run_statement (tee_form (piped_up (replicate_word 1099511627776 (codes "a") ∷ unlines_word ∷ utf8_word ∷ line_e_form (sequence_form
    (last_e ∷ filter_e (not_class newline) ∷ [])) ∷ line_e_form (drop_while_e (not_class digit)) ∷ []))) ∷ []

script_50_answer : verdict script_50 ≡ refused OpenEnd 1 1
script_50_answer = verdict_is script_50

-- run { stdin | takeWhileE hexdigit; sourceFile "a" } | split "," 80 | zipSink(pass |< null, pass | drop 4);
abbrev script_51 : List Sentence
script_51 = run_statement (piped (sequence_form (piped (stdin_word ∷ take_while_e hexdigit ∷ []) ∷ source_file_word (codes "a") ∷ []) ∷ split_word 44
    80 ∷ zip_sink_form (piped_up (pass_word ∷ null_word ∷ [])) (piped (pass_word ∷ drop_word 4 ∷ [])) ∷ [])) ∷ []

script_51_answer : verdict script_51 ≡ refused ResultLost 1 11
script_51_answer = verdict_is script_51

-- run stdin |< (hexDecode | utf8Lenient) |< utf8Encode |< passE |< collectE 65536;
-- run exactly 2 { sourceFile "b" } | utf8Lenient | collectE 4;
abbrev script_52 : List Sentence
script_52 = run_statement (piped_up (stdin_word ∷ piped (hex_decode_word ∷ utf8_lenient_word ∷ []) ∷ utf8_encode_word ∷ pass_e ∷ collect_e 65536 ∷
    [])) ∷ run_statement (piped (exactly_form 2 (source_file_word (codes "b")) ∷ utf8_lenient_word ∷ collect_e 4 ∷ [])) ∷ []

script_52_answer : verdict script_52 ≡ refused ResultLost 1 8
script_52_answer = verdict_is script_52

-- run (bytes "€" | utf8) | ((mapE rot13 |? utf8Encode) | utf8) | (utf8Encode | mapE xor 128) | exactlyE 5 { { sinkFile "x4"; sumE; sinkFile "x6" } };
abbrev script_54 : List Sentence
script_54 = run_statement (piped (piped (bytes_word (226 ∷ 130 ∷ 172 ∷ []) ∷ utf8_word ∷ []) ∷ piped (piped_asked (map_e rot13 ∷ utf8_encode_word ∷
    []) ∷ utf8_word ∷ []) ∷ piped (utf8_encode_word ∷ map_e (xor 128) ∷ []) ∷ exactly_e_form 5 (sequence_form (sink_file_word (codes "x4") ∷ sum_e ∷
    sink_file_word (codes "x6") ∷ [])) ∷ [])) ∷ []

script_54_answer : verdict script_54 ≡ refused ResultLost 1 6
script_54_answer = verdict_is script_54

-- let s0 = seal sourceFile "c" | takeWhileE alpha;
-- feed s0 | collectE 50;
-- feed s0 | lineE { (split "\r" 2 | { flat; flat }) | lengthE };
-- close s0 | sinkFile "x4";
abbrev script_55 : List Sentence
script_55 = let_statement (codes "s0") (piped (source_file_word (codes "c") ∷ take_while_e alpha ∷ [])) ∷ feed_statement (codes "s0") (collect_e 50) ∷
    feed_statement (codes "s0") (line_e_form (piped (piped (split_word 13 2 ∷ sequence_form (flat_word ∷ flat_word ∷ []) ∷ []) ∷ length_e ∷ []))) ∷
    close_statement (codes "s0") (sink_file_word (codes "x4")) ∷ []

script_55_answer : verdict script_55 ≡ passed ((Reads (codes "c")) ∷ (Writes (codes "x4")) ∷ []) 52
script_55_answer = verdict_is script_55

script_55_names : names script_55 ≡ counted 1 0
script_55_names = names_are script_55

-- run exactlyE 2 { sinkFile "c" } | split "," 3 | collect 50;
abbrev script_56 : List Sentence
script_56 = run_statement (piped (exactly_e_form 2 (sink_file_word (codes "c")) ∷ split_word 44 3 ∷ collect_word 50 ∷ [])) ∷ []

script_56_answer : verdict script_56 ≡ refused OpenEnd 1 2
script_56_answer = verdict_is script_56

-- run replicate 2 "aa" | intersperse "ab" | unlines | zipSource(utf8Lenient, length, ":") | lengthE;
abbrev script_57 : List Sentence
script_57 = run_statement (piped (replicate_word 2 (codes "aa") ∷ intersperse_word (codes "ab") ∷ unlines_word ∷ zip_source_form (codes ":")
    utf8_lenient_word length_word ∷ length_e ∷ [])) ∷ []

script_57_answer : verdict script_57 ≡ refused OpenEnd 1 6
unfolding chars
script_57_answer = verdict_is script_57

-- run sourceFile "b" | hexDecode | (mapE rot13 |= (takeWhileE hexdigit | zipSink(utf8Lenient, lengthE))) | zipConduit(collectE 50, pass);
abbrev script_59 : List Sentence
script_59 = run_statement (piped (source_file_word (codes "b") ∷ hex_decode_word ∷ piped_keep (map_e rot13 ∷ piped (take_while_e hexdigit ∷
    zip_sink_form utf8_lenient_word length_e ∷ []) ∷ []) ∷ zip_conduit_form (collect_e 50) pass_word ∷ [])) ∷ []

script_59_answer : verdict script_59 ≡ refused KindMismatch 1 9
script_59_answer = verdict_is script_59

-- run replicate 9 "a" | zipSink({ collect 16777216; head }, { dropWhile empty; collect 50; bytes "a" });
abbrev script_60 : List Sentence
script_60 = run_statement (piped (replicate_word 9 (codes "a") ∷ zip_sink_form (sequence_form (collect_word 16777216 ∷ head_word ∷ [])) (sequence_form
    (drop_while_word empty ∷ collect_word 50 ∷ bytes_word (codes "a") ∷ [])) ∷ [])) ∷ []

script_60_answer : verdict script_60 ≡ refused KindMismatch 1 7
script_60_answer = verdict_is script_60

-- run sourceFile "a" | repeatE 1 | base64Decode | (mapE rot13 | dropE 2);
-- run mark "m2" { zipSource(exactly 2 { sourceFile "c" } | lines 9, sourceFile "d" | lines 9, "\\") } | flat | stdout;
abbrev script_61 : List Sentence
script_61 = run_statement (piped (source_file_word (codes "a") ∷ repeat_e 1 ∷ base64_decode_word ∷ piped (map_e rot13 ∷ drop_e 2 ∷ []) ∷ [])) ∷
    run_statement (piped (mark_form (codes "m2") (zip_source_form (92 ∷ []) (piped (exactly_form 2 (source_file_word (codes "c")) ∷ lines_word 9 ∷
    [])) (piped (source_file_word (codes "d") ∷ lines_word 9 ∷ []))) ∷ flat_word ∷ stdout_word ∷ [])) ∷ []

script_61_answer : verdict script_61 ≡ refused OpenEnd 2 5
unfolding chars
script_61_answer = verdict_is script_61

-- let s0 = seal utf8Encode | utf8;
-- feed s0 | exactlyE 2 { exactlyE 3 { takeE 9 } |& (utf8Encode |? collectE 50) };
-- run zipSource(sourceFile "c" | lines 9, range 0 1 | intersperse "a", "\"") | ((pass | flat) | passE) | chunksOf 80 | repeat 2 | collect 50;
abbrev script_62 : List Sentence
script_62 = let_statement (codes "s0") (piped (utf8_encode_word ∷ utf8_word ∷ [])) ∷ feed_statement (codes "s0") (exactly_e_form 2 (piped_both
    (exactly_e_form 3 (take_e 9) ∷ piped_asked (utf8_encode_word ∷ collect_e 50 ∷ []) ∷ []))) ∷ run_statement (piped (zip_source_form (34 ∷ []) (piped
    (source_file_word (codes "c") ∷ lines_word 9 ∷ [])) (piped (range_word 0 1 ∷ intersperse_word (codes "a") ∷ [])) ∷ piped (piped (pass_word ∷
    flat_word ∷ []) ∷ pass_e ∷ []) ∷ chunks_of_word 80 ∷ repeat_word 2 ∷ collect_word 50 ∷ [])) ∷ []

script_62_answer : verdict script_62 ≡ refused OpenEnd 1 2
unfolding chars
script_62_answer = verdict_is script_62

-- run mark "m1" { zipSource(stdin | lines 9, sourceFile "c" | lines 9, "\r") } | (unlines | { filterE is "a"; hexEncode }) | exactlyE 9 { (passE | takeE 3) } | split "\n" 1 | dropWhile begins "😀";
abbrev script_63 : List Sentence
script_63 = run_statement (piped (mark_form (codes "m1") (zip_source_form (13 ∷ []) (piped (stdin_word ∷ lines_word 9 ∷ [])) (piped (source_file_word
    (codes "c") ∷ lines_word 9 ∷ []))) ∷ piped (unlines_word ∷ sequence_form (filter_e (is_scalar 97) ∷ hex_encode_word ∷ []) ∷ []) ∷ exactly_e_form 9
    (piped (pass_e ∷ take_e 3 ∷ [])) ∷ split_word 10 1 ∷ drop_while_word (begins (240 ∷ 159 ∷ 152 ∷ 128 ∷ [])) ∷ [])) ∷ []

script_63_answer : verdict script_63 ≡ passed ((Marks (codes "m1")) ∷ ReadsInput ∷ (Reads (codes "c")) ∷ []) 29
unfolding chars
script_63_answer = verdict_is script_63

-- run stdin | lines 1 | { collectE 50; lines 4 } | length;
abbrev script_65 : List Sentence
script_65 = run_statement (piped (stdin_word ∷ lines_word 1 ∷ sequence_form (collect_e 50 ∷ lines_word 4 ∷ []) ∷ length_word ∷ [])) ∷ []

script_65_answer : verdict script_65 ≡ refused NeedsElements 1 5
script_65_answer = verdict_is script_65

-- run range 8 20 | ({ exactlyE 2 { flat }; flat; unlines } | utf8Lenient) | exactlyE 2 { mark "m1" { utf8Encode | sinkNull } };
abbrev script_66 : List Sentence
script_66 = run_statement (piped (range_word 8 20 ∷ piped (sequence_form (exactly_e_form 2 flat_word ∷ flat_word ∷ unlines_word ∷ []) ∷
    utf8_lenient_word ∷ []) ∷ exactly_e_form 2 (mark_form (codes "m1") (piped (utf8_encode_word ∷ sink_null ∷ []))) ∷ [])) ∷ []

script_66_answer : verdict script_66 ≡ refused NeedsElements 1 5
script_66_answer = verdict_is script_66

-- run zipConduit(sourceFile "c" | (mapE add 32 |= tee(split "a" 80)) | sinkNull, passE);
abbrev script_67 : List Sentence
script_67 = run_statement (zip_conduit_form (piped (source_file_word (codes "c") ∷ piped_keep (map_e (add 32) ∷ tee_form (split_word 97 80) ∷ []) ∷
    sink_null ∷ [])) pass_e) ∷ []

script_67_answer : verdict script_67 ≡ refused OpenEnd 1 1
script_67_answer = verdict_is script_67

-- run mark "m1" { sourceFile "c" } | { split "\n" 4; lines 2 |& sinkNull; exact 5 } | last | split "," 2 | exactly 18446744073709551615 { repeat 3 |+ last };
abbrev script_68 : List Sentence
script_68 = run_statement (piped (mark_form (codes "m1") (source_file_word (codes "c")) ∷ sequence_form (split_word 10 4 ∷ piped_both (lines_word 2 ∷
    sink_null ∷ []) ∷ exact_word 5 ∷ []) ∷ last_word ∷ split_word 44 2 ∷ exactly_form 18446744073709551615 (piped_return (repeat_word 3 ∷ last_word ∷
    [])) ∷ [])) ∷ []

script_68_answer : verdict script_68 ≡ refused ResultLost 1 10
script_68_answer = verdict_is script_68

-- run sourceFile "c" | utf8Lenient | lengthE;
-- run sourceFile "d" | lineE { chunksOf 4 } | intersperse "😀" | map suffix "0" | headE;
-- run blocks ["ab"] | drop 3;
-- run sourceFile "c" | lineE { lines 1 } | repeat 1 | ((map prefix "x\n" |= takeWhile empty) | last);
abbrev script_69 : List Sentence
script_69 = run_statement (piped (source_file_word (codes "c") ∷ utf8_lenient_word ∷ length_e ∷ [])) ∷ run_statement (piped (source_file_word (codes
    "d") ∷ line_e_form (chunks_of_word 4) ∷ intersperse_word (240 ∷ 159 ∷ 152 ∷ 128 ∷ []) ∷ map_word (suffix (codes "0")) ∷ head_e ∷ [])) ∷
    run_statement (piped (blocks_word ((codes "ab") ∷ []) ∷ drop_word 3 ∷ [])) ∷ run_statement (piped (source_file_word (codes "c") ∷ line_e_form
    (lines_word 1) ∷ repeat_word 1 ∷ piped (piped_keep (map_word (prefix (120 ∷ 10 ∷ [])) ∷ take_while_word empty ∷ []) ∷ last_word ∷ []) ∷ [])) ∷ []

script_69_answer : verdict script_69 ≡ refused NeedsElements 2 7
unfolding chars
script_69_answer = verdict_is script_69

-- let s0 = seal text "\\ab\r" | (passE | utf8Encode);
-- run sourceFile "b" | ({ stdout; base64Decode } | takeE 5) | allE not below 98;
-- run sourceFile "c" | utf8 | zipSink(dropE 1, exactlyE 5 { lengthE });
abbrev script_70 : List Sentence
script_70 = let_statement (codes "s0") (piped (text_word (92 ∷ 97 ∷ 98 ∷ 13 ∷ []) ∷ piped (pass_e ∷ utf8_encode_word ∷ []) ∷ [])) ∷ run_statement
    (piped (source_file_word (codes "b") ∷ piped (sequence_form (stdout_word ∷ base64_decode_word ∷ []) ∷ take_e 5 ∷ []) ∷ all_e (not_class (below
    98)) ∷ [])) ∷ run_statement (piped (source_file_word (codes "c") ∷ utf8_word ∷ zip_sink_form (drop_e 1) (exactly_e_form 5 length_e) ∷ [])) ∷ []

script_70_answer : verdict script_70 ≡ passed ((Reads (codes "b")) ∷ WritesOutput ∷ (Reads (codes "c")) ∷ []) 6
script_70_answer = verdict_is script_70

script_70_names : names script_70 ≡ counted 1 0
script_70_names = names_are script_70

-- run sourceFile "b" | stdout;
-- run texts ["x\n", "0"] | mark "x" { flat } | collectE 50;
abbrev script_71 : List Sentence
script_71 = run_statement (piped (source_file_word (codes "b") ∷ stdout_word ∷ [])) ∷ run_statement (piped (texts_word ((120 ∷ 10 ∷ []) ∷ (codes "0")
    ∷ []) ∷ mark_form (codes "x") flat_word ∷ collect_e 50 ∷ [])) ∷ []

script_71_answer : verdict script_71 ≡ passed ((Reads (codes "b")) ∷ WritesOutput ∷ (Marks (codes "x")) ∷ []) 50
unfolding chars
script_71_answer = verdict_is script_71

-- run { stdin; { sourceFile "d"; sourceFile "b" } } | mapE rot13 | zipSink(peekE, zipSink(stdout, lengthE));
-- hold k4 = mark "m5";
-- run exactly 2 { (sourceFile "d" | repeatE 3) | sinkFile "x6" };
-- run sourceFile "c" | dropE 5;
abbrev script_73 : List Sentence
script_73 = run_statement (piped (sequence_form (stdin_word ∷ sequence_form (source_file_word (codes "d") ∷ source_file_word (codes "b") ∷ []) ∷ []) ∷
    map_e rot13 ∷ zip_sink_form peek_e (zip_sink_form stdout_word length_e) ∷ [])) ∷ hold_statement (codes "k4") (codes "m5") ∷ run_statement
    (exactly_form 2 (piped (piped (source_file_word (codes "d") ∷ repeat_e 3 ∷ []) ∷ sink_file_word (codes "x6") ∷ []))) ∷ run_statement (piped
    (source_file_word (codes "c") ∷ drop_e 5 ∷ [])) ∷ []

script_73_answer : verdict script_73 ≡ refused OpenEnd 3 1
script_73_answer = verdict_is script_73

-- let s0 = seal mark "m1" { sourceFile "b" } | base64Encode;
-- feed s0 | exactlyE 1 { (mapE xor 128 | lastE) };
-- close s0 | lineE { lengthE };
abbrev script_74 : List Sentence
script_74 = let_statement (codes "s0") (piped (mark_form (codes "m1") (source_file_word (codes "b")) ∷ base64_encode_word ∷ [])) ∷ feed_statement
    (codes "s0") (exactly_e_form 1 (piped (map_e (xor 128) ∷ last_e ∷ []))) ∷ close_statement (codes "s0") (line_e_form length_e) ∷ []

script_74_answer : verdict script_74 ≡ passed ((Marks (codes "m1")) ∷ (Reads (codes "b")) ∷ []) 3
script_74_answer = verdict_is script_74

script_74_names : names script_74 ≡ counted 1 0
script_74_names = names_are script_74

-- run zipSource((stdin | repeatE 0) | lines 9, flat | mark "m1" { sinkFile "b" } | lines 9, "\u{7f}") | { takeWhile empty; map reverse | pass } | zipSink(last, length);
-- run sourceFile "b" | takeE 3 | anyE upper;
abbrev script_75 : List Sentence
script_75 = run_statement (piped (zip_source_form (127 ∷ []) (piped (piped (stdin_word ∷ repeat_e 0 ∷ []) ∷ lines_word 9 ∷ [])) (piped (flat_word ∷
    mark_form (codes "m1") (sink_file_word (codes "b")) ∷ lines_word 9 ∷ [])) ∷ sequence_form (take_while_word empty ∷ piped (map_word reversed ∷
    pass_word ∷ []) ∷ []) ∷ zip_sink_form last_word length_word ∷ [])) ∷ run_statement (piped (source_file_word (codes "b") ∷ take_e 3 ∷ any_e upper ∷
    [])) ∷ []

script_75_answer : verdict script_75 ≡ refused OpenEnd 1 9
unfolding chars
script_75_answer = verdict_is script_75

-- run sourceFile "d" | utf8 | mark "m1" { split "-" 5 | drop 1 };
-- run texts ["\r", "é"] | { pass | (flat |& anyE not alpha) };
-- run sourceFile "a" | collect 2 | peek;
abbrev script_76 : List Sentence
script_76 = run_statement (piped (source_file_word (codes "d") ∷ utf8_word ∷ mark_form (codes "m1") (piped (split_word 45 5 ∷ drop_word 1 ∷ [])) ∷
    [])) ∷ run_statement (piped (texts_word ((13 ∷ []) ∷ (195 ∷ 169 ∷ []) ∷ []) ∷ sequence_form (piped (pass_word ∷ piped_both (flat_word ∷ any_e
    (not_class alpha) ∷ []) ∷ []) ∷ []) ∷ [])) ∷ run_statement (piped (source_file_word (codes "a") ∷ collect_word 2 ∷ peek_word ∷ [])) ∷ []

script_76_answer : verdict script_76 ≡ refused SeesChunks 3 3
unfolding chars
script_76_answer = verdict_is script_76

-- let s0 = seal text "b" | take 2;
-- run { sourceFile "b"; sourceFile "c" } | zipSink(repeatE 0 |& sinkFile "x1", filterE alpha | collectE 4);
-- feed s0 | exactlyE 9 { filterE digit | lengthE };
abbrev script_77 : List Sentence
script_77 = let_statement (codes "s0") (piped (text_word (codes "b") ∷ take_word 2 ∷ [])) ∷ run_statement (piped (sequence_form (source_file_word
    (codes "b") ∷ source_file_word (codes "c") ∷ []) ∷ zip_sink_form (piped_both (repeat_e 0 ∷ sink_file_word (codes "x1") ∷ [])) (piped (filter_e
    alpha ∷ collect_e 4 ∷ [])) ∷ [])) ∷ feed_statement (codes "s0") (exactly_e_form 9 (piped (filter_e digit ∷ length_e ∷ []))) ∷ []

script_77_answer : verdict script_77 ≡ refused SeesChunks 1 3
script_77_answer = verdict_is script_77

-- run sourceFile "c" | { stdout; { lengthE; dropWhileE below 9000 }; collect 16777216 };
abbrev script_84 : List Sentence
script_84 = run_statement (piped (source_file_word (codes "c") ∷ sequence_form (stdout_word ∷ sequence_form (length_e ∷ drop_while_e (below 9000) ∷
    []) ∷ collect_word 16777216 ∷ []) ∷ [])) ∷ []

script_84_answer : verdict script_84 ≡ refused SeesChunks 1 8
script_84_answer = verdict_is script_84

-- run (mark "m1" { sourceFile "a" } | mapE add 128) | zipSink(allE lower, pass);
abbrev script_86 : List Sentence
script_86 = run_statement (piped (piped (mark_form (codes "m1") (source_file_word (codes "a")) ∷ map_e (add 128) ∷ []) ∷ zip_sink_form (all_e lower)
    pass_word ∷ [])) ∷ []

script_86_answer : verdict script_86 ≡ refused SeesChunks 1 8
script_86_answer = verdict_is script_86

-- run sourceFile "d" | split "\r" 4 | (takeWhile begins "€" | map reverse) | collect 0;
-- run mark "m1" { sourceFile "a" } | filterE space | collectE 50;
abbrev script_87 : List Sentence
script_87 = run_statement (piped (source_file_word (codes "d") ∷ split_word 13 4 ∷ piped (take_while_word (begins (226 ∷ 130 ∷ 172 ∷ [])) ∷ map_word
    reversed ∷ []) ∷ collect_word 0 ∷ [])) ∷ run_statement (piped (mark_form (codes "m1") (source_file_word (codes "a")) ∷ filter_e space ∷ collect_e
    50 ∷ [])) ∷ []

script_87_answer : verdict script_87 ≡ passed ((Reads (codes "d")) ∷ (Marks (codes "m1")) ∷ (Reads (codes "a")) ∷ []) 54
script_87_answer = verdict_is script_87

-- run ((sourceFile "d" | chunksOf 1) | zipConduit(intersperse "", drop 3)) | exactly 2 { intersperse "-" } | unlines | exactlyE 2 { takeWhileE alpha } | nullE;
-- run sourceFile "missing" | collect 16777216 | { split "-" 2 | sinkNull };
-- run texts ["a"] | head;
abbrev script_89 : List Sentence
script_89 = run_statement (piped (piped (piped (source_file_word (codes "d") ∷ chunks_of_word 1 ∷ []) ∷ zip_conduit_form (intersperse_word [])
    (drop_word 3) ∷ []) ∷ exactly_form 2 (intersperse_word (codes "-")) ∷ unlines_word ∷ exactly_e_form 2 (take_while_e alpha) ∷ null_e ∷ [])) ∷
    run_statement (piped (source_file_word (codes "missing") ∷ collect_word 16777216 ∷ sequence_form (piped (split_word 45 2 ∷ sink_null ∷ []) ∷ []) ∷
    [])) ∷ run_statement (piped (texts_word ((codes "a") ∷ []) ∷ head_word ∷ [])) ∷ []

script_89_answer : verdict script_89 ≡ refused SeesChunks 2 3
unfolding chars
script_89_answer = verdict_is script_89

-- run sourceFile "c" | ({ mapE add 1; sinkNull; passE } | (takeWhileE not upper | flat | sinkFile "x2"));
abbrev script_90 : List Sentence
script_90 = run_statement (piped (source_file_word (codes "c") ∷ piped (sequence_form (map_e (add 1) ∷ sink_null ∷ pass_e ∷ []) ∷ piped (take_while_e
    (not_class upper) ∷ flat_word ∷ sink_file_word (codes "x2") ∷ []) ∷ []) ∷ [])) ∷ []

script_90_answer : verdict script_90 ≡ refused SeesChunks 1 10
script_90_answer = verdict_is script_90

-- run { (sourceFile "d" | lines 1); range 0 0 } | pass | repeat 2 | zipSink(exactly 3 { dropWhile not shorter 7 }, (map prefix "€" | dropWhile not empty));
abbrev script_91 : List Sentence
script_91 = run_statement (piped (sequence_form (piped (source_file_word (codes "d") ∷ lines_word 1 ∷ []) ∷ range_word 0 0 ∷ []) ∷ pass_word ∷
    repeat_word 2 ∷ zip_sink_form (exactly_form 3 (drop_while_word (not_test (shorter 7)))) (piped (map_word (prefix (226 ∷ 130 ∷ 172 ∷ [])) ∷
    drop_while_word (not_test empty) ∷ [])) ∷ [])) ∷ []

script_91_answer : verdict script_91 ≡ passed ((Reads (codes "d")) ∷ []) 1
unfolding chars
script_91_answer = verdict_is script_91

-- let s0 = seal mark "m1" { sourceFile "a" };
-- feed s0 | exactlyE 3 { mark "m2" { repeatE 3 } | (mapE xor 0 |< stdout) };
-- run sourceFile "c" | base64Decode | tee({ exactlyE 7 { lines 5 }; dropWhileE is "\n" } |& null);
abbrev script_94 : List Sentence
script_94 = let_statement (codes "s0") (mark_form (codes "m1") (source_file_word (codes "a"))) ∷ feed_statement (codes "s0") (exactly_e_form 3 (piped
    (mark_form (codes "m2") (repeat_e 3) ∷ piped_up (map_e (xor 0) ∷ stdout_word ∷ []) ∷ []))) ∷ run_statement (piped (source_file_word (codes "c") ∷
    base64_decode_word ∷ tee_form (piped_both (sequence_form (exactly_e_form 7 (lines_word 5) ∷ drop_while_e (is_scalar 10) ∷ []) ∷ null_word ∷ [])) ∷
    [])) ∷ []

script_94_answer : verdict script_94 ≡ refused SeesChunks 3 4
script_94_answer = verdict_is script_94

-- run zipSource(stdin | lines 9, (sinkFile "d" | hexEncode) | lines 9, "\r") | filter not begins "a" | repeat 50;
abbrev script_96 : List Sentence
script_96 = run_statement (piped (zip_source_form (13 ∷ []) (piped (stdin_word ∷ lines_word 9 ∷ [])) (piped (piped (sink_file_word (codes "d") ∷
    hex_encode_word ∷ []) ∷ lines_word 9 ∷ [])) ∷ filter_word (not_test (begins (codes "a"))) ∷ repeat_word 50 ∷ [])) ∷ []

script_96_answer : verdict script_96 ≡ refused OpenEnd 1 8
unfolding chars
script_96_answer = verdict_is script_96

-- let s0 = seal sourceFile "b";
-- let s0 = seal sourceFile "b";
-- run mark "m2" { stdin } | filterE below 9000 | mapE xor 128 | lineE { lines 5 } | length;
-- close s0 | (utf8 | takeE 2) | anyE alnum;
abbrev script_97 : List Sentence
script_97 = let_statement (codes "s0") (source_file_word (codes "b")) ∷ let_statement (codes "s0") (source_file_word (codes "b")) ∷ run_statement
    (piped (mark_form (codes "m2") stdin_word ∷ filter_e (below 9000) ∷ map_e (xor 128) ∷ line_e_form (lines_word 5) ∷ length_word ∷ [])) ∷
    close_statement (codes "s0") (piped (piped (utf8_word ∷ take_e 2 ∷ []) ∷ any_e alnum ∷ [])) ∷ []

script_97_answer : verdict script_97 ≡ refused Seal 2 0
script_97_answer = verdict_is script_97

-- run (zipSource(sourceFile "a" | lines 9, sourceFile "d" | lines 9, "é") | tee(dropWhile not empty)) | mark "m3" { pass } | map reverse | pass | collect 50;
-- run text "ab" |< zipConduit(mapE rot13, length) |< (filterE is "\n" | (mapE rot13 | { lengthE }));
abbrev script_104 : List Sentence
script_104 = run_statement (piped (piped (zip_source_form (195 ∷ 169 ∷ []) (piped (source_file_word (codes "a") ∷ lines_word 9 ∷ [])) (piped
    (source_file_word (codes "d") ∷ lines_word 9 ∷ [])) ∷ tee_form (drop_while_word (not_test empty)) ∷ []) ∷ mark_form (codes "m3") pass_word ∷
    map_word reversed ∷ pass_word ∷ collect_word 50 ∷ [])) ∷ run_statement (piped_up (text_word (codes "ab") ∷ zip_conduit_form (map_e rot13)
    length_word ∷ piped (filter_e (is_scalar 10) ∷ piped (map_e rot13 ∷ sequence_form (length_e ∷ []) ∷ []) ∷ []) ∷ [])) ∷ []

script_104_answer : verdict script_104 ≡ refused SeesChunks 2 3
unfolding chars
script_104_answer = verdict_is script_104

-- run sourceFile "b" | base64Encode | ((lines 8 |= flat) | zipSink(lengthE, nullE));
abbrev script_105 : List Sentence
script_105 = run_statement (piped (source_file_word (codes "b") ∷ base64_encode_word ∷ piped (piped_keep (lines_word 8 ∷ flat_word ∷ []) ∷
    zip_sink_form length_e null_e ∷ []) ∷ [])) ∷ []

script_105_answer : verdict script_105 ≡ refused NotInvertible 1 6
script_105_answer = verdict_is script_105

-- run zipSource(sourceFile "c" | lines 9, { stdin; sourceFile "a" } | lines 9, "\"") | (map reverse |= (zipSink(map prefix "\u{7f}", length) |= map reverse)) | drop 7;
abbrev script_106 : List Sentence
script_106 = run_statement (piped (zip_source_form (34 ∷ []) (piped (source_file_word (codes "c") ∷ lines_word 9 ∷ [])) (piped (sequence_form
    (stdin_word ∷ source_file_word (codes "a") ∷ []) ∷ lines_word 9 ∷ [])) ∷ piped_keep (map_word reversed ∷ piped_keep (zip_sink_form (map_word
    (prefix (127 ∷ []))) length_word ∷ map_word reversed ∷ []) ∷ []) ∷ drop_word 7 ∷ [])) ∷ []

script_106_answer : verdict script_106 ≡ refused KindMismatch 1 15
unfolding chars
script_106_answer = verdict_is script_106

-- run texts ["-", "-", "\\"] | ({ repeat 2; sinkNull; flat } |& zipSink(dropWhile begins "\u{7f}", sinkNull));
abbrev script_109 : List Sentence
script_109 = run_statement (piped (texts_word ((codes "-") ∷ (codes "-") ∷ (92 ∷ []) ∷ []) ∷ piped_both (sequence_form (repeat_word 2 ∷ sink_null ∷
    flat_word ∷ []) ∷ zip_sink_form (drop_while_word (begins (127 ∷ []))) sink_null ∷ []) ∷ [])) ∷ []

script_109_answer : verdict script_109 ≡ refused KindMismatch 1 7
unfolding chars
script_109_answer = verdict_is script_109

-- hold k0 = mark "m1";
-- release k0;
-- hold k1 = mark "m2";
-- release k1;
-- hold k2 = mark "m3";
abbrev script_114 : List Sentence
script_114 = hold_statement (codes "k0") (codes "m1") ∷ release_statement (codes "k0") ∷ hold_statement (codes "k1") (codes "m2") ∷ release_statement
    (codes "k1") ∷ hold_statement (codes "k2") (codes "m3") ∷ []

script_114_answer : verdict script_114 ≡ passed ((Marks (codes "m1")) ∷ (Marks (codes "m2")) ∷ (Marks (codes "m3")) ∷ []) 0
script_114_answer = verdict_is script_114

script_114_names : names script_114 ≡ counted 0 3
script_114_names = names_are script_114

-- let s0 = seal (sourceFile "d" | repeatE 1) | hexEncode;
-- run (sourceFile "d" |= mapE xor 255) | (headE | filterE is "\n" | exactlyE 2 { sinkFile "x1" });
-- close s0 | exactlyE 1 { sinkFile "x2" };
abbrev script_119 : List Sentence
script_119 = let_statement (codes "s0") (piped (piped (source_file_word (codes "d") ∷ repeat_e 1 ∷ []) ∷ hex_encode_word ∷ [])) ∷ run_statement (piped
    (piped_keep (source_file_word (codes "d") ∷ map_e (xor 255) ∷ []) ∷ piped (head_e ∷ filter_e (is_scalar 10) ∷ exactly_e_form 2 (sink_file_word
    (codes "x1")) ∷ []) ∷ [])) ∷ close_statement (codes "s0") (exactly_e_form 1 (sink_file_word (codes "x2"))) ∷ []

script_119_answer : verdict script_119 ≡ refused NotInvertible 2 3
script_119_answer = verdict_is script_119

-- run ((stdin | utf8Lenient) | takeWhileE space | mapE xor 1) | lineE { passE } | zipConduit(exactlyE 2 { peekE }, exactlyE 2 { peekE });
abbrev script_121 : List Sentence
script_121 = run_statement (piped (piped (piped (stdin_word ∷ utf8_lenient_word ∷ []) ∷ take_while_e space ∷ map_e (xor 1) ∷ []) ∷ line_e_form pass_e
    ∷ zip_conduit_form (exactly_e_form 2 peek_e) (exactly_e_form 2 peek_e) ∷ [])) ∷ []

script_121_answer : verdict script_121 ≡ refused KindMismatch 1 7
script_121_answer = verdict_is script_121

-- run blocks ["\"", ","] | collect 50;
-- run (text "x\n" | filterE not lower) | { mapE rot13; repeatE 3 } | lines 80 | last;
abbrev script_125 : List Sentence
script_125 = run_statement (piped (blocks_word ((34 ∷ []) ∷ (codes ",") ∷ []) ∷ collect_word 50 ∷ [])) ∷ run_statement (piped (piped (text_word (120 ∷
    10 ∷ []) ∷ filter_e (not_class lower) ∷ []) ∷ sequence_form (map_e rot13 ∷ repeat_e 3 ∷ []) ∷ lines_word 80 ∷ last_word ∷ [])) ∷ []

script_125_answer : verdict script_125 ≡ passed [] 261
script_125_answer = verdict_is script_125

-- run mark "x" { sourceFile "d" | passE | allE digit | zipConduit(exactlyE 9 { nullE }, length) };
abbrev script_127 : List Sentence
script_127 = run_statement (mark_form (codes "x") (piped (source_file_word (codes "d") ∷ pass_e ∷ all_e digit ∷ zip_conduit_form (exactly_e_form 9
    null_e) length_word ∷ []))) ∷ []

script_127_answer : verdict script_127 ≡ refused ResultLost 1 5
script_127_answer = verdict_is script_127

-- run mark "m1" { texts ["€", "😀", "ab"] } | (stdout |= map reverse |= { intersperse "" }) | collect 50;
abbrev script_128 : List Sentence
script_128 = run_statement (piped (mark_form (codes "m1") (texts_word ((226 ∷ 130 ∷ 172 ∷ []) ∷ (240 ∷ 159 ∷ 152 ∷ 128 ∷ []) ∷ (codes "ab") ∷ [])) ∷
    piped_keep (stdout_word ∷ map_word reversed ∷ sequence_form (intersperse_word [] ∷ []) ∷ []) ∷ collect_word 50 ∷ [])) ∷ []

script_128_answer : verdict script_128 ≡ refused NeedsElements 1 5
unfolding chars
script_128_answer = verdict_is script_128

-- run ((mark "m" { stdin } | zipSink(base64Encode, passE)) | base64Decode) | (mark "m1" { utf8 } | filterE not newline) | chunksOf 4 | collect 3;
-- run texts ["\"", "€\r\r"] | peek;
-- run sourceFile "c" | takeWhileE not is "1" | stdout;
-- hold k2 = mark "m3";
abbrev script_133 : List Sentence
script_133 = run_statement (piped (piped (piped (mark_form (codes "m") stdin_word ∷ zip_sink_form base64_encode_word pass_e ∷ []) ∷ base64_decode_word
    ∷ []) ∷ piped (mark_form (codes "m1") utf8_word ∷ filter_e (not_class newline) ∷ []) ∷ chunks_of_word 4 ∷ collect_word 3 ∷ [])) ∷ run_statement
    (piped (texts_word ((34 ∷ []) ∷ (226 ∷ 130 ∷ 172 ∷ 13 ∷ 13 ∷ []) ∷ []) ∷ peek_word ∷ [])) ∷ run_statement (piped (source_file_word (codes "c") ∷
    take_while_e (not_class (is_scalar 49)) ∷ stdout_word ∷ [])) ∷ hold_statement (codes "k2") (codes "m3") ∷ []

script_133_answer : verdict script_133 ≡ refused KindMismatch 1 7
unfolding chars
script_133_answer = verdict_is script_133

-- run sourceFile "a" |+ (mark "m1" { utf8 } | split "\n" 3) |+ take 7 |+ pass |+ { collect 9; zipSink(collect 50, collect 50); intersperse "\u{7f}" | collect 50 };
abbrev script_134 : List Sentence
script_134 = run_statement (piped_return (source_file_word (codes "a") ∷ piped (mark_form (codes "m1") utf8_word ∷ split_word 10 3 ∷ []) ∷ take_word 7
    ∷ pass_word ∷ sequence_form (collect_word 9 ∷ zip_sink_form (collect_word 50) (collect_word 50) ∷ piped (intersperse_word (127 ∷ []) ∷
    collect_word 50 ∷ []) ∷ []) ∷ [])) ∷ []

script_134_answer : verdict script_134 ≡ refused SeesChunks 1 2
unfolding chars
script_134_answer = verdict_is script_134

-- run mark "m5" { range 95 95 } | map suffix "é" | (takeWhile ends "\r" | (exactlyE 2 { map prefix "\r" } | { dropWhile not ends "é" }));
-- hold k5 = mark "m6";
abbrev script_137 : List Sentence
script_137 = run_statement (piped (mark_form (codes "m5") (range_word 95 95) ∷ map_word (suffix (195 ∷ 169 ∷ [])) ∷ piped (take_while_word (ends (13 ∷
    [])) ∷ piped (exactly_e_form 2 (map_word (prefix (13 ∷ []))) ∷ sequence_form (drop_while_word (not_test (ends (195 ∷ 169 ∷ []))) ∷ []) ∷ []) ∷ [])
    ∷ [])) ∷ hold_statement (codes "k5") (codes "m6") ∷ []

script_137_answer : verdict script_137 ≡ refused NeedsElements 1 8
unfolding chars
script_137_answer = verdict_is script_137
