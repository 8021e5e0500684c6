-- Cases of tools/cases/types.jsonl, written by tools/type_cases.py: the number in a name is the line of the case.
use Rattle.std.specs.Prelude.{List, [], ◌∷◌, ◌≡◌, codes}
use Rattle.std.specs.Str.{chars}
use Rattle.cd_meaning.specs.Rows.Trees.{Sentence}
use Rattle.cd_meaning.specs.Rows.Short.{pass_e, take_e, take_while_e, filter_e, map_e, repeat_e, drop_e, drop_while_e, head_e, peek_e, last_e, length_e, all_e, any_e, null_e, collect_e, sink_null, pass_word, take_word, take_while_word, filter_word, repeat_word, map_word, intersperse_word, drop_word, drop_while_word, head_word, peek_word, last_word, length_word, null_word, collect_word, lines_word, split_word, exact_word, chunks_of_word, flat_word, unlines_word, utf8_word, utf8_lenient_word, utf8_encode_word, base64_encode_word, base64_decode_word, source_file_word, stdin_word, bytes_word, text_word, blocks_word, texts_word, replicate_word, range_word, sink_file_word, stdout_word, digit, lower, alpha, alnum, hexdigit, space, newline, is_scalar, below, empty, begins, ends, shorter, add, rot13, prefix, suffix, reversed, not_class, not_test, piped, piped_keep, piped_return, piped_both, piped_asked, exactly_form, exactly_e_form, line_e_form, mark_form, zip_source_form, zip_sink_form, zip_conduit_form, sequence_form, run_statement, let_statement, feed_statement, close_statement, hold_statement, release_statement}
use Rattle.cd_types.specs.declared.refusal.RefusalKind.TheVariants.{DropsRest, NotInvertible, NameTwice, Seal, BoundTooLarge, Key}
use Rattle.cd_types.specs.Rows.Trees.{verdict, verdict_is, refused}

-- run mark "m1" { sourceFile "c" } | zipSink({ dropE 2; sinkFile "x3"; collectE 7 }, split "\n" 8 | dropWhile empty);
-- run mark "m1" { sourceFile "c" } | zipSink({ dropE 2; sinkFile "x3"; collectE 7 }, split "\n" 8 | dropWhile empty);
abbrev script_321 : List Sentence
script_321 = run_statement (piped (mark_form (codes "m1") (source_file_word (codes "c")) ∷ zip_sink_form (sequence_form (drop_e 2 ∷ sink_file_word
    (codes "x3") ∷ collect_e 7 ∷ [])) (piped (split_word 10 8 ∷ drop_while_word empty ∷ [])) ∷ [])) ∷ run_statement (piped (mark_form (codes "m1")
    (source_file_word (codes "c")) ∷ zip_sink_form (sequence_form (drop_e 2 ∷ sink_file_word (codes "x3") ∷ collect_e 7 ∷ [])) (piped (split_word 10 8
    ∷ drop_while_word empty ∷ [])) ∷ [])) ∷ []

script_321_answer : verdict script_321 ≡ refused NameTwice 2 2
script_321_answer = verdict_is script_321

-- run bytes "ab" | sinkFile "x1";
-- run bytes "ab" | sinkFile "x1";
abbrev script_322 : List Sentence
script_322 = run_statement (piped (bytes_word (codes "ab") ∷ sink_file_word (codes "x1") ∷ [])) ∷ run_statement (piped (bytes_word (codes "ab") ∷
    sink_file_word (codes "x1") ∷ [])) ∷ []

script_322_answer : verdict script_322 ≡ refused NameTwice 2 3
script_322_answer = verdict_is script_322

-- run stdin | exactlyE 2 { mapE add 0 } | zipSink(takeE 4 |= nullE, exactlyE 1 { peekE });
abbrev script_329 : List Sentence
script_329 = run_statement (piped (stdin_word ∷ exactly_e_form 2 (map_e (add 0)) ∷ zip_sink_form (piped_keep (take_e 4 ∷ null_e ∷ [])) (exactly_e_form
    1 peek_e) ∷ [])) ∷ []

script_329_answer : verdict script_329 ≡ refused NotInvertible 1 7
script_329_answer = verdict_is script_329

-- hold k0 = mark "m1";
-- hold k0 = mark "m1";
-- run stdin | utf8 | mapE rot13 | exactlyE 1 { utf8Encode | collectE 4 };
abbrev script_332 : List Sentence
script_332 = hold_statement (codes "k0") (codes "m1") ∷ hold_statement (codes "k0") (codes "m1") ∷ run_statement (piped (stdin_word ∷ utf8_word ∷
    map_e rot13 ∷ exactly_e_form 1 (piped (utf8_encode_word ∷ collect_e 4 ∷ [])) ∷ [])) ∷ []

script_332_answer : verdict script_332 ≡ refused NameTwice 2 0
script_332_answer = verdict_is script_332

-- let k1 = seal text "€";
-- run replicate 5 "a" | { takeWhile begins "x\n" | length };
-- let k1 = seal sourceFile "a";
-- close s1 | nullE;
-- close s0 | dropWhileE not below 48;
-- run sourceFile "b" | zipSink({ sinkFile "x9"; dropWhileE is "1" }, lines 3 | last);
abbrev script_336 : List Sentence
script_336 = let_statement (codes "k1") (text_word (226 ∷ 130 ∷ 172 ∷ [])) ∷ run_statement (piped (replicate_word 5 (codes "a") ∷ sequence_form (piped
    (take_while_word (begins (120 ∷ 10 ∷ [])) ∷ length_word ∷ []) ∷ []) ∷ [])) ∷ let_statement (codes "k1") (source_file_word (codes "a")) ∷
    close_statement (codes "s1") null_e ∷ close_statement (codes "s0") (drop_while_e (not_class (below 48))) ∷ run_statement (piped (source_file_word
    (codes "b") ∷ zip_sink_form (sequence_form (sink_file_word (codes "x9") ∷ drop_while_e (is_scalar 49) ∷ [])) (piped (lines_word 3 ∷ last_word ∷
    [])) ∷ [])) ∷ []

script_336_answer : verdict script_336 ≡ refused Seal 3 0
script_336_answer = verdict_is script_336

-- release k0;
-- run sourceFile "a" | (passE | stdout);
-- run range 8 9 | flat | mark "m4" { utf8Lenient } | lastE;
-- run sourceFile "c" | chunksOf 4 | map prefix "a" | (map suffix "" | peek);
abbrev script_338 : List Sentence
script_338 = release_statement (codes "k0") ∷ run_statement (piped (source_file_word (codes "a") ∷ piped (pass_e ∷ stdout_word ∷ []) ∷ [])) ∷
    run_statement (piped (range_word 8 9 ∷ flat_word ∷ mark_form (codes "m4") utf8_lenient_word ∷ last_e ∷ [])) ∷ run_statement (piped
    (source_file_word (codes "c") ∷ chunks_of_word 4 ∷ map_word (prefix (codes "a")) ∷ piped (map_word (suffix []) ∷ peek_word ∷ []) ∷ [])) ∷ []

script_338_answer : verdict script_338 ≡ refused Key 1 0
unfolding chars
script_338_answer = verdict_is script_338

-- run sourceFile "b" | mark "m1" { mark "a" { dropWhileE alnum } };
-- run sourceFile "b" | mark "m1" { mark "a" { dropWhileE alnum } };
abbrev script_341 : List Sentence
script_341 = run_statement (piped (source_file_word (codes "b") ∷ mark_form (codes "m1") (mark_form (codes "a") (drop_while_e alnum)) ∷ [])) ∷
    run_statement (piped (source_file_word (codes "b") ∷ mark_form (codes "m1") (mark_form (codes "a") (drop_while_e alnum)) ∷ [])) ∷ []

script_341_answer : verdict script_341 ≡ refused NameTwice 2 3
script_341_answer = verdict_is script_341

-- run mark "m2" { sourceFile "a" | takeE 2 } | takeE 4 | (lineE { repeatE 2 } | takeE 1) | exactlyE 2 { nullE };
-- run mark "m2" { sourceFile "a" | takeE 2 } | takeE 4 | (lineE { repeatE 2 } | takeE 1) | exactlyE 2 { nullE };
-- run text "" | split "\n" 2 | exact 4;
abbrev script_345 : List Sentence
script_345 = run_statement (piped (mark_form (codes "m2") (piped (source_file_word (codes "a") ∷ take_e 2 ∷ [])) ∷ take_e 4 ∷ piped (line_e_form
    (repeat_e 2) ∷ take_e 1 ∷ []) ∷ exactly_e_form 2 null_e ∷ [])) ∷ run_statement (piped (mark_form (codes "m2") (piped (source_file_word (codes "a")
    ∷ take_e 2 ∷ [])) ∷ take_e 4 ∷ piped (line_e_form (repeat_e 2) ∷ take_e 1 ∷ []) ∷ exactly_e_form 2 null_e ∷ [])) ∷ run_statement (piped (text_word
    [] ∷ split_word 10 2 ∷ exact_word 4 ∷ [])) ∷ []

script_345_answer : verdict script_345 ≡ refused NameTwice 2 2
script_345_answer = verdict_is script_345

-- let s0 = seal bytes "\r\rab" | mapE rot13;
-- let s0 = seal bytes "\r\rab" | mapE rot13;
-- close s0 | lineE { split "," 8 | dropWhile shorter 4 };
-- run mark "m1" { sourceFile "d" } | split "a" 8 | (intersperse "\u{7f}0b" |+ head);
abbrev script_351 : List Sentence
script_351 = let_statement (codes "s0") (piped (bytes_word (13 ∷ 13 ∷ 97 ∷ 98 ∷ []) ∷ map_e rot13 ∷ [])) ∷ let_statement (codes "s0") (piped
    (bytes_word (13 ∷ 13 ∷ 97 ∷ 98 ∷ []) ∷ map_e rot13 ∷ [])) ∷ close_statement (codes "s0") (line_e_form (piped (split_word 44 8 ∷ drop_while_word
    (shorter 4) ∷ []))) ∷ run_statement (piped (mark_form (codes "m1") (source_file_word (codes "d")) ∷ split_word 97 8 ∷ piped_return
    (intersperse_word (127 ∷ 48 ∷ 98 ∷ []) ∷ head_word ∷ []) ∷ [])) ∷ []

script_351_answer : verdict script_351 ≡ refused Seal 2 0
unfolding chars
script_351_answer = verdict_is script_351

-- let s0 = seal text "\r";
-- let s0 = seal text "\r";
-- feed s0 | exactlyE 2 { mark "a" { allE not newline } };
-- run sourceFile "d" | filterE below 9000 | sinkNull | peekE;
abbrev script_371 : List Sentence
script_371 = let_statement (codes "s0") (text_word (13 ∷ [])) ∷ let_statement (codes "s0") (text_word (13 ∷ [])) ∷ feed_statement (codes "s0")
    (exactly_e_form 2 (mark_form (codes "a") (all_e (not_class newline)))) ∷ run_statement (piped (source_file_word (codes "d") ∷ filter_e (below
    9000) ∷ sink_null ∷ peek_e ∷ [])) ∷ []

script_371_answer : verdict script_371 ≡ refused Seal 2 0
script_371_answer = verdict_is script_371

-- let s0 = seal texts ["-", "aa", "ab", ""];
-- hold k1 = mark "m1";
-- run text "\r" | lineE { passE } | exactlyE 2 { dropE 2 };
-- hold k1 = mark "m2";
abbrev script_396 : List Sentence
script_396 = let_statement (codes "s0") (texts_word ((codes "-") ∷ (codes "aa") ∷ (codes "ab") ∷ [] ∷ [])) ∷ hold_statement (codes "k1") (codes "m1")
    ∷ run_statement (piped (text_word (13 ∷ []) ∷ line_e_form pass_e ∷ exactly_e_form 2 (drop_e 2) ∷ [])) ∷ hold_statement (codes "k1") (codes "m2") ∷
    []

script_396_answer : verdict script_396 ≡ refused Key 4 0
unfolding chars
script_396_answer = verdict_is script_396

-- let s0 = seal sourceFile "a";
-- let s0 = seal sourceFile "a";
-- run sourceFile "d" | anyE lower;
-- close s0 | exactlyE 3 { takeE 5 | exactlyE 2 { takeE 4 | collectE 50 } };
abbrev script_434 : List Sentence
script_434 = let_statement (codes "s0") (source_file_word (codes "a")) ∷ let_statement (codes "s0") (source_file_word (codes "a")) ∷ run_statement
    (piped (source_file_word (codes "d") ∷ any_e lower ∷ [])) ∷ close_statement (codes "s0") (exactly_e_form 3 (piped (take_e 5 ∷ exactly_e_form 2
    (piped (take_e 4 ∷ collect_e 50 ∷ [])) ∷ []))) ∷ []

script_434_answer : verdict script_434 ≡ refused Seal 2 0
script_434_answer = verdict_is script_434

-- hold s0 = mark "m2";
-- hold s0 = mark "m1";
abbrev script_436 : List Sentence
script_436 = hold_statement (codes "s0") (codes "m2") ∷ hold_statement (codes "s0") (codes "m1") ∷ []

script_436_answer : verdict script_436 ≡ refused Key 2 0
script_436_answer = verdict_is script_436

-- run sourceFile "b" | base64Encode | { lines 3 | dropWhile ends "\"aaé"; flat };
abbrev script_471 : List Sentence
script_471 = run_statement (piped (source_file_word (codes "b") ∷ base64_encode_word ∷ sequence_form (piped (lines_word 3 ∷ drop_while_word (ends (34
    ∷ 97 ∷ 97 ∷ 195 ∷ 169 ∷ [])) ∷ []) ∷ flat_word ∷ []) ∷ [])) ∷ []

script_471_answer : verdict script_471 ≡ refused DropsRest 1 5
script_471_answer = verdict_is script_471

-- let k0 = seal replicate 0 "b" | takeWhile not empty;
-- run (stdin | passE) | utf8 | lines 3 | peek;
-- feed s0 | intersperse "😀" | zipSink(zipSink(last, dropWhile begins "x\n"), dropWhile begins "-");
abbrev script_473 : List Sentence
script_473 = let_statement (codes "k0") (piped (replicate_word 0 (codes "b") ∷ take_while_word (not_test empty) ∷ [])) ∷ run_statement (piped (piped
    (stdin_word ∷ pass_e ∷ []) ∷ utf8_word ∷ lines_word 3 ∷ peek_word ∷ [])) ∷ feed_statement (codes "s0") (piped (intersperse_word (240 ∷ 159 ∷ 152 ∷
    128 ∷ []) ∷ zip_sink_form (zip_sink_form last_word (drop_while_word (begins (120 ∷ 10 ∷ [])))) (drop_while_word (begins (codes "-"))) ∷ [])) ∷ []

script_473_answer : verdict script_473 ≡ refused Seal 3 0
unfolding chars
script_473_answer = verdict_is script_473

-- let k1 = seal sourceFile "b";
-- close s0 | zipSink(takeE 3 |& collectE 50, utf8Lenient | headE);
-- run { sourceFile "a"; bytes "😀" } | utf8 | nullE;
abbrev script_497 : List Sentence
script_497 = let_statement (codes "k1") (source_file_word (codes "b")) ∷ close_statement (codes "s0") (zip_sink_form (piped_both (take_e 3 ∷ collect_e
    50 ∷ [])) (piped (utf8_lenient_word ∷ head_e ∷ []))) ∷ run_statement (piped (sequence_form (source_file_word (codes "a") ∷ bytes_word (240 ∷ 159 ∷
    152 ∷ 128 ∷ []) ∷ []) ∷ utf8_word ∷ null_e ∷ [])) ∷ []

script_497_answer : verdict script_497 ≡ refused Seal 2 0
script_497_answer = verdict_is script_497

-- hold k0 = mark "m1";
-- release k0;
-- release k0;
-- run mark "m2" { zipSource(sourceFile "d" | lines 9, sourceFile "d" | lines 9, "aa") } | intersperse "😀" | map reverse | (unlines | repeatE 1) | sinkFile "x3";
-- run stdin | (takeWhileE below 65 | repeatE 3) | peekE;
abbrev script_498 : List Sentence
script_498 = hold_statement (codes "k0") (codes "m1") ∷ release_statement (codes "k0") ∷ release_statement (codes "k0") ∷ run_statement (piped
    (mark_form (codes "m2") (zip_source_form (codes "aa") (piped (source_file_word (codes "d") ∷ lines_word 9 ∷ [])) (piped (source_file_word (codes
    "d") ∷ lines_word 9 ∷ []))) ∷ intersperse_word (240 ∷ 159 ∷ 152 ∷ 128 ∷ []) ∷ map_word reversed ∷ piped (unlines_word ∷ repeat_e 1 ∷ []) ∷
    sink_file_word (codes "x3") ∷ [])) ∷ run_statement (piped (stdin_word ∷ piped (take_while_e (below 65) ∷ repeat_e 3 ∷ []) ∷ peek_e ∷ [])) ∷ []

script_498_answer : verdict script_498 ≡ refused Key 3 0
unfolding chars
script_498_answer = verdict_is script_498

-- close s0 | lastE;
-- let s0 = seal sourceFile "b";
abbrev script_500 : List Sentence
script_500 = close_statement (codes "s0") last_e ∷ let_statement (codes "s0") (source_file_word (codes "b")) ∷ []

script_500_answer : verdict script_500 ≡ refused Seal 1 0
script_500_answer = verdict_is script_500

-- feed s0 | exactlyE 1 { lines 1 |+ { sinkNull; dropWhile not ends "\u{7f}" } };
-- close s0 | lineE { dropWhileE not lower };
abbrev script_502 : List Sentence
script_502 = feed_statement (codes "s0") (exactly_e_form 1 (piped_return (lines_word 1 ∷ sequence_form (sink_null ∷ drop_while_word (not_test (ends
    (127 ∷ []))) ∷ []) ∷ []))) ∷ close_statement (codes "s0") (line_e_form (drop_while_e (not_class lower))) ∷ []

script_502_answer : verdict script_502 ≡ refused Seal 1 0
script_502_answer = verdict_is script_502

-- let s0 = seal sourceFile "b" | takeE 1;
-- feed s0 | exactlyE 3 { filterE is "-" | split "-" 3 } | sinkNull;
-- run stdin | mapE rot13 | filterE not alpha | zipSink(zipConduit(lengthE, zipSink(pass, length)), zipSink(stdout, dropWhileE not below 98));
abbrev script_503 : List Sentence
script_503 = let_statement (codes "s0") (piped (source_file_word (codes "b") ∷ take_e 1 ∷ [])) ∷ feed_statement (codes "s0") (piped (exactly_e_form 3
    (piped (filter_e (is_scalar 45) ∷ split_word 45 3 ∷ [])) ∷ sink_null ∷ [])) ∷ run_statement (piped (stdin_word ∷ map_e rot13 ∷ filter_e (not_class
    alpha) ∷ zip_sink_form (zip_conduit_form length_e (zip_sink_form pass_word length_word)) (zip_sink_form stdout_word (drop_while_e (not_class
    (below 98)))) ∷ [])) ∷ []

script_503_answer : verdict script_503 ≡ refused DropsRest 2 1
script_503_answer = verdict_is script_503

-- let s0 = seal zipSource(replicate 5 ",", blocks [",x\n"], "\naa");
-- close s0 | { pass; takeWhile ends "0" } |+ exactly 4 { drop 1 };
-- feed s0 | { exactly 3 { length }; map prefix "x\n" |& length };
-- feed s0 | repeat 0 | { zipSink(collect 3, peek) };
abbrev script_510 : List Sentence
script_510 = let_statement (codes "s0") (zip_source_form (10 ∷ 97 ∷ 97 ∷ []) (replicate_word 5 (codes ",")) (blocks_word ((44 ∷ 120 ∷ 10 ∷ []) ∷ [])))
    ∷ close_statement (codes "s0") (piped_return (sequence_form (pass_word ∷ take_while_word (ends (codes "0")) ∷ []) ∷ exactly_form 4 (drop_word 1) ∷
    [])) ∷ feed_statement (codes "s0") (sequence_form (exactly_form 3 length_word ∷ piped_both (map_word (prefix (120 ∷ 10 ∷ [])) ∷ length_word ∷ [])
    ∷ [])) ∷ feed_statement (codes "s0") (piped (repeat_word 0 ∷ sequence_form (zip_sink_form (collect_word 3) peek_word ∷ []) ∷ [])) ∷ []

script_510_answer : verdict script_510 ≡ refused Seal 3 0
unfolding chars
script_510_answer = verdict_is script_510

-- release k0;
-- hold k0 = mark "m1";
-- run stdin | lines 2 | { { last }; zipSink(null, collect 7) };
-- run zipSource(sourceFile "d" | lines 9, zipSource(sourceFile "c" | lines 9, sourceFile "d" | lines 9, "\ra😀"), "😀😀") | map suffix "\r" | drop 5;
abbrev script_517 : List Sentence
script_517 = release_statement (codes "k0") ∷ hold_statement (codes "k0") (codes "m1") ∷ run_statement (piped (stdin_word ∷ lines_word 2 ∷
    sequence_form (sequence_form (last_word ∷ []) ∷ zip_sink_form null_word (collect_word 7) ∷ []) ∷ [])) ∷ run_statement (piped (zip_source_form (240
    ∷ 159 ∷ 152 ∷ 128 ∷ 240 ∷ 159 ∷ 152 ∷ 128 ∷ []) (piped (source_file_word (codes "d") ∷ lines_word 9 ∷ [])) (zip_source_form (13 ∷ 97 ∷ 240 ∷ 159 ∷
    152 ∷ 128 ∷ []) (piped (source_file_word (codes "c") ∷ lines_word 9 ∷ [])) (piped (source_file_word (codes "d") ∷ lines_word 9 ∷ []))) ∷ map_word
    (suffix (13 ∷ [])) ∷ drop_word 5 ∷ [])) ∷ []

script_517_answer : verdict script_517 ≡ refused Key 1 0
unfolding chars
script_517_answer = verdict_is script_517

-- run sourceFile "d" | (takeE 1 | base64Decode) | { mark "m1" { lines 80 }; exact 80 } | (exactly 5 { intersperse "" } | (take 2 | filter empty)) | zipSink(take 9 |& collect 16777216, exactly 3 { length });
abbrev script_520 : List Sentence
script_520 = run_statement (piped (source_file_word (codes "d") ∷ piped (take_e 1 ∷ base64_decode_word ∷ []) ∷ sequence_form (mark_form (codes "m1")
    (lines_word 80) ∷ exact_word 80 ∷ []) ∷ piped (exactly_form 5 (intersperse_word []) ∷ piped (take_word 2 ∷ filter_word empty ∷ []) ∷ []) ∷
    zip_sink_form (piped_both (take_word 9 ∷ collect_word 16777216 ∷ [])) (exactly_form 3 length_word) ∷ [])) ∷ []

script_520_answer : verdict script_520 ≡ refused BoundTooLarge 1 19
unfolding chars
script_520_answer = verdict_is script_520

-- let k1 = seal { { sourceFile "c"; sourceFile "c" }; stdin };
-- close s0 | lineE { nullE };
-- close s0 | lineE { nullE };
-- run sourceFile "missing" | zipSink(takeE 3 |? flat |? sinkFile "x5", nullE);
abbrev script_529 : List Sentence
script_529 = let_statement (codes "k1") (sequence_form (sequence_form (source_file_word (codes "c") ∷ source_file_word (codes "c") ∷ []) ∷ stdin_word
    ∷ [])) ∷ close_statement (codes "s0") (line_e_form null_e) ∷ close_statement (codes "s0") (line_e_form null_e) ∷ run_statement (piped
    (source_file_word (codes "missing") ∷ zip_sink_form (piped_asked (take_e 3 ∷ flat_word ∷ sink_file_word (codes "x5") ∷ [])) null_e ∷ [])) ∷ []

script_529_answer : verdict script_529 ≡ refused Seal 2 0
script_529_answer = verdict_is script_529

-- close s0 | last;
abbrev script_532 : List Sentence
script_532 = close_statement (codes "s0") last_word ∷ []

script_532_answer : verdict script_532 ≡ refused Seal 1 0
script_532_answer = verdict_is script_532

-- let s0 = seal sourceFile "d";
-- let s0 = seal sourceFile "d";
-- let s0 = seal sourceFile "d";
-- feed s0 | exactlyE 1000 { passE | (mapE rot13 | stdout) };
-- run text "éb" | (mapE rot13 |= split "," 4) | filter not empty | dropWhile not ends "\n";
abbrev script_533 : List Sentence
script_533 = let_statement (codes "s0") (source_file_word (codes "d")) ∷ let_statement (codes "s0") (source_file_word (codes "d")) ∷ let_statement
    (codes "s0") (source_file_word (codes "d")) ∷ feed_statement (codes "s0") (exactly_e_form 1000 (piped (pass_e ∷ piped (map_e rot13 ∷ stdout_word ∷
    []) ∷ []))) ∷ run_statement (piped (text_word (195 ∷ 169 ∷ 98 ∷ []) ∷ piped_keep (map_e rot13 ∷ split_word 44 4 ∷ []) ∷ filter_word (not_test
    empty) ∷ drop_while_word (not_test (ends (10 ∷ []))) ∷ [])) ∷ []

script_533_answer : verdict script_533 ≡ refused Seal 2 0
script_533_answer = verdict_is script_533

-- run sourceFile "d" | { takeE 7; filterE lower } | dropWhileE space;
-- hold k1 = mark "m2";
-- release k1;
-- release k1;
abbrev script_534 : List Sentence
script_534 = run_statement (piped (source_file_word (codes "d") ∷ sequence_form (take_e 7 ∷ filter_e lower ∷ []) ∷ drop_while_e space ∷ [])) ∷
    hold_statement (codes "k1") (codes "m2") ∷ release_statement (codes "k1") ∷ release_statement (codes "k1") ∷ []

script_534_answer : verdict script_534 ≡ refused Key 4 0
script_534_answer = verdict_is script_534

-- let s0 = seal sourceFile "c";
-- run range 18446744073709551613 18446744073709551613 | exactly 9 { repeat 0 } | mark "m1" { peek };
-- hold k1 = mark "m2";
-- hold k1 = mark "m3";
abbrev script_538 : List Sentence
script_538 = let_statement (codes "s0") (source_file_word (codes "c")) ∷ run_statement (piped (range_word 18446744073709551613 18446744073709551613 ∷
    exactly_form 9 (repeat_word 0) ∷ mark_form (codes "m1") peek_word ∷ [])) ∷ hold_statement (codes "k1") (codes "m2") ∷ hold_statement (codes "k1")
    (codes "m3") ∷ []

script_538_answer : verdict script_538 ≡ refused Key 4 0
script_538_answer = verdict_is script_538

-- hold k0 = mark "m1";
-- release k0;
-- release k0;
-- run sinkFile "b" | collectE 50;
abbrev script_545 : List Sentence
script_545 = hold_statement (codes "k0") (codes "m1") ∷ release_statement (codes "k0") ∷ release_statement (codes "k0") ∷ run_statement (piped
    (sink_file_word (codes "b") ∷ collect_e 50 ∷ [])) ∷ []

script_545_answer : verdict script_545 ≡ refused Key 3 0
script_545_answer = verdict_is script_545

-- let s0 = seal text "b" | takeWhileE digit;
-- feed s0 | exactlyE 9223372036854775808 { exactlyE 2 { filterE not hexdigit | lengthE } };
-- feed s0 | repeatE 3 |? allE not is "\n";
abbrev script_583 : List Sentence
script_583 = let_statement (codes "s0") (piped (text_word (codes "b") ∷ take_while_e digit ∷ [])) ∷ feed_statement (codes "s0") (exactly_e_form
    9223372036854775808 (exactly_e_form 2 (piped (filter_e (not_class hexdigit) ∷ length_e ∷ [])))) ∷ feed_statement (codes "s0") (piped_asked
    (repeat_e 3 ∷ all_e (not_class (is_scalar 10)) ∷ [])) ∷ []

script_583_answer : verdict script_583 ≡ refused DropsRest 3 1
script_583_answer = verdict_is script_583

-- run { range 95 95; zipSource(sourceFile "b" | lines 9, sourceFile "b" | lines 9, "x\né") } | (map suffix "é" |= filter ends "ab") | { zipSink(dropWhile ends "€", peek); null };
-- release k0;
-- hold k0 = mark "m1";
abbrev script_595 : List Sentence
script_595 = run_statement (piped (sequence_form (range_word 95 95 ∷ zip_source_form (120 ∷ 10 ∷ 195 ∷ 169 ∷ []) (piped (source_file_word (codes "b")
    ∷ lines_word 9 ∷ [])) (piped (source_file_word (codes "b") ∷ lines_word 9 ∷ [])) ∷ []) ∷ piped_keep (map_word (suffix (195 ∷ 169 ∷ [])) ∷
    filter_word (ends (codes "ab")) ∷ []) ∷ sequence_form (zip_sink_form (drop_while_word (ends (226 ∷ 130 ∷ 172 ∷ []))) peek_word ∷ null_word ∷ []) ∷
    [])) ∷ release_statement (codes "k0") ∷ hold_statement (codes "k0") (codes "m1") ∷ []

script_595_answer : verdict script_595 ≡ refused Key 2 0
unfolding chars
script_595_answer = verdict_is script_595

-- release k0;
-- run stdin | split "a" 4096 | last;
abbrev script_599 : List Sentence
script_599 = release_statement (codes "k0") ∷ run_statement (piped (stdin_word ∷ split_word 97 4096 ∷ last_word ∷ [])) ∷ []

script_599_answer : verdict script_599 ≡ refused Key 1 0
script_599_answer = verdict_is script_599
