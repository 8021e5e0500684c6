-- Cases of tools/cases/types.jsonl, written by tools/type_cases.py: the number in a name is the line of the case.
use Rattle.std.specs.Prelude.{List, [], ◌∷◌, ◌≡◌, codes}
use Rattle.std.specs.Str.{chars}
use Rattle.cd_meaning.specs.Rows.Trees.{Sentence}
use Rattle.cd_meaning.specs.Rows.Short.{pass_e, take_e, take_while_e, filter_e, map_e, repeat_e, drop_e, drop_while_e, head_e, peek_e, last_e, length_e, sum_e, all_e, any_e, null_e, collect_e, sink_null, pass_word, take_word, take_while_word, filter_word, repeat_word, map_word, intersperse_word, drop_word, drop_while_word, head_word, peek_word, last_word, length_word, null_word, collect_word, lines_word, split_word, exact_word, chunks_of_word, flat_word, unlines_word, utf8_word, utf8_lenient_word, utf8_encode_word, hex_encode_word, hex_decode_word, base64_encode_word, base64_decode_word, source_file_word, stdin_word, bytes_word, text_word, blocks_word, texts_word, replicate_word, range_word, sink_file_word, stdout_word, digit, upper, lower, alpha, alnum, hexdigit, space, newline, is_scalar, empty, begins, ends, shorter, xor, add, rot13, prefix, suffix, not_class, not_test, piped, piped_keep, piped_return, piped_both, piped_up, piped_asked, exactly_form, exactly_e_form, line_e_form, mark_form, tee_form, zip_source_form, zip_sink_form, zip_conduit_form, sequence_form, run_statement, let_statement, feed_statement, close_statement, hold_statement, release_statement}
use Rattle.cd_types.specs.declared.refusal.RefusalKind.TheVariants.{KindMismatch, NeedsElements, NotInvertible, NameTwice, Seal, ResultLost}
use Rattle.cd_types.specs.Rows.Trees.{verdict, verdict_is, refused}

-- run (zipSource(texts ["a", "\r", "\\", "aa"], stdin | lines 9, ",é") | exactly 1 { unlines }) | mark "m1" { lines 4 | repeat 1 } | collect 50;
abbrev script_138 : List Sentence
script_138 = run_statement (piped (piped (zip_source_form (44 ∷ 195 ∷ 169 ∷ []) (texts_word ((codes "a") ∷ (13 ∷ []) ∷ (92 ∷ []) ∷ (codes "aa") ∷ []))
    (piped (stdin_word ∷ lines_word 9 ∷ [])) ∷ exactly_form 1 unlines_word ∷ []) ∷ mark_form (codes "m1") (piped (lines_word 4 ∷ repeat_word 1 ∷ []))
    ∷ collect_word 50 ∷ [])) ∷ []

script_138_answer : verdict script_138 ≡ refused KindMismatch 1 5
unfolding chars
script_138_answer = verdict_is script_138

-- run sourceFile "missing" | mapE xor 128 | headE | stdout;
abbrev script_142 : List Sentence
script_142 = run_statement (piped (source_file_word (codes "missing") ∷ map_e (xor 128) ∷ head_e ∷ stdout_word ∷ [])) ∷ []

script_142_answer : verdict script_142 ≡ refused ResultLost 1 4
script_142_answer = verdict_is script_142

-- run range 0 0 | zipConduit(take 0, lengthE) | exactly 5 { zipSink(collect 50, collect 4) };
abbrev script_146 : List Sentence
script_146 = run_statement (piped (range_word 0 0 ∷ zip_conduit_form (take_word 0) length_e ∷ exactly_form 5 (zip_sink_form (collect_word 50)
    (collect_word 4)) ∷ [])) ∷ []

script_146_answer : verdict script_146 ≡ refused NeedsElements 1 5
script_146_answer = verdict_is script_146

-- run mark "m2" { mark "m1" { sourceFile "a" } } | zipSink({ sinkFile "x3"; lengthE; zipSink(dropE 7, passE) }, split "1" 4 |+ head);
abbrev script_151 : List Sentence
script_151 = run_statement (piped (mark_form (codes "m2") (mark_form (codes "m1") (source_file_word (codes "a"))) ∷ zip_sink_form (sequence_form
    (sink_file_word (codes "x3") ∷ length_e ∷ zip_sink_form (drop_e 7) pass_e ∷ [])) (piped_return (split_word 49 4 ∷ head_word ∷ [])) ∷ [])) ∷ []

script_151_answer : verdict script_151 ≡ refused KindMismatch 1 11
script_151_answer = verdict_is script_151

-- run ({ sourceFile "c"; sourceFile "b" } | mapE xor 128) | sinkFile "x1";
-- run sourceFile "d" | zipSink(lines 2 | hexEncode, { sinkFile "x2"; dropE 5 });
-- run (sourceFile "c" | chunksOf 2) | (map suffix "b" |= pass) | last;
abbrev script_152 : List Sentence
script_152 = run_statement (piped (piped (sequence_form (source_file_word (codes "c") ∷ source_file_word (codes "b") ∷ []) ∷ map_e (xor 128) ∷ []) ∷
    sink_file_word (codes "x1") ∷ [])) ∷ run_statement (piped (source_file_word (codes "d") ∷ zip_sink_form (piped (lines_word 2 ∷ hex_encode_word ∷
    [])) (sequence_form (sink_file_word (codes "x2") ∷ drop_e 5 ∷ [])) ∷ [])) ∷ run_statement (piped (piped (source_file_word (codes "c") ∷
    chunks_of_word 2 ∷ []) ∷ piped_keep (map_word (suffix (codes "b")) ∷ pass_word ∷ []) ∷ last_word ∷ [])) ∷ []

script_152_answer : verdict script_152 ≡ refused NeedsElements 2 6
unfolding chars
script_152_answer = verdict_is script_152

-- run { { sourceFile "c"; sourceFile "d" }; stdin } | (lines 3 |+ (pass | exactlyE 2 { peek }));
abbrev script_157 : List Sentence
script_157 = run_statement (piped (sequence_form (sequence_form (source_file_word (codes "c") ∷ source_file_word (codes "d") ∷ []) ∷ stdin_word ∷ [])
    ∷ piped_return (lines_word 3 ∷ piped (pass_word ∷ exactly_e_form 2 peek_word ∷ []) ∷ []) ∷ [])) ∷ []

script_157_answer : verdict script_157 ≡ refused NeedsElements 1 11
script_157_answer = verdict_is script_157

-- run mark "m1" { sourceFile "b" | passE } | exactlyE 1 { repeatE 2 } | (lines 3 | exactly 7 { take 9 }) | flat | { dropE 9 };
-- run mark "m1" { sourceFile "b" | passE } | exactlyE 1 { repeatE 2 } | (lines 3 | exactly 7 { take 9 }) | flat | { dropE 9 };
abbrev script_158 : List Sentence
script_158 = run_statement (piped (mark_form (codes "m1") (piped (source_file_word (codes "b") ∷ pass_e ∷ [])) ∷ exactly_e_form 1 (repeat_e 2) ∷ piped
    (lines_word 3 ∷ exactly_form 7 (take_word 9) ∷ []) ∷ flat_word ∷ sequence_form (drop_e 9 ∷ []) ∷ [])) ∷ run_statement (piped (mark_form (codes
    "m1") (piped (source_file_word (codes "b") ∷ pass_e ∷ [])) ∷ exactly_e_form 1 (repeat_e 2) ∷ piped (lines_word 3 ∷ exactly_form 7 (take_word 9) ∷
    []) ∷ flat_word ∷ sequence_form (drop_e 9 ∷ []) ∷ [])) ∷ []

script_158_answer : verdict script_158 ≡ refused NameTwice 2 2
script_158_answer = verdict_is script_158

-- run mark "m1" { { sourceFile "b"; sourceFile "a" } } | exactlyE 18446744073709551615 { exact 80 } | takeWhile empty | exact 1 | length;
abbrev script_163 : List Sentence
script_163 = run_statement (piped (mark_form (codes "m1") (sequence_form (source_file_word (codes "b") ∷ source_file_word (codes "a") ∷ [])) ∷
    exactly_e_form 18446744073709551615 (exact_word 80) ∷ take_while_word empty ∷ exact_word 1 ∷ length_word ∷ [])) ∷ []

script_163_answer : verdict script_163 ≡ refused NeedsElements 1 9
script_163_answer = verdict_is script_163

-- run sourceFile "a" | lines 3 | dropWhile empty;
-- run sourceFile "c" | utf8 | zipSink(takeWhileE not is "-" |< collectE 50, zipSink(lengthE, headE));
abbrev script_165 : List Sentence
script_165 = run_statement (piped (source_file_word (codes "a") ∷ lines_word 3 ∷ drop_while_word empty ∷ [])) ∷ run_statement (piped (source_file_word
    (codes "c") ∷ utf8_word ∷ zip_sink_form (piped_up (take_while_e (not_class (is_scalar 45)) ∷ collect_e 50 ∷ [])) (zip_sink_form length_e head_e) ∷
    [])) ∷ []

script_165_answer : verdict script_165 ≡ refused ResultLost 2 7
script_165_answer = verdict_is script_165

-- run sourceFile "b" | split "\n" 1 | zipSink(exactlyE 2 { tee(collect 50) }, collect 50);
abbrev script_172 : List Sentence
script_172 = run_statement (piped (source_file_word (codes "b") ∷ split_word 10 1 ∷ zip_sink_form (exactly_e_form 2 (tee_form (collect_word 50)))
    (collect_word 50) ∷ [])) ∷ []

script_172_answer : verdict script_172 ≡ refused NeedsElements 1 5
script_172_answer = verdict_is script_172

-- run bytes "a" | hexEncode | filterE not is "a" | mark "m1" { lastE } | anyE alnum;
abbrev script_175 : List Sentence
script_175 = run_statement (piped (bytes_word (codes "a") ∷ hex_encode_word ∷ filter_e (not_class (is_scalar 97)) ∷ mark_form (codes "m1") last_e ∷
    any_e alnum ∷ [])) ∷ []

script_175_answer : verdict script_175 ≡ refused ResultLost 1 5
script_175_answer = verdict_is script_175

-- run texts ["\\\r\u{7f}"] | pass | unlines | (lines 1 | filter begins "😀") | dropWhile begins "\r";
-- run zipSource(bytes "€" | lines 9, sourceFile "d" | stdin | lines 9, "0") | zipSink(exactly 2 { null }, { drop 2; stdin });
abbrev script_178 : List Sentence
script_178 = run_statement (piped (texts_word ((92 ∷ 13 ∷ 127 ∷ []) ∷ []) ∷ pass_word ∷ unlines_word ∷ piped (lines_word 1 ∷ filter_word (begins (240
    ∷ 159 ∷ 152 ∷ 128 ∷ [])) ∷ []) ∷ drop_while_word (begins (13 ∷ [])) ∷ [])) ∷ run_statement (piped (zip_source_form (codes "0") (piped (bytes_word
    (226 ∷ 130 ∷ 172 ∷ []) ∷ lines_word 9 ∷ [])) (piped (source_file_word (codes "d") ∷ stdin_word ∷ lines_word 9 ∷ [])) ∷ zip_sink_form (exactly_form
    2 null_word) (sequence_form (drop_word 2 ∷ stdin_word ∷ [])) ∷ [])) ∷ []

script_178_answer : verdict script_178 ≡ refused NameTwice 2 15
unfolding chars
script_178_answer = verdict_is script_178

-- run (blocks ["a", "", "\\\raa"] | { hexDecode }) | zipSink(hexEncode, pass) | zipSink(repeatE 3 | nullE, takeWhileE not upper | sinkFile "x2");
abbrev script_179 : List Sentence
script_179 = run_statement (piped (piped (blocks_word ((codes "a") ∷ [] ∷ (92 ∷ 13 ∷ 97 ∷ 97 ∷ []) ∷ []) ∷ sequence_form (hex_decode_word ∷ []) ∷ [])
    ∷ zip_sink_form hex_encode_word pass_word ∷ zip_sink_form (piped (repeat_e 3 ∷ null_e ∷ [])) (piped (take_while_e (not_class upper) ∷
    sink_file_word (codes "x2") ∷ [])) ∷ [])) ∷ []

script_179_answer : verdict script_179 ≡ refused NeedsElements 1 5
script_179_answer = verdict_is script_179

-- run ((sourceFile "a" | utf8) | { takeE 3; repeatE 3 }) | (mapE rot13 | lines 1) | (exactly 1 { unlines } |& zipSink(nullE, lastE));
-- run sourceFile "c" | filterE alnum | (split "," 2 | exactlyE 2 { pass | sinkNull });
abbrev script_180 : List Sentence
script_180 = run_statement (piped (piped (piped (source_file_word (codes "a") ∷ utf8_word ∷ []) ∷ sequence_form (take_e 3 ∷ repeat_e 3 ∷ []) ∷ []) ∷
    piped (map_e rot13 ∷ lines_word 1 ∷ []) ∷ piped_both (exactly_form 1 unlines_word ∷ zip_sink_form null_e last_e ∷ []) ∷ [])) ∷ run_statement
    (piped (source_file_word (codes "c") ∷ filter_e alnum ∷ piped (split_word 44 2 ∷ exactly_e_form 2 (piped (pass_word ∷ sink_null ∷ [])) ∷ []) ∷
    [])) ∷ []

script_180_answer : verdict script_180 ≡ refused NeedsElements 2 6
script_180_answer = verdict_is script_180

-- hold k0 = mark "m1";
-- run sourceFile "c" | { sinkFile "x"; collectE 2 } | collect 7;
abbrev script_183 : List Sentence
script_183 = hold_statement (codes "k0") (codes "m1") ∷ run_statement (piped (source_file_word (codes "c") ∷ sequence_form (sink_file_word (codes "x")
    ∷ collect_e 2 ∷ []) ∷ collect_word 7 ∷ [])) ∷ []

script_183_answer : verdict script_183 ≡ refused ResultLost 2 3
script_183_answer = verdict_is script_183

-- run mark "m1" { sourceFile "c" | utf8Lenient } |= lengthE;
abbrev script_185 : List Sentence
script_185 = run_statement (piped_keep (mark_form (codes "m1") (piped (source_file_word (codes "c") ∷ utf8_lenient_word ∷ [])) ∷ length_e ∷ [])) ∷ []

script_185_answer : verdict script_185 ≡ refused NotInvertible 1 2
script_185_answer = verdict_is script_185

-- run (zipSource(sourceFile "d" | lineE { lines 9 }, bytes "\n" | lines 9, "é") | exactly 1 { zipSink(filter shorter 0, lengthE) }) | { exactly 3 { peek }; sinkNull; map suffix "\u{7f}x\nb" } | exactly 7 { { collect 50 } };
abbrev script_192 : List Sentence
script_192 = run_statement (piped (piped (zip_source_form (195 ∷ 169 ∷ []) (piped (source_file_word (codes "d") ∷ line_e_form (lines_word 9) ∷ []))
    (piped (bytes_word (10 ∷ []) ∷ lines_word 9 ∷ [])) ∷ exactly_form 1 (zip_sink_form (filter_word (shorter 0)) length_e) ∷ []) ∷ sequence_form
    (exactly_form 3 peek_word ∷ sink_null ∷ map_word (suffix (127 ∷ 120 ∷ 10 ∷ 98 ∷ [])) ∷ []) ∷ exactly_form 7 (sequence_form (collect_word 50 ∷ []))
    ∷ [])) ∷ []

script_192_answer : verdict script_192 ≡ refused KindMismatch 1 13
unfolding chars
script_192_answer = verdict_is script_192

-- run text "\n-\\" | ({ { takeWhileE not is "é"; takeWhileE digit }; allE hexdigit } |& zipSink(lengthE, headE)) | collect 16777216;
abbrev script_193 : List Sentence
script_193 = run_statement (piped (text_word (10 ∷ 45 ∷ 92 ∷ []) ∷ piped_both (sequence_form (sequence_form (take_while_e (not_class (is_scalar 233))
    ∷ take_while_e digit ∷ []) ∷ all_e hexdigit ∷ []) ∷ zip_sink_form length_e head_e ∷ []) ∷ collect_word 16777216 ∷ [])) ∷ []

script_193_answer : verdict script_193 ≡ refused ResultLost 1 3
script_193_answer = verdict_is script_193

-- let s1 = seal sourceFile "b" | lines 4;
-- run sourceFile "d" | (split "\n" 8 | filter empty) | peek;
-- close s0 | (map prefix "0" |= takeWhile begins "") | zipSink(sinkNull, dropWhile empty);
-- run text "a" | ((utf8Encode | repeatE 1) | split "\r" 1) | length;
abbrev script_194 : List Sentence
script_194 = let_statement (codes "s1") (piped (source_file_word (codes "b") ∷ lines_word 4 ∷ [])) ∷ run_statement (piped (source_file_word (codes
    "d") ∷ piped (split_word 10 8 ∷ filter_word empty ∷ []) ∷ peek_word ∷ [])) ∷ close_statement (codes "s0") (piped (piped_keep (map_word (prefix
    (codes "0")) ∷ take_while_word (begins []) ∷ []) ∷ zip_sink_form sink_null (drop_while_word empty) ∷ [])) ∷ run_statement (piped (text_word (codes
    "a") ∷ piped (piped (utf8_encode_word ∷ repeat_e 1 ∷ []) ∷ split_word 13 1 ∷ []) ∷ length_word ∷ [])) ∷ []

script_194_answer : verdict script_194 ≡ refused Seal 3 0
unfolding chars
script_194_answer = verdict_is script_194

-- run sourceFile "c" | (exactlyE 2 { { peekE; utf8Lenient } } | stdout | { mapE rot13; passE }) | zipSink(tee(takeE 7) |& collectE 50, collectE 50);
abbrev script_195 : List Sentence
script_195 = run_statement (piped (source_file_word (codes "c") ∷ piped (exactly_e_form 2 (sequence_form (peek_e ∷ utf8_lenient_word ∷ [])) ∷
    stdout_word ∷ sequence_form (map_e rot13 ∷ pass_e ∷ []) ∷ []) ∷ zip_sink_form (piped_both (tee_form (take_e 7) ∷ collect_e 50 ∷ [])) (collect_e
    50) ∷ [])) ∷ []

script_195_answer : verdict script_195 ≡ refused KindMismatch 1 8
script_195_answer = verdict_is script_195

-- run blocks ["\\", "\n\"\r"] |= null |= flat;
abbrev script_200 : List Sentence
script_200 = run_statement (piped_keep (blocks_word ((92 ∷ []) ∷ (10 ∷ 34 ∷ 13 ∷ []) ∷ []) ∷ null_word ∷ flat_word ∷ [])) ∷ []

script_200_answer : verdict script_200 ≡ refused NotInvertible 1 2
script_200_answer = verdict_is script_200

-- run sourceFile "c" | (mapE add 128 |? (mapE rot13 |= filterE is "1")) | (mapE add 2 |= mark "m1" { passE }) | ((mapE add 1 |= exact 4) | map prefix "") | ((pass | unlines) | zipSink(anyE not alnum, sinkFile "x3"));
abbrev script_201 : List Sentence
script_201 = run_statement (piped (source_file_word (codes "c") ∷ piped_asked (map_e (add 128) ∷ piped_keep (map_e rot13 ∷ filter_e (is_scalar 49) ∷
    []) ∷ []) ∷ piped_keep (map_e (add 2) ∷ mark_form (codes "m1") pass_e ∷ []) ∷ piped (piped_keep (map_e (add 1) ∷ exact_word 4 ∷ []) ∷ map_word
    (prefix []) ∷ []) ∷ piped (piped (pass_word ∷ unlines_word ∷ []) ∷ zip_sink_form (any_e (not_class alnum)) (sink_file_word (codes "x3")) ∷ []) ∷
    [])) ∷ []

script_201_answer : verdict script_201 ≡ refused ResultLost 1 3
unfolding chars
script_201_answer = verdict_is script_201

-- run ({ sourceFile "b"; sourceFile "b" } | takeE 5) | exactlyE 2 { utf8 } | (passE | zipSink(dropE 9, lastE) | stdin);
abbrev script_204 : List Sentence
script_204 = run_statement (piped (piped (sequence_form (source_file_word (codes "b") ∷ source_file_word (codes "b") ∷ []) ∷ take_e 5 ∷ []) ∷
    exactly_e_form 2 utf8_word ∷ piped (pass_e ∷ zip_sink_form (drop_e 9) last_e ∷ stdin_word ∷ []) ∷ [])) ∷ []

script_204_answer : verdict script_204 ≡ refused ResultLost 1 11
script_204_answer = verdict_is script_204

-- run sourceFile "b" | chunksOf 1 | unlines | zipSink({ utf8; allE alpha }, lengthE);
abbrev script_207 : List Sentence
script_207 = run_statement (piped (source_file_word (codes "b") ∷ chunks_of_word 1 ∷ unlines_word ∷ zip_sink_form (sequence_form (utf8_word ∷ all_e
    alpha ∷ [])) length_e ∷ [])) ∷ []

script_207_answer : verdict script_207 ≡ refused KindMismatch 1 6
script_207_answer = verdict_is script_207

-- run sourceFile "d" | zipSink(takeWhileE lower, length) | split "a" 3 | { peek };
-- run sourceFile "d" | zipSink(takeWhileE lower, length) | split "a" 3 | { peek };
abbrev script_208 : List Sentence
script_208 = run_statement (piped (source_file_word (codes "d") ∷ zip_sink_form (take_while_e lower) length_word ∷ split_word 97 3 ∷ sequence_form
    (peek_word ∷ []) ∷ [])) ∷ run_statement (piped (source_file_word (codes "d") ∷ zip_sink_form (take_while_e lower) length_word ∷ split_word 97 3 ∷
    sequence_form (peek_word ∷ []) ∷ [])) ∷ []

script_208_answer : verdict script_208 ≡ refused KindMismatch 1 4
script_208_answer = verdict_is script_208

-- run (sourceFile "d" | utf8Lenient) | (hexDecode | repeatE 0) | tee(lines 3) | length;
-- run (sourceFile "d" | utf8Lenient) | (hexDecode | repeatE 0) | tee(lines 3) | length;
abbrev script_211 : List Sentence
script_211 = run_statement (piped (piped (source_file_word (codes "d") ∷ utf8_lenient_word ∷ []) ∷ piped (hex_decode_word ∷ repeat_e 0 ∷ []) ∷
    tee_form (lines_word 3) ∷ length_word ∷ [])) ∷ run_statement (piped (piped (source_file_word (codes "d") ∷ utf8_lenient_word ∷ []) ∷ piped
    (hex_decode_word ∷ repeat_e 0 ∷ []) ∷ tee_form (lines_word 3) ∷ length_word ∷ [])) ∷ []

script_211_answer : verdict script_211 ≡ refused KindMismatch 1 6
script_211_answer = verdict_is script_211

-- run sourceFile "a" | chunksOf 8 | takeWhile begins "x\n" | mark "m1" { collect 50 };
-- run sourceFile "a" | chunksOf 8 | takeWhile begins "x\n" | mark "m1" { collect 50 };
abbrev script_213 : List Sentence
script_213 = run_statement (piped (source_file_word (codes "a") ∷ chunks_of_word 8 ∷ take_while_word (begins (120 ∷ 10 ∷ [])) ∷ mark_form (codes "m1")
    (collect_word 50) ∷ [])) ∷ run_statement (piped (source_file_word (codes "a") ∷ chunks_of_word 8 ∷ take_while_word (begins (120 ∷ 10 ∷ [])) ∷
    mark_form (codes "m1") (collect_word 50) ∷ [])) ∷ []

script_213_answer : verdict script_213 ≡ refused NameTwice 2 5
script_213_answer = verdict_is script_213

-- run sourceFile "b" | base64Encode | passE | repeatE 2 | (filterE digit | zipSink(sinkNull, headE));
-- run sourceFile "a" | (exactlyE 3 { hexDecode } | takeE 4) | { base64Decode |= nullE; sinkFile "x9" };
abbrev script_214 : List Sentence
script_214 = run_statement (piped (source_file_word (codes "b") ∷ base64_encode_word ∷ pass_e ∷ repeat_e 2 ∷ piped (filter_e digit ∷ zip_sink_form
    sink_null head_e ∷ []) ∷ [])) ∷ run_statement (piped (source_file_word (codes "a") ∷ piped (exactly_e_form 3 hex_decode_word ∷ take_e 4 ∷ []) ∷
    sequence_form (piped_keep (base64_decode_word ∷ null_e ∷ []) ∷ sink_file_word (codes "x9") ∷ []) ∷ [])) ∷ []

script_214_answer : verdict script_214 ≡ refused NotInvertible 2 9
script_214_answer = verdict_is script_214

-- run stdin | (split "-" 4 | (intersperse "aa" |+ last));
-- run stdin | (split "-" 4 | (intersperse "aa" |+ last));
abbrev script_220 : List Sentence
script_220 = run_statement (piped (stdin_word ∷ piped (split_word 45 4 ∷ piped_return (intersperse_word (codes "aa") ∷ last_word ∷ []) ∷ []) ∷ [])) ∷
    run_statement (piped (stdin_word ∷ piped (split_word 45 4 ∷ piped_return (intersperse_word (codes "aa") ∷ last_word ∷ []) ∷ []) ∷ [])) ∷ []

script_220_answer : verdict script_220 ≡ refused NameTwice 2 2
unfolding chars
script_220_answer = verdict_is script_220

-- run sourceFile "a" | split "-" 1 | intersperse "0" | head;
-- run sourceFile "c" | anyE is "-" | lineE { zipConduit(utf8Lenient, lengthE) } | dropWhileE upper;
-- run text "b😀\"" | passE | split "\r" 5 | (repeat 0 | (pass | sinkNull));
abbrev script_221 : List Sentence
script_221 = run_statement (piped (source_file_word (codes "a") ∷ split_word 45 1 ∷ intersperse_word (codes "0") ∷ head_word ∷ [])) ∷ run_statement
    (piped (source_file_word (codes "c") ∷ any_e (is_scalar 45) ∷ line_e_form (zip_conduit_form utf8_lenient_word length_e) ∷ drop_while_e upper ∷
    [])) ∷ run_statement (piped (text_word (98 ∷ 240 ∷ 159 ∷ 152 ∷ 128 ∷ 34 ∷ []) ∷ pass_e ∷ split_word 13 5 ∷ piped (repeat_word 0 ∷ piped (pass_word
    ∷ sink_null ∷ []) ∷ []) ∷ [])) ∷ []

script_221_answer : verdict script_221 ≡ refused ResultLost 2 3
unfolding chars
script_221_answer = verdict_is script_221

-- hold k0 = mark "m1";
-- hold k0 = mark "m1";
abbrev script_222 : List Sentence
script_222 = hold_statement (codes "k0") (codes "m1") ∷ hold_statement (codes "k0") (codes "m1") ∷ []

script_222_answer : verdict script_222 ≡ refused NameTwice 2 0
script_222_answer = verdict_is script_222

-- run sourceFile "a" |= utf8 |= (filterE not alpha | { dropE 2; allE space });
abbrev script_223 : List Sentence
script_223 = run_statement (piped_keep (source_file_word (codes "a") ∷ utf8_word ∷ piped (filter_e (not_class alpha) ∷ sequence_form (drop_e 2 ∷ all_e
    space ∷ []) ∷ []) ∷ [])) ∷ []

script_223_answer : verdict script_223 ≡ refused NotInvertible 1 2
script_223_answer = verdict_is script_223

-- let s0 = seal stdin;
-- let s1 = seal sourceFile "d";
-- close s1 | exactlyE 7 { { split "\r" 8; split "\n" 4 } |= dropWhile ends "x\n" };
-- feed s0 | lines 80 |& { drop 0; sinkNull };
-- close s0 | lineE { dropWhileE upper };
abbrev script_224 : List Sentence
script_224 = let_statement (codes "s0") stdin_word ∷ let_statement (codes "s1") (source_file_word (codes "d")) ∷ close_statement (codes "s1")
    (exactly_e_form 7 (piped_keep (sequence_form (split_word 13 8 ∷ split_word 10 4 ∷ []) ∷ drop_while_word (ends (120 ∷ 10 ∷ [])) ∷ []))) ∷
    feed_statement (codes "s0") (piped_both (lines_word 80 ∷ sequence_form (drop_word 0 ∷ sink_null ∷ []) ∷ [])) ∷ close_statement (codes "s0")
    (line_e_form (drop_while_e upper)) ∷ []

script_224_answer : verdict script_224 ≡ refused NotInvertible 3 3
script_224_answer = verdict_is script_224

-- run replicate 0 "a" | filter shorter 0 | (pass | zipSink(sinkNull, peek));
-- run ((sourceFile "d" | hexEncode) | (repeatE 1 | exact 2)) | (tee(filter not empty) | intersperse "\n😀aa") | peek;
-- run sourceFile "d" | hexEncode | allE space;
abbrev script_225 : List Sentence
script_225 = run_statement (piped (replicate_word 0 (codes "a") ∷ filter_word (shorter 0) ∷ piped (pass_word ∷ zip_sink_form sink_null peek_word ∷ [])
    ∷ [])) ∷ run_statement (piped (piped (piped (source_file_word (codes "d") ∷ hex_encode_word ∷ []) ∷ piped (repeat_e 1 ∷ exact_word 2 ∷ []) ∷ []) ∷
    piped (tee_form (filter_word (not_test empty)) ∷ intersperse_word (10 ∷ 240 ∷ 159 ∷ 152 ∷ 128 ∷ 97 ∷ 97 ∷ []) ∷ []) ∷ peek_word ∷ [])) ∷
    run_statement (piped (source_file_word (codes "d") ∷ hex_encode_word ∷ all_e space ∷ [])) ∷ []

script_225_answer : verdict script_225 ≡ refused KindMismatch 2 11
unfolding chars
script_225_answer = verdict_is script_225

-- run mark "m1" { zipSource(sourceFile "d" | lines 9, sourceFile "b" |? lines 9, "") } | takeWhile empty | collect 9;
abbrev script_234 : List Sentence
script_234 = run_statement (piped (mark_form (codes "m1") (zip_source_form [] (piped (source_file_word (codes "d") ∷ lines_word 9 ∷ [])) (piped_asked
    (source_file_word (codes "b") ∷ lines_word 9 ∷ []))) ∷ take_while_word empty ∷ collect_word 9 ∷ [])) ∷ []

script_234_answer : verdict script_234 ≡ refused ResultLost 1 7
unfolding chars
script_234_answer = verdict_is script_234

-- run { mark "m4" { sourceFile "b" }; { sourceFile "c"; sourceFile "b" } } | takeE 1000 | hexDecode | peekE;
-- run { mark "m4" { sourceFile "b" }; { sourceFile "c"; sourceFile "b" } } | takeE 1000 | hexDecode | peekE;
abbrev script_244 : List Sentence
script_244 = run_statement (piped (sequence_form (mark_form (codes "m4") (source_file_word (codes "b")) ∷ sequence_form (source_file_word (codes "c")
    ∷ source_file_word (codes "b") ∷ []) ∷ []) ∷ take_e 1000 ∷ hex_decode_word ∷ peek_e ∷ [])) ∷ run_statement (piped (sequence_form (mark_form (codes
    "m4") (source_file_word (codes "b")) ∷ sequence_form (source_file_word (codes "c") ∷ source_file_word (codes "b") ∷ []) ∷ []) ∷ take_e 1000 ∷
    hex_decode_word ∷ peek_e ∷ [])) ∷ []

script_244_answer : verdict script_244 ≡ refused NameTwice 2 3
script_244_answer = verdict_is script_244

-- run mark "m2" { mark "m1" { blocks ["b", "é", "\\", "ab"] } } | map suffix "\\" | collect 50;
-- close s0 | { nullE; zipSink(collectE 3, anyE space) };
abbrev script_251 : List Sentence
script_251 = run_statement (piped (mark_form (codes "m2") (mark_form (codes "m1") (blocks_word ((codes "b") ∷ (195 ∷ 169 ∷ []) ∷ (92 ∷ []) ∷ (codes
    "ab") ∷ []))) ∷ map_word (suffix (92 ∷ [])) ∷ collect_word 50 ∷ [])) ∷ close_statement (codes "s0") (sequence_form (null_e ∷ zip_sink_form
    (collect_e 3) (any_e space) ∷ [])) ∷ []

script_251_answer : verdict script_251 ≡ refused Seal 2 0
unfolding chars
script_251_answer = verdict_is script_251

-- let s0 = seal stdin;
-- feed s0 | stdin;
-- close s0 | exactlyE 5 { { anyE newline } };
-- run (sourceFile "a" | utf8Lenient) | exact 5 | tee(drop 3) | pass | (exactly 5 { unlines } | sinkNull);
abbrev script_254 : List Sentence
script_254 = let_statement (codes "s0") stdin_word ∷ feed_statement (codes "s0") stdin_word ∷ close_statement (codes "s0") (exactly_e_form 5
    (sequence_form (any_e newline ∷ []))) ∷ run_statement (piped (piped (source_file_word (codes "a") ∷ utf8_lenient_word ∷ []) ∷ exact_word 5 ∷
    tee_form (drop_word 3) ∷ pass_word ∷ piped (exactly_form 5 unlines_word ∷ sink_null ∷ []) ∷ [])) ∷ []

script_254_answer : verdict script_254 ≡ refused NameTwice 2 1
script_254_answer = verdict_is script_254

-- run sourceFile "b" |= utf8 |= collectE 50;
abbrev script_256 : List Sentence
script_256 = run_statement (piped_keep (source_file_word (codes "b") ∷ utf8_word ∷ collect_e 50 ∷ [])) ∷ []

script_256_answer : verdict script_256 ≡ refused NotInvertible 1 2
script_256_answer = verdict_is script_256

-- run sourceFile "c" | ((utf8 | passE) | utf8Encode) | ((utf8Lenient |< filterE not space) |& headE);
-- run (sourceFile "b" | chunksOf 1) | null;
-- run sourceFile "a" | mapE xor 1 | (mapE add 128 | (mapE rot13 |= split "\n" 3 |= stdin)) | collect 3;
abbrev script_260 : List Sentence
script_260 = run_statement (piped (source_file_word (codes "c") ∷ piped (piped (utf8_word ∷ pass_e ∷ []) ∷ utf8_encode_word ∷ []) ∷ piped_both
    (piped_up (utf8_lenient_word ∷ filter_e (not_class space) ∷ []) ∷ head_e ∷ []) ∷ [])) ∷ run_statement (piped (piped (source_file_word (codes "b")
    ∷ chunks_of_word 1 ∷ []) ∷ null_word ∷ [])) ∷ run_statement (piped (source_file_word (codes "a") ∷ map_e (xor 1) ∷ piped (map_e (add 128) ∷
    piped_keep (map_e rot13 ∷ split_word 10 3 ∷ stdin_word ∷ []) ∷ []) ∷ collect_word 3 ∷ [])) ∷ []

script_260_answer : verdict script_260 ≡ refused NotInvertible 3 8
script_260_answer = verdict_is script_260

-- run bytes "\r" | chunksOf 8 | peek;
-- run stdin | stdout;
-- run { stdin; bytes ""; mark "m3" { sourceFile "d" } } | (lines 1 | (unlines | takeE 0)) | stdout;
-- run range 1 4 | sinkNull;
abbrev script_262 : List Sentence
script_262 = run_statement (piped (bytes_word (13 ∷ []) ∷ chunks_of_word 8 ∷ peek_word ∷ [])) ∷ run_statement (piped (stdin_word ∷ stdout_word ∷ []))
    ∷ run_statement (piped (sequence_form (stdin_word ∷ bytes_word [] ∷ mark_form (codes "m3") (source_file_word (codes "d")) ∷ []) ∷ piped
    (lines_word 1 ∷ piped (unlines_word ∷ take_e 0 ∷ []) ∷ []) ∷ stdout_word ∷ [])) ∷ run_statement (piped (range_word 1 4 ∷ sink_null ∷ [])) ∷ []

script_262_answer : verdict script_262 ≡ refused NameTwice 3 3
script_262_answer = verdict_is script_262

-- let s0 = seal mark "m1" { range 8 7 };
-- close s0 | collect 50;
-- hold k1 = mark "m2";
-- release k1;
-- run stdin | stdin | { { hexDecode; passE }; hexDecode } | (mark "m3" { mapE xor 1 } | base64Encode) | mark "m4" { sumE };
abbrev script_267 : List Sentence
script_267 = let_statement (codes "s0") (mark_form (codes "m1") (range_word 8 7)) ∷ close_statement (codes "s0") (collect_word 50) ∷ hold_statement
    (codes "k1") (codes "m2") ∷ release_statement (codes "k1") ∷ run_statement (piped (stdin_word ∷ stdin_word ∷ sequence_form (sequence_form
    (hex_decode_word ∷ pass_e ∷ []) ∷ hex_decode_word ∷ []) ∷ piped (mark_form (codes "m3") (map_e (xor 1)) ∷ base64_encode_word ∷ []) ∷ mark_form
    (codes "m4") sum_e ∷ [])) ∷ []

script_267_answer : verdict script_267 ≡ refused NameTwice 5 3
script_267_answer = verdict_is script_267

-- run sourceFile "b" |= sumE;
-- run sourceFile "a" | repeatE 3 | lineE { lengthE };
abbrev script_274 : List Sentence
script_274 = run_statement (piped_keep (source_file_word (codes "b") ∷ sum_e ∷ [])) ∷ run_statement (piped (source_file_word (codes "a") ∷ repeat_e 3
    ∷ line_e_form length_e ∷ [])) ∷ []

script_274_answer : verdict script_274 ≡ refused NotInvertible 1 2
script_274_answer = verdict_is script_274

-- let s0 = seal { stdin; sourceFile "d" } |= filterE alpha |= pass;
-- run (sourceFile "c" | utf8Lenient) | utf8Encode | stdout;
-- run sourceFile "c" | (takeE 0 | { repeatE 0; passE }) | sinkFile "x3";
-- close s0 | exact 2 | null;
abbrev script_288 : List Sentence
script_288 = let_statement (codes "s0") (piped_keep (sequence_form (stdin_word ∷ source_file_word (codes "d") ∷ []) ∷ filter_e alpha ∷ pass_word ∷
    [])) ∷ run_statement (piped (piped (source_file_word (codes "c") ∷ utf8_lenient_word ∷ []) ∷ utf8_encode_word ∷ stdout_word ∷ [])) ∷ run_statement
    (piped (source_file_word (codes "c") ∷ piped (take_e 0 ∷ sequence_form (repeat_e 0 ∷ pass_e ∷ []) ∷ []) ∷ sink_file_word (codes "x3") ∷ [])) ∷
    close_statement (codes "s0") (piped (exact_word 2 ∷ null_word ∷ [])) ∷ []

script_288_answer : verdict script_288 ≡ refused NotInvertible 1 2
script_288_answer = verdict_is script_288

-- hold k1 = mark "m1";
-- hold k1 = mark "m1";
abbrev script_290 : List Sentence
script_290 = hold_statement (codes "k1") (codes "m1") ∷ hold_statement (codes "k1") (codes "m1") ∷ []

script_290_answer : verdict script_290 ≡ refused NameTwice 2 0
script_290_answer = verdict_is script_290

-- run (sourceFile "d" |= (mapE add 1 | hexEncode)) | hexEncode | (takeE 2 | takeE 2) | exact 3 | collect 50;
abbrev script_308 : List Sentence
script_308 = run_statement (piped (piped_keep (source_file_word (codes "d") ∷ piped (map_e (add 1) ∷ hex_encode_word ∷ []) ∷ []) ∷ hex_encode_word ∷
    piped (take_e 2 ∷ take_e 2 ∷ []) ∷ exact_word 3 ∷ collect_word 50 ∷ [])) ∷ []

script_308_answer : verdict script_308 ≡ refused NotInvertible 1 3
script_308_answer = verdict_is script_308

-- let k1 = seal sourceFile "c";
-- close s0 | utf8Encode | ({ takeWhileE hexdigit; lengthE } |& (lines 1 | null));
abbrev script_318 : List Sentence
script_318 = let_statement (codes "k1") (source_file_word (codes "c")) ∷ close_statement (codes "s0") (piped (utf8_encode_word ∷ piped_both
    (sequence_form (take_while_e hexdigit ∷ length_e ∷ []) ∷ piped (lines_word 1 ∷ null_word ∷ []) ∷ []) ∷ [])) ∷ []

script_318_answer : verdict script_318 ≡ refused Seal 2 0
script_318_answer = verdict_is script_318

-- run mark "m3" { bytes "0😀a" } | { chunksOf 3; stdin |= mapE rot13 |= split "1" 1 } | collect 50;
abbrev script_319 : List Sentence
script_319 = run_statement (piped (mark_form (codes "m3") (bytes_word (48 ∷ 240 ∷ 159 ∷ 152 ∷ 128 ∷ 97 ∷ [])) ∷ sequence_form (chunks_of_word 3 ∷
    piped_keep (stdin_word ∷ map_e rot13 ∷ split_word 49 1 ∷ []) ∷ []) ∷ collect_word 50 ∷ [])) ∷ []

script_319_answer : verdict script_319 ≡ refused NotInvertible 1 7
script_319_answer = verdict_is script_319
