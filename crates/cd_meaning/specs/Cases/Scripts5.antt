-- Cases of tools/cases/scripts.jsonl, written by tools/cases.py: the number in a name is the line of the case.
use Rattle.std.specs.Prelude.{List, [], ◌∷◌, ◌≡◌, codes}
use Rattle.std.specs.Fmt.{digits}
use lib.Utf8.{encode}
use Rattle.std.specs.Str.{chars}
use Rattle.cd_meaning.specs.Stream.{Value, Reading, More, Stop, bad_text, bad_hex, ReadBad, Done, Halts, Open, Put, Close}
use Rattle.cd_meaning.specs.RunShapes.{AtEnd, MayGoOn, Broken}
use Rattle.cd_meaning.specs.Rows.Trees.{Sentence}
use Rattle.cd_meaning.specs.Rows.Short.{pass_e, take_e, take_while_e, filter_e, map_e, repeat_e, drop_e, drop_while_e, head_e, peek_e, last_e, length_e, sum_e, any_e, sink_null, pass_word, take_word, map_word, intersperse_word, head_word, last_word, collect_word, lines_word, split_word, exact_word, flat_word, unlines_word, utf8_word, utf8_lenient_word, utf8_encode_word, hex_decode_word, base64_encode_word, base64_decode_word, source_file_word, stdin_word, bytes_word, text_word, blocks_word, texts_word, replicate_word, range_word, sink_file_word, stdout_word, digit, alpha, is_scalar, below, xor, add, rot13, suffix, reversed, not_class, piped, piped_keep, piped_return, piped_both, piped_up, exactly_form, exactly_e_form, line_e_form, mark_form, tee_form, zip_source_form, zip_sink_form, zip_conduit_form, sequence_form, run_statement, let_statement, feed_statement, close_statement, hold_statement, release_statement}
use Rattle.cd_meaning.specs.Cases.Known.{nothing_seen, known, effects_of, effects_so, ending_of, ending_so}

-- hold k0 = mark "m1";
-- release k0;
-- let s0 = seal stdin | utf8Lenient;
-- feed s0 | lineE { ({ split "\r" 2; dropWhileE not is "\r" } | head) };
-- close s0 | (utf8Encode | split "\n" 4096) | exactly 4 { last };
abbrev script_141 : List Sentence
script_141 = hold_statement (codes "k0") (codes "m1") ∷ release_statement (codes "k0") ∷ let_statement (codes "s0") (piped (stdin_word ∷
    utf8_lenient_word ∷ [])) ∷ feed_statement (codes "s0") (line_e_form (piped (sequence_form (split_word 13 2 ∷ drop_while_e (not_class (is_scalar
    13)) ∷ []) ∷ head_word ∷ []))) ∷ close_statement (codes "s0") (piped (piped (utf8_encode_word ∷ split_word 10 4096 ∷ []) ∷ exactly_form 4
    last_word ∷ [])) ∷ []

script_141_effects_1 : effects_of script_141 (known 2 (10 ∷ 10 ∷ []) AtEnd nothing_seen) ≡ Open 1 ∷ Close 1 ∷ Put 0 61 ∷ Put 0 32 ∷ Put 0 110 ∷ Put 0
    111 ∷ Put 0 110 ∷ Put 0 101 ∷ Put 0 10 ∷ Put 0 61 ∷ Put 0 32 ∷ Put 0 115 ∷ Put 0 111 ∷ Put 0 109 ∷ Put 0 101 ∷ Put 0 32 ∷ Put 0 34 ∷ Put 0 34 ∷
    Put 0 10 ∷ []
unfolding digits encode chars
script_141_effects_1 = effects_so _ _

script_141_ending_1 : ending_of script_141 (known 2 (10 ∷ 10 ∷ []) AtEnd nothing_seen) ≡ Done Value.Unit
unfolding digits encode chars
script_141_ending_1 = ending_so _ _

script_141_effects_2 : effects_of script_141 (known 2 [] MayGoOn nothing_seen) ≡ Open 1 ∷ Close 1 ∷ []
unfolding digits encode chars
script_141_effects_2 = effects_so _ _

script_141_ending_2 : ending_of script_141 (known 2 [] MayGoOn nothing_seen) ≡ Halts (More (Reading 2))
unfolding digits encode chars
script_141_ending_2 = ending_so _ _

-- run bytes "\"-x\n" | hexDecode | stdout;
-- run (mark "m2" { sourceFile "a" } | mapE rot13) | (repeatE 2 |< sinkNull);
-- run range 0 0 | (map suffix "" |= map reverse) | map reverse | unlines | stdout;
abbrev script_148 : List Sentence
script_148 = run_statement (piped (bytes_word (34 ∷ 45 ∷ 120 ∷ 10 ∷ []) ∷ hex_decode_word ∷ stdout_word ∷ [])) ∷ run_statement (piped (piped
    (mark_form (codes "m2") (source_file_word (codes "a")) ∷ map_e rot13 ∷ []) ∷ piped_up (repeat_e 2 ∷ sink_null ∷ []) ∷ [])) ∷ run_statement (piped
    (range_word 0 0 ∷ piped_keep (map_word (suffix []) ∷ map_word reversed ∷ []) ∷ map_word reversed ∷ unlines_word ∷ stdout_word ∷ [])) ∷ []

script_148_effects_1 : effects_of script_148 (known 3 (codes "e") AtEnd nothing_seen) ≡ []
unfolding digits encode chars
script_148_effects_1 = effects_so _ _

script_148_ending_1 : ending_of script_148 (known 3 (codes "e") AtEnd nothing_seen) ≡ Halts (Stop (bad_hex 0))
unfolding digits encode chars
script_148_ending_1 = ending_so _ _

script_148_effects_2 : effects_of script_148 (known 3 (codes "e") Broken nothing_seen) ≡ []
unfolding digits encode chars
script_148_effects_2 = effects_so _ _

script_148_ending_2 : ending_of script_148 (known 3 (codes "e") Broken nothing_seen) ≡ Halts (Stop (bad_hex 0))
unfolding digits encode chars
script_148_ending_2 = ending_so _ _

-- run sourceFile "a" | ((mapE add 32 |= base64Decode) | repeatE 3) | { exactlyE 4 { split "," 5 }; exact 1 } | mark "m1" { (intersperse "ab" |+ sinkNull) };
-- run mark "m2" { sourceFile "a" } | repeatE 2 | sinkFile "x3";
abbrev script_152 : List Sentence
script_152 = run_statement (piped (source_file_word (codes "a") ∷ piped (piped_keep (map_e (add 32) ∷ base64_decode_word ∷ []) ∷ repeat_e 3 ∷ []) ∷
    sequence_form (exactly_e_form 4 (split_word 44 5) ∷ exact_word 1 ∷ []) ∷ mark_form (codes "m1") (piped_return (intersperse_word (codes "ab") ∷
    sink_null ∷ [])) ∷ [])) ∷ run_statement (piped (mark_form (codes "m2") (source_file_word (codes "a")) ∷ repeat_e 2 ∷ sink_file_word (codes "x3") ∷
    [])) ∷ []

script_152_effects_1 : effects_of script_152 (known 1 [] AtEnd (known 4 [] AtEnd nothing_seen)) ≡ Open 2 ∷ Open 1 ∷ Close 1 ∷ Close 2 ∷ Put 0 61 ∷ Put
    0 32 ∷ Put 0 40 ∷ Put 0 40 ∷ Put 0 41 ∷ Put 0 44 ∷ Put 0 32 ∷ Put 0 91 ∷ Put 0 93 ∷ Put 0 41 ∷ Put 0 10 ∷ Open 5 ∷ Open 3 ∷ Open 4 ∷ Close 4 ∷
    Close 3 ∷ Close 5 ∷ []
unfolding digits encode chars
script_152_effects_1 = effects_so _ _

script_152_ending_1 : ending_of script_152 (known 1 [] AtEnd (known 4 [] AtEnd nothing_seen)) ≡ Done Value.Unit
unfolding digits encode chars
script_152_ending_1 = ending_so _ _

script_152_effects_2 : effects_of script_152 (known 1 [] Broken (known 4 [] MayGoOn nothing_seen)) ≡ Open 2 ∷ Open 1 ∷ []
unfolding digits encode chars
script_152_effects_2 = effects_so _ _

script_152_ending_2 : ending_of script_152 (known 1 [] Broken (known 4 [] MayGoOn nothing_seen)) ≡ Halts (Stop (ReadBad 1))
unfolding digits encode chars
script_152_ending_2 = ending_so _ _

-- run texts [] | { zipConduit(unlines, unlines) } | zipSink(zipSink(peekE, sinkNull), zipSink(headE, lengthE));
abbrev script_156 : List Sentence
script_156 = run_statement (piped (texts_word [] ∷ sequence_form (zip_conduit_form unlines_word unlines_word ∷ []) ∷ zip_sink_form (zip_sink_form
    peek_e sink_null) (zip_sink_form head_e length_e) ∷ [])) ∷ []

script_156_effects_1 : effects_of script_156 nothing_seen ≡ Put 0 61 ∷ Put 0 32 ∷ Put 0 40 ∷ Put 0 40 ∷ Put 0 110 ∷ Put 0 111 ∷ Put 0 110 ∷ Put 0 101
    ∷ Put 0 44 ∷ Put 0 32 ∷ Put 0 40 ∷ Put 0 41 ∷ Put 0 41 ∷ Put 0 44 ∷ Put 0 32 ∷ Put 0 40 ∷ Put 0 110 ∷ Put 0 111 ∷ Put 0 110 ∷ Put 0 101 ∷ Put 0 44
    ∷ Put 0 32 ∷ Put 0 48 ∷ Put 0 41 ∷ Put 0 41 ∷ Put 0 10 ∷ []
unfolding digits encode chars
script_156_effects_1 = effects_so _ _

script_156_ending_1 : ending_of script_156 nothing_seen ≡ Done Value.Unit
unfolding digits encode chars
script_156_ending_1 = ending_so _ _

-- hold k0 = mark "m1";
-- release k0;
-- run text "b" | (takeWhileE digit | (passE | split "," 2)) | exactly 3 { { unlines; unlines } } | split "a" 5 | head;
abbrev script_159 : List Sentence
script_159 = hold_statement (codes "k0") (codes "m1") ∷ release_statement (codes "k0") ∷ run_statement (piped (text_word (codes "b") ∷ piped
    (take_while_e digit ∷ piped (pass_e ∷ split_word 44 2 ∷ []) ∷ []) ∷ exactly_form 3 (sequence_form (unlines_word ∷ unlines_word ∷ [])) ∷ split_word
    97 5 ∷ head_word ∷ [])) ∷ []

script_159_effects_1 : effects_of script_159 nothing_seen ≡ Open 1 ∷ Close 1 ∷ Put 0 61 ∷ Put 0 32 ∷ Put 0 110 ∷ Put 0 111 ∷ Put 0 110 ∷ Put 0 101 ∷
    Put 0 10 ∷ []
unfolding digits encode chars
script_159_effects_1 = effects_so _ _

script_159_ending_1 : ending_of script_159 nothing_seen ≡ Done Value.Unit
unfolding digits encode chars
script_159_ending_1 = ending_so _ _

-- run zipSource(blocks [], sourceFile "c" | lines 9, "😀b\r") | (map suffix "\\" |= intersperse "é") | ({ unlines; flat } | (base64Decode | mapE xor 128)) | (filterE not alpha | (base64Encode | peekE));
abbrev script_166 : List Sentence
script_166 = run_statement (piped (zip_source_form (240 ∷ 159 ∷ 152 ∷ 128 ∷ 98 ∷ 13 ∷ []) (blocks_word []) (piped (source_file_word (codes "c") ∷
    lines_word 9 ∷ [])) ∷ piped_keep (map_word (suffix (92 ∷ [])) ∷ intersperse_word (195 ∷ 169 ∷ []) ∷ []) ∷ piped (sequence_form (unlines_word ∷
    flat_word ∷ []) ∷ piped (base64_decode_word ∷ map_e (xor 128) ∷ []) ∷ []) ∷ piped (filter_e (not_class alpha) ∷ piped (base64_encode_word ∷ peek_e
    ∷ []) ∷ []) ∷ [])) ∷ []

script_166_effects_1 : effects_of script_166 (known 1 (codes "3:ab:,0:,3:aa,,1:ab") AtEnd nothing_seen) ≡ Put 0 61 ∷ Put 0 32 ∷ Put 0 110 ∷ Put 0 111
    ∷ Put 0 110 ∷ Put 0 101 ∷ Put 0 10 ∷ []
unfolding digits encode chars
script_166_effects_1 = effects_so _ _

script_166_ending_1 : ending_of script_166 (known 1 (codes "3:ab:,0:,3:aa,,1:ab") AtEnd nothing_seen) ≡ Done Value.Unit
unfolding digits encode chars
script_166_ending_1 = ending_so _ _

script_166_effects_2 : effects_of script_166 (known 1 (codes "3") Broken nothing_seen) ≡ Put 0 61 ∷ Put 0 32 ∷ Put 0 110 ∷ Put 0 111 ∷ Put 0 110 ∷ Put
    0 101 ∷ Put 0 10 ∷ []
unfolding digits encode chars
script_166_effects_2 = effects_so _ _

script_166_ending_2 : ending_of script_166 (known 1 (codes "3") Broken nothing_seen) ≡ Done Value.Unit
unfolding digits encode chars
script_166_ending_2 = ending_so _ _

-- run ((sourceFile "a" | utf8) | (utf8Encode | exact 2)) | mark "m1" { pass } | collect 50;
abbrev script_181 : List Sentence
script_181 = run_statement (piped (piped (piped (source_file_word (codes "a") ∷ utf8_word ∷ []) ∷ piped (utf8_encode_word ∷ exact_word 2 ∷ []) ∷ []) ∷
    mark_form (codes "m1") pass_word ∷ collect_word 50 ∷ [])) ∷ []

script_181_effects_1 : effects_of script_181 (known 1 (112 ∷ 82 ∷ 229 ∷ 126 ∷ 130 ∷ 104 ∷ 142 ∷ 125 ∷ 159 ∷ 120 ∷ 248 ∷ 195 ∷ 11 ∷ 160 ∷ 167 ∷ 240 ∷
    101 ∷ 11 ∷ 173 ∷ 229 ∷ []) AtEnd nothing_seen) ≡ Open 2 ∷ Open 1 ∷ []
unfolding digits encode chars
script_181_effects_1 = effects_so _ _

script_181_ending_1 : ending_of script_181 (known 1 (112 ∷ 82 ∷ 229 ∷ 126 ∷ 130 ∷ 104 ∷ 142 ∷ 125 ∷ 159 ∷ 120 ∷ 248 ∷ 195 ∷ 11 ∷ 160 ∷ 167 ∷ 240 ∷ 101
    ∷ 11 ∷ 173 ∷ 229 ∷ []) AtEnd nothing_seen) ≡ Halts (Stop (bad_text 2))
unfolding digits encode chars
script_181_ending_1 = ending_so _ _

script_181_effects_2 : effects_of script_181 (known 1 (112 ∷ 82 ∷ 229 ∷ 126 ∷ 130 ∷ 104 ∷ []) Broken nothing_seen) ≡ Open 2 ∷ Open 1 ∷ []
unfolding digits encode chars
script_181_effects_2 = effects_so _ _

script_181_ending_2 : ending_of script_181 (known 1 (112 ∷ 82 ∷ 229 ∷ 126 ∷ 130 ∷ 104 ∷ []) Broken nothing_seen) ≡ Halts (Stop (bad_text 2))
unfolding digits encode chars
script_181_ending_2 = ending_so _ _

-- run { mark "m3" { sourceFile "a" }; mark "m4" { sourceFile "a" } } | repeatE 0 | exactlyE 9 { filterE not below 256 } | lines 1 | head;
abbrev script_192 : List Sentence
script_192 = run_statement (piped (sequence_form (mark_form (codes "m3") (source_file_word (codes "a")) ∷ mark_form (codes "m4") (source_file_word
    (codes "a")) ∷ []) ∷ repeat_e 0 ∷ exactly_e_form 9 (filter_e (not_class (below 256))) ∷ lines_word 1 ∷ head_word ∷ [])) ∷ []

script_192_effects_1 : effects_of script_192 (known 2 (codes "ca") AtEnd (known 4 (codes "ca") AtEnd nothing_seen)) ≡ Open 1 ∷ Open 2 ∷ Close 2 ∷
    Close 1 ∷ Open 3 ∷ Open 4 ∷ Close 4 ∷ Close 3 ∷ Put 0 61 ∷ Put 0 32 ∷ Put 0 110 ∷ Put 0 111 ∷ Put 0 110 ∷ Put 0 101 ∷ Put 0 10 ∷ []
unfolding digits encode chars
script_192_effects_1 = effects_so _ _

script_192_ending_1 : ending_of script_192 (known 2 (codes "ca") AtEnd (known 4 (codes "ca") AtEnd nothing_seen)) ≡ Done Value.Unit
unfolding digits encode chars
script_192_ending_1 = ending_so _ _

script_192_effects_2 : effects_of script_192 (known 2 [] MayGoOn (known 4 [] Broken nothing_seen)) ≡ Open 1 ∷ Open 2 ∷ []
unfolding digits encode chars
script_192_effects_2 = effects_so _ _

script_192_ending_2 : ending_of script_192 (known 2 [] MayGoOn (known 4 [] Broken nothing_seen)) ≡ Halts (More (Reading 2))
unfolding digits encode chars
script_192_ending_2 = ending_so _ _

-- let s0 = seal replicate 30 "😀";
-- close s0 | ({ unlines; head; unlines } | ({ takeE 0; sumE } |& sinkNull));
-- run sourceFile "b" | mapE add 2 | passE | (mapE add 32 | utf8) | lastE;
abbrev script_213 : List Sentence
script_213 = let_statement (codes "s0") (replicate_word 30 (240 ∷ 159 ∷ 152 ∷ 128 ∷ [])) ∷ close_statement (codes "s0") (piped (sequence_form
    (unlines_word ∷ head_word ∷ unlines_word ∷ []) ∷ piped_both (sequence_form (take_e 0 ∷ sum_e ∷ []) ∷ sink_null ∷ []) ∷ [])) ∷ run_statement (piped
    (source_file_word (codes "b") ∷ map_e (add 2) ∷ pass_e ∷ piped (map_e (add 32) ∷ utf8_word ∷ []) ∷ last_e ∷ [])) ∷ []

script_213_effects_1 : effects_of script_213 (known 1 (97 ∷ 240 ∷ 159 ∷ 152 ∷ 128 ∷ 226 ∷ 130 ∷ []) AtEnd nothing_seen) ≡ Put 0 61 ∷ Put 0 32 ∷ Put 0
    40 ∷ Put 0 50 ∷ Put 0 48 ∷ Put 0 54 ∷ Put 0 55 ∷ Put 0 48 ∷ Put 0 44 ∷ Put 0 32 ∷ Put 0 40 ∷ Put 0 41 ∷ Put 0 41 ∷ Put 0 10 ∷ Open 1 ∷ []
unfolding digits encode chars
script_213_effects_1 = effects_so _ _

script_213_ending_1 : ending_of script_213 (known 1 (97 ∷ 240 ∷ 159 ∷ 152 ∷ 128 ∷ 226 ∷ 130 ∷ []) AtEnd nothing_seen) ≡ Halts (Stop (bad_text 0))
unfolding digits encode chars
script_213_ending_1 = ending_so _ _

script_213_effects_2 : effects_of script_213 (known 1 (97 ∷ 240 ∷ 159 ∷ 152 ∷ 128 ∷ []) MayGoOn nothing_seen) ≡ Put 0 61 ∷ Put 0 32 ∷ Put 0 40 ∷ Put 0
    50 ∷ Put 0 48 ∷ Put 0 54 ∷ Put 0 55 ∷ Put 0 48 ∷ Put 0 44 ∷ Put 0 32 ∷ Put 0 40 ∷ Put 0 41 ∷ Put 0 41 ∷ Put 0 10 ∷ Open 1 ∷ []
unfolding digits encode chars
script_213_effects_2 = effects_so _ _

script_213_ending_2 : ending_of script_213 (known 1 (97 ∷ 240 ∷ 159 ∷ 152 ∷ 128 ∷ []) MayGoOn nothing_seen) ≡ Halts (Stop (bad_text 0))
unfolding digits encode chars
script_213_ending_2 = ending_so _ _

-- hold k0 = mark "m1";
-- release k0;
-- run mark "m2" { stdin } | (mapE add 0 |= (utf8 | passE)) | (utf8Encode | (mapE rot13 |= takeE 9)) | passE | dropE 7;
abbrev script_215 : List Sentence
script_215 = hold_statement (codes "k0") (codes "m1") ∷ release_statement (codes "k0") ∷ run_statement (piped (mark_form (codes "m2") stdin_word ∷
    piped_keep (map_e (add 0) ∷ piped (utf8_word ∷ pass_e ∷ []) ∷ []) ∷ piped (utf8_encode_word ∷ piped_keep (map_e rot13 ∷ take_e 9 ∷ []) ∷ []) ∷
    pass_e ∷ drop_e 7 ∷ [])) ∷ []

script_215_effects_1 : effects_of script_215 (known 3 (10 ∷ 97 ∷ 99 ∷ []) AtEnd nothing_seen) ≡ Open 1 ∷ Close 1 ∷ Open 2 ∷ Close 2 ∷ []
unfolding digits encode chars
script_215_effects_1 = effects_so _ _

script_215_ending_1 : ending_of script_215 (known 3 (10 ∷ 97 ∷ 99 ∷ []) AtEnd nothing_seen) ≡ Done Value.Unit
unfolding digits encode chars
script_215_ending_1 = ending_so _ _

script_215_effects_2 : effects_of script_215 (known 3 (10 ∷ []) MayGoOn nothing_seen) ≡ Open 1 ∷ Close 1 ∷ Open 2 ∷ []
unfolding digits encode chars
script_215_effects_2 = effects_so _ _

script_215_ending_2 : ending_of script_215 (known 3 (10 ∷ []) MayGoOn nothing_seen) ≡ Halts (More (Reading 3))
unfolding digits encode chars
script_215_ending_2 = ending_so _ _

-- run zipSource((sourceFile "d" | split "1" 5), sourceFile "a" | lines 9, "0") | tee(sinkNull) | map reverse | take 1 | sinkNull;
-- run sourceFile "c" | (base64Encode | mapE rot13) | anyE below 98;
abbrev script_256 : List Sentence
script_256 = run_statement (piped (zip_source_form (codes "0") (piped (source_file_word (codes "d") ∷ split_word 49 5 ∷ [])) (piped (source_file_word
    (codes "a") ∷ lines_word 9 ∷ [])) ∷ tee_form sink_null ∷ map_word reversed ∷ take_word 1 ∷ sink_null ∷ [])) ∷ run_statement (piped
    (source_file_word (codes "c") ∷ piped (base64_encode_word ∷ map_e rot13 ∷ []) ∷ any_e (below 98) ∷ [])) ∷ []

script_256_effects_1 : effects_of script_256 (known 1 (codes "izbyZao12/YWQLvUtg==") AtEnd (known 2 (codes "0105") AtEnd (known 3 (codes "bab") AtEnd
    nothing_seen))) ≡ Open 1 ∷ Open 2 ∷ Close 2 ∷ Open 3 ∷ Put 0 61 ∷ Put 0 32 ∷ Put 0 116 ∷ Put 0 114 ∷ Put 0 117 ∷ Put 0 101 ∷ Put 0 10 ∷ []
unfolding digits encode chars
script_256_effects_1 = effects_so _ _

script_256_ending_1 : ending_of script_256 (known 1 (codes "izbyZao12/YWQLvUtg==") AtEnd (known 2 (codes "0105") AtEnd (known 3 (codes "bab") AtEnd
    nothing_seen))) ≡ Done Value.Unit
unfolding digits encode chars
script_256_ending_1 = ending_so _ _

script_256_effects_2 : effects_of script_256 (known 1 (codes "izbyZao12/YWQ") MayGoOn (known 2 (codes "01") MayGoOn (known 3 (codes "b") MayGoOn
    nothing_seen))) ≡ Open 1 ∷ Open 2 ∷ []
unfolding digits encode chars
script_256_effects_2 = effects_so _ _

script_256_ending_2 : ending_of script_256 (known 1 (codes "izbyZao12/YWQ") MayGoOn (known 2 (codes "01") MayGoOn (known 3 (codes "b") MayGoOn
    nothing_seen))) ≡ Halts (More (Reading 2))
unfolding digits encode chars
script_256_ending_2 = ending_so _ _
