-- The type of each part of a script, in the order of their numbers: answers of an independent implementation.
use Rattle.std.specs.Prelude.{List, [], ◌∷◌, ◌≡◌, ℕ, Bool, true, false, Some, None}
use Rattle.std.specs.Str.{chars}
use Rattle.cd_meaning.specs.Places.{Reads, ReadsInput, Writes, WritesOutput, Marks}
use Rattle.cd_meaning.specs.Rows.Trees.{Sentence}
use Rattle.cd_meaning.specs.Rows.Short.{pass_e, take_while_e, filter_e, repeat_e, drop_while_e, head_e, length_e, all_e, any_e, null_e, pass_word, take_word, filter_word, repeat_word, map_word, intersperse_word, drop_word, head_word, peek_word, null_word, collect_word, lines_word, split_word, chunks_of_word, flat_word, unlines_word, utf8_word, utf8_lenient_word, hex_encode_word, hex_decode_word, base64_decode_word, source_file_word, stdin_word, range_word, sink_file_word, stdout_word, lower, alpha, space, is_scalar, empty, prefix, not_class, piped, piped_keep, piped_return, exactly_form, exactly_e_form, line_e_form, mark_form, zip_source_form, zip_sink_form, sequence_form, run_statement, let_statement, hold_statement}
use Rattle.cd_types.specs.Flows.{Flow, Kind, Sort, ResultKind, Unit, Num, Truth, Char, BytesV, Maybe, Pair, ListV, PartType}
use Rattle.cd_types.specs.Rows.Trees.{verdict, verdict_is, passed, part_types, part_types_are}

abbrev typed : Flow → Flow → ResultKind → Bool → Bool → ℕ → PartType
typed from to result exact idle bound = record { from = from; to = to; result = result; exact = exact; idle = idle; bound = bound }

-- run sourceFile "c" | (hexEncode | (split "\n" 4 | null));
abbrev script_1 : List Sentence
script_1 = run_statement (piped ((source_file_word (99 ∷ [])) ∷ (piped (hex_encode_word ∷ (piped ((split_word 10 4) ∷ null_word ∷ [])) ∷ [])) ∷ [])) ∷
    []

script_1_answer : verdict script_1 ≡ passed ((Reads (99 ∷ [])) ∷ []) 4
script_1_answer = verdict_is script_1

script_1_types : part_types script_1 ≡ ((typed None None Truth true true 0 ∷ typed None (Some Kind.Bytes) Unit true true 0 ∷ typed (Some Kind.Bytes)
    None Truth false false 0 ∷ typed (Some Kind.Bytes) (Some Kind.Bytes) Unit true false 0 ∷ typed (Some Kind.Bytes) None Truth false false 0 ∷ typed
    (Some Kind.Bytes) (Some (Kind.Blocks 4)) Unit true false 4 ∷ typed (Some (Kind.Blocks 4)) None Truth true false 0 ∷ []) ∷ [])
script_1_types = part_types_are script_1

-- run ({ stdin; sourceFile "d" } | mark "m1" { split "-" 2 }) | filter empty | mark "m2" { map prefix "ab" |= flat } | zipSink(exactlyE 3 { anyE not alpha }, sinkFile "x4");
abbrev script_2 : List Sentence
script_2 = run_statement (piped ((piped ((sequence_form (stdin_word ∷ (source_file_word (100 ∷ [])) ∷ [])) ∷ (mark_form (109 ∷ 49 ∷ []) (split_word 45
    2)) ∷ [])) ∷ (filter_word empty) ∷ (mark_form (109 ∷ 50 ∷ []) (piped_keep ((map_word (prefix (97 ∷ 98 ∷ []))) ∷ flat_word ∷ []))) ∷ (zip_sink_form
    (exactly_e_form 3 (any_e (not_class alpha))) (sink_file_word (120 ∷ 52 ∷ []))) ∷ [])) ∷ []

script_2_answer : verdict script_2 ≡ passed (ReadsInput ∷ (Reads (100 ∷ [])) ∷ (Marks (109 ∷ 49 ∷ [])) ∷ (Marks (109 ∷ 50 ∷ [])) ∷ (Writes (120 ∷ 52
    ∷ [])) ∷ []) 2
unfolding chars
script_2_answer = verdict_is script_2

script_2_types : part_types script_2 ≡ ((typed None None (Pair Truth Unit) true true 0 ∷ typed None (Some (Kind.Blocks 2)) Unit true true 0 ∷ typed
    None (Some Kind.Bytes) Unit true true 0 ∷ typed None (Some Kind.Bytes) Unit true true 0 ∷ typed None (Some Kind.Bytes) Unit true true 0 ∷ typed
    (Some Kind.Bytes) (Some (Kind.Blocks 2)) Unit true false 0 ∷ typed (Some Kind.Bytes) (Some (Kind.Blocks 2)) Unit true false 2 ∷ typed (Some
    (Kind.Blocks 2)) (Some (Kind.Blocks 2)) Unit true false 0 ∷ typed (Some (Kind.Blocks 2)) (Some Kind.Bytes) Unit true false 0 ∷ typed (Some
    (Kind.Blocks 2)) (Some Kind.Bytes) Unit true false 0 ∷ typed (Some (Kind.Blocks 2)) (Some (Kind.Blocks 4)) Unit true false 0 ∷ typed (Some
    (Kind.Blocks 4)) (Some Kind.Bytes) Unit true false 0 ∷ typed (Some Kind.Bytes) None (Pair Truth Unit) false false 0 ∷ typed (Some Kind.Bytes) None
    Truth true false 0 ∷ typed (Some Kind.Bytes) None Truth true false 0 ∷ typed (Some Kind.Bytes) None Unit true false 0 ∷ []) ∷ [])
unfolding chars
script_2_types = part_types_are script_2

-- run stdin | lengthE;
abbrev script_3 : List Sentence
script_3 = run_statement (piped (stdin_word ∷ length_e ∷ [])) ∷ []

script_3_answer : verdict script_3 ≡ passed (ReadsInput ∷ []) 0
script_3_answer = verdict_is script_3

script_3_types : part_types script_3 ≡ ((typed None None Num true true 0 ∷ typed None (Some Kind.Bytes) Unit true true 0 ∷ typed (Some Kind.Bytes)
    None Num true false 0 ∷ []) ∷ [])
script_3_types = part_types_are script_3

-- run zipSource(sourceFile "c" | lines 9, sourceFile "b" | lines 9, "😀") | take 9 | (intersperse "a" | zipSink(collect 50, drop 3));
abbrev script_4 : List Sentence
script_4 = run_statement (piped ((zip_source_form (240 ∷ 159 ∷ 152 ∷ 128 ∷ []) (piped ((source_file_word (99 ∷ [])) ∷ (lines_word 9) ∷ [])) (piped
    ((source_file_word (98 ∷ [])) ∷ (lines_word 9) ∷ []))) ∷ (take_word 9) ∷ (piped ((intersperse_word (97 ∷ [])) ∷ (zip_sink_form (collect_word 50)
    (drop_word 3)) ∷ [])) ∷ [])) ∷ []

script_4_answer : verdict script_4 ≡ passed ((Reads (99 ∷ [])) ∷ (Reads (98 ∷ [])) ∷ []) 1178
unfolding chars
script_4_answer = verdict_is script_4

script_4_types : part_types script_4 ≡ ((typed None None (Pair (ListV Sort.Block) Unit) true true 0 ∷ typed None (Some (Kind.Blocks 22)) Unit true
    true 10 ∷ typed None (Some (Kind.Blocks 9)) Unit true true 0 ∷ typed None (Some Kind.Bytes) Unit true true 0 ∷ typed (Some Kind.Bytes) (Some
    (Kind.Blocks 9)) Unit true false 9 ∷ typed None (Some (Kind.Blocks 9)) Unit true true 0 ∷ typed None (Some Kind.Bytes) Unit true true 0 ∷ typed
    (Some Kind.Bytes) (Some (Kind.Blocks 9)) Unit true false 9 ∷ typed (Some (Kind.Blocks 22)) (Some (Kind.Blocks 22)) Unit true false 0 ∷ typed (Some
    (Kind.Blocks 22)) None (Pair (ListV Sort.Block) Unit) true false 0 ∷ typed (Some (Kind.Blocks 22)) (Some (Kind.Blocks 22)) Unit true false 0 ∷
    typed (Some (Kind.Blocks 22)) None (Pair (ListV Sort.Block) Unit) true false 0 ∷ typed (Some (Kind.Blocks 22)) None (ListV Sort.Block) true false
    1150 ∷ typed (Some (Kind.Blocks 22)) None Unit true false 0 ∷ []) ∷ [])
unfolding chars
script_4_types = part_types_are script_4

-- run sourceFile "c" | { exactlyE 3 { chunksOf 4 }; exactlyE 3 { lineE { lines 2 } } } | exactly 9 { take 9 } | head;
abbrev script_5 : List Sentence
script_5 = run_statement (piped ((source_file_word (99 ∷ [])) ∷ (sequence_form ((exactly_e_form 3 (chunks_of_word 4)) ∷ (exactly_e_form 3
    (line_e_form (lines_word 2))) ∷ [])) ∷ (exactly_form 9 (take_word 9)) ∷ head_word ∷ [])) ∷ []

script_5_answer : verdict script_5 ≡ passed ((Reads (99 ∷ [])) ∷ []) 6
script_5_answer = verdict_is script_5

script_5_types : part_types script_5 ≡ ((typed None None (Maybe BytesV) true true 0 ∷ typed None (Some Kind.Bytes) Unit true true 0 ∷ typed (Some
    Kind.Bytes) (Some (Kind.Blocks 4)) Unit true false 0 ∷ typed (Some Kind.Bytes) (Some (Kind.Blocks 4)) Unit true false 0 ∷ typed (Some Kind.Bytes)
    (Some (Kind.Blocks 4)) Unit true false 4 ∷ typed (Some Kind.Bytes) (Some (Kind.Blocks 2)) Unit true false 0 ∷ typed (Some Kind.Bytes) (Some
    (Kind.Blocks 2)) Unit true false 0 ∷ typed (Some Kind.Bytes) (Some (Kind.Blocks 2)) Unit true false 2 ∷ typed (Some (Kind.Blocks 4)) (Some
    (Kind.Blocks 4)) Unit true false 0 ∷ typed (Some (Kind.Blocks 4)) (Some (Kind.Blocks 4)) Unit true false 0 ∷ typed (Some (Kind.Blocks 4)) None
    (Maybe BytesV) true false 0 ∷ []) ∷ [])
script_5_types = part_types_are script_5

-- run sourceFile "d" | takeWhileE not space | lineE { lines 4 } | (exactly 9 { unlines } | (utf8Lenient | headE));
abbrev script_6 : List Sentence
script_6 = run_statement (piped ((source_file_word (100 ∷ [])) ∷ (take_while_e (not_class space)) ∷ (line_e_form (lines_word 4)) ∷ (piped
    ((exactly_form 9 unlines_word) ∷ (piped (utf8_lenient_word ∷ head_e ∷ [])) ∷ [])) ∷ [])) ∷ []

script_6_answer : verdict script_6 ≡ passed ((Reads (100 ∷ [])) ∷ []) 7
script_6_answer = verdict_is script_6

script_6_types : part_types script_6 ≡ ((typed None None (Maybe Char) true true 0 ∷ typed None (Some Kind.Bytes) Unit true true 0 ∷ typed (Some
    Kind.Bytes) (Some Kind.Bytes) Unit true false 0 ∷ typed (Some Kind.Bytes) (Some (Kind.Blocks 4)) Unit true false 0 ∷ typed (Some Kind.Bytes) (Some
    (Kind.Blocks 4)) Unit true false 4 ∷ typed (Some (Kind.Blocks 4)) None (Maybe Char) true false 0 ∷ typed (Some (Kind.Blocks 4)) (Some Kind.Bytes)
    Unit true false 0 ∷ typed (Some (Kind.Blocks 4)) (Some Kind.Bytes) Unit true false 0 ∷ typed (Some Kind.Bytes) None (Maybe Char) false false 0 ∷
    typed (Some Kind.Bytes) (Some Kind.Chars) Unit true false 3 ∷ typed (Some Kind.Chars) None (Maybe Char) true false 0 ∷ []) ∷ [])
script_6_types = part_types_are script_6

-- hold k0 = mark "m1";
-- run sourceFile "c" | { hexDecode; mark "m2" { passE } } | dropWhileE lower;
abbrev script_7 : List Sentence
script_7 = hold_statement (107 ∷ 48 ∷ []) (109 ∷ 49 ∷ []) ∷ run_statement (piped ((source_file_word (99 ∷ [])) ∷ (sequence_form (hex_decode_word ∷
    (mark_form (109 ∷ 50 ∷ []) pass_e) ∷ [])) ∷ (drop_while_e lower) ∷ [])) ∷ []

script_7_answer : verdict script_7 ≡ passed ((Marks (109 ∷ 49 ∷ [])) ∷ (Reads (99 ∷ [])) ∷ (Marks (109 ∷ 50 ∷ [])) ∷ []) 1
script_7_answer = verdict_is script_7

script_7_types : part_types script_7 ≡ ([] ∷ (typed None None Unit true true 0 ∷ typed None (Some Kind.Bytes) Unit true true 0 ∷ typed (Some
    Kind.Bytes) (Some Kind.Bytes) Unit true false 0 ∷ typed (Some Kind.Bytes) (Some Kind.Bytes) Unit true false 1 ∷ typed (Some Kind.Bytes) (Some
    Kind.Bytes) Unit true false 0 ∷ typed (Some Kind.Bytes) (Some Kind.Bytes) Unit true false 0 ∷ typed (Some Kind.Bytes) None Unit true false 0 ∷ [])
    ∷ [])
script_7_types = part_types_are script_7

-- let s0 = seal sourceFile "d";
-- run sourceFile "a" | hexEncode | sinkFile "x1";
-- hold k1 = mark "m2";
-- run (range 1 1 | intersperse "-ab-") | flat | (base64Decode | stdout);
abbrev script_8 : List Sentence
script_8 = let_statement (115 ∷ 48 ∷ []) (source_file_word (100 ∷ [])) ∷ run_statement (piped ((source_file_word (97 ∷ [])) ∷ hex_encode_word ∷
    (sink_file_word (120 ∷ 49 ∷ [])) ∷ [])) ∷ hold_statement (107 ∷ 49 ∷ []) (109 ∷ 50 ∷ []) ∷ run_statement (piped ((piped ((range_word 1 1) ∷
    (intersperse_word (45 ∷ 97 ∷ 98 ∷ 45 ∷ [])) ∷ [])) ∷ flat_word ∷ (piped (base64_decode_word ∷ stdout_word ∷ [])) ∷ [])) ∷ []

script_8_answer : verdict script_8 ≡ passed ((Reads (100 ∷ [])) ∷ (Reads (97 ∷ [])) ∷ (Writes (120 ∷ 49 ∷ [])) ∷ (Marks (109 ∷ 50 ∷ [])) ∷
    WritesOutput ∷ []) 3
unfolding chars
script_8_answer = verdict_is script_8

script_8_types : part_types script_8 ≡ ((typed None (Some Kind.Bytes) Unit true true 0 ∷ []) ∷ (typed None None Unit true true 0 ∷ typed None (Some
    Kind.Bytes) Unit true true 0 ∷ typed (Some Kind.Bytes) (Some Kind.Bytes) Unit true false 0 ∷ typed (Some Kind.Bytes) None Unit true false 0 ∷ [])
    ∷ [] ∷ (typed None None Unit true true 0 ∷ typed None (Some (Kind.Blocks 20)) Unit true true 0 ∷ typed None (Some (Kind.Blocks 20)) Unit true true
    0 ∷ typed (Some (Kind.Blocks 20)) (Some (Kind.Blocks 20)) Unit true false 0 ∷ typed (Some (Kind.Blocks 20)) (Some Kind.Bytes) Unit true false 0 ∷
    typed (Some Kind.Bytes) None Unit false false 0 ∷ typed (Some Kind.Bytes) (Some Kind.Bytes) Unit true false 3 ∷ typed (Some Kind.Bytes) None Unit
    true false 0 ∷ []) ∷ [])
unfolding chars
script_8_types = part_types_are script_8

-- run sourceFile "b" | utf8 | filterE alpha | zipSink(lengthE, zipSink(nullE, allE is "-"));
-- run stdin | stdout;
-- hold k1 = mark "m2";
abbrev script_9 : List Sentence
script_9 = run_statement (piped ((source_file_word (98 ∷ [])) ∷ utf8_word ∷ (filter_e alpha) ∷ (zip_sink_form length_e (zip_sink_form null_e (all_e
    (is_scalar 45)))) ∷ [])) ∷ run_statement (piped (stdin_word ∷ stdout_word ∷ [])) ∷ hold_statement (107 ∷ 49 ∷ []) (109 ∷ 50 ∷ []) ∷ []

script_9_answer : verdict script_9 ≡ passed ((Reads (98 ∷ [])) ∷ ReadsInput ∷ WritesOutput ∷ (Marks (109 ∷ 50 ∷ [])) ∷ []) 3
script_9_answer = verdict_is script_9

script_9_types : part_types script_9 ≡ ((typed None None (Pair Num (Pair Truth Truth)) true true 0 ∷ typed None (Some Kind.Bytes) Unit true true 0 ∷
    typed (Some Kind.Bytes) (Some Kind.Chars) Unit true false 3 ∷ typed (Some Kind.Chars) (Some Kind.Chars) Unit true false 0 ∷ typed (Some
    Kind.Chars) None (Pair Num (Pair Truth Truth)) false false 0 ∷ typed (Some Kind.Chars) None Num true false 0 ∷ typed (Some Kind.Chars) None (Pair
    Truth Truth) false false 0 ∷ typed (Some Kind.Chars) None Truth true false 0 ∷ typed (Some Kind.Chars) None Truth true false 0 ∷ []) ∷ (typed None
    None Unit true true 0 ∷ typed None (Some Kind.Bytes) Unit true true 0 ∷ typed (Some Kind.Bytes) None Unit true false 0 ∷ []) ∷ [] ∷ [])
script_9_types = part_types_are script_9

-- run sourceFile "missing" | mark "m1" { exactlyE 0 { repeatE 2 } } | (split "\r" 2 | repeat 2) | exactly 4 { pass |+ peek };
abbrev script_10 : List Sentence
script_10 = run_statement (piped ((source_file_word (109 ∷ 105 ∷ 115 ∷ 115 ∷ 105 ∷ 110 ∷ 103 ∷ [])) ∷ (mark_form (109 ∷ 49 ∷ []) (exactly_e_form 0
    (repeat_e 2))) ∷ (piped ((split_word 13 2) ∷ (repeat_word 2) ∷ [])) ∷ (exactly_form 4 (piped_return (pass_word ∷ peek_word ∷ []))) ∷ [])) ∷ []

script_10_answer : verdict script_10 ≡ passed ((Reads (109 ∷ 105 ∷ 115 ∷ 115 ∷ 105 ∷ 110 ∷ 103 ∷ [])) ∷ (Marks (109 ∷ 49 ∷ [])) ∷ []) 5
script_10_answer = verdict_is script_10

script_10_types : part_types script_10 ≡ ((typed None None (Pair (Maybe BytesV) (ListV Sort.Block)) true true 0 ∷ typed None (Some Kind.Bytes) Unit
    true true 0 ∷ typed (Some Kind.Bytes) (Some Kind.Bytes) Unit true false 0 ∷ typed (Some Kind.Bytes) (Some Kind.Bytes) Unit true false 0 ∷ typed
    (Some Kind.Bytes) (Some Kind.Bytes) Unit true false 0 ∷ typed (Some Kind.Bytes) (Some (Kind.Blocks 2)) Unit false false 0 ∷ typed (Some
    Kind.Bytes) (Some (Kind.Blocks 2)) Unit true false 2 ∷ typed (Some (Kind.Blocks 2)) (Some (Kind.Blocks 2)) Unit true false 0 ∷ typed (Some
    (Kind.Blocks 2)) None (Pair (Maybe BytesV) (ListV Sort.Block)) true false 0 ∷ typed (Some (Kind.Blocks 2)) None (Pair (Maybe BytesV) (ListV
    Sort.Block)) true false 3 ∷ typed (Some (Kind.Blocks 2)) (Some (Kind.Blocks 2)) Unit true false 0 ∷ typed (Some (Kind.Blocks 2)) None (Maybe
    BytesV) true false 0 ∷ []) ∷ [])
script_10_types = part_types_are script_10
