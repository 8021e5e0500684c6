-- The examples of docs/TYPING.md: of each refusal a script, and what one would write instead. The 257th statement and the 129th site are in `Numbers`.
use Rattle.std.specs.Prelude.{List, [], ◌∷◌, ◌≡◌, codes}
use Rattle.cd_meaning.specs.Places.{Reads, ReadsInput, Writes, WritesOutput, Marks}
use Rattle.cd_meaning.specs.Rows.Trees.{Sentence}
use Rattle.cd_meaning.specs.Rows.Short.{pass_e, take_e, filter_e, map_e, length_e, take_word, collect_word, lines_word, unlines_word, utf8_encode_word, hex_encode_word, source_file_word, stdin_word, text_word, range_word, sink_file_word, stdout_word, digit, xor, piped, piped_keep, piped_both, exactly_e_form, sequence_form, run_statement, let_statement, feed_statement, hold_statement, release_statement}
use Rattle.cd_types.specs.declared.refusal.RefusalKind.TheVariants.{KindMismatch, SeesChunks, NeedsElements, DropsRest, NotInvertible, NameTwice, Seal, BoundTooLarge, ResultLost, OpenEnd, Key}
use Rattle.cd_types.specs.Rows.Trees.{verdict, verdict_is, refused, passed}

-- run text "abc" | hexEncode | stdout;
abbrev characters_as_bytes_script : List Sentence
characters_as_bytes_script = run_statement (piped (text_word (codes "abc") ∷ hex_encode_word ∷ stdout_word ∷ [])) ∷ []

characters_as_bytes : verdict characters_as_bytes_script ≡ refused KindMismatch 1 3
characters_as_bytes = verdict_is characters_as_bytes_script

-- run text "abc" | utf8Encode | hexEncode | stdout;
abbrev characters_encoded_script : List Sentence
characters_encoded_script = run_statement (piped (text_word (codes "abc") ∷ utf8_encode_word ∷ hex_encode_word ∷ stdout_word ∷ [])) ∷ []

characters_encoded : verdict characters_encoded_script ≡ passed (WritesOutput ∷ []) 0
characters_encoded = verdict_is characters_encoded_script

-- run sourceFile "a" | take 1 | unlines | stdout;
abbrev pieces_of_a_file_script : List Sentence
pieces_of_a_file_script = run_statement (piped (source_file_word (codes "a") ∷ take_word 1 ∷ unlines_word ∷ stdout_word ∷ [])) ∷ []

pieces_of_a_file : verdict pieces_of_a_file_script ≡ refused SeesChunks 1 3
pieces_of_a_file = verdict_is pieces_of_a_file_script

-- run sourceFile "a" | lines 80 | take 1 | unlines | stdout;
abbrev lines_of_a_file_script : List Sentence
lines_of_a_file_script = run_statement (piped (source_file_word (codes "a") ∷ lines_word 80 ∷ take_word 1 ∷ unlines_word ∷ stdout_word ∷ [])) ∷ []

lines_of_a_file : verdict lines_of_a_file_script ≡ passed (Reads (codes "a") ∷ WritesOutput ∷ []) 80
lines_of_a_file = verdict_is lines_of_a_file_script

-- run range 0 9 | takeE 5 | stdout;
abbrev elements_of_pieces_script : List Sentence
elements_of_pieces_script = run_statement (piped (range_word 0 9 ∷ take_e 5 ∷ stdout_word ∷ [])) ∷ []

elements_of_pieces : verdict elements_of_pieces_script ≡ refused NeedsElements 1 3
elements_of_pieces = verdict_is elements_of_pieces_script

-- run range 0 9 | unlines | takeE 5 | stdout;
abbrev elements_of_lines_script : List Sentence
elements_of_lines_script = run_statement (piped (range_word 0 9 ∷ unlines_word ∷ take_e 5 ∷ stdout_word ∷ [])) ∷ []

elements_of_lines : verdict elements_of_lines_script ≡ passed (WritesOutput ∷ []) 0
elements_of_lines = verdict_is elements_of_lines_script

-- run sourceFile "a" | { (mapE xor 1 | takeE 2); passE } | stdout;
abbrev rest_behind_a_map_script : List Sentence
rest_behind_a_map_script = run_statement (piped (source_file_word (codes "a") ∷ sequence_form (piped (map_e (xor 1) ∷ take_e 2 ∷ []) ∷ pass_e ∷ []) ∷
    stdout_word ∷ [])) ∷ []

rest_behind_a_map : verdict rest_behind_a_map_script ≡ refused DropsRest 1 4
rest_behind_a_map = verdict_is rest_behind_a_map_script

-- run sourceFile "a" | { (mapE xor 1 |= takeE 2); passE } | stdout;
abbrev rest_given_back_script : List Sentence
rest_given_back_script = run_statement (piped (source_file_word (codes "a") ∷ sequence_form (piped_keep (map_e (xor 1) ∷ take_e 2 ∷ []) ∷ pass_e ∷ [])
    ∷ stdout_word ∷ [])) ∷ []

rest_given_back : verdict rest_given_back_script ≡ passed (Reads (codes "a") ∷ WritesOutput ∷ []) 0
rest_given_back = verdict_is rest_given_back_script

-- run sourceFile "a" | { (filterE digit |= takeE 2); passE } | stdout;
abbrev rest_of_a_filter_script : List Sentence
rest_of_a_filter_script = run_statement (piped (source_file_word (codes "a") ∷ sequence_form (piped_keep (filter_e digit ∷ take_e 2 ∷ []) ∷ pass_e ∷
    []) ∷ stdout_word ∷ [])) ∷ []

rest_of_a_filter : verdict rest_of_a_filter_script ≡ refused NotInvertible 1 5
rest_of_a_filter = verdict_is rest_of_a_filter_script

-- run sourceFile "a" | { exactlyE 2 { filterE digit }; passE } | stdout;
abbrev filter_behind_a_section_script : List Sentence
filter_behind_a_section_script = run_statement (piped (source_file_word (codes "a") ∷ sequence_form (exactly_e_form 2 (filter_e digit) ∷ pass_e ∷ [])
    ∷ stdout_word ∷ [])) ∷ []

filter_behind_a_section : verdict filter_behind_a_section_script ≡ passed (Reads (codes "a") ∷ WritesOutput ∷ []) 0
filter_behind_a_section = verdict_is filter_behind_a_section_script

-- run sourceFile "a" | sinkFile "a";
abbrev file_onto_itself_script : List Sentence
file_onto_itself_script = run_statement (piped (source_file_word (codes "a") ∷ sink_file_word (codes "a") ∷ [])) ∷ []

file_onto_itself : verdict file_onto_itself_script ≡ refused NameTwice 1 3
file_onto_itself = verdict_is file_onto_itself_script

-- run sourceFile "a" | sinkFile "b";
abbrev file_onto_another_script : List Sentence
file_onto_another_script = run_statement (piped (source_file_word (codes "a") ∷ sink_file_word (codes "b") ∷ [])) ∷ []

file_onto_another : verdict file_onto_another_script ≡ passed (Reads (codes "a") ∷ Writes (codes "b") ∷ []) 0
file_onto_another = verdict_is file_onto_another_script

-- feed s | exactlyE 5 { stdout };
abbrev no_such_seal_script : List Sentence
no_such_seal_script = feed_statement (codes "s") (exactly_e_form 5 stdout_word) ∷ []

no_such_seal : verdict no_such_seal_script ≡ refused Seal 1 0
no_such_seal = verdict_is no_such_seal_script

-- let s = seal sourceFile "a";
-- feed s | exactlyE 5 { stdout };
abbrev seal_first_script : List Sentence
seal_first_script = let_statement (codes "s") (source_file_word (codes "a")) ∷ feed_statement (codes "s") (exactly_e_form 5 stdout_word) ∷ []

seal_first : verdict seal_first_script ≡ passed (Reads (codes "a") ∷ WritesOutput ∷ []) 0
seal_first = verdict_is seal_first_script

-- run range 0 9 | collect 16777216;
abbrev too_many_collected_script : List Sentence
too_many_collected_script = run_statement (piped (range_word 0 9 ∷ collect_word 16777216 ∷ [])) ∷ []

too_many_collected : verdict too_many_collected_script ≡ refused BoundTooLarge 1 3
too_many_collected = verdict_is too_many_collected_script

-- run range 0 9 | collect 1000;
abbrev fewer_collected_script : List Sentence
fewer_collected_script = run_statement (piped (range_word 0 9 ∷ collect_word 1000 ∷ [])) ∷ []

fewer_collected : verdict fewer_collected_script ≡ passed [] 21000
fewer_collected = verdict_is fewer_collected_script

-- run sourceFile "a" | { passE; lengthE } | stdout;
abbrev length_lost_script : List Sentence
length_lost_script = run_statement (piped (source_file_word (codes "a") ∷ sequence_form (pass_e ∷ length_e ∷ []) ∷ stdout_word ∷ [])) ∷ []

length_lost : verdict length_lost_script ≡ refused ResultLost 1 3
length_lost = verdict_is length_lost_script

-- run sourceFile "a" | ({ passE; lengthE } |& stdout);
abbrev length_kept_script : List Sentence
length_kept_script = run_statement (piped (source_file_word (codes "a") ∷ piped_both (sequence_form (pass_e ∷ length_e ∷ []) ∷ stdout_word ∷ []) ∷
    [])) ∷ []

length_kept : verdict length_kept_script ≡ passed (Reads (codes "a") ∷ WritesOutput ∷ []) 0
length_kept = verdict_is length_kept_script

-- run takeE 5 | stdout;
abbrev no_source_script : List Sentence
no_source_script = run_statement (piped (take_e 5 ∷ stdout_word ∷ [])) ∷ []

no_source : verdict no_source_script ≡ refused OpenEnd 1 2
no_source = verdict_is no_source_script

-- run stdin | takeE 5 | stdout;
abbrev standard_input_script : List Sentence
standard_input_script = run_statement (piped (stdin_word ∷ take_e 5 ∷ stdout_word ∷ [])) ∷ []

standard_input : verdict standard_input_script ≡ passed (ReadsInput ∷ WritesOutput ∷ []) 0
standard_input = verdict_is standard_input_script

-- run sourceFile "a" | takeE 5;
abbrev no_sink_script : List Sentence
no_sink_script = run_statement (piped (source_file_word (codes "a") ∷ take_e 5 ∷ [])) ∷ []

no_sink : verdict no_sink_script ≡ refused OpenEnd 1 1
no_sink = verdict_is no_sink_script

-- run sourceFile "a" | takeE 5 | stdout;
abbrev standard_output_script : List Sentence
standard_output_script = run_statement (piped (source_file_word (codes "a") ∷ take_e 5 ∷ stdout_word ∷ [])) ∷ []

standard_output : verdict standard_output_script ≡ passed (Reads (codes "a") ∷ WritesOutput ∷ []) 0
standard_output = verdict_is standard_output_script

-- hold k = mark "m";
-- release k;
-- release k;
abbrev key_twice_script : List Sentence
key_twice_script = hold_statement (codes "k") (codes "m") ∷ release_statement (codes "k") ∷ release_statement (codes "k") ∷ []

key_twice : verdict key_twice_script ≡ refused Key 3 0
key_twice = verdict_is key_twice_script

-- hold k = mark "m";
-- release k;
abbrev key_once_script : List Sentence
key_once_script = hold_statement (codes "k") (codes "m") ∷ release_statement (codes "k") ∷ []

key_once : verdict key_once_script ≡ passed (Marks (codes "m") ∷ []) 0
key_once = verdict_is key_once_script
