-- What operators and forms ask of their parts, where two rules meet.
use Rattle.std.specs.Prelude.{List, [], ◌∷◌, ◌≡◌, codes}
use Rattle.std.specs.Str.{chars}
use Rattle.cd_meaning.specs.Places.{Reads, ReadsInput, WritesOutput}
use Rattle.cd_meaning.specs.Rows.Trees.{Sentence}
use Rattle.cd_meaning.specs.Rows.Short.{pass_e, take_e, map_e, head_e, length_e, sink_null, pass_word, collect_word, lines_word, flat_word, source_file_word, stdin_word, bytes_word, blocks_word, texts_word, range_word, stdout_word, rot13, piped, piped_keep, mark_form, zip_source_form, zip_sink_form, sequence_form, run_statement, let_statement, feed_statement}
use Rattle.cd_types.specs.declared.refusal.RefusalKind.TheVariants.{KindMismatch, SeesChunks, NotInvertible, ResultLost, OpenEnd}
use Rattle.cd_types.specs.Rows.Trees.{verdict, verdict_is, refused, passed}

-- run bytes "x" | sourceFile "a" | stdout; a source takes any input
abbrev source_on_a_flow_script : List Sentence
source_on_a_flow_script = run_statement (piped (bytes_word (codes "x") ∷ source_file_word (codes "a") ∷ stdout_word ∷ [])) ∷ []

source_on_a_flow : verdict source_on_a_flow_script ≡ passed (Reads (codes "a") ∷ WritesOutput ∷ []) 0
source_on_a_flow = verdict_is source_on_a_flow_script

-- run range 0 9 | stdin | stdout;
abbrev source_on_pieces_script : List Sentence
source_on_pieces_script = run_statement (piped (range_word 0 9 ∷ stdin_word ∷ stdout_word ∷ [])) ∷ []

source_on_pieces : verdict source_on_pieces_script ≡ passed (ReadsInput ∷ WritesOutput ∷ []) 0
source_on_pieces = verdict_is source_on_pieces_script

-- let s = seal bytes "x" | sinkNull; which gives nothing
abbrev seal_of_nothing_script : List Sentence
seal_of_nothing_script = let_statement (codes "s") (piped (bytes_word (codes "x") ∷ sink_null ∷ [])) ∷ []

seal_of_nothing : verdict seal_of_nothing_script ≡ passed [] 0
seal_of_nothing = verdict_is seal_of_nothing_script

-- let s = seal bytes "x" | sinkNull;
-- feed s | sinkNull;
abbrev nothing_fed_script : List Sentence
nothing_fed_script = let_statement (codes "s") (piped (bytes_word (codes "x") ∷ sink_null ∷ [])) ∷ feed_statement (codes "s") sink_null ∷ []

nothing_fed : verdict nothing_fed_script ≡ refused OpenEnd 2 1
nothing_fed = verdict_is nothing_fed_script

-- let s = seal bytes "x" | sinkNull;
-- feed s | bytes "x" | sinkNull;
abbrev nothing_asked_for_script : List Sentence
nothing_asked_for_script = let_statement (codes "s") (piped (bytes_word (codes "x") ∷ sink_null ∷ [])) ∷ feed_statement (codes "s") (piped (bytes_word
    (codes "x") ∷ sink_null ∷ [])) ∷ []

nothing_asked_for : verdict nothing_asked_for_script ≡ passed [] 0
nothing_asked_for = verdict_is nothing_asked_for_script

-- let s = seal { headE } of bytes "x"; whose result nobody gets
abbrev seal_with_a_result_script : List Sentence
seal_with_a_result_script = let_statement (codes "s") (piped (bytes_word (codes "x") ∷ head_e ∷ [])) ∷ []

seal_with_a_result : verdict seal_with_a_result_script ≡ refused ResultLost 1 1
seal_with_a_result = verdict_is seal_with_a_result_script

-- run range 0 9 | { sinkNull; pass } | flat | stdout; nothing and pieces join to pieces
abbrev nothing_joined_script : List Sentence
nothing_joined_script = run_statement (piped (range_word 0 9 ∷ sequence_form (sink_null ∷ pass_word ∷ []) ∷ flat_word ∷ stdout_word ∷ [])) ∷ []

nothing_joined : verdict nothing_joined_script ≡ passed (WritesOutput ∷ []) 0
nothing_joined = verdict_is nothing_joined_script

-- run range 0 9 | { pass; flat } | flat | stdout;
abbrev outputs_that_differ_script : List Sentence
outputs_that_differ_script = run_statement (piped (range_word 0 9 ∷ sequence_form (pass_word ∷ flat_word ∷ []) ∷ flat_word ∷ stdout_word ∷ [])) ∷ []

outputs_that_differ : verdict outputs_that_differ_script ≡ refused KindMismatch 1 5
outputs_that_differ = verdict_is outputs_that_differ_script

-- run bytes "x" | zipSink(lines 3 | collect 1, lines 5 | collect 1);
abbrev larger_bound_joined_script : List Sentence
larger_bound_joined_script = run_statement (piped (bytes_word (codes "x") ∷ zip_sink_form (piped (lines_word 3 ∷ collect_word 1 ∷ [])) (piped
    (lines_word 5 ∷ collect_word 1 ∷ [])) ∷ [])) ∷ []

larger_bound_joined : verdict larger_bound_joined_script ≡ passed [] 18
larger_bound_joined = verdict_is larger_bound_joined_script

-- run sourceFile "a" | zipSink(stdin | sinkNull, lengthE); though only one of them has a site
abbrev standard_input_in_a_zip_script : List Sentence
standard_input_in_a_zip_script = run_statement (piped (source_file_word (codes "a") ∷ zip_sink_form (piped (stdin_word ∷ sink_null ∷ [])) length_e ∷
    [])) ∷ []

standard_input_in_a_zip : verdict standard_input_in_a_zip_script ≡ refused SeesChunks 1 3
standard_input_in_a_zip = verdict_is standard_input_in_a_zip_script

-- run sourceFile "a" | zipSink(stdout, stdout);
abbrev two_outputs_in_a_zip_script : List Sentence
two_outputs_in_a_zip_script = run_statement (piped (source_file_word (codes "a") ∷ zip_sink_form stdout_word stdout_word ∷ [])) ∷ []

two_outputs_in_a_zip : verdict two_outputs_in_a_zip_script ≡ refused SeesChunks 1 3
two_outputs_in_a_zip = verdict_is two_outputs_in_a_zip_script

-- run sourceFile "a" | zipSink(stdout, lengthE);
abbrev one_output_in_a_zip_script : List Sentence
one_output_in_a_zip_script = run_statement (piped (source_file_word (codes "a") ∷ zip_sink_form stdout_word length_e ∷ [])) ∷ []

one_output_in_a_zip : verdict one_output_in_a_zip_script ≡ passed (Reads (codes "a") ∷ WritesOutput ∷ []) 0
one_output_in_a_zip = verdict_is one_output_in_a_zip_script

-- run zipSource(blocks ["x"], texts ["x"], "") | sinkNull;
abbrev zip_of_other_sorts_script : List Sentence
zip_of_other_sorts_script = run_statement (piped (zip_source_form [] (blocks_word (codes "x" ∷ [])) (texts_word (codes "x" ∷ [])) ∷ sink_null ∷ [])) ∷
    []

zip_of_other_sorts : verdict zip_of_other_sorts_script ≡ refused KindMismatch 1 4
unfolding chars
zip_of_other_sorts = verdict_is zip_of_other_sorts_script

-- run zipSource(blocks ["x"], blocks ["xy"], "z") | collect 2;
abbrev zip_of_one_sort_script : List Sentence
zip_of_one_sort_script = run_statement (piped (zip_source_form (codes "z") (blocks_word (codes "x" ∷ [])) (blocks_word (codes "xy" ∷ [])) ∷
    collect_word 2 ∷ [])) ∷ []

zip_of_one_sort : verdict zip_of_one_sort_script ≡ passed [] 12
unfolding chars
zip_of_one_sort = verdict_is zip_of_one_sort_script

-- run zipSource(bytes "x", blocks ["x"], "") | sinkNull;
abbrev zip_of_elements_script : List Sentence
zip_of_elements_script = run_statement (piped (zip_source_form [] (bytes_word (codes "x")) (blocks_word (codes "x" ∷ [])) ∷ sink_null ∷ [])) ∷ []

zip_of_elements : verdict zip_of_elements_script ≡ refused SeesChunks 1 3
unfolding chars
zip_of_elements = verdict_is zip_of_elements_script

-- run sourceFile "a" | passE | headE | sinkNull;
abbrev result_in_the_middle_script : List Sentence
result_in_the_middle_script = run_statement (piped (source_file_word (codes "a") ∷ pass_e ∷ head_e ∷ sink_null ∷ [])) ∷ []

result_in_the_middle : verdict result_in_the_middle_script ≡ refused ResultLost 1 4
result_in_the_middle = verdict_is result_in_the_middle_script

-- run sourceFile "a" | ((mapE rot13 | passE) |= takeE 2) | stdout;
abbrev maps_in_a_chain_script : List Sentence
maps_in_a_chain_script = run_statement (piped (source_file_word (codes "a") ∷ piped_keep (piped (map_e rot13 ∷ pass_e ∷ []) ∷ take_e 2 ∷ []) ∷
    stdout_word ∷ [])) ∷ []

maps_in_a_chain : verdict maps_in_a_chain_script ≡ passed (Reads (codes "a") ∷ WritesOutput ∷ []) 0
maps_in_a_chain = verdict_is maps_in_a_chain_script

-- run sourceFile "a" | (mark "m" { passE } |= takeE 2) | stdout;
abbrev maps_in_a_mark_script : List Sentence
maps_in_a_mark_script = run_statement (piped (source_file_word (codes "a") ∷ piped_keep (mark_form (codes "m") pass_e ∷ take_e 2 ∷ []) ∷ stdout_word ∷
    [])) ∷ []

maps_in_a_mark : verdict maps_in_a_mark_script ≡ refused NotInvertible 1 4
maps_in_a_mark = verdict_is maps_in_a_mark_script
