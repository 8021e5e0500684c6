-- A part whose rest is read later gives back what it does not need: which parts are not exact, and where that is refused.
use Rattle.std.specs.Prelude.{List, [], ◌∷◌, ◌≡◌, codes}
use Rattle.cd_meaning.specs.Places.{Reads, WritesOutput}
use Rattle.cd_meaning.specs.Rows.Trees.{Sentence, Tree}
use Rattle.cd_meaning.specs.Rows.Short.{pass_e, take_e, head_e, length_e, sink_null, pass_word, take_word, lines_word, flat_word, source_file_word, bytes_word, range_word, stdout_word, piped, piped_keep, piped_return, piped_both, piped_up, piped_asked, exactly_e_form, line_e_form, mark_form, zip_sink_form, sequence_form, run_statement, let_statement, feed_statement, close_statement}
use Rattle.cd_types.specs.declared.refusal.RefusalKind.TheVariants.{DropsRest}
use Rattle.cd_types.specs.Rows.Trees.{verdict, verdict_is, refused, passed}

-- `run sourceFile "a" | ..;`
abbrev of_file : List Tree → List Sentence
of_file = λ ts. run_statement (piped (source_file_word (codes "a") ∷ ts)) ∷ []

-- run sourceFile "a" | { (passE | takeE 1); passE } | stdout;
abbrev after_plain_script : List Sentence
after_plain_script = of_file (sequence_form ((piped (pass_e ∷ take_e 1 ∷ [])) ∷ pass_e ∷ []) ∷ stdout_word ∷ [])

after_plain : verdict after_plain_script ≡ refused DropsRest 1 4
after_plain = verdict_is after_plain_script

-- run sourceFile "a" | { (passE |= takeE 1); passE } | stdout;
abbrev after_kept_script : List Sentence
after_kept_script = of_file (sequence_form (piped_keep (pass_e ∷ take_e 1 ∷ []) ∷ pass_e ∷ []) ∷ stdout_word ∷ [])

after_kept : verdict after_kept_script ≡ passed (Reads (codes "a") ∷ WritesOutput ∷ []) 0
after_kept = verdict_is after_kept_script

-- run sourceFile "a" | { (passE |= (passE | takeE 1)); passE } | stdout;
abbrev after_kept_chain_script : List Sentence
after_kept_chain_script = of_file (sequence_form (piped_keep (pass_e ∷ (piped (pass_e ∷ take_e 1 ∷ [])) ∷ []) ∷ pass_e ∷ []) ∷ stdout_word ∷ [])

after_kept_chain : verdict after_kept_chain_script ≡ refused DropsRest 1 4
after_kept_chain = verdict_is after_kept_chain_script

-- run sourceFile "a" | { (takeE 1 |& sinkNull); passE } | stdout;
abbrev after_both_script : List Sentence
after_both_script = of_file (sequence_form (piped_both (take_e 1 ∷ sink_null ∷ []) ∷ pass_e ∷ []) ∷ stdout_word ∷ [])

after_both : verdict after_both_script ≡ passed (Reads (codes "a") ∷ WritesOutput ∷ []) 0
after_both = verdict_is after_both_script

-- run sourceFile "a" | { ((passE | takeE 1) |& sinkNull); passE } | stdout;
abbrev after_both_of_a_chain_script : List Sentence
after_both_of_a_chain_script = of_file (sequence_form (piped_both ((piped (pass_e ∷ take_e 1 ∷ [])) ∷ sink_null ∷ []) ∷ pass_e ∷ []) ∷ stdout_word ∷
    [])

after_both_of_a_chain : verdict after_both_of_a_chain_script ≡ refused DropsRest 1 4
after_both_of_a_chain = verdict_is after_both_of_a_chain_script

-- run sourceFile "a" | { (passE |& (passE | takeE 1)); passE } | stdout;
abbrev after_both_of_a_chain_behind_script : List Sentence
after_both_of_a_chain_behind_script = of_file (sequence_form (piped_both (pass_e ∷ (piped (pass_e ∷ take_e 1 ∷ [])) ∷ []) ∷ pass_e ∷ []) ∷ stdout_word
    ∷ [])

after_both_of_a_chain_behind : verdict after_both_of_a_chain_behind_script ≡ passed (Reads (codes "a") ∷ WritesOutput ∷ []) 0
after_both_of_a_chain_behind = verdict_is after_both_of_a_chain_behind_script

-- run sourceFile "a" | { (takeE 1 |< sinkNull); passE } | stdout;
abbrev after_up_script : List Sentence
after_up_script = of_file (sequence_form (piped_up (take_e 1 ∷ sink_null ∷ []) ∷ pass_e ∷ []) ∷ stdout_word ∷ [])

after_up : verdict after_up_script ≡ passed (Reads (codes "a") ∷ WritesOutput ∷ []) 0
after_up = verdict_is after_up_script

-- run sourceFile "a" | { ((passE | takeE 1) |< sinkNull); passE } | stdout;
abbrev after_up_of_a_chain_script : List Sentence
after_up_of_a_chain_script = of_file (sequence_form (piped_up ((piped (pass_e ∷ take_e 1 ∷ [])) ∷ sink_null ∷ []) ∷ pass_e ∷ []) ∷ stdout_word ∷ [])

after_up_of_a_chain : verdict after_up_of_a_chain_script ≡ refused DropsRest 1 4
after_up_of_a_chain = verdict_is after_up_of_a_chain_script

-- run sourceFile "a" | { (takeE 1 |? sinkNull); passE } | stdout;
abbrev after_asked_script : List Sentence
after_asked_script = of_file (sequence_form (piped_asked (take_e 1 ∷ sink_null ∷ []) ∷ pass_e ∷ []) ∷ stdout_word ∷ [])

after_asked : verdict after_asked_script ≡ refused DropsRest 1 4
after_asked = verdict_is after_asked_script

-- run sourceFile "a" | { (lines 3 |+ sinkNull); passE } | stdout;
abbrev after_return_script : List Sentence
after_return_script = of_file (sequence_form (piped_return (lines_word 3 ∷ sink_null ∷ []) ∷ pass_e ∷ []) ∷ stdout_word ∷ [])

after_return : verdict after_return_script ≡ refused DropsRest 1 4
after_return = verdict_is after_return_script

-- run sourceFile "a" | { mark "m" { passE | takeE 1 }; passE } | stdout;
abbrev after_mark_script : List Sentence
after_mark_script = of_file (sequence_form (mark_form (codes "m") (piped (pass_e ∷ take_e 1 ∷ [])) ∷ pass_e ∷ []) ∷ stdout_word ∷ [])

after_mark : verdict after_mark_script ≡ refused DropsRest 1 4
after_mark = verdict_is after_mark_script

-- run sourceFile "a" | { exactlyE 2 { passE | takeE 1 }; passE } | stdout;
abbrev after_section_script : List Sentence
after_section_script = of_file (sequence_form (exactly_e_form 2 (piped (pass_e ∷ take_e 1 ∷ [])) ∷ pass_e ∷ []) ∷ stdout_word ∷ [])

after_section : verdict after_section_script ≡ passed (Reads (codes "a") ∷ WritesOutput ∷ []) 0
after_section = verdict_is after_section_script

-- run sourceFile "a" | { lineE { passE | takeE 1 }; passE } | stdout;
abbrev after_line_script : List Sentence
after_line_script = of_file (sequence_form (line_e_form (piped (pass_e ∷ take_e 1 ∷ [])) ∷ pass_e ∷ []) ∷ stdout_word ∷ [])

after_line : verdict after_line_script ≡ passed (Reads (codes "a") ∷ WritesOutput ∷ []) 0
after_line = verdict_is after_line_script

-- run sourceFile "a" | { { (passE | takeE 1) }; passE } | stdout;
abbrev after_sequence_script : List Sentence
after_sequence_script = of_file (sequence_form (sequence_form ((piped (pass_e ∷ take_e 1 ∷ [])) ∷ []) ∷ pass_e ∷ []) ∷ stdout_word ∷ [])

after_sequence : verdict after_sequence_script ≡ refused DropsRest 1 4
after_sequence = verdict_is after_sequence_script

-- run sourceFile "a" | { zipSink(headE, lengthE); passE } | stdout;
abbrev after_zip_script : List Sentence
after_zip_script = of_file (sequence_form (zip_sink_form head_e length_e ∷ pass_e ∷ []) ∷ stdout_word ∷ [])

after_zip : verdict after_zip_script ≡ refused DropsRest 1 4
after_zip = verdict_is after_zip_script

-- run sourceFile "a" | { passE; (passE | takeE 1) } | stdout;
abbrev behind_all_script : List Sentence
behind_all_script = of_file (sequence_form (pass_e ∷ (piped (pass_e ∷ take_e 1 ∷ [])) ∷ []) ∷ stdout_word ∷ [])

behind_all : verdict behind_all_script ≡ passed (Reads (codes "a") ∷ WritesOutput ∷ []) 0
behind_all = verdict_is behind_all_script

-- run sourceFile "a" | { (bytes "x" | takeE 1); passE } | stdout;
abbrev after_idle_script : List Sentence
after_idle_script = of_file (sequence_form (piped (bytes_word (codes "x") ∷ take_e 1 ∷ []) ∷ pass_e ∷ []) ∷ stdout_word ∷ [])

after_idle : verdict after_idle_script ≡ passed (Reads (codes "a") ∷ WritesOutput ∷ []) 0
after_idle = verdict_is after_idle_script

-- run range 0 9 | { (pass | take 1); pass } | flat | stdout;
abbrev on_pieces_script : List Sentence
on_pieces_script = run_statement (piped (range_word 0 9 ∷ sequence_form (piped (pass_word ∷ take_word 1 ∷ []) ∷ pass_word ∷ []) ∷ flat_word ∷
    stdout_word ∷ [])) ∷ []

on_pieces : verdict on_pieces_script ≡ passed (WritesOutput ∷ []) 0
on_pieces = verdict_is on_pieces_script

-- let s = seal sourceFile "a";
-- feed s | passE | takeE 1 | stdout;
abbrev fed_chain_script : List Sentence
fed_chain_script = let_statement (codes "s") (source_file_word (codes "a")) ∷ feed_statement (codes "s") (piped (pass_e ∷ take_e 1 ∷ stdout_word ∷
    [])) ∷ []

fed_chain : verdict fed_chain_script ≡ refused DropsRest 2 1
fed_chain = verdict_is fed_chain_script

-- let s = seal sourceFile "a";
-- feed s | exactlyE 1 { stdout };
abbrev fed_section_script : List Sentence
fed_section_script = let_statement (codes "s") (source_file_word (codes "a")) ∷ feed_statement (codes "s") (exactly_e_form 1 stdout_word) ∷ []

fed_section : verdict fed_section_script ≡ passed (Reads (codes "a") ∷ WritesOutput ∷ []) 0
fed_section = verdict_is fed_section_script

-- let s = seal sourceFile "a";
-- close s | passE | takeE 1 | stdout;
abbrev closed_chain_script : List Sentence
closed_chain_script = let_statement (codes "s") (source_file_word (codes "a")) ∷ close_statement (codes "s") (piped (pass_e ∷ take_e 1 ∷ stdout_word ∷
    [])) ∷ []

closed_chain : verdict closed_chain_script ≡ passed (Reads (codes "a") ∷ WritesOutput ∷ []) 0
closed_chain = verdict_is closed_chain_script

-- let s = seal range 0 9;
-- feed s | pass | take 1 | sinkNull;
abbrev fed_pieces_script : List Sentence
fed_pieces_script = let_statement (codes "s") (range_word 0 9) ∷ feed_statement (codes "s") (piped (pass_word ∷ take_word 1 ∷ sink_null ∷ [])) ∷ []

fed_pieces : verdict fed_pieces_script ≡ passed [] 0
fed_pieces = verdict_is fed_pieces_script
