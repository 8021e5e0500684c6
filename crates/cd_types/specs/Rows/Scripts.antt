-- Scripts and what is refused first in them, or what they reach.
use Rattle.std.specs.Prelude.{◌≡◌, List, [], ◌∷◌, codes, replicate}
use Rattle.cd_meaning.specs.Places.{Reads, Writes, WritesOutput, Marks}
use Rattle.cd_meaning.specs.Rows.Trees.{Sentence, Tree}
use Rattle.cd_meaning.specs.Rows.Short.{close_statement, collect_word, exactly_e_form, feed_statement, flat_word, head_e, hold_statement, length_e, let_statement, map_e, mark_form, pass_e, piped, piped_keep, range_word, release_statement, run_statement, sequence_form, sink_file_word, sink_null, source_file_word, stdin_word, stdout_word, take_e, take_word, utf8_word, utf8_lenient_word, xor, zip_sink_form, take_while_e, digit, drop_e}
use Rattle.cd_types.specs.declared.refusal.RefusalKind.TheVariants.{SeesChunks, DropsRest, NameTwice, Seal, BoundTooLarge, TooMany, Key}
use Rattle.cd_types.specs.Rows.Trees.{verdict, verdict_is, refused, passed}

abbrev of_file : List Tree → List Sentence
of_file = λ ts. run_statement (piped (source_file_word (codes "a") ∷ ts)) ∷ []

-- `run sourceFile "a" | takeE 5 | stdout;`
first_five : verdict (of_file (take_e 5 ∷ stdout_word ∷ [])) ≡ passed (Reads (codes "a") ∷ WritesOutput ∷ []) 0
first_five = verdict_is (of_file (take_e 5 ∷ stdout_word ∷ []))

digits_apart : verdict (of_file (sequence_form (take_while_e digit ∷ drop_e 1 ∷ pass_e ∷ []) ∷ stdout_word ∷ [])) ≡ passed (Reads (codes "a") ∷ WritesOutput ∷ []) 0
digits_apart = verdict_is (of_file (sequence_form (take_while_e digit ∷ drop_e 1 ∷ pass_e ∷ []) ∷ stdout_word ∷ []))

sees_chunks : verdict (of_file (take_word 1 ∷ flat_word ∷ stdout_word ∷ [])) ≡ refused SeesChunks 1 3
sees_chunks = verdict_is (of_file (take_word 1 ∷ flat_word ∷ stdout_word ∷ []))

drops_rest : verdict (of_file (sequence_form (piped (map_e (xor 1) ∷ take_e 2 ∷ []) ∷ pass_e ∷ []) ∷ stdout_word ∷ [])) ≡ refused DropsRest 1 4
drops_rest = verdict_is (of_file (sequence_form (piped (map_e (xor 1) ∷ take_e 2 ∷ []) ∷ pass_e ∷ []) ∷ stdout_word ∷ []))

keeps_rest : verdict (of_file (sequence_form (piped_keep (map_e (xor 1) ∷ take_e 2 ∷ []) ∷ pass_e ∷ []) ∷ stdout_word ∷ [])) ≡ passed (Reads (codes "a") ∷ WritesOutput ∷ []) 0
keeps_rest = verdict_is (of_file (sequence_form (piped_keep (map_e (xor 1) ∷ take_e 2 ∷ []) ∷ pass_e ∷ []) ∷ stdout_word ∷ []))

empty_script : verdict [] ≡ passed [] 0
empty_script = verdict_is []

name_twice : verdict (of_file (sink_file_word (codes "a") ∷ [])) ≡ refused NameTwice 1 3
name_twice = verdict_is (of_file (sink_file_word (codes "a") ∷ []))

faults_in_zip : verdict (of_file (zip_sink_form (piped (utf8_word ∷ length_e ∷ [])) length_e ∷ [])) ≡ refused SeesChunks 1 3
faults_in_zip = verdict_is (of_file (zip_sink_form (piped (utf8_word ∷ length_e ∷ [])) length_e ∷ []))

lenient_in_zip : verdict (of_file (zip_sink_form (piped (utf8_lenient_word ∷ length_e ∷ [])) length_e ∷ [])) ≡ passed (Reads (codes "a") ∷ []) 3
lenient_in_zip = verdict_is (of_file (zip_sink_form (piped (utf8_lenient_word ∷ length_e ∷ [])) length_e ∷ []))

abbrev collects : List Sentence
collects = run_statement (piped (range_word 0 9 ∷ collect_word 16777216 ∷ [])) ∷ []

bound_too_large : verdict collects ≡ refused BoundTooLarge 1 3
bound_too_large = verdict_is collects

abbrev released_twice : List Sentence
released_twice = hold_statement (codes "k") (codes "m") ∷ release_statement (codes "k") ∷ release_statement (codes "k") ∷ []

key_spent : verdict released_twice ≡ refused Key 3 0
key_spent = verdict_is released_twice

unknown_seal : verdict (feed_statement (codes "s") sink_null ∷ []) ≡ refused Seal 1 0
unknown_seal = verdict_is (feed_statement (codes "s") sink_null ∷ [])

abbrev sealed_twice : List Sentence
sealed_twice = let_statement (codes "s") (source_file_word (codes "a")) ∷ let_statement (codes "s") stdin_word ∷ []

seal_twice : verdict sealed_twice ≡ refused Seal 2 0
seal_twice = verdict_is sealed_twice

abbrev in_mark : List Tree → List Sentence
in_mark = λ ts. run_statement (piped (mark_form (codes "m") (source_file_word (codes "a")) ∷ sequence_form ts ∷ [])) ∷ []

mark_drops_rest : verdict (in_mark (piped (take_e 2 ∷ sink_file_word (codes "x") ∷ []) ∷ stdout_word ∷ [])) ≡ refused DropsRest 1 5
mark_drops_rest = verdict_is (in_mark (piped (take_e 2 ∷ sink_file_word (codes "x") ∷ []) ∷ stdout_word ∷ []))

mark_keeps_rest : verdict (in_mark (exactly_e_form 2 (sink_file_word (codes "x")) ∷ stdout_word ∷ []))
    ≡ passed (Marks (codes "m") ∷ Reads (codes "a") ∷ Writes (codes "x") ∷ WritesOutput ∷ []) 0
mark_keeps_rest = verdict_is (in_mark (exactly_e_form 2 (sink_file_word (codes "x")) ∷ stdout_word ∷ []))

abbrev seals : List Sentence
seals = let_statement (codes "s") (source_file_word (codes "a")) ∷ feed_statement (codes "s") (exactly_e_form 3 stdout_word) ∷ feed_statement (codes "s") head_e ∷ close_statement (codes "s") length_e ∷ []

seals_pass : verdict seals ≡ passed (Reads (codes "a") ∷ WritesOutput ∷ []) 0
seals_pass = verdict_is seals

-- the 257th statement
abbrev many : List Sentence
many = replicate 257 (run_statement (piped (range_word 0 9 ∷ sink_null ∷ [])))

too_many : verdict many ≡ refused TooMany 257 0
too_many = verdict_is many

-- and the 129th site
abbrev outputs : List Sentence
outputs = replicate 65 (run_statement (piped (range_word 0 9 ∷ flat_word ∷ sequence_form (exactly_e_form 1 stdout_word ∷ stdout_word ∷ []) ∷ [])))

too_many_sites : verdict outputs ≡ refused TooMany 65 6
too_many_sites = verdict_is outputs
