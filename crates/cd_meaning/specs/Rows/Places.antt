-- What scripts do at their sites, effects by output, and what is seen of whole files.
use Rattle.std.specs.Prelude.{◌≡◌, refl, List, ℕ, [], ◌∷◌, codes, map, bytes_eq, if◌then◌else◌}
use lib.Utf8.{encode}
use Rattle.std.specs.Fmt.{digits}
use Rattle.cd_meaning.specs.Stream.{Open, Put, Close, Halts, Stop, Long}
use Rattle.cd_meaning.specs.Run.{effects, ending}
use Rattle.cd_meaning.specs.RunShapes.{Mark, AtEnd, TooLong, Told, Seen}
use Rattle.cd_meaning.specs.Places.{Place, Reads, ReadsInput, Writes, WritesOutput, Marks, output_of, sent_to, whole}
use Rattle.cd_meaning.specs.Pipes.{nodes}
use Rattle.cd_meaning.specs.Scripts.{script_places, statement_places, script_run, standard_output}
use Rattle.cd_meaning.specs.Rows.Trees.{Tree, Sentence, statement_of, all_places_mean}
use Rattle.cd_meaning.specs.Rows.Short.{bytes_word, close_statement, exactly_e_form, feed_statement, hold_statement, length_e, let_statement, mark_form, piped, release_statement, run_statement, sequence_form, sink_file_word, source_file_word, stdin_word, stdout_word, tee_form, flat_word, zip_source_form, lines_word}

-- ---- places

-- sites are numbered from the left; a mark comes before what is in it
abbrev marked : List Sentence
marked = run_statement (piped (mark_form (codes "m") (source_file_word (codes "a")) ∷ sequence_form (exactly_e_form 2 (sink_file_word (codes "x")) ∷ stdout_word ∷ []) ∷ [])) ∷ []

in_a_pipe : script_places (map statement_of marked) ≡ Marks (codes "m") ∷ Reads (codes "a") ∷ Writes (codes "x") ∷ WritesOutput ∷ []
in_a_pipe = all_places_mean marked

abbrev zipped : List Sentence
zipped = run_statement (piped (zip_source_form [] (piped (source_file_word (codes "b") ∷ lines_word 9 ∷ [])) (piped (stdin_word ∷ lines_word 9 ∷ [])) ∷ tee_form (piped (flat_word ∷ stdout_word ∷ [])) ∷ flat_word ∷ sink_file_word (codes "c") ∷ [])) ∷ []

in_a_zip : script_places (map statement_of zipped) ≡ Reads (codes "b") ∷ ReadsInput ∷ WritesOutput ∷ Writes (codes "c") ∷ []
in_a_zip = all_places_mean zipped

-- a statement's sites follow those of the statements before
abbrev several : List Sentence
several = hold_statement (codes "k") (codes "m") ∷ let_statement (codes "s") (source_file_word (codes "a")) ∷ feed_statement (codes "s") stdout_word ∷ release_statement (codes "k") ∷ close_statement (codes "s") (sink_file_word (codes "x")) ∷ []

in_statements : script_places (map statement_of several) ≡ Marks (codes "m") ∷ Reads (codes "a") ∷ WritesOutput ∷ Writes (codes "x") ∷ []
in_statements = all_places_mean several

-- ---- effects by output

abbrev two_outputs : List Place
two_outputs = WritesOutput ∷ Writes (codes "x") ∷ WritesOutput ∷ []

first_output : output_of two_outputs 1 ≡ 0
first_output = refl

file_output : output_of two_outputs 2 ≡ 2
file_output = refl

later_output : output_of two_outputs 3 ≡ 0
later_output = refl

printed_output : output_of two_outputs 0 ≡ 0
printed_output = refl

-- what goes to standard output, whichever site puts it, and printed results too
sent_so : sent_to two_outputs 0 (Open 2 ∷ Put 1 97 ∷ Put 2 98 ∷ Put 3 99 ∷ Close 2 ∷ Put 0 100 ∷ []) ≡ 97 ∷ 99 ∷ 100 ∷ []
sent_so = refl

sent_to_file : sent_to two_outputs 2 (Open 2 ∷ Put 1 97 ∷ Put 2 98 ∷ Put 3 99 ∷ []) ≡ 98 ∷ []
sent_to_file = refl

-- ---- whole files

abbrev files : List ℕ → List ℕ
files name = if bytes_eq name (codes "a") then codes "abcde" else []

abbrev seen_at : ℕ → ℕ → Told
seen_at limit site = whole files (codes "in") limit (Reads (codes "a") ∷ ReadsInput ∷ Reads (codes "absent") ∷ WritesOutput ∷ []) site

abbrev told : List ℕ → Mark → Told
told bytes mark = record { bytes = bytes; mark = mark }

whole_fits : seen_at 5 1 ≡ told (codes "abcde") AtEnd
whole_fits = refl

whole_long : seen_at 4 1 ≡ told (codes "abcd") TooLong
whole_long = refl

whole_input : seen_at 4 2 ≡ told (codes "in") AtEnd
whole_input = refl

whole_absent : seen_at 4 3 ≡ told [] AtEnd
whole_absent = refl

-- `run sourceFile "a" | stdout;` over a file that is longer than the limit, and over one that is not
abbrev copies : List Sentence
copies = run_statement (piped (source_file_word (codes "a") ∷ stdout_word ∷ [])) ∷ []

abbrev over : ℕ → Seen
over limit = whole files [] limit (Reads (codes "a") ∷ WritesOutput ∷ [])

copies_places : script_places (map statement_of copies) ≡ Reads (codes "a") ∷ WritesOutput ∷ []
copies_places = all_places_mean copies

copies_fitting : effects (script_run (map statement_of copies) (over 5)) ≡ Open 1 ∷ Put 2 97 ∷ Put 2 98 ∷ Put 2 99 ∷ Put 2 100 ∷ Put 2 101 ∷ Close 1 ∷ []
copies_fitting = simp (nodes, over)

copies_longer : effects (script_run (map statement_of copies) (over 4)) ≡ Open 1 ∷ Put 2 97 ∷ Put 2 98 ∷ Put 2 99 ∷ Put 2 100 ∷ []
copies_longer = simp (nodes, over)

copies_longer_ends : ending (script_run (map statement_of copies) (over 4)) ≡ Halts (Stop (Long 1))
copies_longer_ends = simp (nodes, over)

-- what is printed comes to standard output too
abbrev length_of_three : Tree
length_of_three = piped (bytes_word (codes "abc") ∷ length_e ∷ [])

prints : standard_output (map statement_of (run_statement (bytes_word (codes "ab")) ∷ run_statement length_of_three ∷ [])) (over 4) ≡ codes "= 3\n"
unfolding digits encode standard_output
prints = simp (nodes, script_places, statement_places)
