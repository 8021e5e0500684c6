-- Scripts of several statements.
use Rattle.std.specs.Prelude.{◌≡◌, refl, ℕ, List, [], ◌∷◌, codes}
use lib.Utf8.{encode}
use Rattle.std.specs.Fmt.{digits}
use Rattle.cd_meaning.specs.Stream.{Close, Done, Halts, More, Open, Put, Reading, Value}
use Rattle.cd_meaning.specs.RunShapes.{AtEnd, MayGoOn}
use Rattle.cd_meaning.specs.Rows.Trees.{Sentence, Tree}
use Rattle.cd_meaning.specs.Rows.Short.{base64_decode_word, base64_encode_word, bytes_word, close_statement, collect_e, exactly_e_form, feed_statement, head_e, hold_statement, length_e, length_word, let_statement, line_e_form, lines_word, peek_e, piped, release_statement, run_statement, source_file_word, stdin_word, stdout_word, take_e, unlines_word, utf8_word, zip_sink_form, zip_source_form}
use Rattle.cd_meaning.specs.Rows.Given.{rows, does, ends_so, puts_at, told_of}

abbrev s : List ℕ
s = codes "s"

abbrev t : List ℕ
t = codes "t"

abbrev file_source : Tree
file_source = source_file_word (codes "a")

abbrev three_sinks : List Sentence
three_sinks = let_statement s file_source ∷ feed_statement s (exactly_e_form 3 stdout_word) ∷ feed_statement s head_e ∷ close_statement s length_e ∷ []

abbrev three_lines : List Sentence
three_lines = let_statement s file_source ∷ feed_statement s (line_e_form length_e) ∷ feed_statement s (line_e_form length_e) ∷ close_statement s (line_e_form length_e) ∷ []

abbrev peeks : List Sentence
peeks = let_statement s file_source ∷ feed_statement s peek_e ∷ feed_statement s head_e ∷ close_statement s peek_e ∷ []

abbrev texts_sealed : List Sentence
texts_sealed = let_statement s (piped (file_source ∷ utf8_word ∷ [])) ∷ feed_statement s head_e ∷ close_statement s (collect_e 5) ∷ []

abbrev two_seals : List Sentence
two_seals = let_statement s file_source ∷ let_statement t stdin_word ∷ feed_statement t head_e ∷ feed_statement s head_e ∷ close_statement t head_e ∷ []

abbrev two_keys : List Sentence
two_keys = hold_statement s (codes "m1") ∷ hold_statement t (codes "m2") ∷ release_statement s ∷ []

abbrev held_and_zipped : List Sentence
held_and_zipped = hold_statement (codes "k") (codes "m1") ∷ hold_statement (codes "j") (codes "m2") ∷ run_statement (piped (zip_source_form (codes ":") (piped (file_source ∷ lines_word 80 ∷ [])) (piped (source_file_word (codes "b") ∷ lines_word 80 ∷ [])) ∷ unlines_word ∷ stdout_word ∷ [])) ∷ []

abbrev demo_script : List Sentence
demo_script = let_statement s (source_file_word (codes "demo")) ∷ feed_statement s (line_e_form length_e) ∷ close_statement s (zip_sink_form length_e (piped (lines_word 64 ∷ length_word ∷ []))) ∷ run_statement (piped (source_file_word (codes "demo") ∷ base64_encode_word ∷ base64_decode_word ∷ utf8_word ∷ length_e ∷ [])) ∷ []

abbrev fed_twice : List Sentence
fed_twice = let_statement s file_source ∷ feed_statement s (exactly_e_form 1 stdout_word) ∷ close_statement s stdout_word ∷ run_statement (piped (bytes_word (codes "z") ∷ stdout_word ∷ [])) ∷ []

abbrev two_runs : List Sentence
two_runs = run_statement (piped (file_source ∷ length_e ∷ [])) ∷ run_statement (piped (source_file_word (codes "b") ∷ stdout_word ∷ [])) ∷ []

-- no statement
nothing_does : does [] [] ≡ []
nothing_does = refl

nothing_ends : ends_so [] [] ≡ Done Value.Unit
nothing_ends = refl

-- `let s = seal sourceFile "a"; feed s | exactlyE 3 { stdout }; feed s | headE; close s | lengthE;`
three_sinks_does : does three_sinks (told_of 1 (codes "abcdefgh") AtEnd ∷ []) ≡ Open 1 ∷ puts_at 2 (codes "abc") (puts_at 0 (codes "= some 100\n") (Close 1 ∷ puts_at 0 (codes "= 4\n") []))
unfolding encode digits
three_sinks_does = simp rows

three_sinks_waits : does three_sinks (told_of 1 (codes "abcd") MayGoOn ∷ []) ≡ Open 1 ∷ puts_at 2 (codes "abc") (puts_at 0 (codes "= some 100\n") [])
unfolding encode digits
three_sinks_waits = simp rows

three_sinks_waits_so : ends_so three_sinks (told_of 1 (codes "abcd") MayGoOn ∷ []) ≡ Halts (More (Reading 1))
unfolding encode digits
three_sinks_waits_so = simp rows

three_sinks_empty : does three_sinks (told_of 1 [] AtEnd ∷ []) ≡ Open 1 ∷ Close 1 ∷ puts_at 0 (codes "= none\n= 0\n") []
unfolding encode digits
three_sinks_empty = simp rows

-- nothing of a source is run before it is fed
sealed_alone : does (let_statement s file_source ∷ []) (told_of 1 (codes "a") AtEnd ∷ []) ≡ []
sealed_alone = refl

fed_nothing : does (let_statement s file_source ∷ feed_statement s (take_e 0) ∷ []) (told_of 1 (codes "a") AtEnd ∷ []) ≡ []
fed_nothing = simp rows

-- three sinks `lineE { lengthE }`
three_lines_does : does three_lines (told_of 1 (codes "ab\nc") AtEnd ∷ []) ≡ Open 1 ∷ puts_at 0 (codes "= 2\n") (Close 1 ∷ puts_at 0 (codes "= 1\n= 0\n") [])
unfolding encode digits
three_lines_does = simp rows

-- what `peekE` gave back stands in front
peeks_does : does peeks (told_of 1 (codes "ab") AtEnd ∷ []) ≡ Open 1 ∷ puts_at 0 (codes "= some 97\n= some 97\n= some 98\n") []
unfolding encode digits
peeks_does = simp rows

-- the sort of a sealed source comes to its sinks
texts_sealed_does : does texts_sealed (told_of 1 (codes "hello") AtEnd ∷ []) ≡ Open 1 ∷ puts_at 0 (codes "= some \"h\"\n") (Close 1 ∷ puts_at 0 (codes "= \"ello\"\n") [])
unfolding encode
texts_sealed_does = simp rows

-- two names
two_seals_does : does two_seals (told_of 1 (codes "ab") AtEnd ∷ told_of 2 (codes "01") AtEnd ∷ []) ≡ puts_at 0 (codes "= some 48\n") (Open 1 ∷ puts_at 0 (codes "= some 97\n= some 49\n") [])
unfolding encode digits
two_seals_does = simp rows

two_keys_does : does two_keys [] ≡ Open 1 ∷ Open 2 ∷ Close 1 ∷ []
two_keys_does = refl

held_alone : does (hold_statement s (codes "m") ∷ release_statement s ∷ []) [] ≡ Open 1 ∷ Close 1 ∷ []
held_alone = refl

-- `zipSource` behind two keys: the first file ends first, and the second one's end is not asked for
held_and_zipped_does : does held_and_zipped (told_of 3 (codes "x\n") AtEnd ∷ told_of 4 (codes "1\n2\n") AtEnd ∷ []) ≡ Open 1 ∷ Open 2 ∷ Open 3 ∷ Open 4 ∷ puts_at 5 (codes "x:1\n") (Close 3 ∷ [])
held_and_zipped_does = simp rows

held_and_zipped_ends : ends_so held_and_zipped (told_of 3 (codes "x\n") AtEnd ∷ told_of 4 (codes "1\n2\n") AtEnd ∷ []) ≡ Done Value.Unit
held_and_zipped_ends = simp rows

-- the script of `demo`, on three lines and on one
demo_three : does demo_script (told_of 1 (codes "1a\n2aa\n3aaa\n") AtEnd ∷ told_of 2 (codes "1a\n2aa\n3aaa\n") AtEnd ∷ []) ≡ Open 1 ∷ puts_at 0 (codes "= 2\n") (Close 1 ∷ puts_at 0 (codes "= (9, 2)\n") (Open 2 ∷ Close 2 ∷ puts_at 0 (codes "= 12\n") []))
unfolding encode digits
demo_three = simp rows

demo_one : does demo_script (told_of 1 (codes "1a\n") AtEnd ∷ told_of 2 (codes "1a\n") AtEnd ∷ []) ≡ Open 1 ∷ puts_at 0 (codes "= 2\n") (Close 1 ∷ puts_at 0 (codes "= (0, 0)\n") (Open 2 ∷ Close 2 ∷ puts_at 0 (codes "= 3\n") []))
unfolding encode digits
demo_one = simp rows

-- a statement's sites follow those of the statements before; the first that is not done ends the script
fed_twice_does : does fed_twice (told_of 1 (codes "ab") AtEnd ∷ []) ≡ Open 1 ∷ Put 2 97 ∷ Put 3 98 ∷ Close 1 ∷ Put 4 122 ∷ []
fed_twice_does = simp rows

two_runs_does : does two_runs (told_of 1 (codes "ab") AtEnd ∷ told_of 2 (codes "c") AtEnd ∷ []) ≡ Open 1 ∷ Close 1 ∷ puts_at 0 (codes "= 2\n") (Open 2 ∷ puts_at 3 (codes "c") (Close 2 ∷ []))
unfolding encode digits
two_runs_does = simp rows

two_runs_waits : does two_runs (told_of 1 (codes "ab") MayGoOn ∷ told_of 2 (codes "c") AtEnd ∷ []) ≡ Open 1 ∷ []
unfolding encode digits
two_runs_waits = simp rows

two_runs_waits_so : ends_so two_runs (told_of 1 (codes "ab") MayGoOn ∷ told_of 2 (codes "c") AtEnd ∷ []) ≡ Halts (More (Reading 1))
unfolding encode digits
two_runs_waits_so = simp rows
