-- Scripts of one `run` statement, from files of which this was seen.
use Rattle.std.specs.Prelude.{◌≡◌, ℕ, List, [], ◌∷◌, ◌++◌, codes}
use lib.Utf8.{encode}
use Rattle.std.specs.Fmt.{digits}
use Rattle.cd_meaning.specs.Stream.{bad_base64, bad_hex, bad_text, Close, Done, Halts, Long, More, Open, Put, ReadBad, Reading, Stop, Value}
use Rattle.cd_meaning.specs.RunShapes.{AtEnd, Broken, MayGoOn, TooLong}
use Rattle.cd_meaning.specs.Rows.Trees.{Sentence, Tree}
use Rattle.cd_meaning.specs.Rows.Short.{base64_decode_word, blocks_word, chunks_of_word, collect_word, digit, drop_e, drop_word, exact_word, exactly_e_form, exactly_form, filter_e, flat_word, head_word, hex_decode_word, length_e, length_word, lines_word, map_e, map_word, mark_form, not_class, pass_e, pass_word, peek_word, piped, piped_asked, piped_both, piped_keep, piped_return, range_word, repeat_word, replicate_word, run_statement, sequence_form, sink_file_word, source_file_word, space, stdout_word, suffix, take_e, take_while_e, take_word, tee_form, utf8_encode_word, utf8_lenient_word, utf8_word, xor, zip_conduit_form, zip_sink_form}
use Rattle.cd_meaning.specs.Rows.Given.{rows, AtSite, does, ends_so, puts_at, told_of}

abbrev from_file : List Tree → List Sentence
from_file parts = run_statement (piped (source_file_word (codes "a") ∷ parts)) ∷ []

abbrev alone : Tree → List Sentence
alone p = run_statement p ∷ []

abbrev ended : List ℕ → List AtSite
ended = λ bytes. told_of 1 bytes AtEnd ∷ []

abbrev going_on : List ℕ → List AtSite
going_on = λ bytes. told_of 1 bytes MayGoOn ∷ []

abbrev first_five : List Sentence
first_five = from_file (take_e 5 ∷ stdout_word ∷ [])

abbrev digits_apart : List Sentence
digits_apart = from_file (sequence_form (take_while_e digit ∷ drop_e 1 ∷ pass_e ∷ []) ∷ stdout_word ∷ [])

abbrev keeps_leftovers : List Sentence
keeps_leftovers = from_file (sequence_form (piped_keep (map_e (xor 1) ∷ take_e 2 ∷ []) ∷ pass_e ∷ []) ∷ stdout_word ∷ [])

abbrev drops_leftovers : List Sentence
drops_leftovers = alone (piped (blocks_word (codes "a" ∷ codes "b" ∷ []) ∷ sequence_form (piped (pass_word ∷ peek_word ∷ []) ∷ pass_word ∷ []) ∷ flat_word ∷ stdout_word ∷ []))

abbrev counts_and_head : List Sentence
counts_and_head = alone (piped (blocks_word (codes "a" ∷ codes "b" ∷ codes "c" ∷ []) ∷ piped_both (sequence_form (take_word 1 ∷ length_word ∷ []) ∷ head_word ∷ []) ∷ []))

abbrev asks_for : ℕ → List Sentence
asks_for = λ n. alone (piped_asked (replicate_word 5 (codes "x") ∷ drop_word n ∷ []))

abbrev decodes_base64 : List Sentence
decodes_base64 = from_file (base64_decode_word ∷ stdout_word ∷ [])

abbrev one_character : List Sentence
one_character = from_file (utf8_word ∷ take_e 1 ∷ utf8_encode_word ∷ stdout_word ∷ [])

abbrev all_characters : List Sentence
all_characters = from_file (utf8_word ∷ utf8_encode_word ∷ stdout_word ∷ [])

abbrev one_line_of_text : List Sentence
one_line_of_text = from_file (utf8_word ∷ lines_word 9 ∷ collect_word 1 ∷ [])

abbrev twice_beside : List Sentence
twice_beside = alone (piped (blocks_word (codes "1" ∷ codes "2" ∷ codes "3" ∷ []) ∷ zip_conduit_form (map_word (suffix (codes "+"))) (repeat_word 2) ∷ flat_word ∷ stdout_word ∷ []))

abbrev tees : List Sentence
tees = alone (piped (blocks_word (codes "a" ∷ codes "b" ∷ []) ∷ tee_form (piped (flat_word ∷ stdout_word ∷ [])) ∷ length_word ∷ []))

abbrev counts_and_first : List Sentence
counts_and_first = alone (piped (range_word 1 3 ∷ zip_sink_form length_word (piped (take_word 1 ∷ flat_word ∷ stdout_word ∷ [])) ∷ []))

abbrev counts_twice : List Sentence
counts_twice = from_file (zip_sink_form (piped (utf8_lenient_word ∷ length_e ∷ [])) length_e ∷ [])

abbrev decodes_hex : List Sentence
decodes_hex = from_file (hex_decode_word ∷ stdout_word ∷ [])

abbrev saves_decoded : List Sentence
saves_decoded = from_file (filter_e (not_class space) ∷ base64_decode_word ∷ sink_file_word (codes "x") ∷ [])

abbrev marked_sections : List Sentence
marked_sections = alone (piped (mark_form (codes "m") (source_file_word (codes "a")) ∷ sequence_form (exactly_e_form 2 (sink_file_word (codes "x")) ∷ stdout_word ∷ []) ∷ []))

-- the file stays open, as its end was not asked for
first_five_does : does first_five (ended (codes "hello world")) ≡ Open 1 ∷ puts_at 2 (codes "hello") []
first_five_does = simp rows

first_five_ends : ends_so first_five (ended (codes "hello world")) ≡ Done Value.Unit
first_five_ends = simp rows

first_five_unknown_end : does first_five (going_on (codes "hello")) ≡ Open 1 ∷ puts_at 2 (codes "hello") []
first_five_unknown_end = simp rows

first_five_unknown_ends : ends_so first_five (going_on (codes "hello")) ≡ Done Value.Unit
first_five_unknown_ends = simp rows

first_five_waits : ends_so first_five (going_on (codes "hell")) ≡ Halts (More (Reading 1))
first_five_waits = simp rows

first_five_empty : does first_five (ended []) ≡ Open 1 ∷ Close 1 ∷ []
first_five_empty = simp rows

-- `{ takeWhileE digit; dropE 1; passE }`
digits_apart_does : does digits_apart (ended (codes "12x34")) ≡ Open 1 ∷ puts_at 2 (codes "1234") (Close 1 ∷ [])
digits_apart_does = simp rows

-- `lines 4 | length`: `abcd`, `abcd`, `ef`, an empty piece and `x`
counts_lines : does (from_file (lines_word 4 ∷ length_word ∷ [])) (ended (codes "abcd\nabcdef\n\nx")) ≡ Open 1 ∷ Close 1 ∷ puts_at 0 (codes "= 5\n") []
unfolding encode digits
counts_lines = simp rows

-- `exact 3`, and `chunksOf 3`
counts_exact : does (from_file (exact_word 3 ∷ length_word ∷ [])) (ended (codes "abcdefg")) ≡ Open 1 ∷ Close 1 ∷ puts_at 0 (codes "= 2\n") []
unfolding encode digits
counts_exact = simp rows

counts_chunks : does (from_file (chunks_of_word 3 ∷ length_word ∷ [])) (ended (codes "abcdefg")) ≡ Open 1 ∷ Close 1 ∷ puts_at 0 (codes "= 3\n") []
unfolding encode digits
counts_chunks = simp rows

-- `{ mapE xor 1 |= takeE 2; passE }`, and `{ pass | peek; pass }`
keeps_leftovers_does : does keeps_leftovers (ended (codes "abcd")) ≡ Open 1 ∷ puts_at 2 (96 ∷ 99 ∷ 99 ∷ 100 ∷ []) (Close 1 ∷ [])
keeps_leftovers_does = simp rows

drops_leftovers_does : does drops_leftovers [] ≡ puts_at 1 (codes "b") []
drops_leftovers_does = simp rows

-- `{ take 1; length } |& head`
counts_and_head_does : does counts_and_head [] ≡ puts_at 0 (codes "= (2, some \"a\")\n") []
unfolding encode digits
counts_and_head_does = simp rows

-- `replicate 5 "x" |? drop 5`, and `drop 6`
asks_for_five : does (asks_for 5) [] ≡ puts_at 0 (codes "= (none, ())\n") []
asks_for_five = simp rows

asks_for_six : does (asks_for 6) [] ≡ puts_at 0 (codes "= (some (), ())\n") []
asks_for_six = simp rows

-- `base64Decode`, with and without the padding
decodes_base64_does : does decodes_base64 (ended (codes "aGVsbG8=")) ≡ Open 1 ∷ puts_at 2 (codes "hello") (Close 1 ∷ [])
decodes_base64_does = simp rows

decodes_base64_short : does decodes_base64 (ended (codes "aGVsbG8")) ≡ Open 1 ∷ puts_at 2 (codes "hel") (Close 1 ∷ [])
decodes_base64_short = simp rows

decodes_base64_fault : ends_so decodes_base64 (ended (codes "aGVsbG8")) ≡ Halts (Stop (bad_base64 4))
decodes_base64_fault = simp rows

-- `utf8`: the fault is met only where it is asked for
one_character_does : does one_character (ended (65 ∷ 255 ∷ [])) ≡ Open 1 ∷ Put 2 65 ∷ []
unfolding encode
one_character_does = simp rows

one_character_ends : ends_so one_character (ended (65 ∷ 255 ∷ [])) ≡ Done Value.Unit
unfolding encode
one_character_ends = simp rows

all_characters_does : does all_characters (ended (65 ∷ 255 ∷ [])) ≡ Open 1 ∷ Put 2 65 ∷ []
unfolding encode
all_characters_does = simp rows

all_characters_fault : ends_so all_characters (ended (65 ∷ 255 ∷ [])) ≡ Halts (Stop (bad_text 1))
unfolding encode
all_characters_fault = simp rows

counts_characters : does (from_file (utf8_word ∷ length_e ∷ [])) (ended (226 ∷ 130 ∷ 172 ∷ [])) ≡ Open 1 ∷ Close 1 ∷ puts_at 0 (codes "= 1\n") []
unfolding encode digits
counts_characters = simp rows

one_line_of_text_does : does one_line_of_text (ended (226 ∷ 130 ∷ 172 ∷ [])) ≡ Open 1 ∷ Close 1 ∷ puts_at 0 (codes "= [\"" ++ 226 ∷ 130 ∷ 172 ∷ codes "\"]\n") []
unfolding encode
one_line_of_text_does = simp rows

-- `zipConduit(map suffix "+", repeat 2)`
twice_beside_does : does twice_beside [] ≡ puts_at 1 (codes "1+112+223+33") []
twice_beside_does = simp rows

-- `tee(flat | stdout) | length`, and `range 1 3 | zipSink(length, take 1 | flat | stdout)`
tees_does : does tees [] ≡ puts_at 1 (codes "ab") (puts_at 0 (codes "= 2\n") [])
unfolding encode digits
tees_does = simp rows

tees_sites : does (alone (piped (blocks_word (codes "a" ∷ []) ∷ tee_form (piped (flat_word ∷ stdout_word ∷ [])) ∷ flat_word ∷ stdout_word ∷ []))) [] ≡ Put 1 97 ∷ Put 2 97 ∷ []
tees_sites = simp rows

counts_and_first_does : does counts_and_first [] ≡ puts_at 1 (codes "1") (puts_at 0 (codes "= (3, ())\n") [])
unfolding encode digits
counts_and_first_does = simp rows

-- a read fails, and a file is too long
copy_broken : does (from_file (stdout_word ∷ [])) (told_of 1 (codes "abcd") Broken ∷ []) ≡ Open 1 ∷ puts_at 2 (codes "abcd") []
copy_broken = simp rows

copy_broken_ends : ends_so (from_file (stdout_word ∷ [])) (told_of 1 (codes "abcd") Broken ∷ []) ≡ Halts (Stop (ReadBad 1))
copy_broken_ends = simp rows

copy_long : does (from_file (stdout_word ∷ [])) (told_of 1 (codes "abcd") TooLong ∷ []) ≡ Open 1 ∷ puts_at 2 (codes "abcd") []
copy_long = simp rows

copy_long_ends : ends_so (from_file (stdout_word ∷ [])) (told_of 1 (codes "abcd") TooLong ∷ []) ≡ Halts (Stop (Long 1))
copy_long_ends = simp rows

copy_whole : does (from_file (stdout_word ∷ [])) (ended (codes "abcd")) ≡ Open 1 ∷ puts_at 2 (codes "abcd") (Close 1 ∷ [])
copy_whole = simp rows

-- `filterE not space | base64Decode | sinkFile "out"`: the file that is written is opened first
saves_decoded_does : does saves_decoded (ended (codes "Z m9\nv\n")) ≡ Open 2 ∷ Open 1 ∷ puts_at 2 (codes "foo") (Close 1 ∷ Close 2 ∷ [])
saves_decoded_does = simp rows

-- `|+ peek`
returns_peeked : does (alone (piped_return (blocks_word (codes "a" ∷ codes "b" ∷ []) ∷ peek_word ∷ []))) [] ≡ puts_at 0 (codes "= (some \"a\", [\"a\"])\n") []
returns_peeked = simp rows

-- `zipSink(utf8Lenient | lengthE, lengthE)`
counts_twice_does : does counts_twice (ended (226 ∷ 130 ∷ 172 ∷ 255 ∷ [])) ≡ Open 1 ∷ Close 1 ∷ puts_at 0 (codes "= (2, 4)\n") []
unfolding encode digits
counts_twice_does = simp rows

-- `hexDecode`
decodes_hex_lone : does decodes_hex (ended (codes "4a4")) ≡ Open 1 ∷ Put 2 74 ∷ Close 1 ∷ []
decodes_hex_lone = simp rows

decodes_hex_lone_fault : ends_so decodes_hex (ended (codes "4a4")) ≡ Halts (Stop (bad_hex 2))
decodes_hex_lone_fault = simp rows

decodes_hex_bad : does decodes_hex (ended (codes "4G")) ≡ Open 1 ∷ []
decodes_hex_bad = simp rows

decodes_hex_bad_fault : ends_so decodes_hex (ended (codes "4G")) ≡ Halts (Stop (bad_hex 0))
decodes_hex_bad_fault = simp rows

-- `mark "m" { sourceFile "a" } | { exactlyE 2 { sinkFile "x" }; stdout }`
marked_sections_does : does marked_sections (told_of 2 (codes "abcd") AtEnd ∷ []) ≡ Open 3 ∷ Open 1 ∷ Open 2 ∷ puts_at 3 (codes "ab") (Close 3 ∷ puts_at 4 (codes "cd") (Close 2 ∷ Close 1 ∷ []))
marked_sections_does = simp rows

-- `blocks ["a", "b"] | exactly 5 { length }`
counts_five : does (alone (piped (blocks_word (codes "a" ∷ codes "b" ∷ []) ∷ exactly_form 5 length_word ∷ []))) [] ≡ puts_at 0 (codes "= 2\n") []
unfolding encode digits
counts_five = simp rows
