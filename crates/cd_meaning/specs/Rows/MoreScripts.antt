-- More scripts: what they do and print over what was seen.
use Rattle.std.specs.Prelude.{◌≡◌, List, ℕ, [], ◌∷◌, codes, refl}
use lib.Utf8.{encode}
use Rattle.std.specs.Fmt.{digits}
use Rattle.cd_meaning.specs.Stream.{bad_base64, Open, Put, Close, Halts, Stop, More, Reading}
use Rattle.cd_meaning.specs.RunShapes.{AtEnd, MayGoOn}
use Rattle.cd_meaning.specs.Rows.Trees.{Tree, Sentence}
use Rattle.cd_meaning.specs.Rows.Short.{add, base64_decode_word, blocks_word, bytes_word, collect_word, flat_word, head_e, hold_statement, intersperse_word, length_e, lines_word, map_e, not_class, filter_e, space, sink_file_word, pass_e, piped, rot13, run_statement, sequence_form, source_file_word, split_word, stdin_word, stdout_word, take_e, unlines_word, utf8_lenient_word, xor}
use Rattle.cd_meaning.specs.Rows.Given.{rows, AtSite, does, ends_so, puts_at, told_of}

abbrev alone : Tree → List Sentence
alone p = run_statement p ∷ []

abbrev from_file : List Tree → List Sentence
from_file parts = alone (piped (source_file_word (codes "a") ∷ parts))

abbrev ended : List ℕ → List AtSite
ended bytes = told_of 1 bytes AtEnd ∷ []

-- two keys that are held to the end
two_held : does (hold_statement (codes "k") (codes "m") ∷ hold_statement (codes "j") (codes "n") ∷ []) [] ≡ Open 1 ∷ Open 2 ∷ []
two_held = refl

-- `{ headE; lengthE }`: only the last value is printed
counts_behind_the_first : does (from_file (sequence_form (head_e ∷ length_e ∷ []) ∷ [])) (ended (codes "abc")) ≡ Open 1 ∷ Close 1 ∷ puts_at 0 (codes "= 2\n") []
unfolding digits encode
counts_behind_the_first = simp rows

-- `bytes "a,,bc," | split "," 9 | collect 9`
splits_at_commas : does (alone (piped (bytes_word (codes "a,,bc,") ∷ split_word 44 9 ∷ collect_word 9 ∷ []))) [] ≡ puts_at 0 (codes "= [\"a\", \"\", \"bc\"]\n") []
unfolding digits encode
splits_at_commas = simp rows

-- `blocks ["x", "y"] | intersperse "-" | flat | stdout`
joins_by_a_dash : does (alone (piped (blocks_word (codes "x" ∷ codes "y" ∷ []) ∷ intersperse_word (codes "-") ∷ flat_word ∷ stdout_word ∷ []))) [] ≡ puts_at 1 (codes "x-y") []
joins_by_a_dash = simp rows

-- two padded groups
padded_twice : does (from_file (base64_decode_word ∷ stdout_word ∷ [])) (ended (codes "Zg==Zg==")) ≡ Open 1 ∷ Put 2 102 ∷ []
padded_twice = simp rows

padded_twice_ends : ends_so (from_file (base64_decode_word ∷ stdout_word ∷ [])) (ended (codes "Zg==Zg==")) ≡ Halts (Stop (bad_base64 4))
padded_twice_ends = simp rows

-- a first byte of three, and then an `A`: the replacement and `A`
counts_replaced : does (from_file (utf8_lenient_word ∷ length_e ∷ [])) (ended (226 ∷ 65 ∷ [])) ≡ Open 1 ∷ Close 1 ∷ puts_at 0 (codes "= 2\n") []
unfolding digits encode
counts_replaced = simp rows

-- `mapE rot13 | mapE add 1 | mapE xor 2`
maps_in_turn : does (alone (piped (bytes_word (codes "az") ∷ map_e rot13 ∷ map_e (add 1) ∷ map_e (xor 2) ∷ stdout_word ∷ []))) [] ≡ puts_at 1 (109 ∷ 108 ∷ []) []
maps_in_turn = simp rows

-- carriage returns belong to the lines: `ab\r`, `cd\rx`, `\r`, `\r`, `abcd`, `\r`, `y\r`
keeps_carriage_returns : does (from_file (lines_word 4 ∷ collect_word 9 ∷ [])) (ended (codes "ab\r\ncd\rx\r\n\r\nabcd\r\ny\r"))
    ≡ Open 1 ∷ Close 1 ∷ puts_at 0 (codes "= [\"ab\\x0d\", \"cd\\x0dx\", \"\\x0d\", \"\\x0d\", \"abcd\", \"\\x0d\", \"y\\x0d\"]\n") []
unfolding digits encode
keeps_carriage_returns = simp rows

-- a longer way and a shorter way to take five bytes, each changed by `xor 2`
long_way : does (from_file (pass_e ∷ take_e 7 ∷ take_e 5 ∷ map_e (xor 1) ∷ map_e (xor 3) ∷ pass_e ∷ stdout_word ∷ [])) (ended (codes "abcdefgh")) ≡ Open 1 ∷ puts_at 2 (codes "c`afg") []
long_way = simp rows

short_way : does (from_file (take_e 5 ∷ map_e (xor 2) ∷ stdout_word ∷ [])) (ended (codes "abcdefgh")) ≡ Open 1 ∷ puts_at 2 (codes "c`afg") []
short_way = simp rows

-- from standard input, which is neither opened nor closed
lines_of_input : does (alone (piped (stdin_word ∷ lines_word 4 ∷ unlines_word ∷ stdout_word ∷ []))) (ended (codes "abcdefghi")) ≡ puts_at 2 (codes "abcd\nefgh\ni\n") []
lines_of_input = simp rows

part_of_input : does (alone (piped (stdin_word ∷ lines_word 4 ∷ unlines_word ∷ stdout_word ∷ []))) (told_of 1 (codes "abcdef") MayGoOn ∷ []) ≡ puts_at 2 (codes "abcd\n") []
part_of_input = simp rows

part_of_input_ends : ends_so (alone (piped (stdin_word ∷ lines_word 4 ∷ unlines_word ∷ stdout_word ∷ []))) (told_of 1 (codes "abcdef") MayGoOn ∷ []) ≡ Halts (More (Reading 1))
part_of_input_ends = simp rows

-- a file that is not there is an empty one here; that it can't be opened is no matter of the meaning
absent_file : does (from_file (stdout_word ∷ [])) (ended []) ≡ Open 1 ∷ Close 1 ∷ []
absent_file = simp rows

-- braces within braces
braces : does (alone (piped (bytes_word (codes "a") ∷ sequence_form (sequence_form (sequence_form (pass_e ∷ []) ∷ []) ∷ []) ∷ stdout_word ∷ []))) [] ≡ puts_at 1 (codes "a") []
braces = simp rows

-- the base64 of seven bytes, in lines
decodes_lines : does (from_file (filter_e (not_class space) ∷ base64_decode_word ∷ sink_file_word (codes "out.bin") ∷ [])) (ended (codes "AAEC\nAwQF\nBg==\n"))
    ≡ Open 2 ∷ Open 1 ∷ puts_at 2 (0 ∷ 1 ∷ 2 ∷ 3 ∷ 4 ∷ 5 ∷ 6 ∷ []) (Close 1 ∷ Close 2 ∷ [])
decodes_lines = simp rows
