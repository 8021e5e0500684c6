-- The sort of what each part gives, by the sort of what it takes.
use Rattle.std.specs.Prelude.{◌≡◌, codes, Some, None, [], ◌∷◌}
use Rattle.cd_meaning.specs.Stream.{Sort}
use Rattle.cd_meaning.specs.Rows.Short.{all_e, any_e, base64_decode_word, base64_encode_word, blocks_word, bytes_word, chunks_of_word, collect_e, collect_word, digit, drop_e, drop_while_e, drop_while_word, drop_word, empty, exact_word, exactly_e_form, exactly_form, filter_e, filter_word, flat_word, head_e, head_word, hex_decode_word, hex_encode_word, intersperse_word, last_e, last_word, length_e, length_word, line_e_form, lines_word, map_e, map_word, mark_form, null_e, null_word, pass_e, pass_word, peek_e, peek_word, piped, piped_both, piped_return, range_word, repeat_e, repeat_word, replicate_word, reversed, rot13, sequence_form, sink_file_word, sink_null, source_file_word, split_word, stdin_word, stdout_word, sum_e, take_e, take_while_e, take_while_word, take_word, tee_form, text_word, texts_word, unlines_word, utf8_encode_word, utf8_lenient_word, utf8_word, zip_conduit_form, zip_sink_form, zip_source_form}
use Rattle.cd_meaning.specs.Rows.Given.{rows, gives}

-- what gives the values that it takes
pass_e_chars : gives pass_e (Some Sort.Chars) ≡ Some Sort.Chars
pass_e_chars = simp rows

take_while_e_bytes : gives (take_while_e digit) (Some Sort.Bytes) ≡ Some Sort.Bytes
take_while_e_bytes = simp rows

filter_e_chars : gives (filter_e digit) (Some Sort.Chars) ≡ Some Sort.Chars
filter_e_chars = simp rows

map_e_bytes : gives (map_e rot13) (Some Sort.Bytes) ≡ Some Sort.Bytes
map_e_bytes = simp rows

repeat_e_bytes : gives (repeat_e 2) (Some Sort.Bytes) ≡ Some Sort.Bytes
repeat_e_bytes = simp rows

take_e_chars : gives (take_e 2) (Some Sort.Chars) ≡ Some Sort.Chars
take_e_chars = simp rows

pass_texts : gives pass_word (Some Sort.Text) ≡ Some Sort.Text
pass_texts = simp rows

take_blocks : gives (take_word 2) (Some Sort.Block) ≡ Some Sort.Block
take_blocks = simp rows

take_while_texts : gives (take_while_word empty) (Some Sort.Text) ≡ Some Sort.Text
take_while_texts = simp rows

filter_blocks : gives (filter_word empty) (Some Sort.Block) ≡ Some Sort.Block
filter_blocks = simp rows

map_texts : gives (map_word reversed) (Some Sort.Text) ≡ Some Sort.Text
map_texts = simp rows

repeat_blocks : gives (repeat_word 2) (Some Sort.Block) ≡ Some Sort.Block
repeat_blocks = simp rows

intersperse_texts : gives (intersperse_word []) (Some Sort.Text) ≡ Some Sort.Text
intersperse_texts = simp rows

-- what gives nothing
drop_e_nothing : gives (drop_e 2) (Some Sort.Bytes) ≡ None
drop_e_nothing = simp rows

drop_while_e_nothing : gives (drop_while_e digit) (Some Sort.Bytes) ≡ None
drop_while_e_nothing = simp rows

head_e_nothing : gives head_e (Some Sort.Bytes) ≡ None
head_e_nothing = simp rows

peek_e_nothing : gives peek_e (Some Sort.Bytes) ≡ None
peek_e_nothing = simp rows

last_e_nothing : gives last_e (Some Sort.Bytes) ≡ None
last_e_nothing = simp rows

length_e_nothing : gives length_e (Some Sort.Bytes) ≡ None
length_e_nothing = simp rows

sum_e_nothing : gives sum_e (Some Sort.Bytes) ≡ None
sum_e_nothing = simp rows

all_e_nothing : gives (all_e digit) (Some Sort.Bytes) ≡ None
all_e_nothing = simp rows

any_e_nothing : gives (any_e digit) (Some Sort.Bytes) ≡ None
any_e_nothing = simp rows

null_e_nothing : gives null_e (Some Sort.Bytes) ≡ None
null_e_nothing = simp rows

collect_e_nothing : gives (collect_e 2) (Some Sort.Bytes) ≡ None
collect_e_nothing = simp rows

sink_null_nothing : gives sink_null (Some Sort.Bytes) ≡ None
sink_null_nothing = simp rows

sink_file_nothing : gives (sink_file_word (codes "x")) (Some Sort.Bytes) ≡ None
sink_file_nothing = simp rows

stdout_nothing : gives stdout_word (Some Sort.Bytes) ≡ None
stdout_nothing = simp rows

drop_nothing : gives (drop_word 2) (Some Sort.Block) ≡ None
drop_nothing = simp rows

drop_while_nothing : gives (drop_while_word empty) (Some Sort.Block) ≡ None
drop_while_nothing = simp rows

head_nothing : gives head_word (Some Sort.Block) ≡ None
head_nothing = simp rows

peek_nothing : gives peek_word (Some Sort.Block) ≡ None
peek_nothing = simp rows

last_nothing : gives last_word (Some Sort.Block) ≡ None
last_nothing = simp rows

length_nothing : gives length_word (Some Sort.Block) ≡ None
length_nothing = simp rows

null_nothing : gives null_word (Some Sort.Block) ≡ None
null_nothing = simp rows

collect_nothing : gives (collect_word 2) (Some Sort.Block) ≡ None
collect_nothing = simp rows

-- elements to pieces, and pieces to elements
lines_bytes : gives (lines_word 2) (Some Sort.Bytes) ≡ Some Sort.Block
lines_bytes = simp rows

lines_chars : gives (lines_word 2) (Some Sort.Chars) ≡ Some Sort.Text
lines_chars = simp rows

split_bytes : gives (split_word 44 2) (Some Sort.Bytes) ≡ Some Sort.Block
split_bytes = simp rows

split_chars : gives (split_word 44 2) (Some Sort.Chars) ≡ Some Sort.Text
split_chars = simp rows

exact_bytes : gives (exact_word 2) (Some Sort.Bytes) ≡ Some Sort.Block
exact_bytes = simp rows

exact_chars : gives (exact_word 2) (Some Sort.Chars) ≡ Some Sort.Text
exact_chars = simp rows

chunks_of_bytes : gives (chunks_of_word 2) (Some Sort.Bytes) ≡ Some Sort.Block
chunks_of_bytes = simp rows

chunks_of_chars : gives (chunks_of_word 2) (Some Sort.Chars) ≡ Some Sort.Text
chunks_of_chars = simp rows

flat_blocks : gives flat_word (Some Sort.Block) ≡ Some Sort.Bytes
flat_blocks = simp rows

flat_texts : gives flat_word (Some Sort.Text) ≡ Some Sort.Chars
flat_texts = simp rows

unlines_blocks : gives unlines_word (Some Sort.Block) ≡ Some Sort.Bytes
unlines_blocks = simp rows

unlines_texts : gives unlines_word (Some Sort.Text) ≡ Some Sort.Chars
unlines_texts = simp rows

-- text and bases
utf8_gives : gives utf8_word (Some Sort.Bytes) ≡ Some Sort.Chars
utf8_gives = simp rows

utf8_lenient_gives : gives utf8_lenient_word (Some Sort.Bytes) ≡ Some Sort.Chars
utf8_lenient_gives = simp rows

utf8_encode_gives : gives utf8_encode_word (Some Sort.Chars) ≡ Some Sort.Bytes
utf8_encode_gives = simp rows

hex_encode_gives : gives hex_encode_word (Some Sort.Bytes) ≡ Some Sort.Bytes
hex_encode_gives = simp rows

hex_decode_gives : gives hex_decode_word (Some Sort.Bytes) ≡ Some Sort.Bytes
hex_decode_gives = simp rows

base64_encode_gives : gives base64_encode_word (Some Sort.Bytes) ≡ Some Sort.Bytes
base64_encode_gives = simp rows

base64_decode_gives : gives base64_decode_word (Some Sort.Bytes) ≡ Some Sort.Bytes
base64_decode_gives = simp rows

-- sources
source_file_gives : gives (source_file_word (codes "a")) None ≡ Some Sort.Bytes
source_file_gives = simp rows

stdin_gives : gives stdin_word None ≡ Some Sort.Bytes
stdin_gives = simp rows

bytes_gives : gives (bytes_word []) None ≡ Some Sort.Bytes
bytes_gives = simp rows

text_gives : gives (text_word []) None ≡ Some Sort.Chars
text_gives = simp rows

blocks_gives : gives (blocks_word []) None ≡ Some Sort.Block
blocks_gives = simp rows

texts_gives : gives (texts_word []) None ≡ Some Sort.Text
texts_gives = simp rows

replicate_gives : gives (replicate_word 2 []) None ≡ Some Sort.Block
replicate_gives = simp rows

range_gives : gives (range_word 1 2) None ≡ Some Sort.Block
range_gives = simp rows

-- operators and forms
piped_gives : gives (piped (utf8_word ∷ lines_word 2 ∷ [])) (Some Sort.Bytes) ≡ Some Sort.Text
piped_gives = simp rows

return_gives : gives (piped_return (lines_word 2 ∷ flat_word ∷ [])) (Some Sort.Bytes) ≡ Some Sort.Bytes
return_gives = simp rows

both_gives : gives (piped_both (pass_e ∷ head_e ∷ [])) (Some Sort.Bytes) ≡ None
both_gives = simp rows

sequence_gives : gives (sequence_form (drop_e 1 ∷ pass_e ∷ [])) (Some Sort.Chars) ≡ Some Sort.Chars
sequence_gives = simp rows

sequence_first_gives : gives (sequence_form (pass_e ∷ drop_e 1 ∷ [])) (Some Sort.Chars) ≡ Some Sort.Chars
sequence_first_gives = simp rows

exactly_e_gives_sort : gives (exactly_e_form 2 (lines_word 2)) (Some Sort.Bytes) ≡ Some Sort.Block
exactly_e_gives_sort = simp rows

exactly_gives_sort : gives (exactly_form 2 flat_word) (Some Sort.Text) ≡ Some Sort.Chars
exactly_gives_sort = simp rows

line_e_gives_sort : gives (line_e_form pass_e) (Some Sort.Bytes) ≡ Some Sort.Bytes
line_e_gives_sort = simp rows

mark_gives : gives (mark_form (codes "m") utf8_word) (Some Sort.Bytes) ≡ Some Sort.Chars
mark_gives = simp rows

tee_gives : gives (tee_form length_word) (Some Sort.Text) ≡ Some Sort.Text
tee_gives = simp rows

zip_source_gives : gives (zip_source_form [] (texts_word []) (texts_word [])) None ≡ Some Sort.Text
zip_source_gives = simp rows

zip_sink_gives : gives (zip_sink_form length_e head_e) (Some Sort.Bytes) ≡ None
zip_sink_gives = simp rows

zip_conduit_gives : gives (zip_conduit_form length_word pass_word) (Some Sort.Text) ≡ Some Sort.Text
zip_conduit_gives = simp rows
