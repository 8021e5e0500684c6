-- The limit of a piece and that of all bounds, on both sides.
use Rattle.std.specs.Prelude.{List, [], ◌∷◌, ◌≡◌, ◌++◌, codes, replicate}
use Rattle.std.specs.Str.{chars}
use Rattle.cd_meaning.specs.Rows.Trees.{Sentence, Tree}
use Rattle.cd_meaning.specs.Rows.Short.{head_e, last_e, collect_e, sink_null, map_word, intersperse_word, last_word, collect_word, lines_word, exact_word, utf8_word, hex_decode_word, base64_encode_word, bytes_word, blocks_word, range_word, prefix, suffix, piped, piped_return, zip_source_form, run_statement}
use Rattle.cd_types.specs.declared.refusal.RefusalKind.TheVariants.{BoundTooLarge, ResultLost}
use Rattle.cd_types.specs.Rows.Trees.{verdict, verdict_is, refused, passed}

-- sixteen times `run bytes "x" | collectE 16777216;`, whose bounds are the limit of a script together
abbrev full : List Sentence
full = replicate 16 (run_statement (piped (bytes_word (codes "x") ∷ collect_e 16777216 ∷ [])))

-- pieces of at most 65,536 bytes, and 2, 4, 8 and 16 times as many
abbrev long : Tree
long = piped (bytes_word (codes "x") ∷ lines_word 65536 ∷ [])

abbrev long_2 : Tree
long_2 = zip_source_form [] long long

abbrev long_4 : Tree
long_4 = zip_source_form [] long_2 long_2

abbrev long_8 : Tree
long_8 = zip_source_form [] long_4 long_4

abbrev long_16 : Tree
long_16 = zip_source_form [] long_8 long_8

-- sixteen times run bytes "x" | collectE 16777216;
abbrev at_the_limit_script : List Sentence
at_the_limit_script = full

at_the_limit : verdict at_the_limit_script ≡ passed [] 268435456
at_the_limit = verdict_is at_the_limit_script

-- .. run bytes "x" | lastE;
abbrev last_past_script : List Sentence
last_past_script = full ++ run_statement (piped (bytes_word (codes "x") ∷ last_e ∷ [])) ∷ []

last_past : verdict last_past_script ≡ refused BoundTooLarge 17 3
last_past = verdict_is last_past_script

-- .. run bytes "x" | headE;
abbrev nothing_past_script : List Sentence
nothing_past_script = full ++ run_statement (piped (bytes_word (codes "x") ∷ head_e ∷ [])) ∷ []

nothing_past : verdict nothing_past_script ≡ passed [] 268435456
nothing_past = verdict_is nothing_past_script

-- .. run range 0 9 | last;
abbrev last_piece_past_script : List Sentence
last_piece_past_script = full ++ run_statement (piped (range_word 0 9 ∷ last_word ∷ [])) ∷ []

last_piece_past : verdict last_piece_past_script ≡ refused BoundTooLarge 17 3
last_piece_past = verdict_is last_piece_past_script

-- .. run bytes "x" | collectE 1;
abbrev collect_past_script : List Sentence
collect_past_script = full ++ run_statement (piped (bytes_word (codes "x") ∷ collect_e 1 ∷ [])) ∷ []

collect_past : verdict collect_past_script ≡ refused BoundTooLarge 17 3
collect_past = verdict_is collect_past_script

-- .. run range 0 9 | collect 0;
abbrev collect_none_script : List Sentence
collect_none_script = full ++ run_statement (piped (range_word 0 9 ∷ collect_word 0 ∷ [])) ∷ []

collect_none : verdict collect_none_script ≡ passed [] 268435456
collect_none = verdict_is collect_none_script

-- .. run bytes "x" | hexDecode | sinkNull;
abbrev hex_past_script : List Sentence
hex_past_script = full ++ run_statement (piped (bytes_word (codes "x") ∷ hex_decode_word ∷ sink_null ∷ [])) ∷ []

hex_past : verdict hex_past_script ≡ refused BoundTooLarge 17 3
hex_past = verdict_is hex_past_script

-- .. run bytes "x" | base64Encode | sinkNull;
abbrev base64_past_script : List Sentence
base64_past_script = full ++ run_statement (piped (bytes_word (codes "x") ∷ base64_encode_word ∷ sink_null ∷ [])) ∷ []

base64_past : verdict base64_past_script ≡ refused BoundTooLarge 17 3
base64_past = verdict_is base64_past_script

-- .. run bytes "x" | utf8 | sinkNull;
abbrev text_past_script : List Sentence
text_past_script = full ++ run_statement (piped (bytes_word (codes "x") ∷ utf8_word ∷ sink_null ∷ [])) ∷ []

text_past : verdict text_past_script ≡ refused BoundTooLarge 17 3
text_past = verdict_is text_past_script

-- .. run bytes "x" | exact 1 | sinkNull;
abbrev pieces_past_script : List Sentence
pieces_past_script = full ++ run_statement (piped (bytes_word (codes "x") ∷ exact_word 1 ∷ sink_null ∷ [])) ∷ []

pieces_past : verdict pieces_past_script ≡ refused BoundTooLarge 17 3
pieces_past = verdict_is pieces_past_script

-- .. run range 0 9 |+ sinkNull;
abbrev return_past_script : List Sentence
return_past_script = full ++ run_statement (piped_return (range_word 0 9 ∷ sink_null ∷ [])) ∷ []

return_past : verdict return_past_script ≡ refused BoundTooLarge 17 1
return_past = verdict_is return_past_script

-- .. run zipSource(range 0 9, range 0 9, "") | sinkNull;
abbrev zip_past_script : List Sentence
zip_past_script = full ++ run_statement (piped (zip_source_form [] (range_word 0 9) (range_word 0 9) ∷ sink_null ∷ [])) ∷ []

zip_past : verdict zip_past_script ≡ refused BoundTooLarge 17 2
unfolding chars
zip_past = verdict_is zip_past_script

-- .. run zipSource(blocks [""], range 0 9, "") | sinkNull;
abbrev zip_of_empty_past_script : List Sentence
zip_of_empty_past_script = full ++ run_statement (piped (zip_source_form [] (blocks_word ([] ∷ [])) (range_word 0 9) ∷ sink_null ∷ [])) ∷ []

zip_of_empty_past : verdict zip_of_empty_past_script ≡ refused BoundTooLarge 17 2
unfolding chars
zip_of_empty_past = verdict_is zip_of_empty_past_script

-- .. run bytes "x" | lastE | sinkNull; which by itself loses a result
abbrev total_before_the_chain_script : List Sentence
total_before_the_chain_script = full ++ run_statement (piped (bytes_word (codes "x") ∷ last_e ∷ sink_null ∷ [])) ∷ []

total_before_the_chain : verdict total_before_the_chain_script ≡ refused BoundTooLarge 17 3
total_before_the_chain = verdict_is total_before_the_chain_script

-- run bytes "x" | lastE | sinkNull;
abbrev chain_alone_script : List Sentence
chain_alone_script = run_statement (piped (bytes_word (codes "x") ∷ last_e ∷ sink_null ∷ [])) ∷ []

chain_alone : verdict chain_alone_script ≡ refused ResultLost 1 3
chain_alone = verdict_is chain_alone_script

-- run range 0 9 | collect 12782640; of 21 each
abbrev collect_at_the_limit_script : List Sentence
collect_at_the_limit_script = run_statement (piped (range_word 0 9 ∷ collect_word 12782640 ∷ [])) ∷ []

collect_at_the_limit : verdict collect_at_the_limit_script ≡ passed [] 268435440
collect_at_the_limit = verdict_is collect_at_the_limit_script

-- run range 0 9 | collect 12782641;
abbrev collect_one_more_script : List Sentence
collect_one_more_script = run_statement (piped (range_word 0 9 ∷ collect_word 12782641 ∷ [])) ∷ []

collect_one_more : verdict collect_one_more_script ≡ refused BoundTooLarge 1 3
collect_one_more = verdict_is collect_one_more_script

-- pieces of 1,048,576 bytes
abbrev piece_at_the_limit_script : List Sentence
piece_at_the_limit_script = run_statement (piped (long_16 ∷ sink_null ∷ [])) ∷ []

piece_at_the_limit : verdict piece_at_the_limit_script ≡ passed [] 3145743
unfolding chars
piece_at_the_limit = verdict_is piece_at_the_limit_script

-- zipSource of two of 524,288 bytes, with "y"
abbrev zip_one_more_script : List Sentence
zip_one_more_script = run_statement (piped (zip_source_form (codes "y") long_8 long_8 ∷ sink_null ∷ [])) ∷ []

zip_one_more : verdict zip_one_more_script ≡ refused BoundTooLarge 1 2
unfolding chars
zip_one_more = verdict_is zip_one_more_script

-- pieces of 1,048,576 bytes | map prefix "y"
abbrev prefix_one_more_script : List Sentence
prefix_one_more_script = run_statement (piped (long_16 ∷ map_word (prefix (codes "y")) ∷ sink_null ∷ [])) ∷ []

prefix_one_more : verdict prefix_one_more_script ≡ refused BoundTooLarge 1 65
unfolding chars
prefix_one_more = verdict_is prefix_one_more_script

-- .. | map suffix "y"
abbrev suffix_one_more_script : List Sentence
suffix_one_more_script = run_statement (piped (long_16 ∷ map_word (suffix (codes "y")) ∷ sink_null ∷ [])) ∷ []

suffix_one_more : verdict suffix_one_more_script ≡ refused BoundTooLarge 1 65
unfolding chars
suffix_one_more = verdict_is suffix_one_more_script

-- .. | map suffix ""
abbrev suffix_of_nothing_script : List Sentence
suffix_of_nothing_script = run_statement (piped (long_16 ∷ map_word (suffix []) ∷ sink_null ∷ [])) ∷ []

suffix_of_nothing : verdict suffix_of_nothing_script ≡ passed [] 3145743
unfolding chars
suffix_of_nothing = verdict_is suffix_of_nothing_script

-- .. | intersperse "y", which keeps the larger bound
abbrev interspersed_script : List Sentence
interspersed_script = run_statement (piped (long_16 ∷ intersperse_word (codes "y") ∷ sink_null ∷ [])) ∷ []

interspersed : verdict interspersed_script ≡ passed [] 3145743
unfolding chars
interspersed = verdict_is interspersed_script

-- .. | intersperse "y" | map prefix "y"
abbrev prefix_behind_intersperse_script : List Sentence
prefix_behind_intersperse_script = run_statement (piped (long_16 ∷ intersperse_word (codes "y") ∷ map_word (prefix (codes "y")) ∷ sink_null ∷ [])) ∷
    []

prefix_behind_intersperse : verdict prefix_behind_intersperse_script ≡ refused BoundTooLarge 1 66
unfolding chars
prefix_behind_intersperse = verdict_is prefix_behind_intersperse_script
