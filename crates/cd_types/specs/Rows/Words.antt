-- What words ask of what comes to them, where two sides of a rule meet.
use Rattle.std.specs.Prelude.{List, [], ◌∷◌, ◌≡◌, codes}
use Rattle.cd_meaning.specs.Rows.Trees.{Sentence}
use Rattle.cd_meaning.specs.Rows.Short.{take_while_e, filter_e, map_e, sum_e, any_e, sink_null, split_word, bytes_word, text_word, is_scalar, xor, rot13, not_class, piped, run_statement}
use Rattle.cd_types.specs.declared.refusal.RefusalKind.TheVariants.{KindMismatch}
use Rattle.cd_types.specs.Rows.Trees.{verdict, verdict_is, refused, passed}

-- run bytes "x" | takeWhileE is "\u{7f}" | sinkNull;
abbrev class_at_127_script : List Sentence
class_at_127_script = run_statement (piped (bytes_word (codes "x") ∷ take_while_e (is_scalar 127) ∷ sink_null ∷ [])) ∷ []

class_at_127 : verdict class_at_127_script ≡ passed [] 0
class_at_127 = verdict_is class_at_127_script

-- run bytes "x" | takeWhileE is "\u{80}" | sinkNull;
abbrev class_at_128_script : List Sentence
class_at_128_script = run_statement (piped (bytes_word (codes "x") ∷ take_while_e (is_scalar 128) ∷ sink_null ∷ [])) ∷ []

class_at_128 : verdict class_at_128_script ≡ refused KindMismatch 1 3
class_at_128 = verdict_is class_at_128_script

-- run bytes "x" | anyE not is "\u{80}";
abbrev not_class_at_128_script : List Sentence
not_class_at_128_script = run_statement (piped (bytes_word (codes "x") ∷ any_e (not_class (is_scalar 128)) ∷ [])) ∷ []

not_class_at_128 : verdict not_class_at_128_script ≡ refused KindMismatch 1 3
not_class_at_128 = verdict_is not_class_at_128_script

-- run text "x" | filterE is "\u{80}" | sinkNull;
abbrev class_on_characters_script : List Sentence
class_on_characters_script = run_statement (piped (text_word (codes "x") ∷ filter_e (is_scalar 128) ∷ sink_null ∷ [])) ∷ []

class_on_characters : verdict class_on_characters_script ≡ passed [] 0
class_on_characters = verdict_is class_on_characters_script

-- run bytes "x" | split "\u{7f}" 3 | sinkNull;
abbrev split_at_127_script : List Sentence
split_at_127_script = run_statement (piped (bytes_word (codes "x") ∷ split_word 127 3 ∷ sink_null ∷ [])) ∷ []

split_at_127 : verdict split_at_127_script ≡ passed [] 3
split_at_127 = verdict_is split_at_127_script

-- run bytes "x" | split "\u{80}" 3 | sinkNull;
abbrev split_at_128_script : List Sentence
split_at_128_script = run_statement (piped (bytes_word (codes "x") ∷ split_word 128 3 ∷ sink_null ∷ [])) ∷ []

split_at_128 : verdict split_at_128_script ≡ refused KindMismatch 1 3
split_at_128 = verdict_is split_at_128_script

-- run text "x" | sumE;
abbrev sum_of_characters_script : List Sentence
sum_of_characters_script = run_statement (piped (text_word (codes "x") ∷ sum_e ∷ [])) ∷ []

sum_of_characters : verdict sum_of_characters_script ≡ refused KindMismatch 1 3
sum_of_characters = verdict_is sum_of_characters_script

-- run text "x" | mapE rot13 | sinkNull;
abbrev rot13_on_characters_script : List Sentence
rot13_on_characters_script = run_statement (piped (text_word (codes "x") ∷ map_e rot13 ∷ sink_null ∷ [])) ∷ []

rot13_on_characters : verdict rot13_on_characters_script ≡ passed [] 0
rot13_on_characters = verdict_is rot13_on_characters_script

-- run text "x" | mapE xor 1 | sinkNull;
abbrev xor_on_characters_script : List Sentence
xor_on_characters_script = run_statement (piped (text_word (codes "x") ∷ map_e (xor 1) ∷ sink_null ∷ [])) ∷ []

xor_on_characters : verdict xor_on_characters_script ≡ refused KindMismatch 1 3
xor_on_characters = verdict_is xor_on_characters_script
