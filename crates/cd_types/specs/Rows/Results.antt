-- The result of a chain under each operator, with the types of all parts.
use Rattle.std.specs.Prelude.{List, [], ◌∷◌, ◌≡◌, ℕ, Bool, codes, true, false, Some, None}
use Rattle.cd_meaning.specs.Rows.Trees.{Sentence}
use Rattle.cd_meaning.specs.Rows.Short.{pass_e, head_e, length_e, sink_null, pass_word, take_word, bytes_word, blocks_word, piped, piped_keep, piped_return, piped_both, piped_up, piped_asked, sequence_form, run_statement}
use Rattle.cd_types.specs.Flows.{Flow, Kind, Sort, ResultKind, Unit, Num, Maybe, Byte, Pair, ListV, PartType}
use Rattle.cd_types.specs.Rows.Trees.{part_types, part_types_are}

abbrev typed : Flow → Flow → ResultKind → Bool → Bool → ℕ → PartType
typed from to result exact idle bound = record { from = from; to = to; result = result; exact = exact; idle = idle; bound = bound }

-- run bytes "x" | (passE | headE);
abbrev result_of_plain_script : List Sentence
result_of_plain_script = run_statement (piped (bytes_word (codes "x") ∷ piped (pass_e ∷ head_e ∷ []) ∷ [])) ∷ []

result_of_plain : part_types result_of_plain_script ≡ (typed None None (Maybe Byte) true true 0 ∷ typed None (Some Kind.Bytes) Unit true true 0 ∷
    typed (Some Kind.Bytes) None (Maybe Byte) false false 0 ∷ typed (Some Kind.Bytes) (Some Kind.Bytes) Unit true false 0 ∷ typed (Some Kind.Bytes)
    None (Maybe Byte) true false 0 ∷ []) ∷ []
result_of_plain = part_types_are result_of_plain_script

-- run bytes "x" | (passE |= headE);
abbrev result_of_kept_script : List Sentence
result_of_kept_script = run_statement (piped (bytes_word (codes "x") ∷ piped_keep (pass_e ∷ head_e ∷ []) ∷ [])) ∷ []

result_of_kept : part_types result_of_kept_script ≡ (typed None None (Maybe Byte) true true 0 ∷ typed None (Some Kind.Bytes) Unit true true 0 ∷ typed
    (Some Kind.Bytes) None (Maybe Byte) true false 0 ∷ typed (Some Kind.Bytes) (Some Kind.Bytes) Unit true false 0 ∷ typed (Some Kind.Bytes) None
    (Maybe Byte) true false 0 ∷ []) ∷ []
result_of_kept = part_types_are result_of_kept_script

-- run bytes "x" | ({ passE; headE } |& lengthE);
abbrev result_of_both_script : List Sentence
result_of_both_script = run_statement (piped (bytes_word (codes "x") ∷ piped_both (sequence_form (pass_e ∷ head_e ∷ []) ∷ length_e ∷ []) ∷ [])) ∷ []

result_of_both : part_types result_of_both_script ≡ (typed None None (Pair (Maybe Byte) Num) true true 0 ∷ typed None (Some Kind.Bytes) Unit true true
    0 ∷ typed (Some Kind.Bytes) None (Pair (Maybe Byte) Num) true false 0 ∷ typed (Some Kind.Bytes) (Some Kind.Bytes) (Maybe Byte) true false 0 ∷
    typed (Some Kind.Bytes) (Some Kind.Bytes) Unit true false 0 ∷ typed (Some Kind.Bytes) None (Maybe Byte) true false 0 ∷ typed (Some Kind.Bytes)
    None Num true false 0 ∷ []) ∷ []
result_of_both = part_types_are result_of_both_script

-- run bytes "x" | (passE |& sinkNull);
abbrev result_of_both_units_script : List Sentence
result_of_both_units_script = run_statement (piped (bytes_word (codes "x") ∷ piped_both (pass_e ∷ sink_null ∷ []) ∷ [])) ∷ []

result_of_both_units : part_types result_of_both_units_script ≡ (typed None None Unit true true 0 ∷ typed None (Some Kind.Bytes) Unit true true 0 ∷
    typed (Some Kind.Bytes) None Unit true false 0 ∷ typed (Some Kind.Bytes) (Some Kind.Bytes) Unit true false 0 ∷ typed (Some Kind.Bytes) None Unit
    true false 0 ∷ []) ∷ []
result_of_both_units = part_types_are result_of_both_units_script

-- run bytes "x" | ({ passE; headE } |< sinkNull);
abbrev result_of_up_script : List Sentence
result_of_up_script = run_statement (piped (bytes_word (codes "x") ∷ piped_up (sequence_form (pass_e ∷ head_e ∷ []) ∷ sink_null ∷ []) ∷ [])) ∷ []

result_of_up : part_types result_of_up_script ≡ (typed None None (Maybe Byte) true true 0 ∷ typed None (Some Kind.Bytes) Unit true true 0 ∷ typed
    (Some Kind.Bytes) None (Maybe Byte) true false 0 ∷ typed (Some Kind.Bytes) (Some Kind.Bytes) (Maybe Byte) true false 0 ∷ typed (Some Kind.Bytes)
    (Some Kind.Bytes) Unit true false 0 ∷ typed (Some Kind.Bytes) None (Maybe Byte) true false 0 ∷ typed (Some Kind.Bytes) None Unit true false 0 ∷
    []) ∷ []
result_of_up = part_types_are result_of_up_script

-- run bytes "x" | ({ passE; headE } |? lengthE);
abbrev result_of_asked_script : List Sentence
result_of_asked_script = run_statement (piped (bytes_word (codes "x") ∷ piped_asked (sequence_form (pass_e ∷ head_e ∷ []) ∷ length_e ∷ []) ∷ [])) ∷ []

result_of_asked : part_types result_of_asked_script ≡ (typed None None (Pair (Maybe (Maybe Byte)) Num) true true 0 ∷ typed None (Some Kind.Bytes) Unit
    true true 0 ∷ typed (Some Kind.Bytes) None (Pair (Maybe (Maybe Byte)) Num) false false 0 ∷ typed (Some Kind.Bytes) (Some Kind.Bytes) (Maybe Byte)
    true false 0 ∷ typed (Some Kind.Bytes) (Some Kind.Bytes) Unit true false 0 ∷ typed (Some Kind.Bytes) None (Maybe Byte) true false 0 ∷ typed (Some
    Kind.Bytes) None Num true false 0 ∷ []) ∷ []
result_of_asked = part_types_are result_of_asked_script

-- run blocks ["xy"] | (pass |+ take 1 |+ sinkNull);
abbrev result_of_return_script : List Sentence
result_of_return_script = run_statement (piped (blocks_word (codes "xy" ∷ []) ∷ piped_return (pass_word ∷ take_word 1 ∷ sink_null ∷ []) ∷ [])) ∷ []

result_of_return : part_types result_of_return_script ≡ (typed None None (Pair (Pair Unit (ListV Sort.Block)) (ListV Sort.Block)) true true 0 ∷ typed
    None (Some (Kind.Blocks 2)) Unit true true 0 ∷ typed (Some (Kind.Blocks 2)) None (Pair (Pair Unit (ListV Sort.Block)) (ListV Sort.Block)) true
    false 6 ∷ typed (Some (Kind.Blocks 2)) (Some (Kind.Blocks 2)) Unit true false 0 ∷ typed (Some (Kind.Blocks 2)) (Some (Kind.Blocks 2)) Unit true
    false 0 ∷ typed (Some (Kind.Blocks 2)) None Unit true false 0 ∷ []) ∷ []
result_of_return = part_types_are result_of_return_script

-- run blocks ["xy"] | ({ sinkNull } |+ (bytes "x" | lengthE)); a list of blocks where nothing is given
abbrev result_of_return_of_nothing_script : List Sentence
result_of_return_of_nothing_script = run_statement (piped (blocks_word (codes "xy" ∷ []) ∷ piped_return (sequence_form (sink_null ∷ []) ∷ piped
    (bytes_word (codes "x") ∷ length_e ∷ []) ∷ []) ∷ [])) ∷ []

result_of_return_of_nothing : part_types result_of_return_of_nothing_script ≡ (typed None None (Pair Num (ListV Sort.Block)) true true 0 ∷ typed None (Some
    (Kind.Blocks 2)) Unit true true 0 ∷ typed (Some (Kind.Blocks 2)) None (Pair Num (ListV Sort.Block)) true false 0 ∷ typed (Some (Kind.Blocks 2))
    None Unit true false 0 ∷ typed (Some (Kind.Blocks 2)) None Unit true false 0 ∷ typed None None Num true true 0 ∷ typed None (Some Kind.Bytes) Unit
    true true 0 ∷ typed (Some Kind.Bytes) None Num true false 0 ∷ []) ∷ []
result_of_return_of_nothing = part_types_are result_of_return_of_nothing_script
