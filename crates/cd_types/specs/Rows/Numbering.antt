-- Sites, seals, keys and parts by their numbers.
use Rattle.std.specs.Prelude.{◌≡◌, refl, List, [], ◌∷◌, codes, true, false, Some, None}
use Rattle.cd_elem.specs.declared.kind.Kind.{Kind}
use Rattle.cd_meaning.specs.Rows.Trees.{Sentence}
use Rattle.cd_meaning.specs.Rows.Short.{bytes_word, close_statement, exactly_e_form, feed_statement, hold_statement, length_e, let_statement, mark_form, piped, release_statement, run_statement, sequence_form, sink_null, source_file_word, stdout_word, take_e}
use Rattle.cd_types.specs.Flows.{Unit, Num}
use Rattle.cd_types.specs.Rows.Trees.{site_at, site_at_is, type_at, type_at_is, seal_at, key_at}

-- hold k = mark "m";
-- run mark "n" { sourceFile "a" } | { exactlyE 2 { stdout }; stdout };
-- the parts of its second statement: 1 is the chain, 2 the mark, 3 `sourceFile`, 4 the sequence, 5 the section, 6 and 7 `stdout`
abbrev marked : List Sentence
marked = hold_statement (codes "k") (codes "m")
    ∷ run_statement (piped (mark_form (codes "n") (source_file_word (codes "a")) ∷ sequence_form (exactly_e_form 2 stdout_word ∷ stdout_word ∷ []) ∷ []))
    ∷ []

hold_is_a_site : site_at marked 1 0 ≡ Some 1
hold_is_a_site = site_at_is marked 1 0

mark_is_a_site : site_at marked 2 2 ≡ Some 2
mark_is_a_site = site_at_is marked 2 2

source_is_a_site : site_at marked 2 3 ≡ Some 3
source_is_a_site = site_at_is marked 2 3

first_output : site_at marked 2 6 ≡ Some 4
first_output = site_at_is marked 2 6

second_output : site_at marked 2 7 ≡ Some 5
second_output = site_at_is marked 2 7

chain_is_no_site : site_at marked 2 1 ≡ None
chain_is_no_site = site_at_is marked 2 1

run_is_no_site : site_at marked 2 0 ≡ None
run_is_no_site = site_at_is marked 2 0

no_statement_has_no_site : site_at marked 0 0 ≡ None
no_statement_has_no_site = site_at_is marked 0 0

-- parts
abbrev byte_counts : List Sentence
byte_counts = let_statement (codes "s") (bytes_word (codes "x")) ∷ close_statement (codes "s") (piped (take_e 1 ∷ length_e ∷ [])) ∷ []

source_type : type_at byte_counts 1 1 ≡ Some (record { from = None; to = Some Kind.Bytes; result = Unit; exact = true; idle = true; bound = 0 })
source_type = type_at_is byte_counts 1 1

chain_type : type_at byte_counts 2 1 ≡ Some (record { from = Some Kind.Bytes; to = None; result = Num; exact = false; idle = false; bound = 0 })
chain_type = type_at_is byte_counts 2 1

last_type : type_at byte_counts 2 3 ≡ Some (record { from = Some Kind.Bytes; to = None; result = Num; exact = true; idle = false; bound = 0 })
last_type = type_at_is byte_counts 2 3

past_the_parts : type_at byte_counts 2 4 ≡ None
past_the_parts = type_at_is byte_counts 2 4

statement_is_no_part : type_at byte_counts 2 0 ≡ None
statement_is_no_part = type_at_is byte_counts 2 0

past_the_statements : type_at byte_counts 3 1 ≡ None
past_the_statements = type_at_is byte_counts 3 1

-- Seals and keys, which may have one name. Both count from 0.
-- hold a = mark "m"; let t = seal bytes "x"; let a = seal bytes "y"; feed a | exactlyE 1 { stdout }; close t | sinkNull; hold b = mark "n"; release b; run bytes "z" | stdout;
abbrev named : List Sentence
named = hold_statement (codes "a") (codes "m") ∷ let_statement (codes "t") (bytes_word (codes "x")) ∷ let_statement (codes "a") (bytes_word (codes "y"))
    ∷ feed_statement (codes "a") (exactly_e_form 1 stdout_word) ∷ close_statement (codes "t") sink_null ∷ hold_statement (codes "b") (codes "n")
    ∷ release_statement (codes "b") ∷ run_statement (piped (bytes_word (codes "z") ∷ stdout_word ∷ [])) ∷ []

held_is_no_seal : seal_at named 1 ≡ None
held_is_no_seal = refl

first_seal : seal_at named 2 ≡ Some 0
first_seal = refl

second_seal : seal_at named 3 ≡ Some 1
second_seal = refl

fed_seal : seal_at named 4 ≡ Some 1
fed_seal = refl

closed_seal : seal_at named 5 ≡ Some 0
closed_seal = refl

run_has_no_seal : seal_at named 8 ≡ None
run_has_no_seal = refl

no_statement_has_no_seal : seal_at named 9 ≡ None
no_statement_has_no_seal = refl

first_key : key_at named 1 ≡ Some 0
first_key = refl

seal_is_no_key : key_at named 3 ≡ None
seal_is_no_key = refl

second_key : key_at named 6 ≡ Some 1
second_key = refl

released_key : key_at named 7 ≡ Some 1
released_key = refl

run_has_no_key : key_at named 8 ≡ None
run_has_no_key = refl
