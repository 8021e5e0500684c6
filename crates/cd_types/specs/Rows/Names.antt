-- Names of keys and of seals: two sets, in each of which a name is defined once, and then used until it is spent or closed.
use Rattle.std.specs.Prelude.{List, [], ◌∷◌, ◌≡◌, codes}
use Rattle.cd_meaning.specs.Places.{Marks}
use Rattle.cd_meaning.specs.Rows.Trees.{Sentence}
use Rattle.cd_meaning.specs.Rows.Short.{sink_null, bytes_word, let_statement, feed_statement, close_statement, hold_statement, release_statement}
use Rattle.cd_types.specs.declared.refusal.RefusalKind.TheVariants.{NameTwice, Seal, Key}
use Rattle.cd_types.specs.Rows.Trees.{verdict, verdict_is, refused, passed}

-- hold k = mark "m";
-- release k;
abbrev held_and_released_script : List Sentence
held_and_released_script = hold_statement (codes "k") (codes "m") ∷ release_statement (codes "k") ∷ []

held_and_released : verdict held_and_released_script ≡ passed (Marks (codes "m") ∷ []) 0
held_and_released = verdict_is held_and_released_script

-- hold k = mark "m";
abbrev held_to_the_end_script : List Sentence
held_to_the_end_script = hold_statement (codes "k") (codes "m") ∷ []

held_to_the_end : verdict held_to_the_end_script ≡ passed (Marks (codes "m") ∷ []) 0
held_to_the_end = verdict_is held_to_the_end_script

-- release k;
abbrev unknown_key_script : List Sentence
unknown_key_script = release_statement (codes "k") ∷ []

unknown_key : verdict unknown_key_script ≡ refused Key 1 0
unknown_key = verdict_is unknown_key_script

-- release k;
-- hold k = mark "m";
abbrev held_later_script : List Sentence
held_later_script = release_statement (codes "k") ∷ hold_statement (codes "k") (codes "m") ∷ []

held_later : verdict held_later_script ≡ refused Key 1 0
held_later = verdict_is held_later_script

-- hold k = mark "m";
-- release j;
abbrev other_key_script : List Sentence
other_key_script = hold_statement (codes "k") (codes "m") ∷ release_statement (codes "j") ∷ []

other_key : verdict other_key_script ≡ refused Key 2 0
other_key = verdict_is other_key_script

-- hold k = mark "m";
-- hold k = mark "n";
abbrev held_twice_script : List Sentence
held_twice_script = hold_statement (codes "k") (codes "m") ∷ hold_statement (codes "k") (codes "n") ∷ []

held_twice : verdict held_twice_script ≡ refused Key 2 0
held_twice = verdict_is held_twice_script

-- hold k = mark "m";
-- release k;
-- hold k = mark "n";
abbrev held_again_script : List Sentence
held_again_script = hold_statement (codes "k") (codes "m") ∷ release_statement (codes "k") ∷ hold_statement (codes "k") (codes "n") ∷ []

held_again : verdict held_again_script ≡ refused Key 3 0
held_again = verdict_is held_again_script

-- hold k = mark "m";
-- release k;
-- release k;
abbrev released_twice_script : List Sentence
released_twice_script = hold_statement (codes "k") (codes "m") ∷ release_statement (codes "k") ∷ release_statement (codes "k") ∷ []

released_twice : verdict released_twice_script ≡ refused Key 3 0
released_twice = verdict_is released_twice_script

-- hold j = mark "m";
-- hold k = mark "n";
-- release j;
-- release k;
abbrev released_in_any_order_script : List Sentence
released_in_any_order_script = hold_statement (codes "j") (codes "m") ∷ hold_statement (codes "k") (codes "n") ∷ release_statement (codes "j") ∷
    release_statement (codes "k") ∷ []

released_in_any_order : verdict released_in_any_order_script ≡ passed (Marks (codes "m") ∷ Marks (codes "n") ∷ []) 0
released_in_any_order = verdict_is released_in_any_order_script

-- hold j = mark "m";
-- hold k = mark "n";
-- release j;
-- release k;
-- release j;
abbrev released_once_more_script : List Sentence
released_once_more_script = hold_statement (codes "j") (codes "m") ∷ hold_statement (codes "k") (codes "n") ∷ release_statement (codes "j") ∷
    release_statement (codes "k") ∷ release_statement (codes "j") ∷ []

released_once_more : verdict released_once_more_script ≡ refused Key 5 0
released_once_more = verdict_is released_once_more_script

-- let k = seal bytes "x";
-- release k;
abbrev seal_is_no_key_script : List Sentence
seal_is_no_key_script = let_statement (codes "k") (bytes_word (codes "x")) ∷ release_statement (codes "k") ∷ []

seal_is_no_key : verdict seal_is_no_key_script ≡ refused Key 2 0
seal_is_no_key = verdict_is seal_is_no_key_script

-- hold k = mark "m";
-- close k | sinkNull;
abbrev key_is_no_seal_script : List Sentence
key_is_no_seal_script = hold_statement (codes "k") (codes "m") ∷ close_statement (codes "k") sink_null ∷ []

key_is_no_seal : verdict key_is_no_seal_script ≡ refused Seal 2 0
key_is_no_seal = verdict_is key_is_no_seal_script

-- let k = seal bytes "x";
-- hold k = mark "m";
-- close k | sinkNull;
-- release k;
abbrev one_name_for_both_script : List Sentence
one_name_for_both_script = let_statement (codes "k") (bytes_word (codes "x")) ∷ hold_statement (codes "k") (codes "m") ∷ close_statement (codes "k")
    sink_null ∷ release_statement (codes "k") ∷ []

one_name_for_both : verdict one_name_for_both_script ≡ passed (Marks (codes "m") ∷ []) 0
one_name_for_both = verdict_is one_name_for_both_script

-- let k = seal bytes "x";
-- hold k = mark "m";
-- close k | sinkNull;
-- release k;
-- release k;
abbrev closing_spends_no_key_script : List Sentence
closing_spends_no_key_script = let_statement (codes "k") (bytes_word (codes "x")) ∷ hold_statement (codes "k") (codes "m") ∷ close_statement (codes
    "k") sink_null ∷ release_statement (codes "k") ∷ release_statement (codes "k") ∷ []

closing_spends_no_key : verdict closing_spends_no_key_script ≡ refused Key 5 0
closing_spends_no_key = verdict_is closing_spends_no_key_script

-- hold k = mark "m";
-- hold k = mark "m"; which also marks a name twice
abbrev marked_name_first_script : List Sentence
marked_name_first_script = hold_statement (codes "k") (codes "m") ∷ hold_statement (codes "k") (codes "m") ∷ []

marked_name_first : verdict marked_name_first_script ≡ refused NameTwice 2 0
marked_name_first = verdict_is marked_name_first_script

-- let s = seal bytes "x";
-- close s | sinkNull;
-- feed s | sinkNull;
abbrev fed_after_close_script : List Sentence
fed_after_close_script = let_statement (codes "s") (bytes_word (codes "x")) ∷ close_statement (codes "s") sink_null ∷ feed_statement (codes "s")
    sink_null ∷ []

fed_after_close : verdict fed_after_close_script ≡ refused Seal 3 0
fed_after_close = verdict_is fed_after_close_script

-- let s = seal bytes "x";
-- close s | sinkNull;
-- close s | sinkNull;
abbrev closed_twice_script : List Sentence
closed_twice_script = let_statement (codes "s") (bytes_word (codes "x")) ∷ close_statement (codes "s") sink_null ∷ close_statement (codes "s")
    sink_null ∷ []

closed_twice : verdict closed_twice_script ≡ refused Seal 3 0
closed_twice = verdict_is closed_twice_script

-- let s = seal bytes "x";
-- feed s | sinkNull;
-- feed s | sinkNull;
-- close s | sinkNull;
abbrev fed_twice_script : List Sentence
fed_twice_script = let_statement (codes "s") (bytes_word (codes "x")) ∷ feed_statement (codes "s") sink_null ∷ feed_statement (codes "s") sink_null ∷
    close_statement (codes "s") sink_null ∷ []

fed_twice : verdict fed_twice_script ≡ passed [] 0
fed_twice = verdict_is fed_twice_script

-- let s = seal bytes "x";
-- close s | sinkNull;
-- let s = seal bytes "x";
abbrev sealed_again_script : List Sentence
sealed_again_script = let_statement (codes "s") (bytes_word (codes "x")) ∷ close_statement (codes "s") sink_null ∷ let_statement (codes "s")
    (bytes_word (codes "x")) ∷ []

sealed_again : verdict sealed_again_script ≡ refused Seal 3 0
sealed_again = verdict_is sealed_again_script

-- let s = seal bytes "x";
abbrev never_closed_script : List Sentence
never_closed_script = let_statement (codes "s") (bytes_word (codes "x")) ∷ []

never_closed : verdict never_closed_script ≡ passed [] 0
never_closed = verdict_is never_closed_script
