-- Sites that are opened and closed, and what would be opened twice without the conditions on scripts.
use Rattle.std.specs.Prelude.{◌≡◌, refl, ℕ, Bool, true, false, List, [], ◌∷◌, map, codes}
use Rattle.std.proofs.Common.{subst}
use lib.Utf8.{encode}
use Rattle.std.specs.Fmt.{digits}
use Rattle.cd_meaning.specs.Stream.{Close, Open, Put}
use Rattle.cd_meaning.specs.RunShapes.{AtEnd}
use Rattle.cd_meaning.specs.Opens.{closes_of, openings_at, opens_of}
use Rattle.cd_meaning.specs.Scoped.{IsScoped}
use Rattle.cd_meaning.specs.Places.{ReadsInput, Reads, Marks, place_in}
use Rattle.cd_meaning.specs.Rows.Trees.{Sentence, Tree, statement_of}
use Rattle.cd_meaning.specs.Rows.Short.{close_statement, digit, feed_statement, filter_e, head_e, hold_statement, let_statement, piped, piped_keep, release_statement, run_statement, sequence_form, source_file_word, stdout_word, tee_form}
use Rattle.cd_meaning.specs.Rows.Given.{rows, does, told_of}

abbrev s : List ℕ
s = codes "s"

abbrev file_source : Tree
file_source = source_file_word (codes "a")

abbrev fed : List Sentence
fed = let_statement s file_source ∷ feed_statement s head_e ∷ close_statement s stdout_word ∷ []

abbrev closed_twice : List Sentence
closed_twice = let_statement s file_source ∷ close_statement s stdout_word ∷ close_statement s stdout_word ∷ []

abbrev released_twice : List Sentence
released_twice = hold_statement s (codes "m") ∷ release_statement s ∷ release_statement s ∷ []

-- what stands before `|=` is no map: it does something with each value, and gives but some
abbrev no_map : List Sentence
no_map = run_statement (piped (sequence_form (file_source ∷ source_file_word (codes "b") ∷ []) ∷ piped_keep (piped (tee_form stdout_word ∷ filter_e digit ∷ []) ∷ stdout_word ∷ []) ∷ [])) ∷ []

-- the source is opened by the first that takes of it, and closed by the one that asks for its end
fed_opens : opens_of 1 (does fed (told_of 1 (codes "ab") AtEnd ∷ [])) ≡ 1
unfolding encode digits
fed_opens = simp rows

fed_closes : closes_of 1 (does fed (told_of 1 (codes "ab") AtEnd ∷ [])) ≡ 1
unfolding encode digits
fed_closes = simp rows

fed_is_scoped : IsScoped (map statement_of fed)
fed_is_scoped = (refl, (refl, tt))

closed_twice_is_not_scoped : IsScoped (map statement_of closed_twice) → ⊥
closed_twice_is_not_scoped scoped = subst is_false scoped.1.0 tt where
  is_false : Bool → Type 0
  is_false true = ⊥
  is_false false = Unit {0}

-- a name that is used where it no longer stands
closed_twice_opens : opens_of 1 (does closed_twice (told_of 1 (codes "a") AtEnd ∷ [])) ≡ 2
closed_twice_opens = simp rows

released_twice_closes : closes_of 1 (does released_twice []) ≡ 2
released_twice_closes = refl

-- needs that fall let the upstream do again what it did
no_map_does : does no_map (told_of 1 (codes "x") AtEnd ∷ told_of 2 (codes "y1") AtEnd ∷ []) ≡ Open 1 ∷ Put 3 120 ∷ Close 1 ∷ Open 2 ∷ Put 3 121 ∷ Put 3 49 ∷ Put 4 49 ∷ Close 1 ∷ Open 2 ∷ []
no_map_does = simp rows

places_open : openings_at (place_in (Reads s ∷ ReadsInput ∷ Marks s ∷ []) 3) ≡ 1
places_open = refl

results_open_nothing : openings_at (place_in (Reads s ∷ []) 0) ≡ 0
results_open_nothing = refl
