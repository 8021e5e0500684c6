-- What the cases are put together with.
use Rattle.std.specs.Prelude.{◌≡◌, ℕ, ◌==◌, if◌then◌else◌, List, [], Some, map}
use Rattle.std.proofs.Common.{ap}
use Rattle.cd_meaning.specs.Stream.{Item, Sort, End, Ending, Effect}
use Rattle.cd_meaning.specs.Run.{Run, effects, ending}
use Rattle.cd_meaning.specs.RunShapes.{Mark, AtEnd, Told, Seen}
use Rattle.cd_meaning.specs.Pipes.{pipe_meaning}
use Rattle.cd_meaning.specs.Scripts.{script_run, statements_from, first_state}
use Rattle.cd_meaning.specs.Rows.Trees.{Tree, pipe_of, meaning_of, means, Sentence, statement_of, sentence_meaning, script_means}

abbrev pub told : List ℕ → Mark → Told
told bytes mark = record { bytes = bytes; mark = mark }

-- each site has no bytes
abbrev pub nothing_seen : Seen
nothing_seen site = told [] AtEnd

-- what is known of one site, and of the others
abbrev pub known : ℕ → List ℕ → Mark → Seen → Seen
known site bytes mark others other = if other == site then told bytes mark else others other

-- a word's run on values of this sort, where its site is 2
unfoldable pub word_run : Tree → Sort → List Item → End → Run
word_run t k xs e = (pipe_meaning (pipe_of t)).run (Some k) 2 nothing_seen xs e

pub runs_so : (t : Tree) (k : Sort) (xs : List Item) (e : End) → word_run t k xs e ≡ (meaning_of t).run (Some k) 2 nothing_seen xs e
unfolding word_run
runs_so t k xs e = ap (λ m. m.run (Some k) 2 nothing_seen xs e) (means t)

-- what a script does, and how it ends
unfoldable pub effects_of : List Sentence → Seen → List Effect
effects_of script seen = effects (script_run (map statement_of script) seen)

unfoldable pub ending_of : List Sentence → Seen → Ending
ending_of script seen = ending (script_run (map statement_of script) seen)

pub effects_so : (script : List Sentence) (seen : Seen) → effects_of script seen ≡ effects (statements_from (map sentence_meaning script) seen first_state)
unfolding effects_of
effects_so script seen = ap (λ ms. effects (statements_from ms seen first_state)) (script_means script)

pub ending_so : (script : List Sentence) (seen : Seen) → ending_of script seen ≡ ending (statements_from (map sentence_meaning script) seen first_state)
unfolding ending_of
ending_so script seen = ap (λ ms. ending (statements_from ms seen first_state)) (script_means script)
