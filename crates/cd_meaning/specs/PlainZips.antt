-- Two runs on one input as the rule says it: what both do stands by need, at equal need what the first does before what the second does. `Zips` has it in the form that proofs use.
use Rattle.std.specs.Prelude.{ℕ, ◌+◌, ◌==◌, max, List, [], ◌∷◌, ◌++◌, length}
use Rattle.std.specs.List.{filter, flat_map, range_with_len}
use Rattle.cd_meaning.specs.Stream.{Halt, Ending, Done, Halts, Act}
use Rattle.cd_meaning.specs.Run.{Stamp, Run, Then, Ends, Component, at_need, ending, last}
use Rattle.cd_meaning.specs.Fusion.{both}

-- What a run does at a need: an act, or it goes no further.
pub data Deed : Type 0 where
  Does : Act → Deed
  Stops : Halt → Deed

pub record DeedAt : Type 0 where
  pub need : ℕ
  pub deed : Deed

abbrev pub deed_at : ℕ → Deed → DeedAt
deed_at need deed = record { need = need; deed = deed }

-- what a run does; that it is done is no deed
abbrev pub deeds : Run → List DeedAt
deeds (Then s a r) = deed_at s.need (Does a) ∷ deeds r
deeds (Ends s (Done v)) = []
deeds (Ends s (Halts h)) = deed_at s.need (Stops h) ∷ []

-- those of this need
abbrev pub of_need : ℕ → List DeedAt → List DeedAt
of_need need = filter (λ d. d.need == need)

-- what both do, by need: for each need below the bound, what the first does there, and then what the second does
abbrev pub by_need : ℕ → List DeedAt → List DeedAt → List DeedAt
by_need bound a b = flat_map (λ need. of_need need a ++ of_need need b) (range_with_len 0 bound)

abbrev pub does_deed : Stamp → Deed → Run → Run
does_deed s (Does a) r = Then s a r
does_deed s (Stops h) r = Ends s (Halts h)

-- the run on n values that does so, up to where it goes no further; behind all that stands its ending
abbrev pub does_so : ℕ → List DeedAt → Run → Run
does_so n [] r = r
does_so n (d ∷ ds) r = does_deed (at_need n d.need) d.deed (does_so n ds r)

-- of two that are done; where one is not, its deed is the ending
abbrev pub both_endings : Ending → Ending → Ending
both_endings (Done u) (Done v) = Done (both u v)
both_endings (Done u) (Halts h) = Halts h
both_endings (Halts g) e = Halts g

-- on n values; the greatest need is n + 1, at the end
abbrev pub plain_merge : ℕ → Run → Run → Run
plain_merge n a b = does_so n (by_need (n + 2) (deeds a) (deeds b)) (Ends (at_need n (max (last a).need (last b).need)) (both_endings (ending a) (ending b)))

abbrev pub plain_zip : Component → Component → Component
plain_zip a b xs e = plain_merge (length xs) (a xs e) (b xs e)
