-- Sequences: each part is typed for the input of the sequence.
use Rattle.std.specs.Prelude.{ℕ, ◌+◌, Bool, true, false, ◌&&◌, not, List, [], ◌∷◌, ◌++◌, None}
use Rattle.cd_types.specs.declared.refusal.RefusalKind.TheVariants.{KindMismatch, DropsRest}
use Rattle.cd_types.specs.Flows.{Flow, ResultKind, Unit, PartType, is_cut, agree, join}
use Rattle.cd_types.specs.Conditions.{Fails, fails_where, or_fails}
use Rattle.cd_types.specs.Moments.{Moment, ask, end_part}
use Rattle.cd_types.specs.Parts.{Part, sizes, any_shows, any_site, is_last}

abbrev pub all_exact : Flow → List Part → Bool
all_exact f [] = true
all_exact f (a ∷ more) = (a.type f).exact && all_exact f more

abbrev pub all_idle : Flow → List Part → Bool
all_idle f [] = true
all_idle f (a ∷ more) = (a.type f).idle && all_idle f more

-- what they give behind those that give this
abbrev pub joined_from : Flow → Flow → List Part → Flow
joined_from g f [] = g
joined_from g f (a ∷ more) = joined_from (join g (a.type f).to) f more

-- what they give together; no part at all, which no text has, passes on what it takes
abbrev pub joined_outputs : Flow → List Part → Flow
joined_outputs f [] = f
joined_outputs f (a ∷ more) = joined_from (a.type f).to f more

-- the last one's result, or r where there is none
abbrev pub last_result : ResultKind → Flow → List Part → ResultKind
last_result r f [] = r
last_result r f (a ∷ more) = last_result (a.type f).result f more

abbrev pub sequence_type : List Part → Flow → PartType
sequence_type parts f = record { from = f; to = joined_outputs f parts; result = last_result Unit f parts; exact = all_exact f parts; idle = all_idle f parts; bound = 0 }

-- behind a part, where those before it give g
abbrev pub sequence_fails : Flow → Flow → PartType → Bool → Fails
sequence_fails g f t last = or_fails (fails_where DropsRest (not last && is_cut f && not t.exact)) (fails_where KindMismatch (not (agree g t.to)))

abbrev pub sequence_moments : ℕ → ℕ → Flow → Flow → List Part → List Moment
sequence_moments s n g f [] = []
sequence_moments s n g f (a ∷ more) =
    a.moments s n f ++ ask s n (sequence_fails g f (a.type f) (is_last more)) ∷ sequence_moments s (n + a.size) (join g (a.type f).to) f more

abbrev pub sequence_types : Flow → List Part → List PartType
sequence_types f [] = []
sequence_types f (a ∷ more) = a.types f ++ sequence_types f more

abbrev pub sequence_part : List Part → Part
sequence_part parts = record {
  size = 1 + sizes parts;
  invertible = false;
  shows_cuts = any_shows parts;
  has_site = any_site parts;
  type = sequence_type parts;
  types = λ f. sequence_type parts f ∷ sequence_types f parts;
  moments = λ s n f. sequence_moments s (n + 1) None f parts ++ end_part s n (sequence_type parts f).bound ∷ [];
}
