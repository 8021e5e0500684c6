-- Chains: each member is typed for what the one before it gives.
use Rattle.std.specs.Prelude.{ℕ, ◌+◌, Bool, true, false, ◌&&◌, ◌||◌, not, List, [], ◌∷◌, ◌++◌, Some, None}
use Rattle.cd_elem.specs.declared.script.Join.{Join}
use Rattle.cd_elem.specs.declared.script.Join.TheVariants.{Plain, Keep, Return, Both, Up, Asked}
use Rattle.cd_types.specs.declared.refusal.RefusalKind.TheVariants.{SeesChunks, NotInvertible, ResultLost}
use Rattle.cd_types.specs.Flows.{Flow, ResultKind, Unit, Maybe, Pair, PartType, is_cut, is_pieces, piece_bound, is_unit, pieces_list, both_results}
use Rattle.cd_types.specs.Conditions.{Fails, none_fails, fails_where, or_fails}
use Rattle.cd_types.specs.Moments.{Moment, ask, end_part}
use Rattle.cd_types.specs.Parts.{Part, sizes, all_invertible, any_shows, any_site, is_last}

-- the types of the members
abbrev pub member_types : Flow → List Part → List PartType
member_types f [] = []
member_types f (a ∷ more) = a.type f ∷ member_types (a.type f).to more

abbrev pub no_type : PartType
no_type = record { from = None; to = None; result = Unit; exact = false; idle = false; bound = 0 }

abbrev pub first_type : List PartType → PartType
first_type [] = no_type
first_type (t ∷ more) = t

abbrev pub last_type : List PartType → PartType
last_type [] = no_type
last_type (t ∷ []) = t
last_type (t ∷ u ∷ more) = last_type (u ∷ more)

-- what the last one gives; no member at all, which no text has, passes on what it takes
abbrev pub last_output : Flow → List PartType → Flow
last_output f [] = f
last_output f (t ∷ more) = last_output t.to more

-- the result of a member and of the rest, which has this result
abbrev pub joined_result : Join → PartType → ResultKind → ResultKind
joined_result Plain t s = s
joined_result Keep t s = s
joined_result Return t s = Pair s (pieces_list t.to)
joined_result Both t s = both_results t.result s
joined_result Up t s = t.result
joined_result Asked t s = Pair (Maybe t.result) s

abbrev pub chain_result : Join → List PartType → ResultKind
chain_result j [] = Unit
chain_result j (t ∷ []) = t.result
chain_result j (t ∷ u ∷ more) = joined_result j t (chain_result j (u ∷ more))

-- the rest of the input is kept exactly
abbrev pub keeps_exact : Join → PartType → PartType → Bool
keeps_exact Keep first last = last.exact
keeps_exact Both first last = first.exact
keeps_exact Up first last = first.exact
keeps_exact _ first last = false

-- a piece in front of an operator, or 0 where nothing comes
abbrev pub held_piece : Flow → ℕ
held_piece None = 0
held_piece (Some k) = piece_bound (Some k) + 1

abbrev pub held_pieces : List PartType → ℕ
held_pieces [] = 0
held_pieces (t ∷ []) = 0
held_pieces (t ∷ u ∷ more) = held_piece t.to + held_pieces (u ∷ more)

-- so for each piece that `|+` keeps
abbrev pub chain_bound : Join → List PartType → ℕ
chain_bound Return ts = held_pieces ts
chain_bound _ ts = 0

abbrev pub chain_type_of : Join → Flow → List PartType → PartType
chain_type_of j f ts = record {
  from = f;
  to = last_output f ts;
  result = chain_result j ts;
  exact = (first_type ts).idle || is_pieces f || keeps_exact j (first_type ts) (last_type ts);
  idle = (first_type ts).idle;
  bound = chain_bound j ts;
}

abbrev pub chain_type : Join → List Part → Flow → PartType
chain_type j parts f = chain_type_of j f (member_types f parts)

-- what an operator asks of a member: whether it is a map, its type, and whether it is the first and the last
abbrev pub member_fails : Join → Bool → PartType → Bool → Bool → Fails
member_fails Plain map t first last = fails_where ResultLost (not last && not (is_unit t.result))
member_fails Keep map t first last = or_fails (fails_where NotInvertible (not last && not map)) (fails_where ResultLost (not last && not (is_unit t.result)))
member_fails Return map t first last = or_fails (fails_where SeesChunks (not last && is_cut t.to)) (fails_where ResultLost (not last && not (is_unit t.result)))
member_fails Both map t first last = none_fails
member_fails Up map t first last = fails_where ResultLost (not first && not (is_unit t.result))
member_fails Asked map t first last = none_fails

abbrev pub chain_moments : ℕ → ℕ → Join → Bool → Flow → List Part → List Moment
chain_moments s n j first f [] = []
chain_moments s n j first f (a ∷ more) =
    a.moments s n f ++ ask s n (member_fails j a.invertible (a.type f) first (is_last more)) ∷ chain_moments s (n + a.size) j false (a.type f).to more

abbrev pub chain_types : Flow → List Part → List PartType
chain_types f [] = []
chain_types f (a ∷ more) = a.types f ++ chain_types (a.type f).to more

-- maps in a row by `|` are a map
abbrev pub is_plain : Join → Bool
is_plain Plain = true
is_plain _ = false

abbrev pub chain_part : Join → List Part → Part
chain_part j parts = record {
  size = 1 + sizes parts;
  invertible = is_plain j && all_invertible parts;
  shows_cuts = any_shows parts;
  has_site = any_site parts;
  type = chain_type j parts;
  types = λ f. chain_type j parts f ∷ chain_types f parts;
  moments = λ s n f. chain_moments s (n + 1) j true f parts ++ end_part s n (chain_type j parts f).bound ∷ [];
}
