-- Chains, walked from their last member on and from their first one on.
use Rattle.std.specs.Prelude.{ℕ, ◌+◌, List, [], ◌∷◌}
use Rattle.cd_elem.specs.declared.script.Join.{Join}
use Rattle.cd_types.specs.Chains.{joined_result, held_piece}
use Rattle.cd_types.specs.Flows.{PartType, ResultKind}

-- the result of these members in front of a rest with this result
abbrev pub in_front : Join → List PartType → ResultKind → ResultKind
in_front j [] s = s
in_front j (t ∷ ts) s = joined_result j t (in_front j ts s)

-- the pieces that are held between these members, where so much is held of what comes to the first
abbrev pub held_behind : ℕ → List PartType → ℕ
held_behind held [] = 0
held_behind held (t ∷ ts) = held + held_behind (held_piece t.to) ts
