-- Sites that do not clash.
use Rattle.std.specs.Prelude.{Bool, true, ◌&&◌, not, List, [], ◌∷◌, ◌++◌}
use Rattle.std.specs.List.{list_any}
use Rattle.cd_meaning.specs.Places.{Place}
use Rattle.cd_types.specs.Moments.{clash}

-- no two of them clash, and none does with an earlier one
abbrev pub are_apart : List Place → List Place → Bool
are_apart earlier [] = true
are_apart earlier (p ∷ more) = not (list_any (clash p) earlier) && are_apart (earlier ++ p ∷ []) more
