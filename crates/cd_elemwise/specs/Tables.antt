-- The answers of a class, kept in a table.
use Rattle.std.specs.Prelude.{◌≡◌, ℕ, ◌<◌, Bool, false, List, get_or}
use Rattle.cd_elem.specs.declared.word.Class.{Class}
use Rattle.cd_meaning.specs.Classes.{is_in_class}

-- these are the answers of the class to the numbers below 256
abbrev pub IsTable : Class → List Bool → Type 0
IsTable c answers = (k : ℕ) → k < 256 → get_or answers k false ≡ is_in_class c k
