-- The limits of a whole script. That of a piece is `piece_limit` of cd_elem.
use Rattle.std.specs.Prelude.{ℕ}

-- statements
abbrev pub statement_limit : ℕ
statement_limit = 256

-- sites
abbrev pub site_limit : ℕ
site_limit = 128

-- the sum of the bounds of all parts
abbrev pub total_limit : ℕ
total_limit = 268435456
