-- What is known of sites, with what one site tells.
use Rattle.std.specs.Prelude.{ℕ, ◌==◌, Bool, true, false, List, [], ◌++◌}
use Rattle.cd_meaning.specs.RunShapes.{Mark, AtEnd, MayGoOn, Told, Seen}

abbrev pub pick : Bool → Told → Told → Told
pick true w t = w
pick false w t = t

-- what is to come at each site, where w is to come at site s
abbrev pub known : ℕ → Told → Seen → Seen
known s w z t = pick (t == s) w (z t)

-- no bytes, and this behind them
abbrev pub unknown : Mark → Told
unknown mark = record { bytes = []; mark = mark }

-- nothing further is known of any site
abbrev pub nothing_known : Seen
nothing_known t = unknown MayGoOn

-- a site has no more bytes
abbrev pub no_more : Told
no_more = unknown AtEnd

-- these bytes come first
abbrev pub before : List ℕ → Told → Told
before bytes t = record { bytes = bytes ++ t.bytes; mark = t.mark }
