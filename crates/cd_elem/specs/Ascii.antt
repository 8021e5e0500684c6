-- Characters of ASCII that rules name.
use Rattle.std.specs.Prelude.{ℕ}

abbrev pub newline : ℕ
newline = 10
