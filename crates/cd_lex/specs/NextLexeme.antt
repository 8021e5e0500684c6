-- What stands next in a text.
use Rattle.std.specs.Prelude.{ℕ, ◌+◌, ◌<◌, ◌≤◌, Bool, List, length}
use Rattle.cd_lex.specs.declared.lexing.NextLexeme.{NextLexeme}
use Rattle.cd_lex.specs.declared.lexing.NextLexeme.TheVariants.{Next, Stop}
use Rattle.cd_grammar.specs.Lexemes.{IsNext, Stops}

abbrev pub FindsNext : List ℕ → ℕ → Bool → NextLexeme → Type 0
FindsNext text at zero (Next l size) = IsNext text at zero l size × (at < l.at + size) × (l.at + size ≤ length text)
FindsNext text at zero (Stop place whole) = Stops text at zero place whole × (place ≤ length text)
