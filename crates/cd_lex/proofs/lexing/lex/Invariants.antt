use Rattle.std.proofs.Common.{ℕ, ◌≤◌, ◌-◌, ◌++◌, Bool, false, List, length}
use Rattle.cd_elem.specs.declared.token.Lexeme.{Lexeme}
use Rattle.cd_grammar.specs.Lexemes.{Lexes}
use Rattle.cd_lex.proofs.lexing.lex.Given as goal

abbrev pub invariant-tokens : goal.invariant-tokens
invariant-tokens l = record {
  goes_on : (more : List Lexeme) (stop : ℕ) (whole : Bool) → Lexes l.text l.at l.zero more stop whole → Lexes l.text 0 false (l.lexemes ++ more) stop whole;
  within : l.at ≤ length l.text;
}

abbrev pub decreases-tokens : goal.decreases-tokens
decreases-tokens l = length l.text - l.at
