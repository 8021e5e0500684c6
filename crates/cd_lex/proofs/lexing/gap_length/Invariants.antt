use Rattle.std.proofs.Common.{◌≡◌, ◌+◌, drop, false}
use Rattle.cd_grammar.specs.Lexemes.{gap_length}
use Rattle.cd_lex.proofs.lexing.gap_length.Given as goal

abbrev pub invariant-loop-place : goal.invariant-loop-place
invariant-loop-place l = l.place + gap_length l.comment (drop l.place l.text) ≡ gap_length false l.text
