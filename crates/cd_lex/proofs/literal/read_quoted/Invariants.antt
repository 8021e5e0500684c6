use Rattle.std.proofs.Common.{◌≡◌, drop}
use Rattle.cd_lex.specs.Quotes.{Fits, found_behind, literal_from, plain}
use Rattle.cd_lex.proofs.literal.read_quoted.Given as goal

abbrev pub invariant-loop-place : goal.invariant-loop-place
invariant-loop-place l = record { fits : Fits l.reading; rest : found_behind l.bytes l.place (literal_from l.reading (drop l.place l.text)) ≡ literal_from plain l.text }
