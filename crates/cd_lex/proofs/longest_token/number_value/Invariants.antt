use Rattle.std.proofs.Common.{◌≡◌, ◌<◌, ◌^◌, take}
use Rattle.cd_grammar.specs.Tokens.{decimal_value}
use Rattle.cd_lex.proofs.longest_token.number_value.Given as goal

abbrev pub invariant-loop-byte : goal.invariant-loop-byte
invariant-loop-byte l = record { value : l.value ≡ decimal_value (take l.byte-index l.digits); fits : l.value < 2 ^ 64 }
