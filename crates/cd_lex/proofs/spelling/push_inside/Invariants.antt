use Rattle.std.proofs.Common.{◌≡◌, ◌++◌, string_bytes, encode_utf8, flat_map}
use Rattle.cd_grammar.specs.Spelling.{escaped}
use Rattle.cd_lex.proofs.spelling.push_inside.Given as goal

abbrev pub invariant-loop-scalar : goal.invariant-loop-scalar
invariant-loop-scalar l = string_bytes l.text ≡ string_bytes l.initial.text ++ flat_map (λ c. flat_map escaped (encode_utf8 c)) l.yielded
