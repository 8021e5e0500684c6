use Rattle.std.proofs.Common.{◌≡◌, ◌++◌, true, map, take}
use Rattle.std.specs.List.{list_all}
use Rattle.cd_elem.specs.declared.token.Sign.TheVariants as sign
use Rattle.cd_elem.specs.declared.token.Token.TheVariants as token
use Rattle.cd_grammar.specs.Canonical.{canonical_pipe, wrapped}
use Rattle.cd_grammar.specs.CanonicalWords.{separated}
use Rattle.cd_grammar.specs.Grammar.{operator}
use Rattle.cd_script.specs.Ranges.{is_in_range}
use Rattle.cd_script.proofs.canonical.+canonical.Given as goal

abbrev pub invariant-put_chain-loop-place : goal.invariant-put_chain-loop-place
invariant-put_chain-loop-place l =
    (l.out ≡ l.initial.out ++ separated (operator l.join) (map (λ p. wrapped (canonical_pipe p)) (take l.place l.members)))
    × (list_all is_in_range (take l.place l.members) ≡ true)

abbrev pub invariant-put_sequence-loop-place : goal.invariant-put_sequence-loop-place
invariant-put_sequence-loop-place l =
    (l.out ≡ l.initial.out ++ separated (token.Sign sign.Semicolon) (map (λ p. (canonical_pipe p).tokens) (take l.place l.pipes)))
    × (list_all is_in_range (take l.place l.pipes) ≡ true)
