use Rattle.std.proofs.Common.{◌≡◌, drop}
use Rattle.cd_grammar.specs.Keywords as spec
use Rattle.cd_lex.proofs.keywords.first_spelled.Given as goal

abbrev pub invariant-loop-word : goal.invariant-loop-word
invariant-loop-word l = spec.first_spelled l.name (drop l.word-index l.words) ≡ spec.first_spelled l.name l.words
