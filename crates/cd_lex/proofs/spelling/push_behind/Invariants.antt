use Rattle.std.proofs.Common.{◌≡◌, ◌++◌, string_bytes, drop}
use Rattle.cd_grammar.specs.CanonicalText.{spelled_behind}
use Rattle.cd_lex.proofs.spelling.push_behind.Given as goal

abbrev pub invariant-loop-token : goal.invariant-loop-token
invariant-loop-token l =
    string_bytes l.text ++ spelled_behind l.before (drop l.token-index l.rest) ≡ string_bytes l.initial.text ++ spelled_behind l.fn.first l.rest
