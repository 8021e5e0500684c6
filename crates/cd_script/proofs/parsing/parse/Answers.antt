use Rattle.std.proofs.Common.{true, ◌≡◌, List, subst}
use Rattle.cd_elem.specs.declared.script.Stmt.{Stmt}
use Rattle.cd_elem.specs.declared.token.Lexeme.{Lexeme}
use Rattle.cd_grammar.specs.Grammar.{IsScript}
use Rattle.cd_grammar.specs.Limits.{IsWithinLimits}
use Rattle.cd_grammar.specs.Refusals.{tokens}
use Rattle.cd_script.specs.Answers.{AnswersTokens, AnswersOnly}
use Rattle.cd_script.proofs.SingleTokens.{gives, parses}
use Rattle.cd_script.proofs.TextWithin.{parsed_is_within}
use Rattle.cd_script.proofs.parsing.parse.Goals as goal

pub returns-clause-exact : goal.returns-clause-exact
returns-clause-exact c =
    let R : List Lexeme → Type 0 = λ ls. AnswersTokens ls c.in-Ok.lexed.whole c.in-Ok.lexed.stop c.parse_tokens.result in
    parses c.args.text.now c.in-Ok.lexed.lexemes c.in-Ok.lexed.stop c.in-Ok.lexed.whole c.parse_tokens.result c.in-Ok.ensures
    (subst R c.as_slice.ensures c.parse_tokens.ensures.exact)

pub returns-clause-only : goal.returns-clause-only
returns-clause-only c =
    let Q : List Lexeme → Type 0 = λ ls. (tree : List Stmt) → c.in-Ok.lexed.whole ≡ true → IsScript (tokens ls) tree → IsWithinLimits (tokens ls) → AnswersOnly tree c.parse_tokens.result in
    gives c.args.text.now c.in-Ok.lexed.lexemes c.in-Ok.lexed.stop c.in-Ok.lexed.whole c.parse_tokens.result c.in-Ok.ensures
    (subst Q c.as_slice.ensures c.parse_tokens.ensures.only)

pub returns-clause-within : goal.returns-clause-within
returns-clause-within c = parsed_is_within c.args.text.now c.parse_tokens.result (returns-clause-exact c)
