use Rattle.std.proofs.Common.{ℕ, ◌++◌, false, List, [], append-nil, subst}
use Rattle.cd_elem.specs.declared.token.Lexeme.{Lexeme}
use Rattle.cd_grammar.specs.Lexemes.{Lexes}
use Rattle.cd_lex.proofs.lexing.lex.Goals as goal

pub returns-in-Ok-Stop : goal.returns-in-Ok-Stop
returns-in-Ok-Stop c =
    let s = rw c.in-Ok-Stop.field-0-is at c.in-Ok-Stop.ensures in
    let P : List Lexeme → Type 0 = λ ls. Lexes c.args.text.now 0 false ls c.in-Ok-Stop.place c.in-Ok-Stop.whole in
    let Q : List ℕ → Type 0 = λ bs. Lexes bs 0 false (c.tokens.lexemes ++ []) c.in-Ok-Stop.place c.in-Ok-Stop.whole in
    subst P (append-nil c.tokens.lexemes) (subst Q c.as_bytes-text.ensures.value (c.tokens.invariant.goes_on [] c.in-Ok-Stop.place c.in-Ok-Stop.whole s.0))
