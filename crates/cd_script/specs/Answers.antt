-- What `parse` answers.
use Rattle.std.specs.Prelude.{◌≡◌, ℕ, Bool, true, List, Result, Ok, Err, ◌⊎◌}
use Rattle.cd_elem.specs.declared.script.Stmt.{Stmt}
use Rattle.cd_elem.specs.declared.token.Lexeme.{Lexeme}
use Rattle.cd_grammar.specs.Grammar.{IsScript}
use Rattle.cd_grammar.specs.Limits.{IsWithinLimits}
use Rattle.cd_grammar.specs.Refusals.{tokens, Refuses, EndsEarly, PassesLimit, IsText, IsSyntaxAt, IsLimitAt}
use Rattle.cd_script.specs.declared.refusal.ScriptRefusal.{ScriptRefusal}
use Rattle.cd_script.specs.declared.refusal.ScriptRefusal.TheVariants.{Syntax, Limit, NoMemory}

abbrev pub Answer : Type 0
Answer = Result (List Stmt) ScriptRefusal

-- The answer for tokens that go on to the whole text's end, or to a place `end` where no token begins.
abbrev pub AnswersTokens : List Lexeme → Bool → ℕ → Answer → Type 0
AnswersTokens ls whole end (Ok tree) = (whole ≡ true) × IsScript (tokens ls) tree × IsWithinLimits (tokens ls)
AnswersTokens ls whole end (Err (Syntax at)) = Refuses ls at ⊎ EndsEarly ls whole end at
AnswersTokens ls whole end (Err (Limit which at)) = PassesLimit ls which at
AnswersTokens ls whole end (Err NoMemory) = Unit {0}

-- the answer for a text: its tree, or its first refused token
abbrev pub Parses : List ℕ → Answer → Type 0
Parses text (Ok tree) = IsText text tree
Parses text (Err (Syntax at)) = IsSyntaxAt text at
Parses text (Err (Limit which at)) = IsLimitAt text which at
Parses text (Err NoMemory) = Unit {0}

-- only this tree is answered, unless memory runs out
abbrev pub AnswersOnly : List Stmt → Answer → Type 0
AnswersOnly tree (Ok other) = other ≡ tree
AnswersOnly tree (Err (Syntax at)) = ⊥
AnswersOnly tree (Err (Limit which at)) = ⊥
AnswersOnly tree (Err NoMemory) = Unit {0}
