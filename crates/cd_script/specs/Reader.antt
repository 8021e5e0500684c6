-- What one more token makes of a reader.
use Rattle.std.specs.Prelude.{◌≡◌, ℕ, Bool, true, false, ◌&&◌, if◌then◌else◌, ◌<◌, List, take, Some, None, Result, Ok, Err}
use Rattle.cd_elem.specs.declared.script.Stmt.{Stmt}
use Rattle.cd_elem.specs.declared.token.Token.{Token}
use Rattle.cd_elem.specs.declared.token.Lexeme.{Lexeme}
use Rattle.cd_elem.specs.declared.token.LimitKind.{LimitKind}
use Rattle.cd_grammar.specs.Limits as limits
use Rattle.cd_grammar.specs.Limits.{limit_of, limit_at, brackets_with, bounds_behind, open_brackets, bounds_after}
use Rattle.cd_grammar.specs.Refusals.{tokens}
use Rattle.cd_parser.specs.declared.state.ParserState.{ParserState}
use Rattle.cd_parser.specs.declared.state.Position.{Position}
use Rattle.cd_parser.specs.declared.state.Position.TheVariants as position
use Rattle.cd_script.specs.declared.limits.Bounds.{Bounds}
use Rattle.cd_script.specs.declared.reader.Reader.{Reader}
use Rattle.cd_script.specs.declared.refusal.ScriptRefusal.{ScriptRefusal}
use Rattle.cd_script.specs.declared.refusal.ScriptRefusal.TheVariants.{Syntax, Limit, NoMemory}
use Rattle.cd_script.specs.Answers.{Answer}
use Rattle.cd_parser.specs.Machine.{step, state_behind}

-- the bounds of the definitions
abbrev pub bounds_of : Bounds → limits.Bounds
bounds_of b = limits.bounds b.least b.most

pub record Advances (r : Reader) (count : ℕ) (t : Token) (new : Reader) : Type 0 where
  pub steps : step r.state t ≡ Some new.state
  pub limit : limit_of count r.opened (bounds_of r.bounds) t ≡ None
  pub brackets : new.opened ≡ brackets_with r.opened t
  pub bounds : bounds_of new.bounds ≡ bounds_behind t

pub record Passes (r : Reader) (count : ℕ) (l : Lexeme) (which : LimitKind) (at : ℕ) : Type 0 where
  pub place : at ≡ l.at
  pub state : ParserState
  pub steps : step r.state l.token ≡ Some state
  pub limit : limit_of count r.opened (bounds_of r.bounds) l.token ≡ Some which

abbrev pub ReadsToken : Reader → ℕ → Lexeme → Result Reader ScriptRefusal → Type 0
ReadsToken r count l (Ok new) = Advances r count l.token new
ReadsToken r count l (Err (Syntax at)) = (at ≡ l.at) × (step r.state l.token ≡ None)
ReadsToken r count l (Err (Limit which at)) = Passes r count l which at
ReadsToken r count l (Err NoMemory) = Unit {0}

-- the reader behind the first i tokens
pub record IsBehind (ls : List Lexeme) (i : ℕ) (r : Reader) : Type 0 where
  pub state_behind : state_behind (tokens (take i ls)) ≡ Some r.state
  pub brackets : r.opened ≡ open_brackets (tokens (take i ls))
  pub bounds : bounds_of r.bounds ≡ bounds_after (tokens (take i ls))
  pub limits : (j : ℕ) → j < i → limit_at (tokens ls) j ≡ None

-- what the state is behind the last token
abbrev pub is_between : Position → Bool
is_between position.Between = true
is_between _ = false

abbrev pub ending_at : List Stmt → Position → Bool → ℕ → Answer
ending_at ss p whole end = if whole && is_between p then Ok ss else Err (Syntax end)

abbrev pub ending : ParserState → Bool → ℕ → Answer
ending s whole end = ending_at s.statements s.position whole end
