-- The tree of a text, or its first refused token.
use Rattle.std.specs.Prelude.{◌≡◌, ℕ, Bool, true, ◌+◌, ◌<◌, List, length, take, map, slice_get, Some, None, ◌⊎◌}
use Rattle.cd_elem.specs.declared.script.Stmt.{Stmt}
use Rattle.cd_elem.specs.declared.token.Token.{Token}
use Rattle.cd_elem.specs.declared.token.Lexeme.{Lexeme}
use Rattle.cd_elem.specs.declared.token.LimitKind.{LimitKind}
use Rattle.cd_grammar.specs.Grammar.{IsScript, IsFront}
use Rattle.cd_grammar.specs.Limits.{limit_at, IsWithinLimits}
use Rattle.cd_grammar.specs.Lexemes.{Tokenizes}

abbrev pub tokens : List Lexeme → List Token
tokens ls = map (λ l. l.token) ls

-- no token before the one at i is refused
pub record PassesTo (ts : List Token) (i : ℕ) : Type 0 where
  pub front : IsFront (take i ts)
  pub limits : (j : ℕ) → j < i → limit_at ts j ≡ None

-- the token at this place is the first that is refused, since no script goes on with it
pub record Refuses (ls : List Lexeme) (at : ℕ) : Type 0 where
  pub index : ℕ
  pub lexeme : Lexeme
  pub stands : slice_get ls index ≡ Some lexeme
  pub place : at ≡ lexeme.at
  pub before : PassesTo (tokens ls) index
  pub refused : IsFront (take (index + 1) (tokens ls)) → ⊥

-- no token is refused, and the tokens are no script, or what stands behind them is no token
pub record EndsEarly (ls : List Lexeme) (whole : Bool) (end at : ℕ) : Type 0 where
  pub place : at ≡ end
  pub before : PassesTo (tokens ls) (length ls)
  pub refused : whole ≡ true → (tree : List Stmt) → IsScript (tokens ls) tree → ⊥

-- The token at this place is the first that is refused, since it passes this limit. A script may go on with it: Syntax comes before Limit at one token.
pub record PassesLimit (ls : List Lexeme) (which : LimitKind) (at : ℕ) : Type 0 where
  pub index : ℕ
  pub lexeme : Lexeme
  pub stands : slice_get ls index ≡ Some lexeme
  pub place : at ≡ lexeme.at
  pub before : PassesTo (tokens ls) index
  pub goes_on : IsFront (take (index + 1) (tokens ls))
  pub limit : limit_at (tokens ls) index ≡ Some which

-- the text is a script within the limits, with this tree
pub record IsText (text : List ℕ) (tree : List Stmt) : Type 0 where
  pub lexemes : List Lexeme
  pub stop : ℕ
  pub lexes : Tokenizes text lexemes stop true
  pub script : IsScript (tokens lexemes) tree
  pub within : IsWithinLimits (tokens lexemes)

-- Syntax at this place is the answer for the text
pub record IsSyntaxAt (text : List ℕ) (at : ℕ) : Type 0 where
  pub lexemes : List Lexeme
  pub stop : ℕ
  pub whole : Bool
  pub lexes : Tokenizes text lexemes stop whole
  pub refused : Refuses lexemes at ⊎ EndsEarly lexemes whole stop at

-- and here it is this limit
pub record IsLimitAt (text : List ℕ) (which : LimitKind) (at : ℕ) : Type 0 where
  pub lexemes : List Lexeme
  pub stop : ℕ
  pub whole : Bool
  pub lexes : Tokenizes text lexemes stop whole
  pub refused : PassesLimit lexemes which at
