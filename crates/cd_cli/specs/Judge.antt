-- What a script's bytes are judged to be.
use Rattle.std.specs.Prelude.{◌≡◌, ◌≤◌, ◌<◌, ◌+◌, ◌⊎◌, ℕ, List, length, Result, Ok, Err, IsUtf8}
use Rattle.std.specs.Str.{IsValidUpTo}
use Rattle.cd_elem.specs.declared.script.Stmt.{Stmt}
use Rattle.cd_elem.specs.declared.token.LimitKind.{LimitKind}
use Rattle.cd_grammar.specs.Limits.{text_limit}
use Rattle.cd_grammar.specs.Refusals.{IsText, IsSyntaxAt, IsLimitAt}
use Rattle.cd_types.specs.declared.refusal.Refusal.{Refusal}
use Rattle.cd_types.specs.Typing.{IsRefused as IsFirst}
use Rattle.cd_typed.specs.declared.typed.Typed.{Typed}
use Rattle.cd_typed.specs.TypedScripts.{IsTyped}
use Rattle.cd_report.specs.declared.cause.Cause.{Cause}
use Rattle.cd_report.specs.declared.cause.Cause.TheVariants.{ScriptLimit, ScriptText, Syntax, Limit, Refused, NoMemory}

-- so many bytes of a script are read at most: one more than its text may have
abbrev pub read_limit : ℕ
read_limit = text_limit + 1

-- few enough bytes, and UTF-8
pub record IsFit (text : List ℕ) : Type 0 where
  pub few : length text ≤ text_limit
  pub utf8 : IsUtf8 text

-- the bytes of a script with this tree
pub record IsScriptOf (text : List ℕ) (tree : List Stmt) : Type 0 where
  pub fit : IsFit text
  pub text_is : IsText text tree

-- the tree of these bytes, which have no other
pub record HasTree (text : List ℕ) (tree : List Stmt) : Type 0 where
  pub is : IsScriptOf text tree
  pub only : (other : List Stmt) → IsScriptOf text other → other ≡ tree

-- why these bytes are no script: they are too many; no UTF-8 from some byte on; or no script by the grammar or a limit
pub data IsRefused (text : List ℕ) : Cause → Type 0 where
  too_long : text_limit < length text → IsRefused text ScriptLimit
  no_utf8 : (at : ℕ) → length text ≤ text_limit → (IsUtf8 text → ⊥) → IsValidUpTo text at → IsRefused text (ScriptText at)
  syntax : (at : ℕ) → IsFit text → IsSyntaxAt text at → IsRefused text (Syntax at)
  limit : (which : LimitKind) (at : ℕ) → IsFit text → IsLimitAt text which at → IsRefused text (Limit which at)

-- they are refused so, and are the bytes of no script
pub record HasNone (text : List ℕ) (cause : Cause) : Type 0 where
  pub why : IsRefused text cause
  pub none : (tree : List Stmt) → IsScriptOf text tree → ⊥

-- their tree, or why they have none, or want of memory
abbrev pub Judged : List ℕ → Result (List Stmt) Cause → Type 0
Judged text (Ok tree) = HasTree text tree
Judged text (Err cause) = (cause ≡ NoMemory) ⊎ HasNone text cause

-- their types, or why a script has none, or want of memory
abbrev pub FindsTyped : List Stmt → Result Typed Cause → Type 0
FindsTyped script (Ok typed) = IsTyped script typed
FindsTyped script (Err cause) = (cause ≡ NoMemory) ⊎ ((refusal : Refusal) × IsFirst script refusal × (cause ≡ Refused refusal))
