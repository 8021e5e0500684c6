-- What `check` answers.
use Rattle.std.specs.Prelude.{◌≡◌, ◌+◌, ⊤, List, [], ◌∷◌, ◌++◌, length, map, Result, Ok, Err}
use Rattle.cd_elem.specs.declared.script.Stmt.{Stmt}
use Rattle.cd_part_types.specs.Types.{type_of}
use Rattle.cd_typed.specs.declared.typed.Typed.{Typed}
use Rattle.cd_typed.specs.Knowing.{KnowsNames}
use Rattle.cd_typed.specs.Sites.{site_of}
use Rattle.cd_typed.specs.TypedScripts.{IsTyped}
use Rattle.cd_types.specs.Numbering.{script_sites}
use Rattle.cd_types.specs.Statements.{Statement, statement_of, statement_moments, statement_types, script_moments, script_types}
use Rattle.cd_types.specs.Typing.{IsRefused, judged, Passed}
use Rattle.cd_typing.specs.declared.scripts.ScriptWalk.{ScriptWalk}
use Rattle.cd_typing.specs.declared.refusal.CheckRefusal.{CheckRefusal}
use Rattle.cd_typing.specs.Spots.{Passes, Stops, nowhere, reached}
use Rattle.cd_typing.specs.Walking.{spot}

-- The script has a type, or this is refused first in it. Want of memory is free.
abbrev pub Checks : List Stmt → Result Typed CheckRefusal → Type 0
Checks script (Ok typed) = IsTyped script typed
Checks script (Err (CheckRefusal.Refused refusal)) = IsRefused script refusal
Checks script (Err CheckRefusal.NoMemory) = ⊤

-- a statement is behind the walk
pub record Steps (before : List Statement) (statement : Statement) (old new : ScriptWalk) : Type 0 where
  pub passed : Passes (spot old.walk) (statement_moments (length before + 1) before statement) (spot new.walk)
  pub types : map (map type_of) new.parts ≡ map (map type_of) old.parts ++ statement_types before statement ∷ []
  pub knows : KnowsNames (before ++ statement ∷ []) new.names
  pub empty : new.walk.parts.items ≡ []

abbrev pub StepAnswers : List Statement → Statement → ScriptWalk → ScriptWalk → Result (Unit {0}) CheckRefusal → Type 0
StepAnswers before statement old new (Ok u) = Steps before statement old new
StepAnswers before statement old new (Err x) = Stops (spot old.walk) (statement_moments (length before + 1) before statement) x

-- All statements are behind the walk: nothing is refused, and it has the sites, the types and the names of the script.
pub record Walks (script : List Stmt) (walk : ScriptWalk) : Type 0 where
  pub passed : judged script ≡ Passed (reached (spot walk.walk))
  pub sites : map site_of walk.walk.sites ≡ script_sites script
  pub parts : map (map type_of) walk.parts ≡ script_types script
  pub knows : KnowsNames (map statement_of script) walk.names

abbrev pub WalkAnswers : List Stmt → Result ScriptWalk CheckRefusal → Type 0
WalkAnswers script (Ok walk) = Walks script walk
WalkAnswers script (Err x) = Stops nowhere (script_moments script) x
