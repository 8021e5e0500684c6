-- What the walk over statements answers.
use Rattle.std.specs.Prelude.{◌≡◌, ℕ, List, [], ◌∷◌, ◌++◌, Result, Ok, Err}
use Rattle.cd_types.specs.Conditions.{Fails}
use Rattle.cd_types.specs.Flows.{Flow, PartType as PartTypeOf}
use Rattle.cd_types.specs.Parts.{Part}
use Rattle.cd_types.specs.Statements.{Statement, statement_moments, statement_types, pipe_moments, run_fails, let_fails, feed_fails}
use Rattle.cd_typed.specs.declared.names.Names.{Names}
use Rattle.cd_typed.specs.Knowing.{KnowsNames}
use Rattle.cd_typing.specs.declared.refusal.CheckRefusal.{CheckRefusal}
use Rattle.cd_typing.specs.declared.statements.Ending.{Ending}
use Rattle.cd_typing.specs.declared.walk.Walk.{Walk}
use Rattle.cd_typing.specs.Spots.{Passes, Stops}
use Rattle.cd_typing.specs.Walking.{spot, types_of}

-- what is asked behind a pipe
abbrev pub ending_fails : Ending → PartTypeOf → Fails
ending_fails Ending.Run = run_fails
ending_fails Ending.Let = let_fails
ending_fails Ending.Feed = feed_fails

-- the pipe of a statement has its type, for what comes to it, and gives this
pub record BodyTypes (s : ℕ) (f : Flow) (a : Part) (asked : PartTypeOf → Fails) (old new : Walk) (to : Flow) : Type 0 where
  pub gives : to ≡ (a.type f).to
  pub passed : Passes (spot old) (pipe_moments s f a asked) (spot new)
  pub types : types_of new ≡ a.types f

abbrev pub BodyAnswers : ℕ → Flow → Part → (PartTypeOf → Fails) → Walk → Walk → Result Flow CheckRefusal → Type 0
BodyAnswers s f a asked old new (Ok to) = BodyTypes s f a asked old new to
BodyAnswers s f a asked old new (Err x) = Stops (spot old) (pipe_moments s f a asked) x

-- a statement is passed, with the types of its parts, and its names are known
pub record StatementTypes (s : ℕ) (before : List Statement) (statement : Statement) (old new : Walk) (names : Names) : Type 0 where
  pub passed : Passes (spot old) (statement_moments s before statement) (spot new)
  pub types : types_of new ≡ statement_types before statement
  pub knows : KnowsNames (before ++ statement ∷ []) names

abbrev pub StatementAnswers : ℕ → List Statement → Statement → Walk → Walk → Names → Result (Unit {0}) CheckRefusal → Type 0
StatementAnswers s before statement old new names (Ok u) = StatementTypes s before statement old new names
StatementAnswers s before statement old new names (Err x) = Stops (spot old) (statement_moments s before statement) x
