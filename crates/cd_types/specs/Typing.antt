-- Which scripts have a type, and what is refused first in the others.
use Rattle.std.specs.Prelude.{◌≡◌, List, [], ◌∷◌, ◌++◌, Option, Some, None}
use Rattle.cd_elem.specs.declared.script.Stmt.{Stmt}
use Rattle.cd_types.specs.declared.refusal.Refusal.{Refusal}
use Rattle.cd_types.specs.declared.refusal.RefusalKind.{RefusalKind}
use Rattle.cd_types.specs.Conditions.{lowest}
use Rattle.cd_types.specs.Moments.{Moment, Reached, nothing_reached, reach, reached_by, fails_at, AllPass}
use Rattle.cd_types.specs.Statements.{script_moments}

-- a script has a type where no condition fails
abbrev pub HasType : List Stmt → Type 0
HasType script = AllPass nothing_reached (script_moments script)

-- The refusal is the answer: of the moments one stands at its place, its kind is the lowest that fails there, and none fails at the moments before.
pub record IsRefused (script : List Stmt) (refusal : Refusal) : Type 0 where
  pub before : List Moment
  pub moment : Moment
  pub behind : List Moment
  pub stand : script_moments script ≡ before ++ moment ∷ behind
  pub pass : AllPass nothing_reached before
  pub kind : lowest (fails_at (reached_by before) moment) ≡ Some refusal.kind
  pub statement : refusal.statement ≡ moment.statement
  pub part : refusal.part ≡ moment.part

-- ---- the same as a value

-- moments end in a refusal, or they are passed and have reached this
pub data Verdict : Type 0 where
  Refused : Refusal → Verdict
  Passed : Reached → Verdict

abbrev pub refused_at : Moment → Option RefusalKind → Verdict → Verdict
refused_at m None v = v
refused_at m (Some kind) v = Refused (record { kind = kind; statement = m.statement; part = m.part })

-- behind what was reached
abbrev pub judged_from : Reached → List Moment → Verdict
judged_from r [] = Passed r
judged_from r (m ∷ more) = refused_at m (lowest (fails_at r m)) (judged_from (reach r m) more)

abbrev pub judged : List Stmt → Verdict
judged script = judged_from nothing_reached (script_moments script)
