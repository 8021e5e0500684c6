use Rattle.std.proofs.Common.{ℕ, ◌<◌, ◌≡◌}
use Rattle.std.specs.Prelude.{slice_get, Some}
use Rattle.cd_elem.specs.declared.script.Stmt.{Stmt}
use Rattle.cd_run.specs.Scripts.{IsBuiltStatement}
use Rattle.cd_run.proofs.built.is_built_script.Given as goal

abbrev pub invariant-loop-statement : goal.invariant-loop-statement
invariant-loop-statement l = (i : ℕ) (s : Stmt) → i < l.statement-index → slice_get l.statement-items i ≡ Some s → IsBuiltStatement s
