use Rattle.std.proofs.Common.{◌≢◌, ◌<◌, ℕ, get_or}
use Rattle.cd_scope.specs.declared.table.Held.{Held}
use Rattle.cd_scope.proofs.scope.descriptor_of.Given as goal

abbrev pub invariant-loop-held : goal.invariant-loop-held
invariant-loop-held l = record {
  before : (j : ℕ) (x : Held) → j < l.held-index → (get_or l.table j x).site.0 ≢ l.site.0;
}
