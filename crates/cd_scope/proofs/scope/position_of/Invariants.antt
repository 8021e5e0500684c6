use Rattle.std.proofs.Common.{◌≡◌, ◌<◌, ℕ, false, get_or}
use Rattle.cd_scope.specs.declared.table.Held.{Held}
use Rattle.cd_scope.specs.Calls.{is_held}
use Rattle.cd_scope.proofs.scope.position_of.Given as goal

abbrev pub invariant-loop-place : goal.invariant-loop-place
invariant-loop-place l = record {
  before : (j : ℕ) (x : Held) → j < l.place → is_held l.site.0 l.descriptor (get_or l.table j x) ≡ false;
}
