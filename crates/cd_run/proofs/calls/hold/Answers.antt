use Rattle.std.proofs.Common.{sym, subst}
use Rattle.cd_scope.specs.declared.scope.Scope.{Scope}
use Rattle.cd_scope.specs.State.{held_in}
use Rattle.cd_run.specs.Going.{Going, outside}
use Rattle.cd_run.proofs.calls.hold.Goals as goal

pub returns-in-Ok-clause-told : goal.returns-in-Ok-clause-told
returns-in-Ok-clause-told g c = λ tells s base placed same o m left todo w0 go.
    subst (λ (x : Scope). Going s m (held_in x) left todo w0 (outside (g.W.World.log c.acquire.new.world) (g.W.World.files c.acquire.new.world))) (sym c.leave.ensures) (c.in-Ok.ensures.told tells s base placed same o m left todo w0 go)
