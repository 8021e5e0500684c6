use Rattle.cd_scope.specs.State.{held_in}
use Rattle.cd_scope.proofs.TableSteps.{is_new}
use Rattle.cd_scope.proofs.scope.Scope.acquire.Goals as goal

pub returns-in-Ok-clause-fresh : goal.returns-in-Ok-clause-fresh
returns-in-Ok-clause-fresh g c = λ place base o.
    is_new place base (g.W.World.live c.args.world.now) (held_in c.args.self.now) o (g.W.World.last c.args.world.now) c.in-Ok.descriptor (g.met.W.World.known c.args.world.now) c.in-Ok.ensures.live.1
