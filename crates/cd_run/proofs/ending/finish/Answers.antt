use Rattle.cd_scope.specs.State.{held_in}
use Rattle.cd_run.specs.Going.{outside}
use Rattle.cd_run.proofs.RunEnd.{joined, rose_joined}
use Rattle.cd_run.proofs.ending.finish.Goals as goal

pub returns-clause-rose : goal.returns-clause-rose
returns-clause-rose g c =
    let closed = c.finish-finished.ensures.closes in
    rose_joined (held_in c.args.scope) c.args.answer c.finish-finished.result.first_fault c.with_closing.result _ _ _ _ closed.0 c.with_closing.ensures closed.1 c.finish-finished.ensures.rose

pub returns-clause-told : goal.returns-clause-told
returns-clause-told g c = λ tells s m left w0 moved.
    let closed = c.finish-finished.ensures.closes in
    joined s m (held_in c.args.scope) left w0 (outside (g.W.World.log c.args.world.now) (g.W.World.files c.args.world.now)) (outside (g.W.World.log c.finish-finished.new.world) (g.W.World.files c.finish-finished.new.world))
    c.args.answer c.finish-finished.result.first_fault c.with_closing.result _ _ _ _ closed.0 moved closed.1 (closed.2 tells s.place) c.with_closing.ensures
