use Rattle.cd_fuse.proofs.FuseMoves.{up_emit, up_need, up_done, up_fault}
use Rattle.cd_fuse.proofs.fuse.FuseControl.up.Goals as goal

pub returns-in-Emit : goal.returns-in-Emit
returns-in-Emit c = rw c.in-Emit.is (λ a b q l f h k y. up_emit c.args.self.now a b q c.in-Emit.chunk f h k y)

pub returns-in-Need : goal.returns-in-Need
returns-in-Need c = rw c.in-Need.is (λ a b q l f h k y. up_need c.args.self.now a b q f h k y)

pub returns-in-Done : goal.returns-in-Done
returns-in-Done c = rw (c.in-Done.is, c.new.ensures) (λ a b q l f h k y. up_done c.args.self.now a b q c.in-Done.value c.in-Done.rest f h k y)

pub returns : goal.returns
returns c = rw c.in-Fault.is (λ a b q l f h k y. up_fault c.args.self.now a b q c.in-Fault.fault f h k y)
