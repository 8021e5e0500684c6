use Rattle.cd_fuse.proofs.FuseMoves.{down_emit, down_need, down_need_fresh, down_done, down_retire, down_fault}
use Rattle.cd_fuse.proofs.fuse.FuseControl.down.Goals as goal

pub returns-in-Emit : goal.returns-in-Emit
returns-in-Emit c = rw c.in-Emit.is (λ a b q l f h k y. down_emit c.args.self.now a b q c.in-Emit.chunk f h k y)

pub returns-in-Fresh : goal.returns-in-Fresh
returns-in-Fresh c = rw c.in-Need.is (λ a b q l f h k y. down_need_fresh c.args.self.now a b q c.in-Fresh.is f h k y)

pub returns-in_default : goal.returns-in_default
returns-in_default c = rw c.in-Need.is (λ a b q l f h k y. down_need c.args.self.now a b q (λ e. c.in_default.not-Fresh e) f h k y)

pub returns-in-Ended : goal.returns-in-Ended
returns-in-Ended c = rw (c.in-Done.is, c.take.ensures.value, c.take.ensures.after) (λ a b q l f h k y. down_done c.args.self.now a b q c.in-Done.value _ c.in-Ended.is f h k y)

pub returns-in_default-upstream : goal.returns-in_default-upstream
returns-in_default-upstream c = rw c.in-Done.is (λ a b q l f h k y. down_retire c.args.self.now a b q c.in-Done.value _ (λ e. c.in_default-upstream.not-Ended e) f h k y)

pub returns-in-Fault : goal.returns-in-Fault
returns-in-Fault c = rw c.in-Fault.is (λ a b q l f h k y. down_fault c.args.self.now a b q c.in-Fault.fault f h k y)
