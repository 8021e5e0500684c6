use Rattle.std.proofs.Common.{◌∙◌, sym}
use Rattle.cd_fuse.proofs.FollowMoves.{down_emit, down_back, down_end, down_need, down_done_back, down_done, down_fault}
use Rattle.cd_fuse.proofs.follow.FollowControl.down.Goals as goal

pub returns-in-Emit : goal.returns-in-Emit
returns-in-Emit c = rw c.in-Emit.is (λ a b q l f h k y. down_emit c.args.self.now a b q c.in-Emit.chunk f h k y)

pub returns-in-Some : goal.returns-in-Some
returns-in-Some c = rw (c.in-Need.is, c.in-Some.ensures.after) (λ a b q l f h k y. down_back c.args.self.now a b q c.in-Some.chunk (sym c.in-Some.ensures.value) f h k y)

pub returns-then-self : goal.returns-then-self
returns-then-self c = rw (c.in-Need.is, c.take.ensures.after) (λ a b q l f h k y. down_end c.args.self.now a b q (sym c.take.ensures.value ∙ c.in-None.is) c.if-self.true f h k y)

pub returns-else-self : goal.returns-else-self
returns-else-self c = rw (c.in-Need.is, c.take.ensures.after) (λ a b q l f h k y. down_need c.args.self.now a b q (sym c.take.ensures.value ∙ c.in-None.is) c.if-self.false f h k y)

pub returns-in-Some-take : goal.returns-in-Some-take
returns-in-Some-take c = rw (c.in-Done.is, c.in-Some-take.ensures.after) (λ a b q l f h k y. down_done_back c.args.self.now a b q c.in-Done.value c.in-Done.rest c.in-Some-take.chunk (sym c.in-Some-take.ensures.value) f h k y)

pub returns-in-None-take : goal.returns-in-None-take
returns-in-None-take c = rw (c.in-Done.is, c.take-in-Done.ensures.after) (λ a b q l f h k y. down_done c.args.self.now a b q c.in-Done.value c.in-Done.rest (sym c.take-in-Done.ensures.value ∙ c.in-None-take.is) f h k y)

pub returns-in-Fault : goal.returns-in-Fault
returns-in-Fault c = rw c.in-Fault.is (λ a b q l f h k y. down_fault c.args.self.now a b q c.in-Fault.fault f h k y)
