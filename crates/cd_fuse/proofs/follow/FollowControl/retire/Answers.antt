use Rattle.std.proofs.Common.{◌∙◌, sym}
use Rattle.cd_fuse.proofs.FollowTurns.{retire_first, retire_back, retire_second}
use Rattle.cd_fuse.proofs.follow.FollowControl.retire.Goals as goal

pub returns-in-Some : goal.returns-in-Some
returns-in-Some c = rw c.in-Some.ensures.after (λ a b. retire_back c.args.self.now a b c.in-Some.chunk c.in-Lower.is (sym c.in-Some.ensures.value))

pub returns-in-None : goal.returns-in-None
returns-in-None c = rw c.take.ensures.after (λ a b. retire_second c.args.self.now a b c.in-Lower.is (sym c.take.ensures.value ∙ c.in-None.is))

pub returns-in-Upper : goal.returns-in-Upper
returns-in-Upper c = λ a b. retire_first c.args.self.now a b c.in-Upper.is
