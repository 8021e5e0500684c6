use Rattle.cd_fuse.proofs.FollowTurns.{begin_told, begin_other}
use Rattle.cd_fuse.proofs.follow.FollowControl.begin.Goals as goal

pub returns-in-End : goal.returns-in-End
returns-in-End c = rw (c.turn_of.ensures, c.in-End.is) (λ a b l k inv h x. begin_told c.args.self.now a b inv h)

pub returns : goal.returns
returns c = rw c.turn_of-in_default.ensures (λ a b l k inv h x. begin_other c.args.input c.args.self.now a b c.in_default.not-End inv h)
