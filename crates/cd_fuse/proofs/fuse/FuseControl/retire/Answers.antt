use Rattle.cd_fuse.proofs.FuseTurns.{retire_ended, retire_up}
use Rattle.cd_fuse.proofs.fuse.FuseControl.retire.Goals as goal

pub returns-in-Ended : goal.returns-in-Ended
returns-in-Ended c = rw (c.take.ensures.value, c.take.ensures.after) (λ a b. retire_ended c.args.self.now a b c.in-Ended.is)

pub returns-in_default : goal.returns-in_default
returns-in_default c = λ a b. retire_up c.args.self.now a b (λ e. c.in_default.not-Ended e)
