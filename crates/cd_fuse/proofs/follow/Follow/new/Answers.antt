use Rattle.std.proofs.Common.{false}
use Rattle.cd_step.specs.declared.protocol.Stand.TheVariants.{Fresh}
use Rattle.cd_step.specs.declared.control.Side.TheVariants.{Upper}
use Rattle.cd_fuse.proofs.Sound.{follow_sound}
use Rattle.cd_fuse.proofs.follow.Follow.new.Goals as goal

pub returns-clause-sound : goal.returns-clause-sound
returns-clause-sound c = λ a b h k. follow_sound (record { stand = Fresh; side = Upper; told = false; back = c.empty.result }) a b h k
