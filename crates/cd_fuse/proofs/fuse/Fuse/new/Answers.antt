use Rattle.cd_step.specs.declared.protocol.Stand.TheVariants.{Fresh}
use Rattle.cd_fuse.specs.declared.fuse.Upstream.TheVariants.{Fresh as HasNotBegun}
use Rattle.cd_fuse.proofs.Sound.{fuse_sound}
use Rattle.cd_fuse.proofs.fuse.Fuse.new.Goals as goal

pub returns-clause-sound : goal.returns-clause-sound
returns-clause-sound c = λ a b h k. fuse_sound (record { stand = Fresh; upstream = HasNotBegun; back = c.empty.result }) a b h k
