use Rattle.cd_meaning.proofs.Weaves.Plain.{fuse_is_plain, fuse_keep_is_plain, fuse_return_is_plain, fuse_asked_is_plain, fuse_drained_is_plain}
use Rattle.cd_meaning.proofs.laws.plain_fusion.Goals as goal

pub returns-clause-fuse : goal.returns-clause-fuse
returns-clause-fuse c = fuse_is_plain

pub returns-clause-fuse_keep : goal.returns-clause-fuse_keep
returns-clause-fuse_keep c = fuse_keep_is_plain

pub returns-clause-fuse_return : goal.returns-clause-fuse_return
returns-clause-fuse_return c = fuse_return_is_plain

pub returns-clause-fuse_asked : goal.returns-clause-fuse_asked
returns-clause-fuse_asked c = fuse_asked_is_plain

pub returns-clause-fuse_drained : goal.returns-clause-fuse_drained
returns-clause-fuse_drained c = fuse_drained_is_plain
