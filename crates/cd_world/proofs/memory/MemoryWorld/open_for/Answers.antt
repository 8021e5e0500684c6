use Rattle.std.proofs.Common.{◌∙◌, ap}
use Rattle.cd_world.specs.Files.{with_given, emptied}
use Rattle.cd_world.proofs.FilesSteps.{same-files}
use Rattle.cd_world.proofs.memory.MemoryWorld.open_for.Goals as goal

pub returns-then-is_refused-clause-files : goal.returns-then-is_refused-clause-files
returns-then-is_refused-clause-files c = c.fail.ensures.files ∙ same-files _ _ _ _ c.count.ensures.held ∙ c.reserve.ensures.told

pub returns-in-Ok-clause-files : goal.returns-in-Ok-clause-files
returns-in-Ok-clause-files c = c.admit-descriptor.ensures.files
    ∙ ap (with_given c.admit-descriptor.result.0 0) (same-files _ _ _ _ c.count-in-Ok.ensures.held ∙ c.in-Ok.ensures.ok ∙ ap (emptied c.args.use_of c.args.name.now) c.reserve.ensures.told)
