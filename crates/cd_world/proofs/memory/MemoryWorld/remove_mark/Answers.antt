use Rattle.std.proofs.Common.{List, ℕ, None, ◌∙◌, ap}
use Rattle.cd_world.specs.Store.{held, with_file}
use Rattle.cd_world.proofs.FilesSteps.{file-changed, unmarked-is}
use Rattle.cd_world.proofs.memory.MemoryWorld.remove_mark.Goals as goal

pub returns-in-Marking-clause-files : goal.returns-in-Marking-clause-files
returns-in-Marking-clause-files c = unmarked-is c.args.«open».now.use_of c.args.«open».now.name _ _ c.in-Marking.is
    (file-changed _ _ _ _ c.args.«open».now.name None (c.remove.ensures.held ∙ ap (λ (n : List ℕ). with_file n None (held c.args.self.now.store.members.items)) c.requires))
