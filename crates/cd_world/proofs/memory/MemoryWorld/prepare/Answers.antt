use Rattle.std.proofs.Common.{[], List, ℕ, Some, ◌∙◌, ap}
use Rattle.std.proofs.lemmas.Result.{on_ok_weaker, on_err_weaker}
use Rattle.cd_world.specs.Store.{held, with_file}
use Rattle.cd_world.proofs.FilesSteps.{file-changed, same-files, emptied-is}
use Rattle.cd_world.proofs.memory.MemoryWorld.prepare.Goals as goal

pub returns-in-Writing-clause-ok : goal.returns-in-Writing-clause-ok
returns-in-Writing-clause-ok c = on_ok_weaker c.make_empty.result
    (λ made. emptied-is c.args.use_of c.args.name.now _ _ c.in-Writing.is
    (file-changed _ _ _ _ c.args.name.now (Some []) (made ∙ ap (λ (n : List ℕ). with_file n (Some []) (held c.args.self.now.store.members.items)) c.requires))) c.make_empty.ensures.ok

pub returns-in-Writing-clause-err : goal.returns-in-Writing-clause-err
returns-in-Writing-clause-err c = on_err_weaker c.make_empty.result (λ same. same-files _ _ _ _ same) c.make_empty.ensures.err
