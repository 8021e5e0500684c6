use Rattle.std.proofs.Common.{ℕ, refl, sym, ◌∙◌, subst}
use Rattle.std.proofs.lemmas.List.{drop-drop}
use Rattle.cd_world.specs.Files.{Gives}
use Rattle.cd_world.specs.Memory.{files_in}
use Rattle.cd_world.proofs.FilesSteps.{files-eq, same-files}
use Rattle.cd_world.proofs.memory.MemoryWorld.read_input.Goals as goal

pub returns-in-Ok-clause-files : goal.returns-in-Ok-clause-files
returns-in-Ok-clause-files c =
    let count_is = c.len-count.ensures in (
      subst (λ (n : ℕ). Gives (files_in c.args.self.now).input n c.give.new.into) (sym count_is) c.in-Ok.ensures.gives,
      same-files _ _ _ _ c.give.ensures.held ∙ files-eq _ _ (λ name. refl) (λ d. refl) (sym (drop-drop c.len-count.result c.args.self.now.input_given _)) refl refl,
    )

pub returns-in-Err-clause-files : goal.returns-in-Err-clause-files
returns-in-Err-clause-files c = c.refuse.ensures.files ∙ same-files _ _ _ _ c.give.ensures.held
