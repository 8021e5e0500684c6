use Rattle.std.proofs.Common.{ℕ, List, take, sym, ◌∙◌, ap}
use Rattle.cd_world.specs.Files.{with_output, with_errors}
use Rattle.cd_world.specs.Memory.{files_in, held_in}
use Rattle.cd_world.proofs.FilesSteps.{same-files, output-changed, errors-changed}
use Rattle.cd_world.proofs.memory.MemoryWorld.write_stream.Goals as goal

pub returns-in-Ok-clause-output : goal.returns-in-Ok-clause-output
returns-in-Ok-clause-output c = λ named.
    output-changed (held_in c.args.self.now) _ _ _ c.args.name.now c.in-Ok.told c.in-Ok.ensures.ok named
    ∙ ap (λ (b : List ℕ). with_output b (files_in c.args.self.now)) (c.in-Ok.ensures.told ∙ ap (λ (n : ℕ). take n c.args.bytes.now) (sym c.len-count.ensures))

pub returns-in-Ok-clause-errors : goal.returns-in-Ok-clause-errors
returns-in-Ok-clause-errors c = λ named.
    errors-changed (held_in c.args.self.now) _ _ _ c.args.name.now c.in-Ok.told c.in-Ok.ensures.ok named
    ∙ ap (λ (b : List ℕ). with_errors b (files_in c.args.self.now)) (c.in-Ok.ensures.told ∙ ap (λ (n : ℕ). take n c.args.bytes.now) (sym c.len-count.ensures))

pub returns-in-Err-clause-output : goal.returns-in-Err-clause-output
returns-in-Err-clause-output c = λ named. c.refuse.ensures.files ∙ same-files _ _ _ _ c.in-Err.ensures.err

pub returns-in-Err-clause-errors : goal.returns-in-Err-clause-errors
returns-in-Err-clause-errors c = λ named. c.refuse.ensures.files ∙ same-files _ _ _ _ c.in-Err.ensures.err
