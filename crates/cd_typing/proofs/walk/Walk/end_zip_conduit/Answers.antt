use Rattle.cd_typing.proofs.PartSteps.{ends-memory}
use Rattle.cd_typing.proofs.walk.Walk.end_zip_conduit.Goals as goal

pub returns-in_err-zip_conduit_type-in-Ok : goal.returns-in_err-zip_conduit_type-in-Ok
returns-in_err-zip_conduit_type-in-Ok c = λ a b e h. ends-memory _ _ c.args.self.now c.ask_twice_and_finish.new.self c.from_residual.result c.from_residual.ensures.1
