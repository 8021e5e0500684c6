use Rattle.cd_typing.proofs.PartSteps.{ends-memory}
use Rattle.cd_typing.proofs.walk.Walk.end_chain.Goals as goal

pub returns-in_err-chain_type-in-Ok : goal.returns-in_err-chain_type-in-Ok
returns-in_err-chain_type-in-Ok c = ends-memory _ _ c.args.self.now c.finish.new.self c.from_residual.result c.from_residual.ensures.1
