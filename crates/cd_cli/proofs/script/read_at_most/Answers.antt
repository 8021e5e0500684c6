use Rattle.cd_cli.proofs.ScriptSteps.{log_front_none}
use Rattle.cd_cli.proofs.script.read_at_most.Goals as goal

pub returns-in_err-text-clause-log : goal.returns-in_err-text-clause-log
returns-in_err-text-clause-log g c = λ tells. log_front_none c.args.name.now c.args.size _ (g.W.World.log c.args.world.now) _ c.from_residual.ensures.1
