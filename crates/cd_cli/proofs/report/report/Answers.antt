use Rattle.cd_report.specs.CauseText.{cause_text}
use Rattle.cd_cli.proofs.ReportSteps.{none_logged, none_told, silent_only}
use Rattle.cd_cli.proofs.report.report.Goals as goal

pub returns-in-Err-clause-files : goal.returns-in-Err-clause-files
returns-in-Err-clause-files g c = λ tells. none_told (cause_text c.args.cause) (g.W.World.files c.args.world.now) (λ empty. c.in-Err.ensures.no_memory (silent_only c.args.cause empty))

pub returns-in-Err-clause-log : goal.returns-in-Err-clause-log
returns-in-Err-clause-log g c = λ tells. none_logged (cause_text c.args.cause) (g.W.World.log c.args.world.now) (λ empty. c.in-Err.ensures.no_memory (silent_only c.args.cause empty))
