use Rattle.std.proofs.Common.{sym, subst}
use Rattle.cd_report.specs.declared.cause.Cause.{Cause}
use Rattle.cd_cli.specs.Command.{EndsUnlessFailed, Logs, RunsScript, RunsTree}
use Rattle.cd_cli.proofs.CommandSteps.{typed_logs, untyped_logs, untyped_ends}
use Rattle.cd_cli.proofs.run.run_tree.Goals as goal

pub returns-in-Ok-clause-complete : goal.returns-in-Ok-clause-complete
returns-in-Ok-clause-complete g c = λ tells taken. c.run_typed.ensures.complete tells c.args.script c.in-Ok.ensures taken

pub returns-in-Ok-clause-log : goal.returns-in-Ok-clause-log
returns-in-Ok-clause-log g c = λ tells.
    typed_logs c.args.script (RunsTree c.args.options g.W.World.tells_files (g.W.World.files c.args.world.now) c.args.script) _ _ _ c.in-Ok.ensures.has_type (c.run_typed.ensures.log tells c.args.script c.in-Ok.ensures)

pub returns-in-Err-clause-complete : goal.returns-in-Err-clause-complete
returns-in-Err-clause-complete g c = λ tells taken.
    subst (λ (cause : Cause). EndsUnlessFailed (g.W.World.faults c.args.world.now) (g.W.World.faults c.args.world.now) cause) (sym c.not_run.ensures) (untyped_ends c.args.script _ _ _ taken.has_type c.in-Err.ensures)

pub returns-in-Err-clause-log : goal.returns-in-Err-clause-log
returns-in-Err-clause-log g c = λ tells.
    let files = g.W.World.files c.args.world.now in
    let log = g.W.World.log c.args.world.now in
    subst (λ (cause : Cause). Logs (RunsScript c.args.options g.W.World.tells_files files c.args.script) cause log log) (sym c.not_run.ensures)
    (untyped_logs c.args.script (RunsTree c.args.options g.W.World.tells_files files c.args.script) _ log c.in-Err.ensures)
