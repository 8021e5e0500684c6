use Rattle.std.proofs.Common.{List, ℕ, sym, subst}
use Rattle.cd_report.specs.declared.cause.Cause.{Cause}
use Rattle.cd_cli.specs.Command.{EndsUnlessFailed, HasTaken, IsTakenRun, Judges, Logs, RunsScript}
use Rattle.cd_cli.proofs.CommandSteps.{tree_logs, tree_ends, none_logs, none_ends}
use Rattle.cd_cli.proofs.run.run_text.Goals as goal

pub returns-in-Ok-clause-complete : goal.returns-in-Ok-clause-complete
returns-in-Ok-clause-complete g c = λ tells taken.
    let files = g.W.World.files c.args.world.now in
    tree_ends (IsTakenRun g.W.World.tells_log files c.args.options) c.as_bytes.result.now _ _ _ _ c.in-Ok.ensures.judged (c.run_tree.ensures.complete tells)
    (subst (λ (t : List ℕ). HasTaken (IsTakenRun g.W.World.tells_log files c.args.options) t) (sym c.as_bytes.ensures.value) taken)

pub returns-in-Ok-clause-log : goal.returns-in-Ok-clause-log
returns-in-Ok-clause-log g c = λ tells.
    let files = g.W.World.files c.args.world.now in
    subst (λ (t : List ℕ). Logs (Judges (RunsScript c.args.options g.W.World.tells_files files) t) c.run_tree.result.cause (g.W.World.log c.args.world.now) (g.W.World.log c.run_tree.new.world)) c.as_bytes.ensures.value
    (tree_logs c.as_bytes.result.now (RunsScript c.args.options g.W.World.tells_files files) _ _ _ _ c.in-Ok.ensures.judged (c.run_tree.ensures.log tells))

pub returns-in-Err-clause-complete : goal.returns-in-Err-clause-complete
returns-in-Err-clause-complete g c = λ tells taken.
    let files = g.W.World.files c.args.world.now in
    subst (λ (cause : Cause). EndsUnlessFailed (g.W.World.faults c.args.world.now) (g.W.World.faults c.args.world.now) cause) (sym c.not_run.ensures)
    (none_ends (IsTakenRun g.W.World.tells_log files c.args.options) c.as_bytes.result.now _ _ _ c.in-Err.ensures.judged
    (subst (λ (t : List ℕ). HasTaken (IsTakenRun g.W.World.tells_log files c.args.options) t) (sym c.as_bytes.ensures.value) taken))

pub returns-in-Err-clause-log : goal.returns-in-Err-clause-log
returns-in-Err-clause-log g c = λ tells.
    let files = g.W.World.files c.args.world.now in
    let log = g.W.World.log c.args.world.now in
    subst (λ (t : List ℕ). Logs (Judges (RunsScript c.args.options g.W.World.tells_files files) t) c.not_run.result.cause log log) c.as_bytes.ensures.value
    (subst (λ (cause : Cause). Logs (Judges (RunsScript c.args.options g.W.World.tells_files files) c.as_bytes.result.now) cause log log) (sym c.not_run.ensures)
    (none_logs c.as_bytes.result.now (RunsScript c.args.options g.W.World.tells_files files) _ log c.in-Err.ensures.judged))
