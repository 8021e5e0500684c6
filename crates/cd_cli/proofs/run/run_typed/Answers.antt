use Rattle.std.proofs.Common.{List, false, true, ◌≡◌, refl, sym, ◌∙◌, subst}
use Rattle.cd_elem.specs.declared.script.Stmt.{Stmt}
use Rattle.cd_report.specs.declared.cause.Cause.{Cause}
use Rattle.cd_run.specs.Scripts.{IsBuiltScript}
use Rattle.cd_cli.specs.Cause.{HasOrigin}
use Rattle.cd_cli.specs.Command.{EndsUnlessFailed, Logs, RunsTree, setting_of}
use Rattle.cd_cli.proofs.RunSteps.{caused_origin, false_true, run_ends, run_logs, unbuilt_logs}
use Rattle.cd_cli.proofs.run.run_typed.Goals as goal

pub returns-then-not-is_built_script-clause-complete : goal.returns-then-not-is_built_script-clause-complete
returns-then-not-is_built_script-clause-complete g c = λ tells script typed taken.
    absurd (false_true (sym c.if-not-is_built_script.true ∙ c.is_built_script.ensures.1 (subst IsBuiltScript (sym (c.script.ensures script typed)) taken.is_built)))

pub returns-then-not-is_built_script-clause-log : goal.returns-then-not-is_built_script-clause-log
returns-then-not-is_built_script-clause-log g c = λ tells script typed.
    let log = g.W.World.log c.args.world.now in
    let files = g.W.World.files c.args.world.now in
    subst (λ (cause : Cause). Logs (RunsTree c.args.options g.W.World.tells_files files script) cause log log) (sym c.not_run.ensures)
    (unbuilt_logs c.args.options g.W.World.tells_files script log files
    (λ is_built. false_true (sym c.if-not-is_built_script.true ∙ c.is_built_script.ensures.1 (subst IsBuiltScript (sym (c.script.ensures script typed)) is_built))))

pub returns-clause-origin : goal.returns-clause-origin
returns-clause-origin g c =
    subst (λ (cause : Cause). HasOrigin (g.W.World.faults c.args.world.now) (g.W.World.faults c.run_script-ended.new.world) cause) (sym c.run_cause.ensures) (caused_origin c.run_script-ended.result.answer _ _ c.run_script-ended.ensures.cause)

pub returns-clause-complete : goal.returns-clause-complete
returns-clause-complete g c = λ tells script typed taken.
    subst (λ (cause : Cause). EndsUnlessFailed (g.W.World.faults c.args.world.now) (g.W.World.faults c.run_script-ended.new.world) cause) (sym c.run_cause.ensures)
    (run_ends c.run_script-ended.result.answer c.args.options g.W.World.tells_files script (g.W.World.log c.args.world.now) (g.W.World.log c.run_script-ended.new.world) (g.W.World.files c.args.world.now) (g.W.World.files c.run_script-ended.new.world) _ _ tells
    (c.run_script-ended.ensures.told script typed taken.told (setting_of script c.args.options g.W.World.tells_files) refl refl refl refl) c.run_script-ended.ensures.cause taken.is_done)

pub returns-clause-log : goal.returns-clause-log
returns-clause-log g c = λ tells script typed.
    subst (λ (cause : Cause). Logs (RunsTree c.args.options g.W.World.tells_files (g.W.World.files c.args.world.now) script) cause (g.W.World.log c.args.world.now) (g.W.World.log c.run_script-ended.new.world)) (sym c.run_cause.ensures)
    (run_logs c.args.options g.W.World.tells_files script c.run_script-ended.result.answer (g.W.World.log c.args.world.now) (g.W.World.log c.run_script-ended.new.world) (g.W.World.files c.args.world.now) (g.W.World.files c.run_script-ended.new.world)
    (subst IsBuiltScript (c.script.ensures script typed) (c.is_built_script.ensures.0 c.if-not-is_built_script.false))
    (c.run_script-ended.ensures.told script typed tells (setting_of script c.args.options g.W.World.tells_files) refl refl refl refl))
