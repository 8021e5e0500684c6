use Rattle.std.proofs.Common.{sym, subst, ap, ◌∙◌, List, ℕ, take}
use Rattle.cd_report.specs.declared.cause.Cause.{Cause}
use Rattle.cd_cli.specs.Arguments.{script_of}
use Rattle.cd_cli.specs.Judge.{read_limit}
use Rattle.cd_cli.specs.Command.{Does, EndsUnlessFailed, IsTakenTree, ReadsAndJudges, Called, SendsFor, SendsScript, Sent}
use Rattle.cd_cli.proofs.CommandSteps.{read_taken, taken_text, script_sends, script_logs, unread_ends, unread_sends, unread_logs}
use Rattle.cd_cli.proofs.WriteSteps.{ok_unfailed}
use Rattle.cd_cli.proofs.command.run_command.Goals as goal

pub returns-in-Ok-clause-files : goal.returns-in-Ok-clause-files
returns-in-Ok-clause-files g c = λ tells shows. script_sends c.args.command.now c.script.result.now c.script.ensures _ c.in-Ok.text _ c.do_with_text.result c.deref.ensures.value _ _ _ (c.in-Ok.ensures.files tells) (c.do_with_text.ensures.files tells shows)

pub returns-in-Ok-clause-complete : goal.returns-in-Ok-clause-complete
returns-in-Ok-clause-complete g c = λ tells taken.
    let read = c.in-Ok.ensures.files tells in
    subst (λ (n : ℕ). EndsUnlessFailed n (g.W.World.faults c.do_with_text.new.world) c.do_with_text.result) (c.in-Ok.ensures.cause.calm (ok_unfailed _))
    (c.do_with_text.ensures.complete tells
    (taken_text g.W.World.tells_log (g.W.World.files c.args.world.now) (g.W.World.files c.read_script.new.world) read.rest c.args.command.now c.script.result.now c.script.ensures _ c.in-Ok.text _ c.deref.ensures.value read taken))

pub returns-in-Ok-clause-log : goal.returns-in-Ok-clause-log
returns-in-Ok-clause-log g c = λ tells.
    script_logs c.args.command.now c.script.result.now c.script.ensures _ c.in-Ok.text _ c.do_with_text.result c.deref.ensures.value g.W.World.tells_files (g.W.World.files c.args.world.now) (g.W.World.files c.read_script.new.world) _ _ _
    c.in-Ok.ensures.files (c.in-Ok.ensures.log tells) (c.do_with_text.ensures.log tells)

pub returns-in-Err-clause-files : goal.returns-in-Err-clause-files
returns-in-Err-clause-files g c = λ tells shows.
    let files = g.W.World.files c.args.world.now in
    subst (λ (cause : Cause). Sent (SendsScript (SendsFor c.args.command.now) files.contents (script_of c.args.command.now) cause) files (g.W.World.files c.read_script.new.world)) (sym c.script_cause.ensures)
    (unread_sends c.args.command.now c.script.result.now c.script.ensures _ c.in-Err.error _ _ (c.in-Err.ensures.files tells))

pub returns-in-Err-clause-log : goal.returns-in-Err-clause-log
returns-in-Err-clause-log g c = λ tells.
    let files = g.W.World.files c.args.world.now in
    subst (λ (cause : Cause). Called (ReadsAndJudges (Does c.args.command.now g.W.World.tells_files files) (script_of c.args.command.now) cause) (g.W.World.log c.args.world.now) (g.W.World.log c.read_script.new.world)) (sym c.script_cause.ensures)
    (unread_logs c.args.command.now c.script.result.now c.script.ensures _ c.in-Err.error g.W.World.tells_files files _ _ (c.in-Err.ensures.log tells))
