use Rattle.std.proofs.Common.{sym, subst, map}
use Rattle.std.specs.String.{string_bytes}
use Rattle.cd_report.specs.declared.cause.Cause.{Cause}
use Rattle.cd_cli.specs.declared.arguments.Command.{Command}
use Rattle.cd_cli.specs.Arguments.{script_of}
use Rattle.cd_cli.specs.Command.{Calls, Called, AnswersCommand, Sent, IsTaken, EndsUnlessFailed}
use Rattle.cd_cli.proofs.CommandSteps.{same_command, words_send, words_log, refused_send, refused_log, refused_ends}
use Rattle.cd_cli.proofs.command.answer_words.Goals as goal

pub returns-in-Ok-clause-files : goal.returns-in-Ok-clause-files
returns-in-Ok-clause-files g c = λ tells shows.
    words_send (map string_bytes c.args.words.now) c.in-Ok.command c.run_command.result (g.W.World.files c.args.world.now) _ c.in-Ok.ensures.command (c.run_command.ensures.files tells (shows c.in-Ok.command c.in-Ok.ensures.command))

pub returns-in-Ok-clause-log : goal.returns-in-Ok-clause-log
returns-in-Ok-clause-log g c = λ tells.
    words_log (map string_bytes c.args.words.now) g.W.World.tells_files (g.W.World.files c.args.world.now) c.in-Ok.command c.run_command.result (g.W.World.log c.args.world.now) _ c.in-Ok.ensures.command (c.run_command.ensures.log tells)

pub returns-in-Ok-clause-complete : goal.returns-in-Ok-clause-complete
returns-in-Ok-clause-complete g c = λ tells command is taken.
    let files = g.W.World.files c.args.world.now in
    c.run_command.ensures.complete tells
    (subst (λ (d : Command). IsTaken g.W.World.tells_log files d (files.contents (script_of d))) (same_command (map string_bytes c.args.words.now) command c.in-Ok.command is c.in-Ok.ensures.command) taken)

pub returns-in-Err-clause-files : goal.returns-in-Err-clause-files
returns-in-Err-clause-files g c = λ tells shows.
    let words = map string_bytes c.args.words.now in
    let files = g.W.World.files c.args.world.now in
    subst (λ (cause : Cause). Sent (AnswersCommand words files.contents cause) files files) (sym c.from.ensures) (refused_send words c.in-Err.refusal files c.in-Err.ensures.command)

pub returns-in-Err-clause-complete : goal.returns-in-Err-clause-complete
returns-in-Err-clause-complete g c = λ tells command is taken.
    let words = map string_bytes c.args.words.now in
    subst (λ (cause : Cause). EndsUnlessFailed (g.W.World.faults c.args.world.now) (g.W.World.faults c.args.world.now) cause) (sym c.from.ensures) (refused_ends words c.in-Err.refusal command _ _ c.in-Err.ensures.command is)

pub returns-in-Err-clause-log : goal.returns-in-Err-clause-log
returns-in-Err-clause-log g c = λ tells.
    let words = map string_bytes c.args.words.now in
    let log = g.W.World.log c.args.world.now in
    let files = g.W.World.files c.args.world.now in
    subst (λ (cause : Cause). Called (Calls g.W.World.tells_files files words cause) log log) (sym c.from.ensures) (refused_log words g.W.World.tells_files files c.in-Err.refusal log c.in-Err.ensures.command)
