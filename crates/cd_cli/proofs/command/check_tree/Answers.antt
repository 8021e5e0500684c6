use Rattle.cd_report.specs.CheckText.{check_text}
use Rattle.cd_cli.specs.Command.{SendsText, WritesText}
use Rattle.cd_cli.proofs.CommandSteps.{typed_logs, typed_sends, untyped_logs, untyped_sends}
use Rattle.cd_cli.proofs.command.check_tree.Goals as goal

pub returns-in-Ok-clause-files : goal.returns-in-Ok-clause-files
returns-in-Ok-clause-files g c = λ tells.
    typed_sends c.args.script (SendsText (check_text c.args.script)) _ _ _ c.in-Ok.ensures.has_type
    (c.write_answer.ensures.files (check_text c.args.script) (c.check_text.ensures c.args.script c.in-Ok.ensures) tells)

pub returns-in-Ok-clause-log : goal.returns-in-Ok-clause-log
returns-in-Ok-clause-log g c = λ tells.
    typed_logs c.args.script (WritesText (check_text c.args.script)) _ _ _ c.in-Ok.ensures.has_type
    (c.write_answer.ensures.log (check_text c.args.script) (c.check_text.ensures c.args.script c.in-Ok.ensures) tells)

pub returns-in-Err-clause-files : goal.returns-in-Err-clause-files
returns-in-Err-clause-files g c = λ tells. untyped_sends c.args.script (SendsText (check_text c.args.script)) _ _ c.in-Err.ensures

pub returns-in-Err-clause-log : goal.returns-in-Err-clause-log
returns-in-Err-clause-log g c = λ tells. untyped_logs c.args.script (WritesText (check_text c.args.script)) _ _ c.in-Err.ensures
