use Rattle.cd_cli.specs.Command.{Does, IsTakenTree, SendsFor}
use Rattle.cd_cli.proofs.CommandSteps.{tree_logs, tree_sends, tree_ends, none_logs, none_sends, none_ends}
use Rattle.cd_cli.proofs.command.do_with_text.Goals as goal

pub returns-in-Ok-clause-files : goal.returns-in-Ok-clause-files
returns-in-Ok-clause-files g c = λ tells shows. tree_sends c.args.text.now (SendsFor c.args.command.now) _ _ _ _ c.in-Ok.ensures.judged (c.do_with_tree.ensures.files tells shows)

pub returns-in-Ok-clause-complete : goal.returns-in-Ok-clause-complete
returns-in-Ok-clause-complete g c = λ tells. tree_ends (IsTakenTree g.W.World.tells_log (g.W.World.files c.args.world.now) c.args.command.now) c.args.text.now _ _ _ _ c.in-Ok.ensures.judged (c.do_with_tree.ensures.complete tells)

pub returns-in-Ok-clause-log : goal.returns-in-Ok-clause-log
returns-in-Ok-clause-log g c = λ tells. tree_logs c.args.text.now (Does c.args.command.now g.W.World.tells_files (g.W.World.files c.args.world.now)) _ _ _ _ c.in-Ok.ensures.judged (c.do_with_tree.ensures.log tells)

pub returns-in-Err-clause-files : goal.returns-in-Err-clause-files
returns-in-Err-clause-files g c = λ tells shows. none_sends c.args.text.now (SendsFor c.args.command.now) _ _ c.in-Err.ensures.judged

pub returns-in-Err-clause-complete : goal.returns-in-Err-clause-complete
returns-in-Err-clause-complete g c = λ tells. none_ends (IsTakenTree g.W.World.tells_log (g.W.World.files c.args.world.now) c.args.command.now) c.args.text.now _ _ _ c.in-Err.ensures.judged

pub returns-in-Err-clause-log : goal.returns-in-Err-clause-log
returns-in-Err-clause-log g c = λ tells. none_logs c.args.text.now (Does c.args.command.now g.W.World.tells_files (g.W.World.files c.args.world.now)) _ _ c.in-Err.ensures.judged
