use Rattle.std.proofs.Common.{sym, subst}
use Rattle.cd_report.specs.CheckText.{check_text}
use Rattle.cd_grammar.specs.CanonicalText.{canonical_text}
use Rattle.cd_cli.specs.declared.arguments.Command.{Command}
use Rattle.cd_cli.specs.Command.{Does, IsNoRun, IsTakenTree, Logs, SendsFor, Sent}
use Rattle.cd_cli.proofs.CommandSteps.{checked_ends, shown_ends}
use Rattle.cd_cli.proofs.command.do_with_tree.Goals as goal

pub returns-in-Run-clause-files : goal.returns-in-Run-clause-files
returns-in-Run-clause-files g c = λ tells shows. absurd (subst IsNoRun c.in-Run.is shows)

pub returns-in-Run-clause-complete : goal.returns-in-Run-clause-complete
returns-in-Run-clause-complete g c = λ tells taken.
    c.run_tree.ensures.complete tells (subst (λ (command : Command). IsTakenTree g.W.World.tells_log (g.W.World.files c.args.world.now) command c.args.script) c.in-Run.is taken)

pub returns-in-Run-clause-log : goal.returns-in-Run-clause-log
returns-in-Run-clause-log g c = λ tells.
    subst (λ (command : Command). Logs (Does command g.W.World.tells_files (g.W.World.files c.args.world.now) c.args.script) c.run_tree.result.cause (g.W.World.log c.args.world.now) (g.W.World.log c.run_tree.new.world)) (sym c.in-Run.is) (c.run_tree.ensures.log tells)

pub returns-in-Check-clause-files : goal.returns-in-Check-clause-files
returns-in-Check-clause-files g c = λ tells shows.
    let files = g.W.World.files c.args.world.now in
    subst (λ (command : Command). Sent (SendsFor command c.args.script c.check_tree.result) files (g.W.World.files c.check_tree.new.world)) (sym c.in-Check.is) (c.check_tree.ensures.files tells)

pub returns-in-Check-clause-complete : goal.returns-in-Check-clause-complete
returns-in-Check-clause-complete g c = λ tells taken.
    let sent = c.check_tree.ensures.files tells in
    checked_ends _ _ _ c.check_tree.ensures.origin (check_text c.args.script) c.args.script sent.sent
    (subst (λ (command : Command). IsTakenTree g.W.World.tells_log (g.W.World.files c.args.world.now) command c.args.script) c.in-Check.is taken) sent.answer

pub returns-in-Check-clause-log : goal.returns-in-Check-clause-log
returns-in-Check-clause-log g c = λ tells.
    subst (λ (command : Command). Logs (Does command g.W.World.tells_files (g.W.World.files c.args.world.now) c.args.script) c.check_tree.result (g.W.World.log c.args.world.now) (g.W.World.log c.check_tree.new.world)) (sym c.in-Check.is) (c.check_tree.ensures.log tells)

pub returns-in-Show-clause-files : goal.returns-in-Show-clause-files
returns-in-Show-clause-files g c = λ tells shows.
    let files = g.W.World.files c.args.world.now in
    subst (λ (command : Command). Sent (SendsFor command c.args.script c.show_tree.result) files (g.W.World.files c.show_tree.new.world)) (sym c.in-Show.is) (c.show_tree.ensures.files tells)

pub returns-in-Show-clause-complete : goal.returns-in-Show-clause-complete
returns-in-Show-clause-complete g c = λ tells taken.
    let sent = c.show_tree.ensures.files tells in
    shown_ends _ _ _ c.show_tree.ensures.origin (canonical_text c.args.script) sent.sent sent.answer

pub returns-in-Show-clause-log : goal.returns-in-Show-clause-log
returns-in-Show-clause-log g c = λ tells.
    subst (λ (command : Command). Logs (Does command g.W.World.tells_files (g.W.World.files c.args.world.now) c.args.script) c.show_tree.result (g.W.World.log c.args.world.now) (g.W.World.log c.show_tree.new.world)) (sym c.in-Show.is) (c.show_tree.ensures.log tells)
