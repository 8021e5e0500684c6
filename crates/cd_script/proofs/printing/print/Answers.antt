use Rattle.std.proofs.Common.{rules, ◌≤◌, length, string_bytes}
use Rattle.cd_script.proofs.Printed.{is_text, whole_range, whole_text}
use Rattle.cd_script.proofs.printing.print.Goals as goal

pub returns-clause-script : goal.returns-clause-script
returns-clause-script c =
    let tree = c.args.script.now in
    let text = string_bytes c.loop-statement.text in
    let place = c.loop-statement.statement-index in
    let all : length tree ≤ place = search rules in
    is_text tree text c.requires (whole_range place tree c.loop-statement.invariant.1 all) (whole_text place tree text c.loop-statement.invariant.0 all)
