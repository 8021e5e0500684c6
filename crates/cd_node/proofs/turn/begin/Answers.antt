use Rattle.std.proofs.Common.{subst}
use Rattle.cd_step.specs.Flows.{IsCopied}
use Rattle.cd_step.specs.Parts.{fed}
use Rattle.cd_node.specs.Controls.{whole_pair}
use Rattle.cd_node.proofs.Turning.{begun}
use Rattle.cd_node.proofs.turn.begin.Goals as goal

pub returns-in-Ok-clause-law : goal.returns-in-Ok-clause-law
returns-in-Ok-clause-law c = λ a b la lb f h.
    begun (fed c.args.input (whole_pair c.args.control.now a b)) c.begin.result c.node_turn.result c.begin.new.self a b c.node_turn.ensures
    (c.begin.ensures a b la lb f h (subst (λ w. IsCopied w c.args.input c.in-Ok.copy) c.copies.ensures c.in-Ok.ensures))
