use Rattle.std.proofs.Common.{sym, ◌∙◌}
use Rattle.cd_pieces.proofs.WordLaws.{drop_while_skip, drop_while_back}
use Rattle.cd_pieces.proofs.sift.drop_while.Goals as goal

pub returns-then-passes : goal.returns-then-passes
returns-then-passes c k i = drop_while_skip k c.args.piece c.args.test.now (sym c.passes.ensures ∙ c.if-passes.true)

pub returns-else-passes : goal.returns-else-passes
returns-else-passes c k i = drop_while_back k c.args.piece c.args.test.now (sym c.passes.ensures ∙ c.if-passes.false)
