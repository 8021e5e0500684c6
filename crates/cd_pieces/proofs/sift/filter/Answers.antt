use Rattle.std.proofs.Common.{sym, ◌∙◌}
use Rattle.cd_pieces.proofs.WordLaws.{filter_pass, filter_skip}
use Rattle.cd_pieces.proofs.sift.filter.Goals as goal

pub returns-then-passes : goal.returns-then-passes
returns-then-passes c k i = filter_pass k c.args.piece c.args.test.now (sym c.passes.ensures ∙ c.if-passes.true) i

pub returns-else-passes : goal.returns-else-passes
returns-else-passes c k i = filter_skip k c.args.piece c.args.test.now (sym c.passes.ensures ∙ c.if-passes.false)
