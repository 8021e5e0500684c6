use Rattle.std.proofs.Common.{true, false, ◌∙◌}
use Rattle.cd_elem.specs.Ascii.{newline}
use Rattle.cd_split.proofs.SplitScans.{chunks_run, exact_run, first_cut, first_join, flat_run, group_rule, line_rule, lines_run, unlines_run}
use Rattle.cd_split.proofs.stage.split_stage.Goals as goal

pub returns-in-Lines-clause-means : goal.returns-in-Lines-clause-means
returns-in-Lines-clause-means c z site seen xs end = rw c.in-Lines.is (first_cut (line_rule newline c.in-Lines.most) c.args.kind c.cut_stage.result z xs end c.cut_stage.ensures ∙ lines_run newline c.in-Lines.most xs end)

pub returns-in-Split-clause-means : goal.returns-in-Split-clause-means
returns-in-Split-clause-means c z site seen xs end = rw c.in-Split.is (first_cut (line_rule c.in-Split.separator c.in-Split.most) c.args.kind c.cut_stage-in-Split.result z xs end c.cut_stage-in-Split.ensures ∙ lines_run c.in-Split.separator c.in-Split.most xs end)

pub returns-in-Exact-clause-means : goal.returns-in-Exact-clause-means
returns-in-Exact-clause-means c z site seen xs end = rw c.in-Exact.is (first_cut (group_rule false c.in-Exact.most) c.args.kind c.cut_stage-in-Exact.result z xs end c.cut_stage-in-Exact.ensures ∙ exact_run c.in-Exact.most xs end)

pub returns-in-ChunksOf-clause-means : goal.returns-in-ChunksOf-clause-means
returns-in-ChunksOf-clause-means c z site seen xs end = rw c.in-ChunksOf.is (first_cut (group_rule true c.in-ChunksOf.most) c.args.kind c.cut_stage-in-ChunksOf.result z xs end c.cut_stage-in-ChunksOf.ensures ∙ chunks_run c.in-ChunksOf.most xs end)

pub returns-in-Flat-clause-means : goal.returns-in-Flat-clause-means
returns-in-Flat-clause-means c z site seen xs end = rw c.in-Flat.is (first_join c.new.result false z xs end c.new.ensures.told c.new.ensures.lines c.new.ensures.keep ∙ flat_run xs end)

pub returns-in-Unlines-clause-means : goal.returns-in-Unlines-clause-means
returns-in-Unlines-clause-means c z site seen xs end = rw c.in-Unlines.is (first_join c.new-in-Unlines.result true z xs end c.new-in-Unlines.ensures.told c.new-in-Unlines.ensures.lines c.new-in-Unlines.ensures.keep ∙ unlines_run xs end)
