use Rattle.std.proofs.Common.{ap, ◌∙◌}
use Rattle.cd_typed.specs.Sites.{use_place}
use Rattle.test_callers.specs.Leaves.{word_use}
use Rattle.test_callers.proofs.leaf_runs.Leaf.new.Goals as goal

pub returns-in-SourceFile-clause-stands : goal.returns-in-SourceFile-clause-stands
returns-in-SourceFile-clause-stands c = λ place is. c.file.ensures.places place c.args.info.now.name (is ∙ ap (λ u. use_place u c.args.info.now.name) (c.requires ∙ ap word_use c.in-SourceFile.is))

pub returns-in-SinkFile-clause-stands : goal.returns-in-SinkFile-clause-stands
returns-in-SinkFile-clause-stands c = λ place is. c.file-in-SinkFile.ensures.places place c.args.info.now.name (is ∙ ap (λ u. use_place u c.args.info.now.name) (c.requires ∙ ap word_use c.in-SinkFile.is))
