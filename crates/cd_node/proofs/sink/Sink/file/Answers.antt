use Rattle.std.proofs.Common.{ap}
use Rattle.cd_node.proofs.Sinking.{file_run}
use Rattle.cd_node.proofs.sink.Sink.file.Goals as goal

pub returns-clause-means : goal.returns-clause-means
returns-clause-means c = λ name flow z xs end. file_run c.new.result.medium c.new.result.site.0 c.args.site.0 xs end c.new.ensures.medium (ap (λ x. x.0) c.new.ensures.site)
