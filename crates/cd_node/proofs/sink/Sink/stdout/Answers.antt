use Rattle.std.proofs.Common.{ap}
use Rattle.cd_node.proofs.Sinking.{stdout_run}
use Rattle.cd_node.proofs.sink.Sink.stdout.Goals as goal

pub returns-clause-means : goal.returns-clause-means
returns-clause-means c = λ flow z xs end. stdout_run c.new.result.medium c.new.result.site.0 c.args.site.0 xs end c.new.ensures.medium (ap (λ x. x.0) c.new.ensures.site)
