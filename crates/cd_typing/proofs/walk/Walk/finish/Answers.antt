use Rattle.std.proofs.Common.{arith}
use Rattle.cd_typing.specs.Walking.{spot}
use Rattle.cd_typing.proofs.Steps.{ends-passes}
use Rattle.cd_typing.proofs.walk.Walk.finish.Goals as goal

pub returns-clause-moves : goal.returns-clause-moves
returns-clause-moves c = ends-passes (spot c.args.self.now) c.args.statement c.args.part c.args.bound (omega arith)
