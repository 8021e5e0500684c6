use Rattle.std.proofs.Common.{◌-◌}
use Rattle.cd_typing.proofs.Tables.{set_typed}
use Rattle.cd_typing.proofs.walk.Walk.place.Goals as goal

pub returns-in-Ok-clause-written : goal.returns-in-Ok-clause-written
returns-in-Ok-clause-written c = set_typed c.args.self.now.parts.items (c.args.part - 1) c.in-Ok.copied c.args.typed c.in-Ok.ensures
