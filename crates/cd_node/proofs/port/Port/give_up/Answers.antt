use Rattle.cd_node.proofs.Tickets.{some_had}
use Rattle.cd_node.proofs.port.Port.give_up.Goals as goal

pub unreachable-requires : goal.unreachable-requires
unreachable-requires c = some_had c.args.self.ticket c.in-Some._ticket c.in-Some.is c.requires
