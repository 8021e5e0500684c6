use Rattle.cd_node.proofs.Tickets.{ticket_own}
use Rattle.cd_node.proofs.port.Port.leave.Goals as goal

pub leave-requires : goal.leave-requires
leave-requires c =
    let t = c.in-Some.ticket in
    c.requires t.site.0 t.descriptor.0 (rw c.in-Some.is (ticket_own t))
