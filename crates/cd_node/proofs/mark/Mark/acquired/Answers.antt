use Rattle.std.proofs.Common.{refl, subst}
use Rattle.cd_node.specs.Marks.{IsBodyIn}
use Rattle.cd_node.specs.declared.protocol.NodeInput.TheVariants as given
use Rattle.cd_node.proofs.Marking.{begins_body, body_opens, inner_turn}
use Rattle.cd_node.proofs.mark.Mark.acquired.Goals as goal

pub returns-in-Opening-clause-turn : goal.returns-in-Opening-clause-turn
returns-in-Opening-clause-turn c = λ p f a.
    let m = c.args.self.now in
    let u = (subst (λ x. IsBodyIn x p) c.in-Opening.is f.1).0 in
    rw c.put.ensures (u.is_at, (refl, f.0), rw c.in-Opening.is (begins_body c.args.ticket m.port.site.0 m.port.ticket p u))

pub returns-in_default : goal.returns-in_default
returns-in_default c =
    let m = c.args.self.now in
    record {
      stands = λ p f a. c.requires.stands;
      turn = λ p f a. inner_turn (given.Acquired c.args.ticket) m p (body_opens m.stand m.port.site.0 c.args.ticket.site.0 p.at a (λ e. c.in_default.not-Opening e)) f a;
      inner = λ place p q. tt;
      site = refl;
    }
