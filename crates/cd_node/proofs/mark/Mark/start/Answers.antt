use Rattle.std.proofs.Common.{refl}
use Rattle.cd_node.specs.declared.protocol.NodeInput.TheVariants as given
use Rattle.cd_node.proofs.Marking.{body_fresh, inner_turn, opens_first}
use Rattle.cd_node.proofs.mark.Mark.start.Goals as goal

pub returns-in-Fresh-clause-own : goal.returns-in-Fresh-clause-own
returns-in-Fresh-clause-own c = λ place p h f a. let m = c.args.self.now in rw c.in-Fresh.is (opens_first place m.port.site.0 m.port.ticket p h.0 h.1)

pub returns-in_default : goal.returns-in_default
returns-in_default c =
    let m = c.args.self.now in
    record {
      stands = c.requires.stands;
      port = refl;
      turn = λ p f a. inner_turn given.Start m p (body_fresh m.stand m.port.site.0 p.at a (λ e. c.in_default.not-Fresh e)) f a;
      own = λ place p h f a. tt;
    }
