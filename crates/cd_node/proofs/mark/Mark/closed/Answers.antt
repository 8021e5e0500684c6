use Rattle.std.proofs.Common.{refl, ◌∙◌}
use Rattle.cd_node.specs.declared.protocol.NodeInput.TheVariants as given
use Rattle.cd_node.proofs.Marking.{body_closes, inner_turn}
use Rattle.cd_node.proofs.mark.Mark.closed.Goals as goal

pub returns-in_default : goal.returns-in_default
returns-in_default c =
    let m = c.args.self.now in
    rw c.replace.ensures.value (record {
      stands = c.requires.stands;
      port = refl;
      turn = λ p f a. inner_turn given.Closed m p (body_closes m.stand m.port.site.0 p.at a (λ v r e. c.in_default.not-Closing v r (c.replace.ensures.value ∙ e))) f a;
      own = λ place p f a. tt;
    })
