use Rattle.std.proofs.Common.{refl, subst}
use Rattle.cd_node.specs.Marks.{IsPortIn}
use Rattle.cd_node.specs.Nodes.{GoesNode}
use Rattle.cd_node.proofs.Marking.{body_keeps, closes_behind, move_part, no_end}
use Rattle.cd_node.proofs.mark.Mark.follow.Goals as goal

pub returns-in-Done-clause-law : goal.returns-in-Done-clause-law
returns-in-Done-clause-law c = λ place p q l h g k.
    let m = c.args.self.now in
    let o = subst (λ x. IsPortIn x m.port.ticket m.port.site.0) c.requires.body c.requires.stands.1 in
    rw (c.take.ensures.after, c.new.ensures, c.requires.body) (closes_behind place m.port.site.0 m.port.ticket p q h.1 k o c.take.result c.in-Done.value c.in-Done.rest l c.take.ensures.ticket (subst (λ x. GoesNode place x p q) c.in-Done.is g))

pub returns-in_default : goal.returns-in_default
returns-in_default c =
    let m = c.args.self.now in
    let o = subst (λ x. IsPortIn x m.port.ticket m.port.site.0) c.requires.body c.requires.stands.1 in
    record {
      stands = c.requires.stands;
      law = λ place p q l h g k. rw c.requires.body (move_part place m.port.site.0 m.port.ticket p q h.1 k o c.args.made (no_end c.args.made (λ v r e. c.in_default.not-Done v r e)) g);
      keeps = λ place p q h g k y.
          let b = body_keeps place m.port.site.0 m.port.ticket p q h.1 k o c.args.made g y in
          record { fits = rw c.requires.body (b.0, b.1); kept = rw c.requires.body b.2; held = rw c.requires.body b.3 };
      site = refl;
    }
