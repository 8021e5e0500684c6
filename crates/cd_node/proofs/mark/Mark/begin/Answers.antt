use Rattle.std.proofs.Common.{subst}
use Rattle.cd_node.specs.Nodes.{AnswersNode, fed_node}
use Rattle.cd_node.specs.Marks.{whole_mark}
use Rattle.cd_node.proofs.Marking.{body_on, inner_turn}
use Rattle.cd_node.proofs.mark.Mark.begin.Goals as goal

pub returns-in-Acquired-clause-stands : goal.returns-in-Acquired-clause-stands
returns-in-Acquired-clause-stands c = λ p f a. c.acquired.ensures.stands p f (subst (λ i. AnswersNode (whole_mark c.args.self.now p) i) c.in-Acquired.is a)

pub returns-in-Acquired-clause-own : goal.returns-in-Acquired-clause-own
returns-in-Acquired-clause-own c = λ place p h f a. c.acquired.ensures.inner place (fed_node c.args.input (whole_mark c.args.self.now p)) p

pub returns-in_default : goal.returns-in_default
returns-in_default c =
    let m = c.args.self.now in
    record {
      stands = λ p f a. c.requires.stands;
      turn = λ p f a. inner_turn c.args.input m p (body_on c.args.input m.stand m.port.site.0 m.port.ticket p (λ e. c.in_default.not-Start e) (λ t e. c.in_default.not-Acquired t e) (λ e. c.in_default.not-Closed e) a) f a;
      own = λ place p h f a. tt;
      places = λ place h. h;
    }
