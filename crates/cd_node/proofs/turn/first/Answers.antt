use Rattle.cd_node.proofs.Turning.{first_plain, first_site}
use Rattle.cd_node.proofs.turn.first.Goals as goal

pub returns-in_ok-turn-in-Plain-clause-law : goal.returns-in_ok-turn-in-Plain-clause-law
returns-in_ok-turn-in-Plain-clause-law c = λ a b la lb f n.
    first_plain c.args.input c.in-Plain.plain c.args.out c.args.control.now c.begin.new.control c.in_ok-turn-in-Plain.turn a b c.in-Plain.ensures f n (λ i h. c.in_ok-turn-in-Plain.ensures.law a b la lb i h)

pub returns-in-Some-clause-law : goal.returns-in-Some-clause-law
returns-in-Some-clause-law c = λ a b la lb f n.
    first_site c.args.input c.in-Site.answer c.in-Some.side c.args.out c.answer_to.result c.args.control.now a b c.in-Some.is c.answer_to.ensures c.in-Site.ensures.0 c.in-Site.ensures.1 la lb f n
