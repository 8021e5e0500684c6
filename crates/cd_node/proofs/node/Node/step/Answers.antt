use Rattle.cd_node.proofs.node.Node.step.Goals as goal

pub returns-clause-law : goal.returns-clause-law
returns-clause-law c = λ place h. c.in_ok-made.ensures.law.all place h
