use Rattle.cd_node.proofs.control.PairControl.held.Goals as goal

pub returns-in-Fusion : goal.returns-in-Fusion
returns-in-Fusion c = rw c.in-Fusion.is (λ a b. c.held.ensures a b)

pub returns-in-Sequence : goal.returns-in-Sequence
returns-in-Sequence c = rw c.in-Sequence.is (λ a b. c.held-in-Sequence.ensures a b)
