use Rattle.cd_node.proofs.control.PairControlControl.retire.Goals as goal

pub returns-in-Fusion : goal.returns-in-Fusion
returns-in-Fusion c = rw c.in-Fusion.is (λ a b. c.retire.ensures a b)

pub returns-in-Sequence : goal.returns-in-Sequence
returns-in-Sequence c = rw c.in-Sequence.is (λ a b. c.retire-in-Sequence.ensures a b)
