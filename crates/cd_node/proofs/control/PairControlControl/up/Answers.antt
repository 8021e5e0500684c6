use Rattle.cd_node.proofs.Controls.{fusion_flow, sequence_flow}
use Rattle.cd_node.proofs.control.PairControlControl.up.Goals as goal

pub returns-in-Fusion : goal.returns-in-Fusion
returns-in-Fusion c = rw c.in-Fusion.is (λ a b q l f h k y. fusion_flow _ _ c.up.new.self c.up.result q b (c.up.ensures a b q l f h k y))

pub returns-in-Sequence : goal.returns-in-Sequence
returns-in-Sequence c = rw c.in-Sequence.is (λ a b q l f h k y. sequence_flow _ _ c.up-in-Sequence.new.self c.up-in-Sequence.result q b (c.up-in-Sequence.ensures a b q l f h k y))
