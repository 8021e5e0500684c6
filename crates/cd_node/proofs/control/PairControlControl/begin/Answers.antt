use Rattle.cd_node.proofs.Controls.{fusion_turn, sequence_turn}
use Rattle.cd_node.proofs.control.PairControlControl.begin.Goals as goal

pub returns-in-Fusion : goal.returns-in-Fusion
returns-in-Fusion c = rw c.in-Fusion.is (λ a b l k inv h x. fusion_turn _ c.begin.result c.begin.new.self a b (c.begin.ensures a b l k inv h x))

pub returns-in-Sequence : goal.returns-in-Sequence
returns-in-Sequence c = rw c.in-Sequence.is (λ a b l k inv h x. sequence_turn _ c.begin-in-Sequence.result c.begin-in-Sequence.new.self a b (c.begin-in-Sequence.ensures a b l k inv h x))
