use Rattle.cd_node.proofs.Held.{held_kept, held_acquired, held_by, held_released}
use Rattle.cd_node.proofs.laws.held_tickets.Goals as goal

pub returns-clause-kept : goal.returns-clause-kept
returns-clause-kept c = held_kept

pub returns-clause-acquired : goal.returns-clause-acquired
returns-clause-acquired c = held_acquired

pub returns-clause-given_up : goal.returns-clause-given_up
returns-clause-given_up c = held_by

pub returns-clause-released : goal.returns-clause-released
returns-clause-released c = held_released
