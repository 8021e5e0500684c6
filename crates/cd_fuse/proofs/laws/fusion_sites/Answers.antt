use Rattle.cd_fuse.proofs.FuseTurns.{pass_up, pass_down, stuck_up, stuck_down, told_up, told_down, got_up, got_down}
use Rattle.cd_fuse.proofs.laws.fusion_sites.Goals as goal

pub returns-clause-upper_does : goal.returns-clause-upper_does
returns-clause-upper_does c = pass_up

pub returns-clause-lower_does : goal.returns-clause-lower_does
returns-clause-lower_does c = pass_down

pub returns-clause-upper_stops : goal.returns-clause-upper_stops
returns-clause-upper_stops c = stuck_up

pub returns-clause-lower_stops : goal.returns-clause-lower_stops
returns-clause-lower_stops c = stuck_down

pub returns-clause-upper_is_told : goal.returns-clause-upper_is_told
returns-clause-upper_is_told c = told_up

pub returns-clause-lower_is_told : goal.returns-clause-lower_is_told
returns-clause-lower_is_told c = told_down

pub returns-clause-upper_gets : goal.returns-clause-upper_gets
returns-clause-upper_gets c = got_up

pub returns-clause-lower_gets : goal.returns-clause-lower_gets
returns-clause-lower_gets c = got_down
