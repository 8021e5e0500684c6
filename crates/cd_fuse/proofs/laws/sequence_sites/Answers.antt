use Rattle.cd_fuse.proofs.FollowTurns.{pass_first, pass_second, stuck_first, stuck_second, told_first, told_second, got_first, got_second}
use Rattle.cd_fuse.proofs.laws.sequence_sites.Goals as goal

pub returns-clause-upper_does : goal.returns-clause-upper_does
returns-clause-upper_does c = pass_first

pub returns-clause-lower_does : goal.returns-clause-lower_does
returns-clause-lower_does c = pass_second

pub returns-clause-upper_stops : goal.returns-clause-upper_stops
returns-clause-upper_stops c = stuck_first

pub returns-clause-lower_stops : goal.returns-clause-lower_stops
returns-clause-lower_stops c = stuck_second

pub returns-clause-upper_is_told : goal.returns-clause-upper_is_told
returns-clause-upper_is_told c = told_first

pub returns-clause-lower_is_told : goal.returns-clause-lower_is_told
returns-clause-lower_is_told c = λ k a b s w f l h. told_second k a b s w f

pub returns-clause-upper_gets : goal.returns-clause-upper_gets
returns-clause-upper_gets c = got_first

pub returns-clause-lower_gets : goal.returns-clause-lower_gets
returns-clause-lower_gets c = got_second
