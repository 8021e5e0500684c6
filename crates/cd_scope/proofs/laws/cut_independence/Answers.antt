use Rattle.cd_scope.proofs.Cutting.{are_in_order, seen_by_own, seen_however_cut, seen_is}
use Rattle.cd_scope.proofs.laws.cut_independence.Goals as goal

pub returns-clause-own : goal.returns-clause-own
returns-clause-own c = seen_by_own

pub returns-clause-told : goal.returns-clause-told
returns-clause-told c = seen_is

pub returns-clause-cut : goal.returns-clause-cut
returns-clause-cut c = seen_however_cut

pub returns-clause-ordered : goal.returns-clause-ordered
returns-clause-ordered c = are_in_order
