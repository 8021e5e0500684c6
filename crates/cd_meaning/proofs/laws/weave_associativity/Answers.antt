use Rattle.cd_meaning.proofs.HalvesOfTrees.{chain_in_halves}
use Rattle.cd_meaning.proofs.Weaves.Grouped.{chain_grouped, chain_in_a_row}
use Rattle.cd_meaning.proofs.Weaves.Laws.{fuse_assoc}
use Rattle.cd_meaning.proofs.laws.weave_associativity.Goals as goal

pub returns-clause-components : goal.returns-clause-components
returns-clause-components c = fuse_assoc

pub returns-clause-grouped : goal.returns-clause-grouped
returns-clause-grouped c = chain_grouped

pub returns-clause-in_a_row : goal.returns-clause-in_a_row
returns-clause-in_a_row c = chain_in_a_row

pub returns-clause-halves : goal.returns-clause-halves
returns-clause-halves c = chain_in_halves
