use Rattle.cd_meaning.proofs.HalvesOfTrees.{sequence_in_halves}
use Rattle.cd_meaning.proofs.Runs.SequenceGroups.{sequence_assoc, sequence_grouped, sequence_in_a_row}
use Rattle.cd_meaning.proofs.laws.sequence_associativity.Goals as goal

pub returns-clause-components : goal.returns-clause-components
returns-clause-components c = sequence_assoc

pub returns-clause-grouped : goal.returns-clause-grouped
returns-clause-grouped c = sequence_grouped

pub returns-clause-in_a_row : goal.returns-clause-in_a_row
returns-clause-in_a_row c = sequence_in_a_row

pub returns-clause-halves : goal.returns-clause-halves
returns-clause-halves c = sequence_in_halves
