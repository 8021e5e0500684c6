use Rattle.cd_parser.proofs.Fronts.{refused, scripts, only_tree}
use Rattle.cd_parser.proofs.laws.machine_law.Goals as goal

pub returns-clause-refused : goal.returns-clause-refused
returns-clause-refused c = refused

pub returns-clause-scripts : goal.returns-clause-scripts
returns-clause-scripts c = scripts

pub returns-clause-only_tree : goal.returns-clause-only_tree
returns-clause-only_tree c = only_tree
