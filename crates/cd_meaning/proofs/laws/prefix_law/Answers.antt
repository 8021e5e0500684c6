use Rattle.cd_meaning.proofs.Lawful.Trees.{tree_is_lawful, script_goes_on}
use Rattle.cd_meaning.proofs.Lawful.Words.{word_is_lawful}
use Rattle.cd_meaning.proofs.laws.prefix_law.Goals as goal

pub returns-clause-words : goal.returns-clause-words
returns-clause-words c = λ w flow site seen xs ys h e. ((word_is_lawful w).runs flow site seen).known xs ys h e

pub returns-clause-trees : goal.returns-clause-trees
returns-clause-trees c = λ p lawful flow site seen xs ys h e. ((tree_is_lawful p lawful).runs flow site seen).known xs ys h e

pub returns-clause-own_sites : goal.returns-clause-own_sites
returns-clause-own_sites c = λ p lawful flow site seen other same. (tree_is_lawful p lawful).local flow site seen other same

pub returns-clause-sites : goal.returns-clause-sites
returns-clause-sites c = λ p lawful sites seen further goes flow site. (tree_is_lawful p lawful).goes_on sites seen further goes flow site

pub returns-clause-scripts : goal.returns-clause-scripts
returns-clause-scripts c = script_goes_on
