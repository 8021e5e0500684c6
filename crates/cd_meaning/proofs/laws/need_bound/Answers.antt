use Rattle.cd_meaning.proofs.Lawful.Trees.{tree_is_lawful}
use Rattle.cd_meaning.proofs.Lawful.Words.{word_is_lawful}
use Rattle.cd_meaning.proofs.laws.need_bound.Goals as goal

pub returns-clause-words_rise : goal.returns-clause-words_rise
returns-clause-words_rise c = λ w flow site seen xs e. ((word_is_lawful w).runs flow site seen).rising xs e

pub returns-clause-words : goal.returns-clause-words
returns-clause-words c = λ w flow site seen xs e. ((word_is_lawful w).runs flow site seen).stamps xs e

pub returns-clause-trees_rise : goal.returns-clause-trees_rise
returns-clause-trees_rise c = λ p lawful flow site seen xs e. ((tree_is_lawful p lawful).runs flow site seen).rising xs e

pub returns-clause-trees : goal.returns-clause-trees
returns-clause-trees c = λ p lawful flow site seen xs e. ((tree_is_lawful p lawful).runs flow site seen).stamps xs e
