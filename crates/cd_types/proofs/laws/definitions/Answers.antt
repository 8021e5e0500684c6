use Rattle.cd_types.proofs.DefinedNames.{seal_defined, key_defined}
use Rattle.cd_types.proofs.laws.definitions.Goals as goal

pub returns-clause-seals : goal.returns-clause-seals
returns-clause-seals c = λ before more name p typed. seal_defined before more name p typed

pub returns-clause-keys : goal.returns-clause-keys
returns-clause-keys c = λ before more name file typed. key_defined before more name file typed
