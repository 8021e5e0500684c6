use Rattle.cd_types.proofs.FirstSites.{first_is_behind, places_stand, within_sites}
use Rattle.cd_types.proofs.Numbered.{further_sites, places_of_sites, same_seals, same_keys, few_seals, few_keys, known_seals, known_keys}
use Rattle.cd_types.proofs.SiteOrder.{own_number}
use Rattle.cd_types.proofs.laws.numbering.Goals as goal

pub returns-clause-places : goal.returns-clause-places
returns-clause-places c = λ script. places_of_sites script

pub returns-clause-further : goal.returns-clause-further
returns-clause-further c = λ ms ns. further_sites ms ns

pub returns-clause-own_number : goal.returns-clause-own_number
returns-clause-own_number c = λ script i site at. own_number script i site at

pub returns-clause-first : goal.returns-clause-first
returns-clause-first c = first_is_behind

pub returns-clause-stand : goal.returns-clause-stand
returns-clause-stand c = places_stand

pub returns-clause-within : goal.returns-clause-within
returns-clause-within c = within_sites

pub returns-clause-seals : goal.returns-clause-seals
returns-clause-seals c = λ script. same_seals script

pub returns-clause-keys : goal.returns-clause-keys
returns-clause-keys c = λ script. same_keys script

pub returns-clause-few_seals : goal.returns-clause-few_seals
returns-clause-few_seals c = λ script. few_seals script

pub returns-clause-few_keys : goal.returns-clause-few_keys
returns-clause-few_keys c = λ script. few_keys script

pub returns-clause-known_seals : goal.returns-clause-known_seals
returns-clause-known_seals c = λ script s typed. known_seals script s typed

pub returns-clause-known_keys : goal.returns-clause-known_keys
returns-clause-known_keys c = λ script s typed. known_keys script s typed
