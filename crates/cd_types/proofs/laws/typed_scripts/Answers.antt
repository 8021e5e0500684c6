use Rattle.std.proofs.Common.{IsTrue, ◌≤◌, [], length, subst}
use Rattle.cd_types.specs.Limits.{site_limit, total_limit}
use Rattle.cd_types.specs.Sites.{are_apart}
use Rattle.cd_types.proofs.Apart.{sites_are_apart}
use Rattle.cd_types.proofs.LawfulParts.{script_is_lawful}
use Rattle.cd_types.proofs.StandingNames.{typed_is_scoped}
use Rattle.cd_types.proofs.Limits.{few_sites, few_statements, small_total}
use Rattle.cd_types.proofs.ScriptFacts.{sites_are_places, total_is_sum}
use Rattle.cd_types.proofs.laws.typed_scripts.Goals as goal

pub returns-clause-lawful : goal.returns-clause-lawful
returns-clause-lawful c = λ script h. script_is_lawful script h

pub returns-clause-scoped : goal.returns-clause-scoped
returns-clause-scoped c = λ script h. typed_is_scoped script h

pub returns-clause-apart : goal.returns-clause-apart
returns-clause-apart c = λ script h. subst (λ sites. IsTrue (are_apart [] sites)) (sites_are_places script) (sites_are_apart script h)

pub returns-clause-statements : goal.returns-clause-statements
returns-clause-statements c = λ script h. few_statements script h

pub returns-clause-few_sites : goal.returns-clause-few_sites
returns-clause-few_sites c = λ script h. subst (λ sites. length sites ≤ site_limit) (sites_are_places script) (few_sites script h)

pub returns-clause-total : goal.returns-clause-total
returns-clause-total c = λ script h. subst (λ total. total ≤ total_limit) (total_is_sum script) (small_total script h)
