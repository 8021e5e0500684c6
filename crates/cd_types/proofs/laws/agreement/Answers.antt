use Rattle.std.proofs.Common.{◌∙◌}
use Rattle.cd_types.specs.Trees.{part}
use Rattle.cd_types.proofs.FormFacts.{pipe_facts}
use Rattle.cd_types.proofs.ScriptFacts.{sites_are_places, total_is_sum}
use Rattle.cd_types.proofs.Sums.{reached_sites, reached_total}
use Rattle.cd_types.proofs.laws.agreement.Goals as goal

pub returns-clause-sites : goal.returns-clause-sites
returns-clause-sites c = λ script. sites_are_places script

pub returns-clause-total : goal.returns-clause-total
returns-clause-total c = λ script. total_is_sum script

pub returns-clause-own_sites : goal.returns-clause-own_sites
returns-clause-own_sites c = λ p s n f. reached_sites ((part p).moments s n f) ∙ (pipe_facts p).places s n f

pub returns-clause-own_bounds : goal.returns-clause-own_bounds
returns-clause-own_bounds c = λ p s n f. reached_total ((part p).moments s n f) ∙ (pipe_facts p).bounds s n f

pub returns-clause-parts : goal.returns-clause-parts
returns-clause-parts c = λ p f. (pipe_facts p).size f

pub returns-clause-own_type : goal.returns-clause-own_type
returns-clause-own_type c = λ p f. (pipe_facts p).first f

pub returns-clause-gives : goal.returns-clause-gives
returns-clause-gives c = λ p r s n f h. (pipe_facts p).gives r s n f h
