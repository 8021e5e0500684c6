use Rattle.std.proofs.Common.{◌≡◌, MatchOption, Some}
use Rattle.cd_elem.specs.declared.kind.Sort.TheVariants as sort
use Rattle.cd_step.specs.Parts.{Wait}
use Rattle.cd_elemwise.specs.Carried.{kind_of}
use Rattle.cd_elemwise.specs.Stages.{seen_stage, stage_fits}
use Rattle.bench.proofs.feed.fed.Given as goal

abbrev pub invariant-loop : goal.invariant-loop
invariant-loop l = MatchOption l.waiting (Unit {0}) (λ e. stage_fits e × ((seen_stage e).at ≡ Wait) × ((seen_stage e).takes ≡ Some (kind_of sort.Bytes)))
