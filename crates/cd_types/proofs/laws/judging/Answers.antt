use Rattle.cd_types.specs.Moments.{nothing_reached}
use Rattle.cd_types.specs.Statements.{script_moments}
use Rattle.cd_types.proofs.Numbers.{refused_at_a_part}
use Rattle.cd_types.proofs.Verdicts.{all_pass, passed_so, reaches_so, refused_so, only_so, either_so, never_both_so, unique_so}
use Rattle.cd_types.proofs.laws.judging.Goals as goal

pub returns-clause-passed : goal.returns-clause-passed
returns-clause-passed c = λ script r e. all_pass nothing_reached r (script_moments script) e

pub returns-clause-reaches : goal.returns-clause-reaches
returns-clause-reaches c = λ script r e. reaches_so nothing_reached r (script_moments script) e

pub returns-clause-refused : goal.returns-clause-refused
returns-clause-refused c = λ script x e. refused_so script x e

pub returns-clause-typed : goal.returns-clause-typed
returns-clause-typed c = λ script h. passed_so nothing_reached (script_moments script) h

pub returns-clause-only : goal.returns-clause-only
returns-clause-only c = λ script x w. only_so script x w

pub returns-clause-either : goal.returns-clause-either
returns-clause-either c = λ script. either_so script

pub returns-clause-never_both : goal.returns-clause-never_both
returns-clause-never_both c = λ script x h w. never_both_so script x h w

pub returns-clause-unique : goal.returns-clause-unique
returns-clause-unique c = λ script x y v w. unique_so script x y v w

pub returns-clause-stands : goal.returns-clause-stands
returns-clause-stands c = λ script x w. refused_at_a_part script x w
