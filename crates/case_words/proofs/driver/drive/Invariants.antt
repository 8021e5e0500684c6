use Rattle.std.proofs.Common.{◌≡◌, Some}
use Rattle.cd_step.specs.Parts.{Wait}
use Rattle.case_words.proofs.driver.drive.Given as goal

abbrev pub invariant-loop-numbers : goal.invariant-loop-numbers
invariant-loop-numbers g l = g.S.Stage.fits l.stage × ((g.S.Stage.seen l.stage).at ≡ Wait) × ((g.S.Stage.seen l.stage).takes ≡ Some l.kind)
