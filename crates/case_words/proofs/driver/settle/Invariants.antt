use Rattle.std.proofs.Common.{◌≡◌}
use Rattle.cd_step.specs.Parts.{Answers}
use Rattle.case_words.proofs.driver.settle.Given as goal

abbrev pub invariant-loop : goal.invariant-loop
invariant-loop g l = g.S.Stage.fits l.stage × Answers (g.S.Stage.seen l.stage) l.input × ((g.S.Stage.seen l.stage).takes ≡ (g.S.Stage.seen l.initial.stage).takes)
