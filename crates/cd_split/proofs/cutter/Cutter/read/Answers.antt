use Rattle.std.proofs.Common.{Some, None, subst, ◌∙◌}
use Rattle.cd_step.specs.declared.protocol.Stand.TheVariants.{Wait}
use Rattle.cd_step.specs.declared.protocol.Move.TheVariants.{Need}
use Rattle.cd_split.proofs.CutterLaws.{cutter_waits, passed_then}
use Rattle.cd_split.specs.Cutting.{IsPassed}
use Rattle.cd_split.proofs.cutter.Cutter.read.Goals as goal

pub returns-in_ok-made-in-Some-clause-law : goal.returns-in_ok-made-in-Some-clause-law
returns-in_ok-made-in-Some-clause-law c =
    let passed = c.pass_line_end.new.self in
    passed_then c.args.self.now passed c.fill.new.self (Some c.args.chunk) (Some c.in-Some.chunk) c.in_ok-made-in-Some.made (subst (IsPassed c.args.self.now (Some c.args.chunk) passed) c.in-Some.is c.pass_line_end.ensures.law) c.in_ok-made-in-Some.ensures.law

pub returns-in-None-clause-law : goal.returns-in-None-clause-law
returns-in-None-clause-law c =
    let passed = c.pass_line_end.new.self in
    let keep = c.pass_line_end.ensures.keep ∙ c.requires.keep in
    passed_then c.args.self.now passed (record passed { stand = Wait }) (Some c.args.chunk) None Need (subst (IsPassed c.args.self.now (Some c.args.chunk) passed) c.in-None.is c.pass_line_end.ensures.law)
    (cutter_waits passed c.pass_line_end.ensures.told keep)
