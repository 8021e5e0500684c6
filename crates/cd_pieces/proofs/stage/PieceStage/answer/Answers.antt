use Rattle.std.proofs.Common.{subst, sym}
use Rattle.cd_step.specs.declared.protocol.Move.TheVariants.{Emit}
use Rattle.cd_step.specs.declared.protocol.Stand.TheVariants.{Gave}
use Rattle.cd_step.specs.Parts.{Goes}
use Rattle.cd_pieces.specs.Stages.{IsAnswered, seen_from, seen_stage}
use Rattle.cd_pieces.proofs.StageLaws.{skip_stage, give_stage, given_piece, end_stage, back_stage}
use Rattle.cd_pieces.proofs.stage.PieceStage.answer.Goals as goal

pub returns-in_ok-made-in-Skip-clause-law : goal.returns-in_ok-made-in-Skip-clause-law
returns-in_ok-made-in-Skip-clause-law c s p h =
    skip_stage c.args.self.now s p c.in_ok-made-in-Skip.made c.ask.new.self c.requires.told c.requires.due (subst (IsAnswered c.args.self.now s p) c.in-Skip.is h) c.in_ok-made-in-Skip.ensures.law

pub returns-in-Give-clause-law : goal.returns-in-Give-clause-law
returns-in-Give-clause-law c s p h =
    let e = c.args.self.now in
    let a = subst (IsAnswered e s p) c.in-Give.is h in
    subst (λ f. Goes (Emit c.in-Give.piece) (seen_from s p e) (seen_stage (record f { stand = Gave }))) (sym c.set_due.ensures)
    (give_stage e s p c.in-Give.piece c.in-Give.due c.requires.told (given_piece e.state e.takes c.in-Give.piece c.requires.well.pieces a.fits.0) a)

pub returns-in-End-clause-law : goal.returns-in-End-clause-law
returns-in-End-clause-law c s p h = end_stage c.args.self.now s p c.in-End.value c.requires.told c.requires.due c.requires.well (subst (IsAnswered c.args.self.now s p) c.in-End.is h)

pub returns-in-Back-clause-law : goal.returns-in-Back-clause-law
returns-in-Back-clause-law c s p h = back_stage c.args.self.now s p c.in-Back.piece c.in-Back.value c.requires.told c.requires.due c.requires.well (subst (IsAnswered c.args.self.now s p) c.in-Back.is h)
