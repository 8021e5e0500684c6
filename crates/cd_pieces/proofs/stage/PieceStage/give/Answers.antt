use Rattle.std.proofs.Common.{subst, sym}
use Rattle.cd_step.specs.declared.protocol.Move.TheVariants.{Emit}
use Rattle.cd_step.specs.declared.protocol.Stand.TheVariants.{Gave}
use Rattle.cd_step.proofs.PieceChunks.{chunk_piece}
use Rattle.cd_pieces.specs.Stages.{Went, with_due}
use Rattle.cd_pieces.proofs.StageLaws.{due_stage}
use Rattle.cd_pieces.proofs.stage.PieceStage.give.Goals as goal

pub returns-clause-law : goal.returns-clause-law
returns-clause-law c =
    let e = c.args.self.now in
    subst (λ f. Went (with_due c.args.due e) (Emit c.in_ok-piece.piece) (record f { stand = Gave })) (sym c.set_due.ensures)
    (due_stage e c.args.due c.in_ok-piece.piece c.in_ok-piece.rest c.requires.told (chunk_piece e.takes c.args.due.piece c.requires.well.pieces c.requires.fits.1) c.requires.fits.2 c.in_ok-piece.ensures.piece c.in_ok-piece.ensures.acts)
