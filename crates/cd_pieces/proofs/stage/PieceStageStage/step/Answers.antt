use Rattle.cd_pieces.proofs.StageLaws.{piece_step, end_step}
use Rattle.cd_pieces.proofs.stage.PieceStageStage.step.Goals as goal

pub returns-in_ok-made-in-Chunk-clause-law : goal.returns-in_ok-made-in-Chunk-clause-law
returns-in_ok-made-in-Chunk-clause-law c =
    piece_step c.args.self.now c.args.input c.in-Chunk.piece c.in_ok-made-in-Chunk.made c.take_in.new.self c.in-Chunk.is c.requires.fit c.requires.answers c.in_ok-made-in-Chunk.ensures.law c.in_ok-made-in-Chunk.ensures.same

pub returns-in_ok-made-in-End-clause-law : goal.returns-in_ok-made-in-End-clause-law
returns-in_ok-made-in-End-clause-law c =
    end_step c.args.self.now c.args.input c.in_ok-made-in-End.made c.finish.new.self c.in-End.is c.requires.fit c.requires.answers c.in_ok-made-in-End.ensures.law c.in_ok-made-in-End.ensures.stand c.in_ok-made-in-End.ensures.told c.in_ok-made-in-End.ensures.same c.in_ok-made-in-End.ensures.well
