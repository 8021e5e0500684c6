use Rattle.cd_slices.proofs.StageLaws.{chunk_step, end_step}
use Rattle.cd_slices.proofs.stage.SliceStageStage.step.Goals as goal

pub returns-in_ok-made-in-Chunk-clause-law : goal.returns-in_ok-made-in-Chunk-clause-law
returns-in_ok-made-in-Chunk-clause-law c =
    let made = c.in_ok-made-in-Chunk in
    chunk_step c.args.self.now made.made c.read.new.self c.requires.fit c.args.input c.in-Chunk.chunk c.in-Chunk.is c.requires.answers made.ensures.law made.ensures.same

pub returns-in_ok-made-in-End-clause-law : goal.returns-in_ok-made-in-End-clause-law
returns-in_ok-made-in-End-clause-law c =
    let made = c.in_ok-made-in-End in
    end_step c.args.self.now made.made c.close.new.self c.requires.fit c.args.input c.in-End.is c.requires.answers made.ensures.law made.ensures.same
