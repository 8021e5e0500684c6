use Rattle.cd_split.proofs.CutterLaws.{cutter_given}
use Rattle.cd_split.proofs.cutter.CutterStage.step.Goals as goal

pub returns-in_ok-made-in-Chunk-clause-law : goal.returns-in_ok-made-in-Chunk-clause-law
returns-in_ok-made-in-Chunk-clause-law c =
    let made = c.in_ok-made-in-Chunk in
    cutter_given c.args.self.now c.args.input c.in-Chunk.chunk made.made c.read.new.self c.in-Chunk.is c.requires.fit.0 c.requires.answers made.ensures.law made.ensures.same
