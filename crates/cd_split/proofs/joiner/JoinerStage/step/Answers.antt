use Rattle.cd_split.proofs.JoinerLaws.{joiner_given}
use Rattle.cd_split.proofs.joiner.JoinerStage.step.Goals as goal

pub returns-in_ok-made-in-Chunk-clause-law : goal.returns-in_ok-made-in-Chunk-clause-law
returns-in_ok-made-in-Chunk-clause-law c =
    let made = c.in_ok-made-in-Chunk in
    joiner_given c.args.self.now c.args.input c.in-Chunk.piece made.made c.give.new.self c.in-Chunk.is c.requires.fit c.requires.answers made.ensures.law made.ensures.same
