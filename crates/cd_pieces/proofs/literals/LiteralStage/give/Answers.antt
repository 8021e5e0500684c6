use Rattle.std.proofs.Common.{subst}
use Rattle.cd_pieces.specs.LiteralStages.{GivesNext}
use Rattle.cd_pieces.proofs.LiteralLaws.{gave_stage}
use Rattle.cd_pieces.proofs.literals.LiteralStage.give.Goals as goal

pub returns-in-Some-clause-law : goal.returns-in-Some-clause-law
returns-in-Some-clause-law c =
    gave_stage c.args.self.now c.next.new.self c.in-Some.chunk c.next.ensures.kind (subst (λ made. GivesNext c.args.self.now made c.next.new.self) c.in-Some.is c.in_ok-chunk.ensures.law)
