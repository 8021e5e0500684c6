use Rattle.std.proofs.Common.{subst, drop}
use Rattle.cd_elemwise.specs.Carried.{IsChunkOf}
use Rattle.cd_elemwise.specs.Plans.{IsPlan}
use Rattle.cd_elemwise.specs.Stages.{carried}
use Rattle.cd_elemwise.proofs.StageLaws.{pass_whole, pass_front, need_stage, give_stage, done_stage}
use Rattle.cd_elemwise.proofs.stage.ElemStage.act.Goals as goal

pub returns-then-count-len-clause-law : goal.returns-then-count-len-clause-law
returns-then-count-len-clause-law c s p =
    pass_whole c.args.self.now s c.args.chunk c.in-Pass.count c.len-len.result c.requires.cut c.requires.told c.requires.keep c.requires.sort c.len-len.ensures.value c.len-len.ensures.size c.if-count-len.true
    (subst (λ x. IsPlan c.args.self.now.sort s c.args.chunk.1 x (carried c.args.self.now)) c.in-Pass.is p)

pub returns-in-Need-clause-law : goal.returns-in-Need-clause-law
returns-in-Need-clause-law c s p = need_stage c.args.self.now s c.args.chunk c.requires.cut c.requires.told c.requires.keep c.requires.sort (subst (λ x. IsPlan c.args.self.now.sort s c.args.chunk.1 x (carried c.args.self.now)) c.in-Need.is p)

pub returns-in_ok-first-in-Pass-clause-law : goal.returns-in_ok-first-in-Pass-clause-law
returns-in_ok-first-in-Pass-clause-law c s p =
    pass_front c.args.self.now s c.args.chunk c.in_ok-first-in-Pass.first c.cut.new.self c.in-Pass.count c.len-len.result c.requires.cut c.requires.told c.requires.sort c.len-len.ensures.value c.len-len.ensures.size
    c.in_ok-first-in-Pass.ensures.front c.in_ok-first-in-Pass.ensures.rest (subst (λ x. IsPlan c.args.self.now.sort s c.args.chunk.1 x (carried c.args.self.now)) c.in-Pass.is p)

pub returns-in-Give-clause-law : goal.returns-in-Give-clause-law
returns-in-Give-clause-law c s p = give_stage c.args.self.now s c.args.chunk c.in-Give.made c.in-Give.count c.behind.result c.requires.cut c.requires.told c.requires.sort c.behind.ensures (subst (λ x. IsPlan c.args.self.now.sort s c.args.chunk.1 x (carried c.args.self.now)) c.in-Give.is p)

pub returns-in-End-clause-law : goal.returns-in-End-clause-law
returns-in-End-clause-law c s p =
    done_stage c.args.self.now s c.args.chunk c.in-End.count c.in-End.value c.behind-in-End.result c.requires.cut c.requires.told c.requires.keep c.requires.within c.requires.sort (subst (λ x. IsPlan c.args.self.now.sort s c.args.chunk.1 x (carried c.args.self.now)) c.in-End.is p)
    (subst (λ k. IsChunkOf k (drop c.in-End.count c.args.chunk.1) c.behind-in-End.result) c.requires.sort c.behind-in-End.ensures)
