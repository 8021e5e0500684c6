use Rattle.cd_script.specs.Answers.{AnswersTokens}
use Rattle.cd_script.proofs.ReaderSteps.{advances, refuses, handed_on, ends, gives}
use Rattle.cd_script.proofs.reader.parse_tokens.Goals as goal

pub returns-in_err-reader-clause-exact : goal.returns-in_err-reader-clause-exact
returns-in_err-reader-clause-exact c =
    handed_on (λ x. AnswersTokens c.args.lexemes.now c.args.whole c.args.end x) c.from_residual.result c.in_err-reader.field-0.0 c.from_residual.ensures.1
    (refuses c.args.lexemes.now c.loop-count.count c.index-lexemes-count.result c.loop-count-test.true c.index-lexemes-count.is
    c.loop-count.reader c.loop-count.invariant.behind c.args.whole c.args.end c.in_err-reader.field-0.0 c.in_err-reader.ensures.reads)

pub returns-in_err-reader-clause-only : goal.returns-in_err-reader-clause-only
returns-in_err-reader-clause-only c = gives c.args.lexemes.now c.args.whole c.args.end c.from_residual.result (returns-in_err-reader-clause-exact c)

pub loop-count-preserved : goal.loop-count-preserved
loop-count-preserved c = record {
  behind = advances c.args.lexemes.now c.loop-count.count c.index-lexemes-count.result c.loop-count-test.true c.index-lexemes-count.is
      c.loop-count.reader c.loop-count.invariant.behind c.in_ok-reader.reader c.in_ok-reader.ensures.reads;
  few = c.in_ok-reader.ensures.opened;
}

pub returns-clause-exact : goal.returns-clause-exact
returns-clause-exact c = ends c.args.lexemes.now c.loop-count.count c.loop-count.reader c.args.whole c.args.end c.finish.result
    c.loop-count-test.false c.loop-count.auto.count-end c.loop-count.invariant.behind c.finish.ensures

pub returns-clause-only : goal.returns-clause-only
returns-clause-only c = gives c.args.lexemes.now c.args.whole c.args.end c.finish.result (returns-clause-exact c)
