use Rattle.cd_cli.proofs.ReportSteps.{called_and_told, sent_and_told, success_unfailed}
use Rattle.cd_cli.proofs.command.conduit_main.Goals as goal

pub returns-clause-origin : goal.returns-clause-origin
returns-clause-origin g c = record {
  middle = g.W.World.faults c.answer_words-cause.new.world;
  origin = c.answer_words-cause.ensures.origin;
  reported = c.report-said.ensures.count;
  silent = c.report-said.ensures.silent;
  none_failed = success_unfailed _ _ _ _ _ c.answer_words-cause.ensures.origin c.report-said.ensures.count c.report-said.ensures.silent;
}

pub returns-clause-files : goal.returns-clause-files
returns-clause-files g c = λ tells shows. sent_and_told _ _ _ _ _ _ (c.answer_words-cause.ensures.files tells shows) (c.report-said.ensures.files tells)

pub returns-clause-complete : goal.returns-clause-complete
returns-clause-complete g c = λ tells. (g.W.World.faults c.answer_words-cause.new.world, c.report-said.ensures.count, c.answer_words-cause.ensures.complete tells)

pub returns-clause-log : goal.returns-clause-log
returns-clause-log g c = λ tells. called_and_told _ _ _ _ _ _ (c.answer_words-cause.ensures.log tells) (c.report-said.ensures.log tells)
