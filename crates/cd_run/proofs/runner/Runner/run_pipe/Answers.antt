use Rattle.cd_run.proofs.Runners.{runs_within}
use Rattle.cd_run.proofs.runner.Runner.run_pipe.Goals as goal

pub run_pipe-requires-clause-runs : goal.run_pipe-requires-clause-runs
run_pipe-requires-clause-runs g c = runs_within c.args.self.now c.args.statement c.deref_mut.result.now c.deref_mut.ensures.value c.requires.runs

pub returns-clause-stays : goal.returns-clause-stays
returns-clause-stays g c = λ script p ready e h other has. c.run_pipe.ensures.stays script p ready.typed e h other has
