use Rattle.cd_types.proofs.Fitting.{word_passes, chain_fits, mark_fits, sequence_fits}
use Rattle.cd_types.proofs.RunStatements.{run_fits}
use Rattle.cd_types.proofs.laws.parts_fit.Goals as goal

pub returns-clause-words : goal.returns-clause-words
returns-clause-words c = word_passes

pub returns-clause-chains : goal.returns-clause-chains
returns-clause-chains c = chain_fits

pub returns-clause-sequences : goal.returns-clause-sequences
returns-clause-sequences c = sequence_fits

pub returns-clause-marks : goal.returns-clause-marks
returns-clause-marks c = mark_fits

pub returns-clause-runs : goal.returns-clause-runs
returns-clause-runs c = run_fits
