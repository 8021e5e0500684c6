use Rattle.std.proofs.Common.{ap, ◌∙◌, ◌+◌, length}
use Rattle.cd_meaning.specs.Pipes.{pipe_meaning, zip_sink_is}
use Rattle.cd_meaning.proofs.Lawful.Trees.{tree_is_lawful}
use Rattle.cd_meaning.proofs.Zips.Plain.{merge_is_plain, zip_is_plain}
use Rattle.cd_meaning.proofs.Runs.PlainSplitters.{split_is_plain, exact_is_plain, chunks_of_is_plain}
use Rattle.cd_meaning.proofs.laws.plain_forms.Goals as goal

pub returns-clause-split : goal.returns-clause-split
returns-clause-split c = split_is_plain

pub returns-clause-exact : goal.returns-clause-exact
returns-clause-exact c = exact_is_plain

pub returns-clause-chunks_of : goal.returns-clause-chunks_of
returns-clause-chunks_of c = chunks_of_is_plain

pub returns-clause-merges : goal.returns-clause-merges
returns-clause-merges c = merge_is_plain

pub returns-clause-zips : goal.returns-clause-zips
returns-clause-zips c = λ p q kp kq flow site seen xs e.
    ap (λ m. m.run flow site seen xs e) (zip_sink_is p q)
    ∙ zip_is_plain _ _ ((tree_is_lawful p kp).runs flow site seen) ((tree_is_lawful q kq).runs flow (site + length (pipe_meaning p).places) seen) xs e
