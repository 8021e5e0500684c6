use Rattle.std.proofs.Common.{◌∙◌, sym}
use Rattle.cd_meaning.specs.Pipes.{exactly_is, exactly_e_is, zip_sink_is, zip_conduit_is}
use Rattle.cd_meaning.proofs.laws.equal_words.Goals as goal

pub returns-clause-sections : goal.returns-clause-sections
returns-clause-sections c = λ n p. exactly_e_is n p ∙ sym (exactly_is n p)

pub returns-clause-zips : goal.returns-clause-zips
returns-clause-zips c = λ p q. zip_conduit_is p q ∙ sym (zip_sink_is p q)
