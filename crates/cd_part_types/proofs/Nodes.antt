-- What is said of a tree at each of its nodes.
use Rattle.cd_types.specs.Rows.Trees.{word_is, chain_is, sequence_is, exactly_is, exactly_e_is, line_e_is, mark_is, tee_is, zip_source_is, zip_sink_is, zip_conduit_is}

pub ruleset nodes = (word_is, chain_is, sequence_is, exactly_is, exactly_e_is, line_e_is, mark_is, tee_is, zip_source_is, zip_sink_is, zip_conduit_is)
