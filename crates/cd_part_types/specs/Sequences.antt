-- What the parts of a sequence have together.
use Rattle.std.specs.Prelude.{◌≡◌, List, None}
use Rattle.cd_types.specs.Flows.{Flow, Unit}
use Rattle.cd_types.specs.Parts.{Part}
use Rattle.cd_types.specs.Sequences.{all_exact, all_idle, joined_from, last_result}
use Rattle.cd_part_types.specs.declared.sequences.JoinedParts.{JoinedParts}
use Rattle.cd_part_types.specs.Results.{result_of}

-- these parts, for what comes to the sequence
pub record IsJoined (flow : Flow) (parts : List Part) (joined : JoinedParts) : Type 0 where
  pub gives : joined_from None flow parts ≡ joined.to
  pub results : last_result Unit flow parts ≡ result_of joined.result
  pub exactness : all_exact flow parts ≡ joined.exact
  pub idleness : all_idle flow parts ≡ joined.idle
