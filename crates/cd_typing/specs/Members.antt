-- Parts of a sequence that are joined.
use Rattle.std.specs.Prelude.{◌≡◌, ◌&&◌}
use Rattle.cd_types.specs.Flows.{PartType as PartTypeOf, join}
use Rattle.cd_part_types.specs.declared.sequences.JoinedParts.{JoinedParts}
use Rattle.cd_part_types.specs.Results.{result_of}

-- these and one part more, which has this type
pub record JoinsOn (old : JoinedParts) (t : PartTypeOf) (new : JoinedParts) : Type 0 where
  pub to : new.to ≡ join old.to t.to
  pub result : result_of new.result ≡ t.result
  pub exact : new.exact ≡ (old.exact && t.exact)
  pub idle : new.idle ≡ (old.idle && t.idle)
