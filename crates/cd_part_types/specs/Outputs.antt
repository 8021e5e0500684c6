-- What a part gives, where its pieces are not too long.
use Rattle.std.specs.Prelude.{◌≡◌, ◌≤◌, Result, Ok, Err, Some, None}
use Rattle.cd_elem.specs.Limits.{piece_limit}
use Rattle.cd_types.specs.declared.refusal.RefusalKind.{RefusalKind}
use Rattle.cd_types.specs.Conditions.{Fails, lowest}
use Rattle.cd_types.specs.Flows.{Flow, piece_bound}

-- it gives this, with pieces within their limit
pub record IsWithin (to gives : Flow) : Type 0 where
  pub same : to ≡ gives
  pub bound : piece_bound gives ≤ piece_limit

-- it gives this, and none of these conditions fails
pub record IsPassed (gives : Flow) (fails : Fails) (to : Flow) : Type 0 where
  pub same : to ≡ gives
  pub passes : lowest fails ≡ None

-- it gives this where none of these conditions fails, and else the lowest that does is answered
abbrev pub GivesOrFails : Flow → Fails → Result Flow RefusalKind → Type 0
GivesOrFails gives fails (Ok to) = IsPassed gives fails to
GivesOrFails gives fails (Err kind) = lowest fails ≡ Some kind
