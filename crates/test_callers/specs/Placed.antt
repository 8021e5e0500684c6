-- Stages on bytes that stand where their last move left them.
use Rattle.std.specs.Prelude.{◌≡◌, Some}
use Rattle.cd_elem.specs.declared.kind.Kind.TheVariants.{Bytes}
use Rattle.cd_step.specs.Parts.{part_at}
use Rattle.cd_elemwise.specs.Stages.{seen_stage, stage_fits}
use Rattle.test_callers.specs.declared.pairs.Pair.{Pair}
use Rattle.test_callers.specs.declared.pairs.Placed.{Placed}

abbrev pub is_placed : Placed → Type 0
is_placed p = stage_fits p.stage × ((seen_stage p.stage).at ≡ part_at p.stand) × ((seen_stage p.stage).takes ≡ Some Bytes)

abbrev pub are_placed : Pair → Type 0
are_placed pair = is_placed pair.upper × is_placed pair.lower
