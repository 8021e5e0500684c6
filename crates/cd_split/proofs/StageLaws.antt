-- Facts of every splitter.
use Rattle.std.proofs.Common.{◌≡◌, ◌+◌, refl}
use Rattle.cd_step.specs.Parts.{IsHeld, IsSound}
use Rattle.cd_split.proofs.CutterLaws.{cutter_sound, cutter_within}
use Rattle.cd_split.proofs.JoinerLaws.{joiner_sound, joiner_within}
use Rattle.cd_split.specs.Splitting.{seen_stage, stage_fits, stage_most, stage_one}
use Rattle.cd_split.specs.declared.stage.SplitStage.{SplitStage}
use Rattle.cd_split.specs.declared.stage.SplitStage.TheVariants.{Cut, Join}

pub stage_sound : (e : SplitStage) → IsSound (seen_stage e)
stage_sound (Cut e) = cutter_sound e
stage_sound (Join e) = joiner_sound e

pub well_held : (e : SplitStage) → stage_fits e → IsHeld (seen_stage e)
well_held (Cut e) h = cutter_within e h.1 h.2
well_held (Join e) h = joiner_within e h.2

pub stage_room : (e : SplitStage) → (seen_stage e).room ≡ stage_most e + stage_one e
stage_room (Cut e) = refl
stage_room (Join e) = refl
