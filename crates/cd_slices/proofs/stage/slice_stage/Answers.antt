use Rattle.std.proofs.Common.{◌∙◌, ap, sym, false, true, []}
use Rattle.cd_meaning.proofs.Moves.Own.{scan_fresh}
use Rattle.cd_meaning.specs.Scan.{scan}
use Rattle.cd_slices.specs.Slicing.{sink_of, slice_scan, standing}
use Rattle.cd_slices.specs.Stages.{cut_rule}
use Rattle.cd_slices.proofs.Words.{chain_is_scan}
use Rattle.cd_slices.proofs.stage.slice_stage.Goals as goal

pub returns-clause-means : goal.returns-clause-means
returns-clause-means c z site seen xs e =
    let ws = c.args.sieves.items in
    let k = c.args.end in
    scan_fresh (slice_scan (cut_rule c.rule_of.result)) ((true, c.new.result), standing ws false (sink_of k)) xs e
    ∙ ap (λ l. scan (slice_scan (cut_rule c.rule_of.result)) 0 ((true, l), standing ws false (sink_of k)) xs e) c.new.ensures
    ∙ ap (λ r. scan (slice_scan r) 0 ((true, []), standing ws false (sink_of k)) xs e) c.rule_of.ensures
    ∙ sym (chain_is_scan c.args.word c.requires.cutter k c.requires.first ws site seen xs e)
