-- A word with a site opens one file at most.
use Rattle.std.proofs.Common.{◌≡◌, ◌≤◌, ℕ, List, [], ◌∷◌, map, refl, sym, subst, arith}
use Rattle.cd_meaning.specs.Opens.{openings_in}
use Rattle.cd_meaning.specs.Run.{Stamp, start, Run, effects, outs_at}
use Rattle.cd_meaning.specs.RunShapes.{Mark, AtEnd, MayGoOn, Broken, TooLong, Told}
use Rattle.cd_meaning.specs.Sources.{source_end}
use Rattle.cd_meaning.specs.Stream.{Elem, Ended, Item}
use Rattle.cd_node.specs.Ports.{closing_acts}
use Rattle.cd_node.specs.Sinks.{sink_rest}
use Rattle.cd_node.specs.Sources.{open_run, source_run}
use Rattle.cd_node.specs.declared.port.Medium.{Medium}
use Rattle.cd_node.specs.declared.port.Medium.TheVariants.{File, Standard}
use Rattle.cd_node.specs.declared.sink.SinkStand.{SinkStand}
use Rattle.cd_node.specs.declared.sink.SinkStand.TheVariants as sinks
use Rattle.cd_node.specs.declared.source.SourceStand.{SourceStand}
use Rattle.cd_node.specs.declared.source.SourceStand.TheVariants as sources
use Rattle.cd_run.specs.Statements.{OpensAtMost}
use Rattle.test_callers.specs.declared.leaf_runs.Leaf.{Leaf}
use Rattle.test_callers.specs.declared.leaf_runs.Leaf.TheVariants as leaf
use Rattle.test_callers.specs.Leaves.{seen_leaf}

outs_effects : (s : Stamp) (xs : List Item) (r : Run) → effects (outs_at s xs r) ≡ effects r
outs_effects s [] r = refl
outs_effects s (x ∷ xs) r = outs_effects s xs r

end_opens : (m : Medium) (s : ℕ) (mark : Mark) → openings_in (effects (source_end s (closing_acts m s) mark)) ≡ 0
end_opens File s AtEnd = refl
end_opens Standard s AtEnd = refl
end_opens m s MayGoOn = refl
end_opens m s Broken = refl
end_opens m s TooLong = refl

open_opens : (m : Medium) (s : ℕ) (t : Told) → openings_in (effects (open_run m s t)) ≡ 0
open_opens m s t = subst (λ l. openings_in l ≡ 0) (sym (outs_effects start (map Elem t.bytes) (source_end s (closing_acts m s) t.mark))) (end_opens m s t.mark)

source_opens : (m : Medium) (stand : SourceStand) (s : ℕ) (t : Told) → openings_in (effects (source_run m stand s t)) ≤ 1
source_opens File sources.Fresh s t = let e = open_opens File s t in omega (arith, e)
source_opens Standard sources.Fresh s t = let e = open_opens Standard s t in omega (arith, e)
source_opens m sources.Opening s t = let e = open_opens m s t in omega (arith, e)
source_opens m sources.Reading s t = let e = open_opens m s t in omega (arith, e)
source_opens m sources.Gave s t = let e = open_opens m s t in omega (arith, e)
source_opens m sources.Closing s t = omega arith
source_opens m sources.Over s t = omega arith

sink_opens : (m : Medium) (stand : SinkStand) (s : ℕ) → openings_in (effects ((sink_rest m stand s).run [] Ended)) ≤ 1
sink_opens File sinks.Fresh s = omega arith
sink_opens Standard sinks.Fresh s = omega arith
sink_opens File sinks.Opening s = omega arith
sink_opens Standard sinks.Opening s = omega arith
sink_opens File sinks.Waiting s = omega arith
sink_opens Standard sinks.Waiting s = omega arith
sink_opens File sinks.Writing s = omega arith
sink_opens Standard sinks.Writing s = omega arith
sink_opens m sinks.Closing s = omega arith
sink_opens m sinks.Over s = omega arith

pub leaf_opens : (l : Leaf) → OpensAtMost (seen_leaf l) 1
leaf_opens (leaf.Source l) z = source_opens l.port.medium l.stand l.port.site.0 (z l.port.site.0)
leaf_opens (leaf.Sink l) z = sink_opens l.port.medium l.stand l.port.site.0
