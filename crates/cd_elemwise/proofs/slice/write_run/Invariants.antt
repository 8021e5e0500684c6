use Rattle.std.proofs.Common.{◌≡◌, ◌+◌, ◌++◌, take, drop, replicate}
use Rattle.cd_elemwise.proofs.slice.write_run.Given as goal

abbrev pub invariant-loop-index : goal.invariant-loop-index
invariant-loop-index g l = l.places ≡ take l.start l.initial.places ++ (replicate l.index l.item ++ drop (l.start + l.index) l.initial.places)
