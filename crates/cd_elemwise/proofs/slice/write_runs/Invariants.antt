use Rattle.std.proofs.Common.{◌≡◌, ◌*◌, ◌++◌, take, drop, replicate}
use Rattle.std.specs.List.{flat_map}
use Rattle.cd_elemwise.proofs.slice.write_runs.Given as goal

abbrev pub invariant-loop-index : goal.invariant-loop-index
invariant-loop-index g l = l.places ≡ flat_map (λ x. replicate l.fn.times x) (take l.index l.items) ++ drop (l.index * l.fn.times) l.initial.places
