use Rattle.std.proofs.Common.{◌≤◌, ◌-◌, length, take}
use Rattle.cd_slices.specs.Stages.{HasRoom, IsOpen, IsSame, Reads}
use Rattle.cd_slices.proofs.slicer.Slicer.run.Given as goal

abbrev pub invariant-loop-alloc : goal.invariant-loop-alloc
invariant-loop-alloc l =
    (l.at ≤ length l.bytes)
    × Reads l.fn.self (take l.at l.bytes) l.fn.out l.self l.out
    × IsSame l.fn.self l.self
    × IsOpen l.self
    × HasRoom l.self.tail.end l.out

abbrev pub decreases-loop-alloc : goal.decreases-loop-alloc
decreases-loop-alloc l = length l.bytes - l.at
