use Rattle.std.proofs.Common.{◌≡◌, ◌++◌, take, drop}
use Rattle.cd_slices.specs.Slicing.{left_of, sieved}
use Rattle.cd_slices.proofs.sieve.sift.Given as goal

abbrev pub invariant-loop-sieve : goal.invariant-loop-sieve
invariant-loop-sieve l =
    (sieved l.fn.sieves l.piece ≡ sieved (drop l.sieve-index l.sieves) l.piece)
    × (left_of l.fn.sieves l.piece ≡ take l.sieve-index l.sieves ++ left_of (drop l.sieve-index l.sieves) l.piece)
