use Rattle.std.proofs.Common.{◌≡◌, drop}
use Rattle.cd_slices.specs.Slicing.{is_spent}
use Rattle.cd_slices.proofs.sieve.spent.Given as goal

abbrev pub invariant-loop-sieve : goal.invariant-loop-sieve
invariant-loop-sieve l = is_spent l.sieves ≡ is_spent (drop l.sieve-index l.sieves)
