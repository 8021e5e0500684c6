use Rattle.std.proofs.Common.{◌≡◌, map, take}
use Rattle.cd_build.proofs.SlicedChains.{sieve_pipes}
use Rattle.cd_build.proofs.slices.sieves_of.Given as goal

abbrev pub invariant-loop-member : goal.invariant-loop-member
invariant-loop-member l = take l.member-index l.members ≡ sieve_pipes l.sieves.items
