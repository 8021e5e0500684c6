use Rattle.test_callers.specs.Placed.{are_placed}
use Rattle.test_callers.proofs.pairs.Pair.play.Given as goal

abbrev pub invariant-loop : goal.invariant-loop
invariant-loop g l = are_placed l.self
