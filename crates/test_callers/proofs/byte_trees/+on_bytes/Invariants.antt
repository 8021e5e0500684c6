use Rattle.test_callers.specs.Trees.{IsByteNode}
use Rattle.test_callers.proofs.byte_trees.+on_bytes.Given as goal

abbrev pub invariant-row_on_bytes-loop-pipe : goal.invariant-row_on_bytes-loop-pipe
invariant-row_on_bytes-loop-pipe l = IsByteNode l.whole
