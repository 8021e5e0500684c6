use Rattle.bench.proofs.trees.+passes.Given as goal

abbrev pub decreases-passes : goal.decreases-passes
decreases-passes l = l.members
