use Rattle.cd_typing.proofs.ScriptSteps.{Reading}
use Rattle.cd_typing.proofs.scripts.walk_over.Given as goal

abbrev pub invariant-loop-place : goal.invariant-loop-place
invariant-loop-place l = Reading l.statements l.place l.walk
