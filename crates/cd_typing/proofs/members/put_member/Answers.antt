use Rattle.cd_typing.proofs.Steps.{moves-memory}
use Rattle.cd_typing.proofs.members.put_member.Goals as goal

pub returns-in_err-put_type-in-Ok-clause-moves : goal.returns-in_err-put_type-in-Ok-clause-moves
returns-in_err-put_type-in-Ok-clause-moves c = λ fails at e. moves-memory at at _ c.from_residual.result c.from_residual.ensures.1
