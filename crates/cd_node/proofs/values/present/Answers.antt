use Rattle.std.proofs.Common.{ap, ◌∙◌}
use Rattle.cd_meaning.specs.Stream.{present}
use Rattle.cd_meaning.specs.Values.{value_meaning, some_is}
use Rattle.cd_node.proofs.values.present.Goals as goal

pub returns-in-Ok : goal.returns-in-Ok
returns-in-Ok c = some_is c.in-Ok.there ∙ ap (λ v. present (value_meaning v)) c.in-Ok.ensures
