use Rattle.std.proofs.Common.{ap, ◌∙◌, is_some}
use Rattle.cd_typed.proofs.KnownNames.{is_known_seal}
use Rattle.cd_typed.proofs.names.Names.is_seal.Goals as goal

pub returns : goal.returns
returns c before known = c.contains_key.ensures ∙ ap is_some (known.seals c.args.name.now) ∙ is_known_seal before c.args.name.now
