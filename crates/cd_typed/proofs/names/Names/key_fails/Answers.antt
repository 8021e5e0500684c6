use Rattle.std.proofs.Common.{sym, ◌∙◌}
use Rattle.cd_typed.proofs.KnownNames.{found_key_fails, absent_key_fails}
use Rattle.cd_typed.proofs.names.Names.key_fails.Goals as goal

pub returns-in-Some : goal.returns-in-Some
returns-in-Some c before known = found_key_fails before c.args.name.now c.in-Some.key.now (sym (c.in-Some.ensures.value ∙ known.keys c.args.name.now))

pub returns-in-None : goal.returns-in-None
returns-in-None c before known = absent_key_fails before c.args.name.now (sym (c.in-None.ensures.value ∙ known.keys c.args.name.now))
