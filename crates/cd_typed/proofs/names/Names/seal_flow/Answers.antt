use Rattle.std.proofs.Common.{sym, ◌∙◌}
use Rattle.cd_typed.proofs.KnownNames.{found_seal_flow, absent_seal, flow_unknown}
use Rattle.cd_typed.proofs.names.Names.seal_flow.Goals as goal

pub returns-in-Some : goal.returns-in-Some
returns-in-Some c before known = found_seal_flow before c.args.name.now c.in-Some.seal.now (sym (c.in-Some.ensures.value ∙ known.seals c.args.name.now))

pub returns-in-None : goal.returns-in-None
returns-in-None c before known = sym (flow_unknown before c.args.name.now (absent_seal before c.args.name.now (sym (c.in-None.ensures.value ∙ known.seals c.args.name.now))))
