use Rattle.std.proofs.Common.{◌∙◌, subst}
use Rattle.cd_typing.specs.Checking.{Walks}
use Rattle.cd_typing.proofs.ScriptSteps.{refused_as, typed_as, given_up}
use Rattle.cd_typing.proofs.scripts.check.Goals as goal

pub returns-in-Ok-clause-checks : goal.returns-in-Ok-clause-checks
returns-in-Ok-clause-checks c =
    typed_as c.judging.ensures.passed c.judging.ensures.reaches c.args.script c.in-Ok.walk c.typed.result (subst (λ ss. Walks ss c.in-Ok.walk) (c.as_slice.ensures ∙ c.statements.ensures) c.in-Ok.ensures)
    c.typed.ensures

pub returns-in-Ok-clause-lawful : goal.returns-in-Ok-clause-lawful
returns-in-Ok-clause-lawful c =
    let w : Walks c.args.script c.in-Ok.walk = subst (λ ss. Walks ss c.in-Ok.walk) (c.as_slice.ensures ∙ c.statements.ensures) c.in-Ok.ensures in
    c.typed_scripts.ensures.lawful c.args.script (c.judging.ensures.passed c.args.script _ w.passed)

pub returns-in-Ok-clause-scoped : goal.returns-in-Ok-clause-scoped
returns-in-Ok-clause-scoped c =
    let w : Walks c.args.script c.in-Ok.walk = subst (λ ss. Walks ss c.in-Ok.walk) (c.as_slice.ensures ∙ c.statements.ensures) c.in-Ok.ensures in
    c.typed_scripts.ensures.scoped c.args.script (c.judging.ensures.passed c.args.script _ w.passed)

pub returns-in-Ok-clause-apart : goal.returns-in-Ok-clause-apart
returns-in-Ok-clause-apart c =
    let w : Walks c.args.script c.in-Ok.walk = subst (λ ss. Walks ss c.in-Ok.walk) (c.as_slice.ensures ∙ c.statements.ensures) c.in-Ok.ensures in
    c.typed_scripts.ensures.apart c.args.script (c.judging.ensures.passed c.args.script _ w.passed)

pub returns-in-Err-clause-checks : goal.returns-in-Err-clause-checks
returns-in-Err-clause-checks c = refused_as c.judging.ensures.refused c.args.script c.in-Err.refusal (given_up c.as_slice.result.now c.args.script _ (c.as_slice.ensures ∙ c.statements.ensures) c.in-Err.ensures)
