use Rattle.std.proofs.Common.{◌≡◌, ◌⊎◌, inr, arith, subst, sym}
use Rattle.std.specs.Str.{IsValidUpTo}
use Rattle.cd_report.specs.declared.cause.Cause.{Cause}
use Rattle.cd_report.specs.declared.cause.Cause.TheVariants.{NoMemory}
use Rattle.cd_cli.specs.Judge.{HasNone}
use Rattle.cd_cli.proofs.JudgeSteps.{long_has_none, broken_has_none, read_has_tree, read_has_none}
use Rattle.cd_cli.proofs.judge.judge.Goals as goal

pub returns-then-text-gt-TEXT_LIMIT-clause-judged : goal.returns-then-text-gt-TEXT_LIMIT-clause-judged
returns-then-text-gt-TEXT_LIMIT-clause-judged c = inr (long_has_none c.args.text.now c.if-text-gt-TEXT_LIMIT.true)

pub returns-in-Ok-parse-clause-judged : goal.returns-in-Ok-parse-clause-judged
returns-in-Ok-parse-clause-judged c =
    read_has_tree c.args.text.now c.in-Ok.text.now c.in-Ok.ensures.cases.0 (omega arith) c.in-Ok.ensures.cases.1 c.in-Ok-parse.script c.in-Ok-parse.ensures.exact c.in-Ok-parse.ensures.only

pub returns-in-Err-parse-clause-judged : goal.returns-in-Err-parse-clause-judged
returns-in-Err-parse-clause-judged c =
    subst (λ (cause : Cause). (cause ≡ NoMemory) ⊎ HasNone c.args.text.now cause) (sym c.refusal_cause.ensures)
    (read_has_none c.args.text.now c.in-Ok.text.now c.in-Ok.ensures.cases.0 (omega arith) c.in-Ok.ensures.cases.1 c.in-Err-parse.refusal c.in-Err-parse.ensures.exact c.in-Err-parse.ensures.only)

pub returns-in-Err-clause-judged : goal.returns-in-Err-clause-judged
returns-in-Err-clause-judged c =
    inr (broken_has_none c.args.text.now c.valid_up_to.result (omega arith) c.in-Err.ensures.cases.0
    (subst (IsValidUpTo c.args.text.now) (sym c.valid_up_to.ensures) c.in-Err.ensures.cases.1))
