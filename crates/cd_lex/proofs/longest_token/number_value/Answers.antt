use Rattle.std.proofs.Common.{arith, ◌∙◌}
use Rattle.cd_lex.proofs.Digits.{overflows}
use Rattle.cd_lex.proofs.longest_token.number_value.Goals as goal

pub returns-in_err-checked_mul : goal.returns-in_err-checked_mul
returns-in_err-checked_mul c =
    c.from_residual.ensures
    ∙ overflows c.args.digits.now c.loop-byte.byte-index c.loop-byte.value c.loop-byte-test.true c.loop-byte.invariant.value (omega (arith, c.in_err-checked_mul.ensures))

pub returns-in_err-value : goal.returns-in_err-value
returns-in_err-value c =
    c.from_residual-in_err-value.ensures
    ∙ overflows c.args.digits.now c.loop-byte.byte-index c.loop-byte.value c.loop-byte-test.true c.loop-byte.invariant.value
    (omega (arith, c.in_err-value.ensures, c.in_ok-checked_mul.ensures, c.saturating_sub.ensures, c.from-digit.ensures))
