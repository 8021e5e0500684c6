use Rattle.std.proofs.Common.{length, sym, arith}
use Rattle.std.specs.Char.{is_ascii_digit}
use Rattle.std.proofs.lemmas.List.Sums.{prefix_len_is}
use Rattle.cd_lex.proofs.longest_token.count_digits.Goals as goal

pub returns-clause-value : goal.returns-clause-value
returns-clause-value c = sym (prefix_len_is is_ascii_digit c.args.text.now (length c.args.text.now) 0 (omega arith) (λ k h. c.loop-place.invariant k (omega (arith, h, c.loop-place-test.false))) (λ h. absurd (omega (arith, h))))
