use Rattle.std.proofs.Common.{arith, drop, ◌+◌}
use Rattle.cd_lex.proofs.Nexts.{next, unglued_digit, unglued_zero}
use Rattle.cd_lex.proofs.TextFronts.{quoted_from}
use Rattle.cd_lex.proofs.lexing.next_lexeme.Goals as goal
use Rattle.cd_lex.proofs.lexing.next_lexeme.Goals.{else-zero-via-then-zero+else-begins_digit, else-zero-via-else-zero}

pub returns-in-Some : goal.returns-in-Some
returns-in-Some c =
    next c.args.text.now c.args.at c.gap_length.result c.args.zero c.in-Some.token c.in-Some.size c.gap_length.ensures.value
    (elim c.else-zero.branch [
      | else-zero-via-then-zero+else-begins_digit w ↦ unglued_digit c.args.zero c.args.text.now c.args.at w.if-begins_digit.ensures
      | else-zero-via-else-zero w ↦ unglued_zero c.args.zero (drop c.args.at c.args.text.now) w.if-zero.false
    ])
    (rw c.in-Some.is at c.in_ok-longest_token.ensures)
    (omega (arith, c.gap_length.ensures.within))

pub longest_token-requires : goal.longest_token-requires
longest_token-requires c = quoted_from c.args.text.now (c.args.at + c.gap_length.result) (omega (arith, c.gap_length.ensures.within)) c.requires.utf8
