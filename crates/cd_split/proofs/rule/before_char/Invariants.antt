use Rattle.std.proofs.Common.{◌≡◌, ◌+◌, ◌==◌, drop}
use Rattle.std.specs.List.{position_or_len}
use Rattle.cd_split.proofs.rule.before_char.Given as goal

abbrev pub invariant-loop-place : goal.invariant-loop-place
invariant-loop-place l = l.place + position_or_len (λ x. x == l.fn.character) (drop l.place l.chars) ≡ position_or_len (λ x. x == l.fn.character) l.chars
