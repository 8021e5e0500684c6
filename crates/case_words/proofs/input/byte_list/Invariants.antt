use Rattle.std.proofs.Common.{◌≡◌, length}
use Rattle.case_words.proofs.input.byte_list.Given as goal

abbrev pub invariant-loop-number : goal.invariant-loop-number
invariant-loop-number l = length l.list ≡ l.number-index
