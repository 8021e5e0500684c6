use Rattle.std.proofs.Common.{◌≡◌, ℕ, ◌<◌, length, get_or, false}
use Rattle.cd_meaning.specs.Classes.{is_in_class}
use Rattle.cd_elemwise.proofs.class_table.answers_of.Given as goal

abbrev pub invariant-loop-number : goal.invariant-loop-number
invariant-loop-number l = ((k : ℕ) → k < l.number → get_or l.answers k false ≡ is_in_class l.class k) × (length l.answers ≡ 256)
