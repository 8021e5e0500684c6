use Rattle.std.proofs.Common.{◌≡◌, length, map, take}
use Rattle.std.specs.Str.{chars}
use Rattle.cd_types.specs.WordTypes.{greatest}
use Rattle.cd_part_types.proofs.word_outputs.longest_chars.Given as goal

abbrev pub invariant-loop-literal : goal.invariant-loop-literal
invariant-loop-literal l = l.most ≡ greatest (map (λ s. length (chars s)) (take l.literal-index l.literals))
