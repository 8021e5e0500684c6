use Rattle.std.proofs.Common.{◌≡◌, length, map, take}
use Rattle.cd_types.specs.WordTypes.{greatest}
use Rattle.cd_part_types.proofs.word_outputs.longest_bytes.Given as goal

abbrev pub invariant-loop-literal : goal.invariant-loop-literal
invariant-loop-literal l = l.most ≡ greatest (map length (take l.literal-index l.literals))
