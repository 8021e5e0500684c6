use Rattle.std.proofs.Common.{◌≡◌, map, take}
use Rattle.cd_pieces.specs.Literals.{text_of}
use Rattle.cd_pieces.proofs.literal_pieces.text_pieces.Given as goal

abbrev pub invariant-loop-literal : goal.invariant-loop-literal
invariant-loop-literal l = l.pieces.items ≡ map text_of (take l.literal-index l.literals)
