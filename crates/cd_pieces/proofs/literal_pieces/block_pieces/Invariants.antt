use Rattle.std.proofs.Common.{◌≡◌, map, take}
use Rattle.cd_pieces.specs.Literals.{block_of}
use Rattle.cd_pieces.proofs.literal_pieces.block_pieces.Given as goal

abbrev pub invariant-loop-literal : goal.invariant-loop-literal
invariant-loop-literal l = l.pieces.items ≡ map block_of (take l.literal-index l.literals)
