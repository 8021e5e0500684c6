use Rattle.std.proofs.Common.{◌≡◌, length, map, take}
use Rattle.cd_pieces.specs.Literals.{greatest}
use Rattle.cd_pieces.proofs.literal_pieces.longest.Given as goal

abbrev pub invariant-loop-piece : goal.invariant-loop-piece
invariant-loop-piece l = l.most ≡ greatest (map (λ c. length c.1) (take l.piece-index l.pieces))
