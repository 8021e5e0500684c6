use Rattle.std.proofs.Common.{◌≡◌, ◌++◌, length, map}
use Rattle.std.specs.List.{flat_map}
use Rattle.cd_elem.specs.declared.kind.Kind.TheVariants.{Chars}
use Rattle.cd_meaning.specs.Stream.{Elem}
use Rattle.cd_step.specs.Parts.{items}
use Rattle.cd_pieces.specs.Literals.{AreChunks}
use Rattle.cd_pieces.proofs.literal_pieces.chunks_of.Given as goal

abbrev pub invariant-loop-rest : goal.invariant-loop-rest
invariant-loop-rest l = (flat_map items l.chunks.items ++ map Elem l.rest ≡ map Elem l.fn.list) × AreChunks Chars l.chunks.items

abbrev pub decreases-loop-rest : goal.decreases-loop-rest
decreases-loop-rest l = length l.rest
