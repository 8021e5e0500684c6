-- What is said of a tree, as a fold of it.
use Rattle.cd_elem.specs.declared.script.Pipe.{Pipe}
use Rattle.cd_elem.specs.declared.script.Pipe.TheOpen.{Pipe-F}
use Rattle.cd_elem.specs.declared.script.Pipe.TheFolds.{fold-Pipe}
use Rattle.cd_types.specs.Parts.{Part, word_part}
use Rattle.cd_types.specs.Sequences.{sequence_part}
use Rattle.cd_types.specs.Chains.{chain_part}
use Rattle.cd_types.specs.Forms.{element_section, piece_section, mark_part, tee_part, zip_source_part, zip_sink_part, zip_conduit_part}

abbrev pub part_step : Pipe-F Part → Part
part_step (Pipe-F.Word w) = word_part w
part_step (Pipe-F.Chain j parts) = chain_part j parts
part_step (Pipe-F.Sequence parts) = sequence_part parts
part_step (Pipe-F.Exactly n a) = piece_section a
part_step (Pipe-F.ExactlyE n a) = element_section a
part_step (Pipe-F.LineE a) = element_section a
part_step (Pipe-F.Mark name a) = mark_part name a
part_step (Pipe-F.Tee a) = tee_part a
part_step (Pipe-F.ZipSource a b literal) = zip_source_part a b literal
part_step (Pipe-F.ZipSink a b) = zip_sink_part a b
part_step (Pipe-F.ZipConduit a b) = zip_conduit_part a b

unfoldable pub part : Pipe → Part
part p = fold-Pipe Part part_step p
