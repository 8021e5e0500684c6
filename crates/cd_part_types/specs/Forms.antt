-- What `zipSource` gives of parts that give this.
use Rattle.std.specs.Prelude.{ℕ, ◌+◌, List}
use Rattle.cd_types.specs.Flows.{Flow, piece_bound, with_bound}
use Rattle.cd_types.specs.WordTypes.{length_in}

abbrev pub zipped_flow : Flow → Flow → List ℕ → Flow
zipped_flow f g literal = with_bound f (piece_bound f + piece_bound g + length_in f literal)
