-- What is seen of a word without sites, and what holds of it between two steps, whichever crate it is from.
use Rattle.std.specs.Prelude.{ℕ}
use Rattle.cd_step.specs.Parts.{Part}
use Rattle.cd_elemwise.specs.Stages as elements
use Rattle.cd_pieces.specs.Stages as pieces
use Rattle.cd_pieces.specs.LiteralStages as literals
use Rattle.cd_slices.specs.Stages as slices
use Rattle.cd_split.specs.Splitting as splits
use Rattle.cd_node.specs.declared.word.WordStage.{WordStage}
use Rattle.cd_node.specs.declared.word.WordStage.TheVariants.{Elem, Piece, Literal, Split, Slices}

abbrev pub seen_word : WordStage → Part
seen_word (Elem e) = elements.seen_stage e
seen_word (Piece e) = pieces.seen_stage e
seen_word (Literal e) = literals.seen_literal e
seen_word (Split e) = splits.seen_stage e
seen_word (Slices e) = slices.seen_slices e

abbrev pub word_fits : WordStage → Type 0
word_fits (Elem e) = elements.stage_fits e
word_fits (Piece e) = pieces.stage_fits e
word_fits (Literal e) = literals.literal_fits e
word_fits (Split e) = splits.stage_fits e
word_fits (Slices e) = slices.slices_fit e

-- the bound of the word, and what one chunk of its input counts at most
abbrev pub word_most : WordStage → ℕ
word_most (Elem e) = elements.stage_most e
word_most (Piece e) = pieces.stage_most e
word_most (Literal e) = literals.literal_most e
word_most (Split e) = splits.stage_most e
word_most (Slices e) = slices.slices_most e

abbrev pub word_one : WordStage → ℕ
word_one (Elem e) = elements.stage_one e
word_one (Piece e) = pieces.stage_one e
word_one (Literal e) = literals.literal_one e
word_one (Split e) = splits.stage_one e
word_one (Slices e) = slices.slices_one e
