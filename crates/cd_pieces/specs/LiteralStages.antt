-- What is seen of a literal source, and what holds of it between two steps.
use Rattle.std.specs.Prelude.{◌≡◌, ◌≢◌, ℕ, ◌+◌, ◌-◌, ◌≤◌, true, List, [], ◌++◌, length, map, replicate, decimal, Option, Some, None}
use Rattle.std.specs.List.{flat_map}
use Rattle.std.specs.Range.{range_inclusive_left, range_inclusive_start}
use Rattle.std.specs.Vec.Iter.{into_iter_items}
use Rattle.std.specs.declared.ops.RangeInclusive.{RangeInclusive}
use Rattle.cd_elem.specs.Limits.{piece_limit}
use Rattle.cd_elem.specs.declared.kind.Kind.{Kind}
use Rattle.cd_elem.specs.declared.kind.Kind.TheVariants.{Blocks}
use Rattle.cd_meaning.specs.Stream.{Item, Piece}
use Rattle.cd_meaning.specs.Rest.{Grade, fresh}
use Rattle.cd_meaning.specs.Sources.{count_from, given}
use Rattle.cd_step.specs.declared.protocol.Stand.TheVariants.{Wait}
use Rattle.cd_step.specs.Parts.{Chunk, Part, IsChunk, chunk_at, items, part_at}
use Rattle.cd_step.specs.Reading.{part_of}
use Rattle.cd_pieces.specs.Literals.{AreChunks, digit_limit}
use Rattle.cd_pieces.specs.declared.literals.LiteralStage.{LiteralStage}
use Rattle.cd_pieces.specs.declared.literals.Remaining.{Remaining}
use Rattle.cd_pieces.specs.declared.literals.Remaining.TheVariants.{Chunks, Copies, Numbers}

-- the numbers that are still to come
abbrev pub numbers_left : RangeInclusive ℕ → List ℕ
numbers_left r = count_from (range_inclusive_start r) (range_inclusive_left (λ x y. y - x) r)

abbrev pub copy_items : ℕ → List ℕ → List Item
copy_items n piece = replicate n (Piece piece)

abbrev pub number_items : RangeInclusive ℕ → List Item
number_items r = map (λ n. Piece (decimal n)) (numbers_left r)

-- the values that are still to be given
abbrev pub remaining_items : Remaining → List Item
remaining_items (Chunks chunks) = flat_map items (into_iter_items chunks)
remaining_items (Copies n piece) = copy_items n piece
remaining_items (Numbers numbers) = number_items numbers

-- of these values a chunk of this kind is given and those are left, or there are none
abbrev pub Gives : Kind → List Item → Option Chunk → List Item → Type 0
Gives k xs None ys = xs ≡ []
Gives k xs (Some c) ys = IsChunk k c × (xs ≡ items c ++ ys)

-- what is given is of this kind
abbrev pub RemainingFits : Kind → Remaining → Type 0
RemainingFits k (Chunks chunks) = AreChunks k (into_iter_items chunks)
RemainingFits k (Copies n piece) = (k ≡ Blocks (length piece)) × (length piece ≤ piece_limit)
RemainingFits k (Numbers numbers) = k ≡ Blocks digit_limit

-- it never waits for an input
abbrev pub literal_fits : LiteralStage → Type 0
literal_fits e = (e.stand ≢ Wait) × RemainingFits e.kind e.remaining

-- it takes nothing, so that the nets of its acts are all 0
abbrev pub literal_grade : Grade
literal_grade = record { pieces = true; exact = true }

-- what stands in the script is not counted
abbrev pub literal_most : LiteralStage → ℕ
literal_most e = 0

abbrev pub literal_one : LiteralStage → ℕ
literal_one e = chunk_at e.kind

abbrev pub seen_literal : LiteralStage → Part
seen_literal e = part_of (part_at e.stand) literal_grade (Some e.kind) None (literal_most e + literal_one e) 0 (fresh (given (remaining_items e.remaining)))

-- it gives this, or has given all, and goes on as f
abbrev pub GivesNext : LiteralStage → Option Chunk → LiteralStage → Type 0
GivesNext e made f = Gives e.kind (remaining_items e.remaining) made (remaining_items f.remaining)
