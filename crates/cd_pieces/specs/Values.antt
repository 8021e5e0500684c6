-- Pieces as results, and what they count.
use Rattle.std.specs.Prelude.{ℕ, ◌+◌, List, [], ◌∷◌, length}
use Rattle.cd_elem.specs.declared.value.Value.{Value as Result}
use Rattle.cd_elem.specs.declared.value.Value.TheVariants as result
use Rattle.cd_meaning.specs.Stream.{Sort, Item, Piece, Value}
use Rattle.cd_meaning.specs.Sorts.{value_of}
use Rattle.cd_meaning.specs.Values.{value_meaning}
use Rattle.cd_step.specs.Parts.{Chunk}

-- the value of a stream that a piece is
abbrev pub piece_of : Chunk → Item
piece_of c = Piece c.1

-- a piece as a result of the program, and what that means
abbrev pub result_at : Sort → List ℕ → Result
result_at Sort.Bytes numbers = result.BytesV numbers
result_at Sort.Chars numbers = result.TextV numbers
result_at Sort.Block numbers = result.BytesV numbers
result_at Sort.Text numbers = result.TextV numbers

abbrev pub piece_value : Chunk → Value
piece_value c = value_of c.0 (piece_of c)

-- what a piece counts that is kept as a result: its length and 1 more
abbrev pub weigh_value : Value → ℕ
weigh_value (Value.BytesV numbers) = length numbers + 1
weigh_value (Value.TextV numbers) = length numbers + 1
weigh_value _ = 0

abbrev pub listed : List Result → ℕ
listed [] = 0
listed (v ∷ vs) = weigh_value (value_meaning v) + listed vs
