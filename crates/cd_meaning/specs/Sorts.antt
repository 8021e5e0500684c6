-- What a stream's sort decides: results, literals, and the sorts that come behind a word.
use Rattle.std.specs.Prelude.{ℕ, List, [], ◌∷◌, map, Some, None}
use Rattle.std.specs.Str.{chars}
use Rattle.cd_meaning.specs.Stream.{Item, Elem, Piece, Sort, Flow, Value, Values, NoValues, Another}
use Rattle.cd_meaning.specs.RunShapes.{number, elements}

-- where nothing comes, a list of pieces counts as one of blocks
abbrev pub sort_of : Flow → Sort
sort_of (Some k) = k
sort_of None = Sort.Block

-- of two flows that agree
abbrev pub join : Flow → Flow → Flow
join None g = g
join (Some k) g = Some k

-- the pieces that elements are cut into, and the elements of pieces
abbrev pub pieces_of : Sort → Sort
pieces_of Sort.Bytes = Sort.Block
pieces_of Sort.Chars = Sort.Text
pieces_of Sort.Block = Sort.Block
pieces_of Sort.Text = Sort.Text

abbrev pub elements_of : Sort → Sort
elements_of Sort.Bytes = Sort.Bytes
elements_of Sort.Chars = Sort.Chars
elements_of Sort.Block = Sort.Bytes
elements_of Sort.Text = Sort.Chars

-- one value as a result
abbrev pub value_of : Sort → Item → Value
value_of Sort.Bytes x = Value.Byte (number x)
value_of Sort.Chars x = Value.Char (number x)
value_of Sort.Block x = Value.BytesV (elements x)
value_of Sort.Text x = Value.TextV (elements x)

abbrev pub each_value : Sort → List Item → Values
each_value k [] = NoValues
each_value k (x ∷ xs) = Another (value_of k x) (each_value k xs)

-- a list of values as a result
abbrev pub list_of : Sort → List Item → Value
list_of Sort.Bytes xs = Value.BytesV (map number xs)
list_of Sort.Chars xs = Value.TextV (map number xs)
list_of Sort.Block xs = Value.ListV (each_value Sort.Block xs)
list_of Sort.Text xs = Value.ListV (each_value Sort.Text xs)

-- ---- literals: given as the bytes of their text

-- its bytes among bytes, and its characters among characters
abbrev pub literal_at : Sort → List ℕ → List ℕ
literal_at Sort.Bytes bytes = bytes
literal_at Sort.Chars bytes = chars bytes
literal_at Sort.Block bytes = bytes
literal_at Sort.Text bytes = chars bytes

-- a literal as the elements of a stream, and literals as its pieces
abbrev pub elements_at : Sort → List ℕ → List Item
elements_at k bytes = map Elem (literal_at k bytes)

abbrev pub piece_at : Sort → List ℕ → Item
piece_at k bytes = Piece (literal_at k bytes)

abbrev pub pieces_at : Sort → List (List ℕ) → List Item
pieces_at k literals = map (piece_at k) literals
