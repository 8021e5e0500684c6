-- Classes and maps of elements, tests and maps of pieces.
use Rattle.std.specs.Prelude.{ℕ, ◌+◌, ◌-◌, ◌%◌, ◌==◌, nat_lt, nat_le, Bool, not, ◌&&◌, ◌||◌, if◌then◌else◌, List, ◌++◌, length, take, drop, reverse, bit_xor, bytes_eq}
use Rattle.cd_elem.specs.Ascii.{newline}
use Rattle.cd_elem.specs.declared.word.Class.{Class}
use Rattle.cd_elem.specs.declared.word.ClassName.{ClassName}
use Rattle.cd_elem.specs.declared.word.ByteMap.{ByteMap}
use Rattle.cd_elem.specs.declared.word.PieceTest.{PieceTest}
use Rattle.cd_elem.specs.declared.word.TestName.{TestName}
use Rattle.cd_elem.specs.declared.word.PieceMap.{PieceMap}
use Rattle.cd_meaning.specs.Stream.{Item, Elem, Piece, Sort}
use Rattle.cd_meaning.specs.RunShapes.{number, elements}
use Rattle.cd_meaning.specs.Sorts.{literal_at}

-- ---- classes: by the number of an element

abbrev pub from_to : ℕ → ℕ → ℕ → Bool
from_to low high c = nat_le low c && nat_le c high

abbrev pub digit : ℕ → Bool
digit = from_to 48 57

abbrev pub upper : ℕ → Bool
upper = from_to 65 90

abbrev pub lower : ℕ → Bool
lower = from_to 97 122

abbrev pub alpha : ℕ → Bool
alpha c = upper c || lower c

abbrev pub alnum : ℕ → Bool
alnum c = alpha c || digit c

abbrev pub hexdigit : ℕ → Bool
hexdigit c = digit c || from_to 65 70 c || from_to 97 102 c

-- the blanks of ASCII: the tab to the carriage return, and the space
abbrev pub space : ℕ → Bool
space c = from_to 9 13 c || c == 32

abbrev pub is_named : ClassName → ℕ → Bool
is_named ClassName.Digit c = digit c
is_named ClassName.Upper c = upper c
is_named ClassName.Lower c = lower c
is_named ClassName.Alpha c = alpha c
is_named ClassName.Alnum c = alnum c
is_named ClassName.Hexdigit c = hexdigit c
is_named ClassName.Space c = space c
is_named ClassName.Newline c = c == newline
is_named (ClassName.Is one) c = c == one
is_named (ClassName.Below n) c = nat_lt c n

abbrev pub is_in_class : Class → ℕ → Bool
is_in_class k c = if k.negated then not (is_named k.what c) else is_named k.what c

-- the class as a test of values
abbrev pub of_class : Class → Item → Bool
of_class k x = is_in_class k (number x)

-- ---- maps of elements

-- the letter 13 places on, in a circle that starts at first
abbrev pub turned : ℕ → ℕ → ℕ
turned first c = first + (c - first + 13) % 26

abbrev pub rot13 : ℕ → ℕ
rot13 c = if upper c then turned 65 c else (if lower c then turned 97 c else c)

abbrev pub element_mapped : ByteMap → ℕ → ℕ
element_mapped (ByteMap.Xor k) c = bit_xor c k
element_mapped (ByteMap.Add k) c = (c + k) % 256
element_mapped ByteMap.Rot13 c = rot13 c

abbrev pub of_element : ByteMap → Item → Item
of_element f x = Elem (element_mapped f (number x))

-- ---- tests of pieces: by the sort of the stream, which decides what a literal is

-- the literal is the first, or the last, that many elements
abbrev pub begins_with : List ℕ → List ℕ → Bool
begins_with literal xs = bytes_eq (take (length literal) xs) literal

abbrev pub ends_with : List ℕ → List ℕ → Bool
ends_with literal xs = nat_le (length literal) (length xs) && bytes_eq (drop (length xs - length literal) xs) literal

abbrev pub holds_of : TestName → Sort → List ℕ → Bool
holds_of TestName.Empty k xs = length xs == 0
holds_of (TestName.Begins literal) k xs = begins_with (literal_at k literal) xs
holds_of (TestName.Ends literal) k xs = ends_with (literal_at k literal) xs
holds_of (TestName.Shorter n) k xs = nat_lt (length xs) n

abbrev pub passes_test : PieceTest → Sort → List ℕ → Bool
passes_test t k xs = if t.negated then not (holds_of t.what k xs) else holds_of t.what k xs

-- the test of a value
abbrev pub of_test : PieceTest → Sort → Item → Bool
of_test t k x = passes_test t k (elements x)

-- ---- maps of pieces

abbrev pub piece_mapped : PieceMap → Sort → List ℕ → List ℕ
piece_mapped (PieceMap.Prefix literal) k xs = literal_at k literal ++ xs
piece_mapped (PieceMap.Suffix literal) k xs = xs ++ literal_at k literal
piece_mapped PieceMap.Reverse k xs = reverse xs

abbrev pub of_piece : PieceMap → Sort → Item → Item
of_piece f k x = Piece (piece_mapped f k (elements x))
