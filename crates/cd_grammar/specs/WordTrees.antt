-- The trees of words, classes, tests and maps by their tokens.
use Rattle.std.specs.Prelude.{ℕ, nat_lt, if◌then◌else◌, Bool, List, Option, Some, None, unwrap_or}
use Rattle.cd_elem.specs.declared.token.PlainWord.{PlainWord}
use Rattle.cd_elem.specs.declared.token.PlainWord.TheVariants as plain
use Rattle.cd_elem.specs.declared.token.CountedWord.{CountedWord}
use Rattle.cd_elem.specs.declared.token.CountedWord.TheVariants as counted
use Rattle.cd_elem.specs.declared.token.ClassedWord.{ClassedWord}
use Rattle.cd_elem.specs.declared.token.ClassedWord.TheVariants as classed
use Rattle.cd_elem.specs.declared.token.TestedWord.{TestedWord}
use Rattle.cd_elem.specs.declared.token.TestedWord.TheVariants as tested
use Rattle.cd_elem.specs.declared.token.LiteralWord.{LiteralWord}
use Rattle.cd_elem.specs.declared.token.LiteralWord.TheVariants as literal
use Rattle.cd_elem.specs.declared.token.FileWord.{FileWord}
use Rattle.cd_elem.specs.declared.token.FileWord.TheVariants as file
use Rattle.cd_elem.specs.declared.token.ListWord.{ListWord}
use Rattle.cd_elem.specs.declared.token.ListWord.TheVariants as list
use Rattle.cd_elem.specs.declared.token.PlainClass.{PlainClass}
use Rattle.cd_elem.specs.declared.token.PlainClass.TheVariants as class
use Rattle.cd_elem.specs.declared.token.EndTest.{EndTest}
use Rattle.cd_elem.specs.declared.token.EndTest.TheVariants as end_test
use Rattle.cd_elem.specs.declared.token.NumberMap.{NumberMap}
use Rattle.cd_elem.specs.declared.token.NumberMap.TheVariants as number_map
use Rattle.cd_elem.specs.declared.token.EndMap.{EndMap}
use Rattle.cd_elem.specs.declared.token.EndMap.TheVariants as end_map
use Rattle.cd_elem.specs.declared.word.Word.{Word}
use Rattle.cd_elem.specs.declared.word.Word.TheVariants as word
use Rattle.cd_elem.specs.declared.word.ElemWord.TheVariants as elem
use Rattle.cd_elem.specs.declared.word.PieceWord.TheVariants as piece
use Rattle.cd_elem.specs.declared.word.SplitWord.TheVariants as split
use Rattle.cd_elem.specs.declared.word.TextWord.TheVariants as text
use Rattle.cd_elem.specs.declared.word.BaseWord.TheVariants as base
use Rattle.cd_elem.specs.declared.word.SourceWord.TheVariants as source
use Rattle.cd_elem.specs.declared.word.SinkWord.TheVariants as sink
use Rattle.cd_elem.specs.declared.word.Class.{Class}
use Rattle.cd_elem.specs.declared.word.ClassName.{ClassName}
use Rattle.cd_elem.specs.declared.word.ClassName.TheVariants as name
use Rattle.cd_elem.specs.declared.word.PieceTest.{PieceTest}
use Rattle.cd_elem.specs.declared.word.TestName.{TestName}
use Rattle.cd_elem.specs.declared.word.TestName.TheVariants as test
use Rattle.cd_elem.specs.declared.word.ByteMap.{ByteMap}
use Rattle.cd_elem.specs.declared.word.ByteMap.TheVariants as byte_map
use Rattle.cd_elem.specs.declared.word.PieceMap.{PieceMap}
use Rattle.cd_elem.specs.declared.word.PieceMap.TheVariants as piece_map

abbrev pub plain_word : PlainWord → Word
plain_word plain.PassE = word.Elem elem.PassE
plain_word plain.HeadE = word.Elem elem.HeadE
plain_word plain.PeekE = word.Elem elem.PeekE
plain_word plain.LastE = word.Elem elem.LastE
plain_word plain.LengthE = word.Elem elem.LengthE
plain_word plain.SumE = word.Elem elem.SumE
plain_word plain.NullE = word.Elem elem.NullE
plain_word plain.SinkNull = word.Elem elem.SinkNull
plain_word plain.Pass = word.Piece piece.Pass
plain_word plain.Head = word.Piece piece.Head
plain_word plain.Peek = word.Piece piece.Peek
plain_word plain.Last = word.Piece piece.Last
plain_word plain.Length = word.Piece piece.Length
plain_word plain.Null = word.Piece piece.Null
plain_word plain.Flat = word.Split split.Flat
plain_word plain.Unlines = word.Split split.Unlines
plain_word plain.Utf8 = word.Text text.Utf8
plain_word plain.Utf8Lenient = word.Text text.Utf8Lenient
plain_word plain.Utf8Encode = word.Text text.Utf8Encode
plain_word plain.HexEncode = word.Base base.HexEncode
plain_word plain.HexDecode = word.Base base.HexDecode
plain_word plain.Base64Encode = word.Base base.Base64Encode
plain_word plain.Base64Decode = word.Base base.Base64Decode
plain_word plain.Stdin = word.Source source.Stdin
plain_word plain.Stdout = word.Sink sink.Stdout

abbrev pub counted_word : CountedWord → ℕ → Word
counted_word counted.TakeE n = word.Elem (elem.TakeE n)
counted_word counted.RepeatE n = word.Elem (elem.RepeatE n)
counted_word counted.DropE n = word.Elem (elem.DropE n)
counted_word counted.CollectE n = word.Elem (elem.CollectE n)
counted_word counted.Take n = word.Piece (piece.Take n)
counted_word counted.Repeat n = word.Piece (piece.Repeat n)
counted_word counted.Drop n = word.Piece (piece.Drop n)
counted_word counted.Collect n = word.Piece (piece.Collect n)
counted_word counted.Lines n = word.Split (split.Lines n)
counted_word counted.Exact n = word.Split (split.Exact n)
counted_word counted.ChunksOf n = word.Split (split.ChunksOf n)

abbrev pub classed_word : ClassedWord → Class → Word
classed_word classed.TakeWhileE c = word.Elem (elem.TakeWhileE c)
classed_word classed.FilterE c = word.Elem (elem.FilterE c)
classed_word classed.DropWhileE c = word.Elem (elem.DropWhileE c)
classed_word classed.AllE c = word.Elem (elem.AllE c)
classed_word classed.AnyE c = word.Elem (elem.AnyE c)

abbrev pub tested_word : TestedWord → PieceTest → Word
tested_word tested.TakeWhile t = word.Piece (piece.TakeWhile t)
tested_word tested.Filter t = word.Piece (piece.Filter t)
tested_word tested.DropWhile t = word.Piece (piece.DropWhile t)

abbrev pub literal_word : LiteralWord → List ℕ → Word
literal_word literal.Intersperse s = word.Piece (piece.Intersperse s)
literal_word literal.Bytes s = word.Source (source.Bytes s)
literal_word literal.Text s = word.Source (source.Text s)

abbrev pub file_word : FileWord → List ℕ → Word
file_word file.SourceFile s = word.Source (source.SourceFile s)
file_word file.SinkFile s = word.Sink (sink.SinkFile s)

abbrev pub list_word : ListWord → List (List ℕ) → Word
list_word list.Blocks s = word.Source (source.Blocks s)
list_word list.Texts s = word.Source (source.Texts s)

abbrev pub element_map_word : ByteMap → Word
element_map_word m = word.Elem (elem.MapE m)

abbrev pub piece_map_word : PieceMap → Word
piece_map_word m = word.Piece (piece.Map m)

abbrev pub split_word : ℕ → ℕ → Word
split_word c n = word.Split (split.Split c n)

abbrev pub replicate_word : ℕ → List ℕ → Word
replicate_word n s = word.Source (source.Replicate n s)

abbrev pub range_word : ℕ → ℕ → Word
range_word a b = word.Source (source.Range a b)

abbrev pub plain_class : PlainClass → ClassName
plain_class class.Digit = name.Digit
plain_class class.Upper = name.Upper
plain_class class.Lower = name.Lower
plain_class class.Alpha = name.Alpha
plain_class class.Alnum = name.Alnum
plain_class class.Hexdigit = name.Hexdigit
plain_class class.Space = name.Space
plain_class class.Newline = name.Newline

abbrev pub class_of : Bool → ClassName → Class
class_of negated what = record { negated = negated; what = what }

abbrev pub test_of : Bool → TestName → PieceTest
test_of negated what = record { negated = negated; what = what }

abbrev pub test_of_end : EndTest → List ℕ → TestName
test_of_end end_test.Begins s = test.Begins s
test_of_end end_test.Ends s = test.Ends s

abbrev pub map_by_number : NumberMap → ℕ → ByteMap
map_by_number number_map.Xor k = byte_map.Xor k
map_by_number number_map.Add k = byte_map.Add k

abbrev pub map_by_text : EndMap → List ℕ → PieceMap
map_by_text end_map.Prefix s = piece_map.Prefix s
map_by_text end_map.Suffix s = piece_map.Suffix s

-- The value of a NUM. One past 2^64 - 1 counts as 0 here, and so does one past 255 where a byte is asked: both pass a limit, so no answer shows them.
abbrev pub number_of : Option ℕ → ℕ
number_of n = unwrap_or n 0

abbrev pub byte_of : Option ℕ → ℕ
byte_of None = 0
byte_of (Some n) = if nat_lt n 256 then n else 0
