-- The tokens of a word in the canonical text.
use Rattle.std.specs.Prelude.{ℕ, List, [], ◌∷◌, ◌++◌, Some, encode_utf8}
use Rattle.std.specs.List.{flat_map}
use Rattle.cd_elem.specs.declared.token.PlainWord.TheVariants as plain
use Rattle.cd_elem.specs.declared.token.CountedWord.TheVariants as counted
use Rattle.cd_elem.specs.declared.token.ClassedWord.TheVariants as classed
use Rattle.cd_elem.specs.declared.token.TestedWord.TheVariants as tested
use Rattle.cd_elem.specs.declared.token.LiteralWord.TheVariants as literal
use Rattle.cd_elem.specs.declared.token.FileWord.TheVariants as file
use Rattle.cd_elem.specs.declared.token.ListWord.TheVariants as list
use Rattle.cd_elem.specs.declared.token.PlainClass.TheVariants as class
use Rattle.cd_elem.specs.declared.token.EndTest.TheVariants as end_test
use Rattle.cd_elem.specs.declared.token.NumberMap.TheVariants as number_map
use Rattle.cd_elem.specs.declared.token.EndMap.TheVariants as end_map
use Rattle.cd_elem.specs.declared.token.Keyword.{Keyword}
use Rattle.cd_elem.specs.declared.token.Keyword.TheVariants as keyword
use Rattle.cd_elem.specs.declared.token.Sign.TheVariants as sign
use Rattle.cd_elem.specs.declared.token.Token.{Token}
use Rattle.cd_elem.specs.declared.token.Token.TheVariants as token
use Rattle.cd_elem.specs.declared.word.Word.{Word}
use Rattle.cd_elem.specs.declared.word.Word.TheVariants as word
use Rattle.cd_elem.specs.declared.word.ElemWord.{ElemWord}
use Rattle.cd_elem.specs.declared.word.ElemWord.TheVariants as elem
use Rattle.cd_elem.specs.declared.word.PieceWord.{PieceWord}
use Rattle.cd_elem.specs.declared.word.PieceWord.TheVariants as piece
use Rattle.cd_elem.specs.declared.word.SplitWord.{SplitWord}
use Rattle.cd_elem.specs.declared.word.SplitWord.TheVariants as split
use Rattle.cd_elem.specs.declared.word.TextWord.{TextWord}
use Rattle.cd_elem.specs.declared.word.TextWord.TheVariants as text
use Rattle.cd_elem.specs.declared.word.BaseWord.{BaseWord}
use Rattle.cd_elem.specs.declared.word.BaseWord.TheVariants as base
use Rattle.cd_elem.specs.declared.word.SourceWord.{SourceWord}
use Rattle.cd_elem.specs.declared.word.SourceWord.TheVariants as source
use Rattle.cd_elem.specs.declared.word.SinkWord.{SinkWord}
use Rattle.cd_elem.specs.declared.word.SinkWord.TheVariants as sink
use Rattle.cd_elem.specs.declared.word.Class.{Class}
use Rattle.cd_elem.specs.declared.word.ClassName.{ClassName}
use Rattle.cd_elem.specs.declared.word.ClassName.TheVariants as name
use Rattle.cd_elem.specs.declared.word.PieceTest.{PieceTest}
use Rattle.cd_elem.specs.declared.word.TestName.{TestName}
use Rattle.cd_elem.specs.declared.word.TestName.TheVariants as test
use Rattle.cd_elem.specs.declared.word.ByteMap.{ByteMap}
use Rattle.cd_elem.specs.declared.word.ByteMap.TheVariants as byte_map
use Rattle.cd_elem.specs.declared.word.PieceMap.{PieceMap}
use Rattle.cd_elem.specs.declared.word.PieceMap.TheVariants as piece_map
use Rattle.cd_grammar.specs.Grammar.{not_tokens}

abbrev alone : Keyword → List Token
alone k = token.Word k ∷ []

abbrev with_number : Keyword → ℕ → List Token
with_number k n = token.Word k ∷ token.Number (Some n) ∷ []

abbrev with_text : Keyword → List ℕ → List Token
with_text k s = token.Word k ∷ token.Text s ∷ []

abbrev pub canonical_class_name : ClassName → List Token
canonical_class_name name.Digit = alone (keyword.Class class.Digit)
canonical_class_name name.Upper = alone (keyword.Class class.Upper)
canonical_class_name name.Lower = alone (keyword.Class class.Lower)
canonical_class_name name.Alpha = alone (keyword.Class class.Alpha)
canonical_class_name name.Alnum = alone (keyword.Class class.Alnum)
canonical_class_name name.Hexdigit = alone (keyword.Class class.Hexdigit)
canonical_class_name name.Space = alone (keyword.Class class.Space)
canonical_class_name name.Newline = alone (keyword.Class class.Newline)
canonical_class_name (name.Is c) = with_text keyword.Is (encode_utf8 c)
canonical_class_name (name.Below n) = with_number keyword.Below n

abbrev pub canonical_class : Class → List Token
canonical_class c = not_tokens c.negated ++ canonical_class_name c.what

abbrev pub canonical_test_name : TestName → List Token
canonical_test_name test.Empty = alone keyword.Empty
canonical_test_name (test.Begins s) = with_text (keyword.EndTest end_test.Begins) s
canonical_test_name (test.Ends s) = with_text (keyword.EndTest end_test.Ends) s
canonical_test_name (test.Shorter n) = with_number keyword.Shorter n

abbrev pub canonical_test : PieceTest → List Token
canonical_test t = not_tokens t.negated ++ canonical_test_name t.what

abbrev pub canonical_element_map : ByteMap → List Token
canonical_element_map (byte_map.Xor k) = with_number (keyword.NumberMap number_map.Xor) k
canonical_element_map (byte_map.Add k) = with_number (keyword.NumberMap number_map.Add) k
canonical_element_map byte_map.Rot13 = alone keyword.Rot13

abbrev pub canonical_piece_map : PieceMap → List Token
canonical_piece_map (piece_map.Prefix s) = with_text (keyword.EndMap end_map.Prefix) s
canonical_piece_map (piece_map.Suffix s) = with_text (keyword.EndMap end_map.Suffix) s
canonical_piece_map piece_map.Reverse = alone keyword.Reverse

-- each with the token before it
abbrev pub behind_each : Token → List (List Token) → List Token
behind_each t xs = flat_map (λ x. t ∷ x) xs

-- with this token between them
abbrev pub separated : Token → List (List Token) → List Token
separated t [] = []
separated t (x ∷ xs) = x ++ behind_each t xs

abbrev pub canonical_texts : List (List ℕ) → List (List Token)
canonical_texts [] = []
canonical_texts (s ∷ ss) = (token.Text s ∷ []) ∷ canonical_texts ss

abbrev pub canonical_list : List (List ℕ) → List Token
canonical_list ss = token.Sign sign.OpenSquare ∷ separated (token.Sign sign.Comma) (canonical_texts ss) ++ token.Sign sign.CloseSquare ∷ []

abbrev pub canonical_elem : ElemWord → List Token
canonical_elem elem.PassE = alone (keyword.Plain plain.PassE)
canonical_elem elem.HeadE = alone (keyword.Plain plain.HeadE)
canonical_elem elem.PeekE = alone (keyword.Plain plain.PeekE)
canonical_elem elem.LastE = alone (keyword.Plain plain.LastE)
canonical_elem elem.LengthE = alone (keyword.Plain plain.LengthE)
canonical_elem elem.SumE = alone (keyword.Plain plain.SumE)
canonical_elem elem.NullE = alone (keyword.Plain plain.NullE)
canonical_elem elem.SinkNull = alone (keyword.Plain plain.SinkNull)
canonical_elem (elem.TakeE n) = with_number (keyword.Counted counted.TakeE) n
canonical_elem (elem.RepeatE n) = with_number (keyword.Counted counted.RepeatE) n
canonical_elem (elem.DropE n) = with_number (keyword.Counted counted.DropE) n
canonical_elem (elem.CollectE n) = with_number (keyword.Counted counted.CollectE) n
canonical_elem (elem.TakeWhileE c) = token.Word (keyword.Classed classed.TakeWhileE) ∷ canonical_class c
canonical_elem (elem.FilterE c) = token.Word (keyword.Classed classed.FilterE) ∷ canonical_class c
canonical_elem (elem.DropWhileE c) = token.Word (keyword.Classed classed.DropWhileE) ∷ canonical_class c
canonical_elem (elem.AllE c) = token.Word (keyword.Classed classed.AllE) ∷ canonical_class c
canonical_elem (elem.AnyE c) = token.Word (keyword.Classed classed.AnyE) ∷ canonical_class c
canonical_elem (elem.MapE m) = token.Word keyword.MapE ∷ canonical_element_map m

abbrev pub canonical_piece : PieceWord → List Token
canonical_piece piece.Pass = alone (keyword.Plain plain.Pass)
canonical_piece piece.Head = alone (keyword.Plain plain.Head)
canonical_piece piece.Peek = alone (keyword.Plain plain.Peek)
canonical_piece piece.Last = alone (keyword.Plain plain.Last)
canonical_piece piece.Length = alone (keyword.Plain plain.Length)
canonical_piece piece.Null = alone (keyword.Plain plain.Null)
canonical_piece (piece.Take n) = with_number (keyword.Counted counted.Take) n
canonical_piece (piece.Repeat n) = with_number (keyword.Counted counted.Repeat) n
canonical_piece (piece.Drop n) = with_number (keyword.Counted counted.Drop) n
canonical_piece (piece.Collect n) = with_number (keyword.Counted counted.Collect) n
canonical_piece (piece.TakeWhile t) = token.Word (keyword.Tested tested.TakeWhile) ∷ canonical_test t
canonical_piece (piece.Filter t) = token.Word (keyword.Tested tested.Filter) ∷ canonical_test t
canonical_piece (piece.DropWhile t) = token.Word (keyword.Tested tested.DropWhile) ∷ canonical_test t
canonical_piece (piece.Map m) = token.Word keyword.Map ∷ canonical_piece_map m
canonical_piece (piece.Intersperse s) = with_text (keyword.Literal literal.Intersperse) s

abbrev pub canonical_split : SplitWord → List Token
canonical_split (split.Lines n) = with_number (keyword.Counted counted.Lines) n
canonical_split (split.Exact n) = with_number (keyword.Counted counted.Exact) n
canonical_split (split.ChunksOf n) = with_number (keyword.Counted counted.ChunksOf) n
canonical_split (split.Split c n) = token.Word keyword.Split ∷ token.Text (encode_utf8 c) ∷ token.Number (Some n) ∷ []
canonical_split split.Flat = alone (keyword.Plain plain.Flat)
canonical_split split.Unlines = alone (keyword.Plain plain.Unlines)

abbrev pub canonical_text : TextWord → List Token
canonical_text text.Utf8 = alone (keyword.Plain plain.Utf8)
canonical_text text.Utf8Lenient = alone (keyword.Plain plain.Utf8Lenient)
canonical_text text.Utf8Encode = alone (keyword.Plain plain.Utf8Encode)

abbrev pub canonical_base : BaseWord → List Token
canonical_base base.HexEncode = alone (keyword.Plain plain.HexEncode)
canonical_base base.HexDecode = alone (keyword.Plain plain.HexDecode)
canonical_base base.Base64Encode = alone (keyword.Plain plain.Base64Encode)
canonical_base base.Base64Decode = alone (keyword.Plain plain.Base64Decode)

abbrev pub canonical_source : SourceWord → List Token
canonical_source (source.SourceFile s) = with_text (keyword.File file.SourceFile) s
canonical_source source.Stdin = alone (keyword.Plain plain.Stdin)
canonical_source (source.Bytes s) = with_text (keyword.Literal literal.Bytes) s
canonical_source (source.Text s) = with_text (keyword.Literal literal.Text) s
canonical_source (source.Blocks ss) = token.Word (keyword.List list.Blocks) ∷ canonical_list ss
canonical_source (source.Texts ss) = token.Word (keyword.List list.Texts) ∷ canonical_list ss
canonical_source (source.Replicate n s) = token.Word keyword.Replicate ∷ token.Number (Some n) ∷ token.Text s ∷ []
canonical_source (source.Range a b) = token.Word keyword.Range ∷ token.Number (Some a) ∷ token.Number (Some b) ∷ []

abbrev pub canonical_sink : SinkWord → List Token
canonical_sink (sink.SinkFile s) = with_text (keyword.File file.SinkFile) s
canonical_sink sink.Stdout = alone (keyword.Plain plain.Stdout)

abbrev pub canonical_word : Word → List Token
canonical_word (word.Elem w) = canonical_elem w
canonical_word (word.Piece w) = canonical_piece w
canonical_word (word.Split w) = canonical_split w
canonical_word (word.Text w) = canonical_text w
canonical_word (word.Base w) = canonical_base w
canonical_word (word.Source w) = canonical_source w
canonical_word (word.Sink w) = canonical_sink w
