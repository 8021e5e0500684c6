-- Each word of the language with what stands behind it: its derivation, its tree, its canonical tokens, and how these are written and read.
use Rattle.std.specs.Prelude.{◌≡◌, refl, ℕ, true, false, List, [], ◌∷◌, ◌++◌, map, Some, codes}
use Rattle.std.specs.Fmt.{digits}
use Rattle.std.specs.Str.{chars}
use lib.Utf8.{encode}
use Rattle.cd_elem.specs.declared.token.PlainWord.TheVariants as plain
use Rattle.cd_elem.specs.declared.token.CountedWord.TheVariants as counted
use Rattle.cd_elem.specs.declared.token.ClassedWord.TheVariants as classed
use Rattle.cd_elem.specs.declared.token.TestedWord.TheVariants as tested
use Rattle.cd_elem.specs.declared.token.LiteralWord.TheVariants as literal
use Rattle.cd_elem.specs.declared.token.FileWord.TheVariants as file
use Rattle.cd_elem.specs.declared.token.ListWord.TheVariants as list
use Rattle.cd_elem.specs.declared.token.PlainClass.TheVariants as class
use Rattle.cd_elem.specs.declared.token.EndTest.TheVariants as end_test
use Rattle.cd_elem.specs.declared.token.NumberMap.TheVariants as number_map
use Rattle.cd_elem.specs.declared.token.EndMap.TheVariants as end_map
use Rattle.cd_elem.specs.declared.word.Word.{Word}
use Rattle.cd_elem.specs.declared.word.Word.TheVariants as word
use Rattle.cd_elem.specs.declared.word.ElemWord.TheVariants as elem
use Rattle.cd_elem.specs.declared.word.PieceWord.TheVariants as piece
use Rattle.cd_elem.specs.declared.word.SplitWord.TheVariants as split
use Rattle.cd_elem.specs.declared.word.TextWord.TheVariants as text
use Rattle.cd_elem.specs.declared.word.BaseWord.TheVariants as base
use Rattle.cd_elem.specs.declared.word.SourceWord.TheVariants as source
use Rattle.cd_elem.specs.declared.word.SinkWord.TheVariants as sink
use Rattle.cd_elem.specs.declared.word.Class.{Class}
use Rattle.cd_elem.specs.declared.word.ClassName.{ClassName}
use Rattle.cd_elem.specs.declared.word.ClassName.TheVariants as name
use Rattle.cd_elem.specs.declared.word.PieceTest.{PieceTest}
use Rattle.cd_elem.specs.declared.word.TestName.{TestName}
use Rattle.cd_elem.specs.declared.word.TestName.TheVariants as test
use Rattle.cd_elem.specs.declared.word.ByteMap.TheVariants as byte_map
use Rattle.cd_elem.specs.declared.word.PieceMap.TheVariants as piece_map
use Rattle.cd_grammar.specs.Grammar as g
use Rattle.cd_grammar.specs.Tokens.{whole_token}
use Rattle.cd_grammar.specs.Spelling.{spelled}
use Rattle.cd_grammar.specs.CanonicalWords.{canonical_word}
use Rattle.cd_grammar.specs.CanonicalText.{spaced}

-- The derivation stands for this tree. The tree has the derivation's tokens, which are written so, and each of which is read as itself.
abbrev Written : List ℕ → g.WordForm → Word → Type 0
Written text form w =
    (g.word_tree form ≡ w) × (canonical_word w ≡ g.word_tokens form) × (spaced (canonical_word w) ≡ text) × (map (λ t. whole_token (spelled t)) (canonical_word w) ≡ map Some (canonical_word w))

abbrev is_class : ClassName → Class
is_class what = record { negated = false; what = what }

abbrev no_class : ClassName → Class
no_class what = record { negated = true; what = what }

abbrev is_test : TestName → PieceTest
is_test what = record { negated = false; what = what }

abbrev no_test : TestName → PieceTest
no_test what = record { negated = true; what = what }

abbrev named_f : g.FileName
named_f = record { first = 102; rest = [] }

-- the euro sign, U+20AC
abbrev euro : List ℕ
euro = 226 ∷ 130 ∷ 172 ∷ []

euro_is_one : g.one_scalar euro ≡ Some 8364
unfolding chars
euro_is_one = refl

abbrev euro_sign : g.Character
euro_sign = record { text = euro; scalar = 8364; one = euro_is_one }

-- ---- words with nothing behind them
pass_e : Written (codes "passE") (g.Plain plain.PassE) (word.Elem elem.PassE)
pass_e = (refl, refl, refl, refl)

head_e : Written (codes "headE") (g.Plain plain.HeadE) (word.Elem elem.HeadE)
head_e = (refl, refl, refl, refl)

peek_e : Written (codes "peekE") (g.Plain plain.PeekE) (word.Elem elem.PeekE)
peek_e = (refl, refl, refl, refl)

last_e : Written (codes "lastE") (g.Plain plain.LastE) (word.Elem elem.LastE)
last_e = (refl, refl, refl, refl)

length_e : Written (codes "lengthE") (g.Plain plain.LengthE) (word.Elem elem.LengthE)
length_e = (refl, refl, refl, refl)

sum_e : Written (codes "sumE") (g.Plain plain.SumE) (word.Elem elem.SumE)
sum_e = (refl, refl, refl, refl)

null_e : Written (codes "nullE") (g.Plain plain.NullE) (word.Elem elem.NullE)
null_e = (refl, refl, refl, refl)

sink_null : Written (codes "sinkNull") (g.Plain plain.SinkNull) (word.Elem elem.SinkNull)
sink_null = (refl, refl, refl, refl)

pass : Written (codes "pass") (g.Plain plain.Pass) (word.Piece piece.Pass)
pass = (refl, refl, refl, refl)

head : Written (codes "head") (g.Plain plain.Head) (word.Piece piece.Head)
head = (refl, refl, refl, refl)

peek : Written (codes "peek") (g.Plain plain.Peek) (word.Piece piece.Peek)
peek = (refl, refl, refl, refl)

last : Written (codes "last") (g.Plain plain.Last) (word.Piece piece.Last)
last = (refl, refl, refl, refl)

length : Written (codes "length") (g.Plain plain.Length) (word.Piece piece.Length)
length = (refl, refl, refl, refl)

null : Written (codes "null") (g.Plain plain.Null) (word.Piece piece.Null)
null = (refl, refl, refl, refl)

flat : Written (codes "flat") (g.Plain plain.Flat) (word.Split split.Flat)
flat = (refl, refl, refl, refl)

unlines : Written (codes "unlines") (g.Plain plain.Unlines) (word.Split split.Unlines)
unlines = (refl, refl, refl, refl)

utf8 : Written (codes "utf8") (g.Plain plain.Utf8) (word.Text text.Utf8)
utf8 = (refl, refl, refl, refl)

utf8_lenient : Written (codes "utf8Lenient") (g.Plain plain.Utf8Lenient) (word.Text text.Utf8Lenient)
utf8_lenient = (refl, refl, refl, refl)

utf8_encode : Written (codes "utf8Encode") (g.Plain plain.Utf8Encode) (word.Text text.Utf8Encode)
utf8_encode = (refl, refl, refl, refl)

hex_encode : Written (codes "hexEncode") (g.Plain plain.HexEncode) (word.Base base.HexEncode)
hex_encode = (refl, refl, refl, refl)

hex_decode : Written (codes "hexDecode") (g.Plain plain.HexDecode) (word.Base base.HexDecode)
hex_decode = (refl, refl, refl, refl)

base64_encode : Written (codes "base64Encode") (g.Plain plain.Base64Encode) (word.Base base.Base64Encode)
base64_encode = (refl, refl, refl, refl)

base64_decode : Written (codes "base64Decode") (g.Plain plain.Base64Decode) (word.Base base.Base64Decode)
base64_decode = (refl, refl, refl, refl)

stdin : Written (codes "stdin") (g.Plain plain.Stdin) (word.Source source.Stdin)
stdin = (refl, refl, refl, refl)

stdout : Written (codes "stdout") (g.Plain plain.Stdout) (word.Sink sink.Stdout)
stdout = (refl, refl, refl, refl)

-- ---- with a number
take_e : Written (codes "takeE 10") (g.Counted counted.TakeE (Some 10)) (word.Elem (elem.TakeE 10))
unfolding digits
take_e = (refl, refl, refl, refl)

repeat_e : Written (codes "repeatE 10") (g.Counted counted.RepeatE (Some 10)) (word.Elem (elem.RepeatE 10))
unfolding digits
repeat_e = (refl, refl, refl, refl)

drop_e : Written (codes "dropE 10") (g.Counted counted.DropE (Some 10)) (word.Elem (elem.DropE 10))
unfolding digits
drop_e = (refl, refl, refl, refl)

collect_e : Written (codes "collectE 10") (g.Counted counted.CollectE (Some 10)) (word.Elem (elem.CollectE 10))
unfolding digits
collect_e = (refl, refl, refl, refl)

take : Written (codes "take 10") (g.Counted counted.Take (Some 10)) (word.Piece (piece.Take 10))
unfolding digits
take = (refl, refl, refl, refl)

repeat : Written (codes "repeat 10") (g.Counted counted.Repeat (Some 10)) (word.Piece (piece.Repeat 10))
unfolding digits
repeat = (refl, refl, refl, refl)

drop : Written (codes "drop 10") (g.Counted counted.Drop (Some 10)) (word.Piece (piece.Drop 10))
unfolding digits
drop = (refl, refl, refl, refl)

collect : Written (codes "collect 10") (g.Counted counted.Collect (Some 10)) (word.Piece (piece.Collect 10))
unfolding digits
collect = (refl, refl, refl, refl)

lines : Written (codes "lines 10") (g.Counted counted.Lines (Some 10)) (word.Split (split.Lines 10))
unfolding digits
lines = (refl, refl, refl, refl)

exact : Written (codes "exact 10") (g.Counted counted.Exact (Some 10)) (word.Split (split.Exact 10))
unfolding digits
exact = (refl, refl, refl, refl)

chunks_of : Written (codes "chunksOf 10") (g.Counted counted.ChunksOf (Some 10)) (word.Split (split.ChunksOf 10))
unfolding digits
chunks_of = (refl, refl, refl, refl)

-- ---- with a class: each word once, and each class once
take_while_e_digit : Written (codes "takeWhileE digit") (g.Classed classed.TakeWhileE false (g.Simple class.Digit)) (word.Elem (elem.TakeWhileE (is_class name.Digit)))
take_while_e_digit = (refl, refl, refl, refl)

filter_e_upper : Written (codes "filterE upper") (g.Classed classed.FilterE false (g.Simple class.Upper)) (word.Elem (elem.FilterE (is_class name.Upper)))
filter_e_upper = (refl, refl, refl, refl)

drop_while_e_lower : Written (codes "dropWhileE lower") (g.Classed classed.DropWhileE false (g.Simple class.Lower)) (word.Elem (elem.DropWhileE (is_class name.Lower)))
drop_while_e_lower = (refl, refl, refl, refl)

all_e_alpha : Written (codes "allE alpha") (g.Classed classed.AllE false (g.Simple class.Alpha)) (word.Elem (elem.AllE (is_class name.Alpha)))
all_e_alpha = (refl, refl, refl, refl)

any_e_alnum : Written (codes "anyE alnum") (g.Classed classed.AnyE false (g.Simple class.Alnum)) (word.Elem (elem.AnyE (is_class name.Alnum)))
any_e_alnum = (refl, refl, refl, refl)

filter_e_not_hexdigit : Written (codes "filterE not hexdigit") (g.Classed classed.FilterE true (g.Simple class.Hexdigit)) (word.Elem (elem.FilterE (no_class name.Hexdigit)))
filter_e_not_hexdigit = (refl, refl, refl, refl)

filter_e_space : Written (codes "filterE space") (g.Classed classed.FilterE false (g.Simple class.Space)) (word.Elem (elem.FilterE (is_class name.Space)))
filter_e_space = (refl, refl, refl, refl)

filter_e_not_newline : Written (codes "filterE not newline") (g.Classed classed.FilterE true (g.Simple class.Newline)) (word.Elem (elem.FilterE (no_class name.Newline)))
filter_e_not_newline = (refl, refl, refl, refl)

all_e_is : Written (codes "allE is " ++ 34 ∷ euro ++ 34 ∷ []) (g.Classed classed.AllE false (g.Is euro_sign)) (word.Elem (elem.AllE (is_class (name.Is 8364))))
unfolding encode
all_e_is = (refl, refl, refl, refl)

any_e_not_below : Written (codes "anyE not below 18446744073709551615") (g.Classed classed.AnyE true (g.Below (Some 18446744073709551615))) (word.Elem (elem.AnyE (no_class (name.Below 18446744073709551615))))
unfolding digits
any_e_not_below = (refl, refl, refl, refl)

-- ---- with a test: each word once, and each test once
take_while_empty : Written (codes "takeWhile empty") (g.Tested tested.TakeWhile false g.Empty) (word.Piece (piece.TakeWhile (is_test test.Empty)))
take_while_empty = (refl, refl, refl, refl)

filter_not_empty : Written (codes "filter not empty") (g.Tested tested.Filter true g.Empty) (word.Piece (piece.Filter (no_test test.Empty)))
filter_not_empty = (refl, refl, refl, refl)

filter_begins : Written (codes "filter begins \"ab\"") (g.Tested tested.Filter false (g.AtEnd end_test.Begins (codes "ab"))) (word.Piece (piece.Filter (is_test (test.Begins (codes "ab")))))
filter_begins = (refl, refl, refl, refl)

drop_while_not_ends : Written (codes "dropWhile not ends \"ab\"") (g.Tested tested.DropWhile true (g.AtEnd end_test.Ends (codes "ab"))) (word.Piece (piece.DropWhile (no_test (test.Ends (codes "ab")))))
drop_while_not_ends = (refl, refl, refl, refl)

filter_shorter : Written (codes "filter shorter 3") (g.Tested tested.Filter false (g.Shorter (Some 3))) (word.Piece (piece.Filter (is_test (test.Shorter 3))))
unfolding digits
filter_shorter = (refl, refl, refl, refl)

-- ---- maps
map_e_xor : Written (codes "mapE xor 255") (g.MapE (g.ByNumber number_map.Xor (Some 255))) (word.Elem (elem.MapE (byte_map.Xor 255)))
unfolding digits
map_e_xor = (refl, refl, refl, refl)

map_e_add : Written (codes "mapE add 1") (g.MapE (g.ByNumber number_map.Add (Some 1))) (word.Elem (elem.MapE (byte_map.Add 1)))
unfolding digits
map_e_add = (refl, refl, refl, refl)

map_e_rot13 : Written (codes "mapE rot13") (g.MapE g.Rot13) (word.Elem (elem.MapE byte_map.Rot13))
map_e_rot13 = (refl, refl, refl, refl)

map_prefix : Written (codes "map prefix \"ab\"") (g.Map (g.ByText end_map.Prefix (codes "ab"))) (word.Piece (piece.Map (piece_map.Prefix (codes "ab"))))
map_prefix = (refl, refl, refl, refl)

map_suffix : Written (codes "map suffix \"ab\"") (g.Map (g.ByText end_map.Suffix (codes "ab"))) (word.Piece (piece.Map (piece_map.Suffix (codes "ab"))))
map_suffix = (refl, refl, refl, refl)

map_reverse : Written (codes "map reverse") (g.Map g.Reverse) (word.Piece (piece.Map piece_map.Reverse))
map_reverse = (refl, refl, refl, refl)

-- ---- with literals, and with files
intersperse : Written (codes "intersperse \"\"") (g.Literal literal.Intersperse []) (word.Piece (piece.Intersperse []))
intersperse = (refl, refl, refl, refl)

bytes : Written (codes "bytes \"a\"") (g.Literal literal.Bytes (codes "a")) (word.Source (source.Bytes (codes "a")))
bytes = (refl, refl, refl, refl)

text_word : Written (codes "text \"a\"") (g.Literal literal.Text (codes "a")) (word.Source (source.Text (codes "a")))
text_word = (refl, refl, refl, refl)

source_file : Written (codes "sourceFile \"f\"") (g.OfFile file.SourceFile named_f) (word.Source (source.SourceFile (codes "f")))
source_file = (refl, refl, refl, refl)

sink_file : Written (codes "sinkFile \"f\"") (g.OfFile file.SinkFile named_f) (word.Sink (sink.SinkFile (codes "f")))
sink_file = (refl, refl, refl, refl)

blocks : Written (codes "blocks [\"a\", \"b\", \"\"]") (g.OfList list.Blocks (g.All (g.AndLiteral (g.AndLiteral (g.OneLiteral (codes "a")) (codes "b")) []))) (word.Source (source.Blocks (codes "a" ∷ codes "b" ∷ [] ∷ [])))
blocks = (refl, refl, refl, refl)

texts : Written (codes "texts []") (g.OfList list.Texts g.Nothing) (word.Source (source.Texts []))
texts = (refl, refl, refl, refl)

texts_of_one : Written (codes "texts [\"\"]") (g.OfList list.Texts (g.All (g.OneLiteral []))) (word.Source (source.Texts ([] ∷ [])))
texts_of_one = (refl, refl, refl, refl)

split_at : Written (codes "split " ++ 34 ∷ euro ++ codes "\" 5") (g.Split euro_sign (Some 5)) (word.Split (split.Split 8364 5))
unfolding digits encode
split_at = (refl, refl, refl, refl)

replicate_literal : Written (codes "replicate 2 \"a\"") (g.Replicate (Some 2) (codes "a")) (word.Source (source.Replicate 2 (codes "a")))
unfolding digits
replicate_literal = (refl, refl, refl, refl)

range_from_to : Written (codes "range 1 3") (g.Range (Some 1) (Some 3)) (word.Source (source.Range 1 3))
unfolding digits
range_from_to = (refl, refl, refl, refl)
