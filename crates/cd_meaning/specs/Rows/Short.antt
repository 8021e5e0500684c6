-- The language by short names: each class, word, form and statement as a tree.
use Rattle.std.specs.Prelude.{ℕ, List, [], ◌∷◌, true, false}
use Rattle.cd_elem.specs.declared.word.Word.{Word}
use Rattle.cd_elem.specs.declared.word.ElemWord.{ElemWord}
use Rattle.cd_elem.specs.declared.word.PieceWord.{PieceWord}
use Rattle.cd_elem.specs.declared.word.SplitWord.{SplitWord}
use Rattle.cd_elem.specs.declared.word.TextWord.{TextWord}
use Rattle.cd_elem.specs.declared.word.BaseWord.{BaseWord}
use Rattle.cd_elem.specs.declared.word.SourceWord.{SourceWord}
use Rattle.cd_elem.specs.declared.word.SinkWord.{SinkWord}
use Rattle.cd_elem.specs.declared.word.Class.{Class}
use Rattle.cd_elem.specs.declared.word.ClassName.{ClassName}
use Rattle.cd_elem.specs.declared.word.ClassName.TheVariants.{Below}
use Rattle.cd_elem.specs.declared.word.ByteMap.{ByteMap}
use Rattle.cd_elem.specs.declared.word.PieceTest.{PieceTest}
use Rattle.cd_elem.specs.declared.word.TestName.{TestName}
use Rattle.cd_elem.specs.declared.word.PieceMap.{PieceMap}
use Rattle.cd_elem.specs.declared.script.Join.{Join}
use Rattle.cd_meaning.specs.Rows.Trees.{Tree, Leaf, Chain, Sequence, Exactly, ExactlyE, LineE, Mark, Tee, ZipSource, ZipSink, ZipConduit, Trees, Nothing, Then, Sentence, Runs, Lets, Feeds, Closes, Holds, Releases}

-- ---- classes, tests and maps

abbrev pub digit : Class
digit = record { negated = false; what = ClassName.Digit }

abbrev pub upper : Class
upper = record { negated = false; what = ClassName.Upper }

abbrev pub lower : Class
lower = record { negated = false; what = ClassName.Lower }

abbrev pub alpha : Class
alpha = record { negated = false; what = ClassName.Alpha }

abbrev pub alnum : Class
alnum = record { negated = false; what = ClassName.Alnum }

abbrev pub hexdigit : Class
hexdigit = record { negated = false; what = ClassName.Hexdigit }

abbrev pub space : Class
space = record { negated = false; what = ClassName.Space }

abbrev pub newline : Class
newline = record { negated = false; what = ClassName.Newline }

abbrev pub is_scalar : ℕ → Class
is_scalar one = record { negated = false; what = ClassName.Is one }

abbrev pub below : ℕ → Class
below n = record { negated = false; what = Below n }

abbrev pub not_class : Class → Class
not_class c = record { negated = true; what = c.what }

abbrev pub empty : PieceTest
empty = record { negated = false; what = TestName.Empty }

abbrev pub begins : List ℕ → PieceTest
begins literal = record { negated = false; what = TestName.Begins literal }

abbrev pub ends : List ℕ → PieceTest
ends literal = record { negated = false; what = TestName.Ends literal }

abbrev pub shorter : ℕ → PieceTest
shorter n = record { negated = false; what = TestName.Shorter n }

abbrev pub not_test : PieceTest → PieceTest
not_test t = record { negated = true; what = t.what }

abbrev pub xor : ℕ → ByteMap
xor k = ByteMap.Xor k

abbrev pub add : ℕ → ByteMap
add k = ByteMap.Add k

abbrev pub prefix : List ℕ → PieceMap
prefix literal = PieceMap.Prefix literal

abbrev pub suffix : List ℕ → PieceMap
suffix literal = PieceMap.Suffix literal

abbrev pub rot13 : ByteMap
rot13 = ByteMap.Rot13

abbrev pub reversed : PieceMap
reversed = PieceMap.Reverse

-- ---- words

abbrev pub pass_e : Tree
pass_e = Leaf (Word.Elem ElemWord.PassE)

abbrev pub take_e : ℕ → Tree
take_e n = Leaf (Word.Elem (ElemWord.TakeE n))

abbrev pub take_while_e : Class → Tree
take_while_e c = Leaf (Word.Elem (ElemWord.TakeWhileE c))

abbrev pub filter_e : Class → Tree
filter_e c = Leaf (Word.Elem (ElemWord.FilterE c))

abbrev pub map_e : ByteMap → Tree
map_e f = Leaf (Word.Elem (ElemWord.MapE f))

abbrev pub repeat_e : ℕ → Tree
repeat_e n = Leaf (Word.Elem (ElemWord.RepeatE n))

abbrev pub drop_e : ℕ → Tree
drop_e n = Leaf (Word.Elem (ElemWord.DropE n))

abbrev pub drop_while_e : Class → Tree
drop_while_e c = Leaf (Word.Elem (ElemWord.DropWhileE c))

abbrev pub head_e : Tree
head_e = Leaf (Word.Elem ElemWord.HeadE)

abbrev pub peek_e : Tree
peek_e = Leaf (Word.Elem ElemWord.PeekE)

abbrev pub last_e : Tree
last_e = Leaf (Word.Elem ElemWord.LastE)

abbrev pub length_e : Tree
length_e = Leaf (Word.Elem ElemWord.LengthE)

abbrev pub sum_e : Tree
sum_e = Leaf (Word.Elem ElemWord.SumE)

abbrev pub all_e : Class → Tree
all_e c = Leaf (Word.Elem (ElemWord.AllE c))

abbrev pub any_e : Class → Tree
any_e c = Leaf (Word.Elem (ElemWord.AnyE c))

abbrev pub null_e : Tree
null_e = Leaf (Word.Elem ElemWord.NullE)

abbrev pub collect_e : ℕ → Tree
collect_e n = Leaf (Word.Elem (ElemWord.CollectE n))

abbrev pub sink_null : Tree
sink_null = Leaf (Word.Elem ElemWord.SinkNull)

abbrev pub pass_word : Tree
pass_word = Leaf (Word.Piece PieceWord.Pass)

abbrev pub take_word : ℕ → Tree
take_word n = Leaf (Word.Piece (PieceWord.Take n))

abbrev pub take_while_word : PieceTest → Tree
take_while_word t = Leaf (Word.Piece (PieceWord.TakeWhile t))

abbrev pub filter_word : PieceTest → Tree
filter_word t = Leaf (Word.Piece (PieceWord.Filter t))

abbrev pub repeat_word : ℕ → Tree
repeat_word n = Leaf (Word.Piece (PieceWord.Repeat n))

abbrev pub map_word : PieceMap → Tree
map_word f = Leaf (Word.Piece (PieceWord.Map f))

abbrev pub intersperse_word : List ℕ → Tree
intersperse_word literal = Leaf (Word.Piece (PieceWord.Intersperse literal))

abbrev pub drop_word : ℕ → Tree
drop_word n = Leaf (Word.Piece (PieceWord.Drop n))

abbrev pub drop_while_word : PieceTest → Tree
drop_while_word t = Leaf (Word.Piece (PieceWord.DropWhile t))

abbrev pub head_word : Tree
head_word = Leaf (Word.Piece PieceWord.Head)

abbrev pub peek_word : Tree
peek_word = Leaf (Word.Piece PieceWord.Peek)

abbrev pub last_word : Tree
last_word = Leaf (Word.Piece PieceWord.Last)

abbrev pub length_word : Tree
length_word = Leaf (Word.Piece PieceWord.Length)

abbrev pub null_word : Tree
null_word = Leaf (Word.Piece PieceWord.Null)

abbrev pub collect_word : ℕ → Tree
collect_word n = Leaf (Word.Piece (PieceWord.Collect n))

abbrev pub lines_word : ℕ → Tree
lines_word n = Leaf (Word.Split (SplitWord.Lines n))

abbrev pub split_word : ℕ → ℕ → Tree
split_word separator n = Leaf (Word.Split (SplitWord.Split separator n))

abbrev pub exact_word : ℕ → Tree
exact_word n = Leaf (Word.Split (SplitWord.Exact n))

abbrev pub chunks_of_word : ℕ → Tree
chunks_of_word n = Leaf (Word.Split (SplitWord.ChunksOf n))

abbrev pub flat_word : Tree
flat_word = Leaf (Word.Split SplitWord.Flat)

abbrev pub unlines_word : Tree
unlines_word = Leaf (Word.Split SplitWord.Unlines)

abbrev pub utf8_word : Tree
utf8_word = Leaf (Word.Text TextWord.Utf8)

abbrev pub utf8_lenient_word : Tree
utf8_lenient_word = Leaf (Word.Text TextWord.Utf8Lenient)

abbrev pub utf8_encode_word : Tree
utf8_encode_word = Leaf (Word.Text TextWord.Utf8Encode)

abbrev pub hex_encode_word : Tree
hex_encode_word = Leaf (Word.Base BaseWord.HexEncode)

abbrev pub hex_decode_word : Tree
hex_decode_word = Leaf (Word.Base BaseWord.HexDecode)

abbrev pub base64_encode_word : Tree
base64_encode_word = Leaf (Word.Base BaseWord.Base64Encode)

abbrev pub base64_decode_word : Tree
base64_decode_word = Leaf (Word.Base BaseWord.Base64Decode)

abbrev pub source_file_word : List ℕ → Tree
source_file_word name = Leaf (Word.Source (SourceWord.SourceFile name))

abbrev pub stdin_word : Tree
stdin_word = Leaf (Word.Source SourceWord.Stdin)

abbrev pub bytes_word : List ℕ → Tree
bytes_word literal = Leaf (Word.Source (SourceWord.Bytes literal))

abbrev pub text_word : List ℕ → Tree
text_word literal = Leaf (Word.Source (SourceWord.Text literal))

abbrev pub blocks_word : List (List ℕ) → Tree
blocks_word literals = Leaf (Word.Source (SourceWord.Blocks literals))

abbrev pub texts_word : List (List ℕ) → Tree
texts_word literals = Leaf (Word.Source (SourceWord.Texts literals))

abbrev pub replicate_word : ℕ → List ℕ → Tree
replicate_word n literal = Leaf (Word.Source (SourceWord.Replicate n literal))

abbrev pub range_word : ℕ → ℕ → Tree
range_word a b = Leaf (Word.Source (SourceWord.Range a b))

abbrev pub sink_file_word : List ℕ → Tree
sink_file_word name = Leaf (Word.Sink (SinkWord.SinkFile name))

abbrev pub stdout_word : Tree
stdout_word = Leaf (Word.Sink SinkWord.Stdout)

-- ---- operators and forms

abbrev trees : List Tree → Trees
trees [] = Nothing
trees (a ∷ more) = Then a (trees more)

abbrev pub piped : List Tree → Tree
piped parts = Chain Join.Plain (trees parts)

abbrev pub piped_keep : List Tree → Tree
piped_keep parts = Chain Join.Keep (trees parts)

abbrev pub piped_return : List Tree → Tree
piped_return parts = Chain Join.Return (trees parts)

abbrev pub piped_both : List Tree → Tree
piped_both parts = Chain Join.Both (trees parts)

abbrev pub piped_up : List Tree → Tree
piped_up parts = Chain Join.Up (trees parts)

abbrev pub piped_asked : List Tree → Tree
piped_asked parts = Chain Join.Asked (trees parts)

abbrev pub sequence_form : List Tree → Tree
sequence_form parts = Sequence (trees parts)

abbrev pub exactly_form : ℕ → Tree → Tree
exactly_form n p = Exactly n p

abbrev pub exactly_e_form : ℕ → Tree → Tree
exactly_e_form n p = ExactlyE n p

abbrev pub line_e_form : Tree → Tree
line_e_form p = LineE p

abbrev pub mark_form : List ℕ → Tree → Tree
mark_form name p = Mark name p

abbrev pub tee_form : Tree → Tree
tee_form p = Tee p

abbrev pub zip_source_form : List ℕ → Tree → Tree → Tree
zip_source_form literal p q = ZipSource p q literal

abbrev pub zip_sink_form : Tree → Tree → Tree
zip_sink_form p q = ZipSink p q

abbrev pub zip_conduit_form : Tree → Tree → Tree
zip_conduit_form p q = ZipConduit p q

-- ---- statements

abbrev pub run_statement : Tree → Sentence
run_statement t = Runs t

abbrev pub let_statement : List ℕ → Tree → Sentence
let_statement name t = Lets name t

abbrev pub feed_statement : List ℕ → Tree → Sentence
feed_statement name t = Feeds name t

abbrev pub close_statement : List ℕ → Tree → Sentence
close_statement name t = Closes name t

abbrev pub hold_statement : List ℕ → List ℕ → Sentence
hold_statement name file = Holds name file

abbrev pub release_statement : List ℕ → Sentence
release_statement name = Releases name
