-- The reserved words, and how each is spelled.
use Rattle.std.specs.Prelude.{ℕ, bytes_eq, codes, if◌then◌else◌, List, [], ◌∷◌, ◌++◌, Option, Some, None}
use Rattle.cd_elem.specs.declared.token.Opening.{Opening}
use Rattle.cd_elem.specs.declared.token.Opening.TheVariants as opening
use Rattle.cd_elem.specs.declared.token.Section.{Section}
use Rattle.cd_elem.specs.declared.token.Section.TheVariants as section
use Rattle.cd_elem.specs.declared.token.Zip.{Zip}
use Rattle.cd_elem.specs.declared.token.Zip.TheVariants as zip
use Rattle.cd_elem.specs.declared.token.PlainWord.{PlainWord}
use Rattle.cd_elem.specs.declared.token.PlainWord.TheVariants as plain
use Rattle.cd_elem.specs.declared.token.CountedWord.{CountedWord}
use Rattle.cd_elem.specs.declared.token.CountedWord.TheVariants as counted
use Rattle.cd_elem.specs.declared.token.ClassedWord.{ClassedWord}
use Rattle.cd_elem.specs.declared.token.ClassedWord.TheVariants as classed
use Rattle.cd_elem.specs.declared.token.TestedWord.{TestedWord}
use Rattle.cd_elem.specs.declared.token.TestedWord.TheVariants as tested
use Rattle.cd_elem.specs.declared.token.LiteralWord.{LiteralWord}
use Rattle.cd_elem.specs.declared.token.LiteralWord.TheVariants as literal
use Rattle.cd_elem.specs.declared.token.FileWord.{FileWord}
use Rattle.cd_elem.specs.declared.token.FileWord.TheVariants as file
use Rattle.cd_elem.specs.declared.token.ListWord.{ListWord}
use Rattle.cd_elem.specs.declared.token.ListWord.TheVariants as list
use Rattle.cd_elem.specs.declared.token.PlainClass.{PlainClass}
use Rattle.cd_elem.specs.declared.token.PlainClass.TheVariants as class
use Rattle.cd_elem.specs.declared.token.EndTest.{EndTest}
use Rattle.cd_elem.specs.declared.token.EndTest.TheVariants as end_test
use Rattle.cd_elem.specs.declared.token.NumberMap.{NumberMap}
use Rattle.cd_elem.specs.declared.token.NumberMap.TheVariants as number_map
use Rattle.cd_elem.specs.declared.token.EndMap.{EndMap}
use Rattle.cd_elem.specs.declared.token.EndMap.TheVariants as end_map
use Rattle.cd_elem.specs.declared.token.Keyword.{Keyword}
use Rattle.cd_elem.specs.declared.token.Keyword.TheVariants as keyword

abbrev pub spelled_opening : Opening → List ℕ
spelled_opening opening.Let = codes "let"
spelled_opening opening.Feed = codes "feed"
spelled_opening opening.Close = codes "close"
spelled_opening opening.Hold = codes "hold"
spelled_opening opening.Release = codes "release"

abbrev pub spelled_section : Section → List ℕ
spelled_section section.Exactly = codes "exactly"
spelled_section section.ExactlyE = codes "exactlyE"

abbrev pub spelled_zip : Zip → List ℕ
spelled_zip zip.Source = codes "zipSource"
spelled_zip zip.Sink = codes "zipSink"
spelled_zip zip.Conduit = codes "zipConduit"

abbrev pub spelled_plain_word : PlainWord → List ℕ
spelled_plain_word plain.PassE = codes "passE"
spelled_plain_word plain.HeadE = codes "headE"
spelled_plain_word plain.PeekE = codes "peekE"
spelled_plain_word plain.LastE = codes "lastE"
spelled_plain_word plain.LengthE = codes "lengthE"
spelled_plain_word plain.SumE = codes "sumE"
spelled_plain_word plain.NullE = codes "nullE"
spelled_plain_word plain.SinkNull = codes "sinkNull"
spelled_plain_word plain.Pass = codes "pass"
spelled_plain_word plain.Head = codes "head"
spelled_plain_word plain.Peek = codes "peek"
spelled_plain_word plain.Last = codes "last"
spelled_plain_word plain.Length = codes "length"
spelled_plain_word plain.Null = codes "null"
spelled_plain_word plain.Flat = codes "flat"
spelled_plain_word plain.Unlines = codes "unlines"
spelled_plain_word plain.Utf8 = codes "utf8"
spelled_plain_word plain.Utf8Lenient = codes "utf8Lenient"
spelled_plain_word plain.Utf8Encode = codes "utf8Encode"
spelled_plain_word plain.HexEncode = codes "hexEncode"
spelled_plain_word plain.HexDecode = codes "hexDecode"
spelled_plain_word plain.Base64Encode = codes "base64Encode"
spelled_plain_word plain.Base64Decode = codes "base64Decode"
spelled_plain_word plain.Stdin = codes "stdin"
spelled_plain_word plain.Stdout = codes "stdout"

abbrev pub spelled_counted_word : CountedWord → List ℕ
spelled_counted_word counted.TakeE = codes "takeE"
spelled_counted_word counted.RepeatE = codes "repeatE"
spelled_counted_word counted.DropE = codes "dropE"
spelled_counted_word counted.CollectE = codes "collectE"
spelled_counted_word counted.Take = codes "take"
spelled_counted_word counted.Repeat = codes "repeat"
spelled_counted_word counted.Drop = codes "drop"
spelled_counted_word counted.Collect = codes "collect"
spelled_counted_word counted.Lines = codes "lines"
spelled_counted_word counted.Exact = codes "exact"
spelled_counted_word counted.ChunksOf = codes "chunksOf"

abbrev pub spelled_classed_word : ClassedWord → List ℕ
spelled_classed_word classed.TakeWhileE = codes "takeWhileE"
spelled_classed_word classed.FilterE = codes "filterE"
spelled_classed_word classed.DropWhileE = codes "dropWhileE"
spelled_classed_word classed.AllE = codes "allE"
spelled_classed_word classed.AnyE = codes "anyE"

abbrev pub spelled_tested_word : TestedWord → List ℕ
spelled_tested_word tested.TakeWhile = codes "takeWhile"
spelled_tested_word tested.Filter = codes "filter"
spelled_tested_word tested.DropWhile = codes "dropWhile"

abbrev pub spelled_literal_word : LiteralWord → List ℕ
spelled_literal_word literal.Intersperse = codes "intersperse"
spelled_literal_word literal.Bytes = codes "bytes"
spelled_literal_word literal.Text = codes "text"

abbrev pub spelled_file_word : FileWord → List ℕ
spelled_file_word file.SourceFile = codes "sourceFile"
spelled_file_word file.SinkFile = codes "sinkFile"

abbrev pub spelled_list_word : ListWord → List ℕ
spelled_list_word list.Blocks = codes "blocks"
spelled_list_word list.Texts = codes "texts"

abbrev pub spelled_plain_class : PlainClass → List ℕ
spelled_plain_class class.Digit = codes "digit"
spelled_plain_class class.Upper = codes "upper"
spelled_plain_class class.Lower = codes "lower"
spelled_plain_class class.Alpha = codes "alpha"
spelled_plain_class class.Alnum = codes "alnum"
spelled_plain_class class.Hexdigit = codes "hexdigit"
spelled_plain_class class.Space = codes "space"
spelled_plain_class class.Newline = codes "newline"

abbrev pub spelled_end_test : EndTest → List ℕ
spelled_end_test end_test.Begins = codes "begins"
spelled_end_test end_test.Ends = codes "ends"

abbrev pub spelled_number_map : NumberMap → List ℕ
spelled_number_map number_map.Xor = codes "xor"
spelled_number_map number_map.Add = codes "add"

abbrev pub spelled_end_map : EndMap → List ℕ
spelled_end_map end_map.Prefix = codes "prefix"
spelled_end_map end_map.Suffix = codes "suffix"

abbrev pub spelled_word : Keyword → List ℕ
spelled_word (keyword.Opening w) = spelled_opening w
spelled_word (keyword.Section w) = spelled_section w
spelled_word (keyword.Zip w) = spelled_zip w
spelled_word (keyword.Plain w) = spelled_plain_word w
spelled_word (keyword.Counted w) = spelled_counted_word w
spelled_word (keyword.Classed w) = spelled_classed_word w
spelled_word (keyword.Tested w) = spelled_tested_word w
spelled_word (keyword.Literal w) = spelled_literal_word w
spelled_word (keyword.File w) = spelled_file_word w
spelled_word (keyword.List w) = spelled_list_word w
spelled_word (keyword.Class w) = spelled_plain_class w
spelled_word (keyword.EndTest w) = spelled_end_test w
spelled_word (keyword.NumberMap w) = spelled_number_map w
spelled_word (keyword.EndMap w) = spelled_end_map w
spelled_word keyword.Run = codes "run"
spelled_word keyword.Seal = codes "seal"
spelled_word keyword.Mark = codes "mark"
spelled_word keyword.Not = codes "not"
spelled_word keyword.Version = codes "version"
spelled_word keyword.Scope = codes "scope"
spelled_word keyword.LineE = codes "lineE"
spelled_word keyword.Tee = codes "tee"
spelled_word keyword.MapE = codes "mapE"
spelled_word keyword.Map = codes "map"
spelled_word keyword.Split = codes "split"
spelled_word keyword.Replicate = codes "replicate"
spelled_word keyword.Range = codes "range"
spelled_word keyword.Is = codes "is"
spelled_word keyword.Below = codes "below"
spelled_word keyword.Empty = codes "empty"
spelled_word keyword.Shorter = codes "shorter"
spelled_word keyword.Rot13 = codes "rot13"
spelled_word keyword.Reverse = codes "reverse"

-- the words of statements and of forms, and those that are reserved and stand in no script
abbrev pub form_words : List Keyword
form_words =
    keyword.Run
    ∷ keyword.Opening opening.Let
    ∷ keyword.Seal
    ∷ keyword.Opening opening.Feed
    ∷ keyword.Opening opening.Close
    ∷ keyword.Opening opening.Hold
    ∷ keyword.Mark
    ∷ keyword.Opening opening.Release
    ∷ keyword.Not
    ∷ keyword.Version
    ∷ keyword.Scope
    ∷ keyword.Section section.Exactly
    ∷ keyword.Section section.ExactlyE
    ∷ keyword.LineE
    ∷ keyword.Tee
    ∷ keyword.Zip zip.Source
    ∷ keyword.Zip zip.Sink
    ∷ keyword.Zip zip.Conduit
    ∷ []

-- the words with nothing behind them
abbrev pub plain_words : List Keyword
plain_words =
    keyword.Plain plain.PassE
    ∷ keyword.Plain plain.HeadE
    ∷ keyword.Plain plain.PeekE
    ∷ keyword.Plain plain.LastE
    ∷ keyword.Plain plain.LengthE
    ∷ keyword.Plain plain.SumE
    ∷ keyword.Plain plain.NullE
    ∷ keyword.Plain plain.SinkNull
    ∷ keyword.Plain plain.Pass
    ∷ keyword.Plain plain.Head
    ∷ keyword.Plain plain.Peek
    ∷ keyword.Plain plain.Last
    ∷ keyword.Plain plain.Length
    ∷ keyword.Plain plain.Null
    ∷ keyword.Plain plain.Flat
    ∷ keyword.Plain plain.Unlines
    ∷ keyword.Plain plain.Utf8
    ∷ keyword.Plain plain.Utf8Lenient
    ∷ keyword.Plain plain.Utf8Encode
    ∷ keyword.Plain plain.HexEncode
    ∷ keyword.Plain plain.HexDecode
    ∷ keyword.Plain plain.Base64Encode
    ∷ keyword.Plain plain.Base64Decode
    ∷ keyword.Plain plain.Stdin
    ∷ keyword.Plain plain.Stdout
    ∷ []

-- the words with something behind them
abbrev pub argument_words : List Keyword
argument_words =
    keyword.Counted counted.TakeE
    ∷ keyword.Counted counted.RepeatE
    ∷ keyword.Counted counted.DropE
    ∷ keyword.Counted counted.CollectE
    ∷ keyword.Counted counted.Take
    ∷ keyword.Counted counted.Repeat
    ∷ keyword.Counted counted.Drop
    ∷ keyword.Counted counted.Collect
    ∷ keyword.Counted counted.Lines
    ∷ keyword.Counted counted.Exact
    ∷ keyword.Counted counted.ChunksOf
    ∷ keyword.Classed classed.TakeWhileE
    ∷ keyword.Classed classed.FilterE
    ∷ keyword.Classed classed.DropWhileE
    ∷ keyword.Classed classed.AllE
    ∷ keyword.Classed classed.AnyE
    ∷ keyword.Tested tested.TakeWhile
    ∷ keyword.Tested tested.Filter
    ∷ keyword.Tested tested.DropWhile
    ∷ keyword.Literal literal.Intersperse
    ∷ keyword.Literal literal.Bytes
    ∷ keyword.Literal literal.Text
    ∷ keyword.File file.SourceFile
    ∷ keyword.File file.SinkFile
    ∷ keyword.List list.Blocks
    ∷ keyword.List list.Texts
    ∷ keyword.MapE
    ∷ keyword.Map
    ∷ keyword.Split
    ∷ keyword.Replicate
    ∷ keyword.Range
    ∷ []

-- the names of classes, tests and maps
abbrev pub argument_names : List Keyword
argument_names =
    keyword.Class class.Digit
    ∷ keyword.Class class.Upper
    ∷ keyword.Class class.Lower
    ∷ keyword.Class class.Alpha
    ∷ keyword.Class class.Alnum
    ∷ keyword.Class class.Hexdigit
    ∷ keyword.Class class.Space
    ∷ keyword.Class class.Newline
    ∷ keyword.Is
    ∷ keyword.Below
    ∷ keyword.Empty
    ∷ keyword.EndTest end_test.Begins
    ∷ keyword.EndTest end_test.Ends
    ∷ keyword.Shorter
    ∷ keyword.NumberMap number_map.Xor
    ∷ keyword.NumberMap number_map.Add
    ∷ keyword.Rot13
    ∷ keyword.EndMap end_map.Prefix
    ∷ keyword.EndMap end_map.Suffix
    ∷ keyword.Reverse
    ∷ []

-- all of them
abbrev pub keywords : List Keyword
keywords = form_words ++ (plain_words ++ (argument_words ++ argument_names))

abbrev pub first_spelled : List ℕ → List Keyword → Option Keyword
first_spelled name [] = None
first_spelled name (k ∷ ks) = if bytes_eq name (spelled_word k) then Some k else first_spelled name ks

-- the reserved word that an identifier is, if it is one
abbrev pub reserved : List ℕ → Option Keyword
reserved name = first_spelled name keywords
