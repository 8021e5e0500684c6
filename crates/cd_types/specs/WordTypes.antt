-- The types of words, and what is refused at them.
use Rattle.std.specs.Prelude.{ℕ, ◌+◌, ◌*◌, Bool, true, false, ◌&&◌, ◌||◌, not, nat_lt, List, length, map, Option, Some, None}
use Rattle.std.specs.List.{fold}
use Rattle.cd_elem.specs.Limits.{piece_limit}
use Rattle.cd_elem.specs.declared.word.Word.{Word}
use Rattle.cd_elem.specs.declared.word.ElemWord.{ElemWord}
use Rattle.cd_elem.specs.declared.word.PieceWord.{PieceWord}
use Rattle.cd_elem.specs.declared.word.SplitWord.{SplitWord}
use Rattle.cd_elem.specs.declared.word.TextWord.{TextWord}
use Rattle.cd_elem.specs.declared.word.BaseWord.{BaseWord}
use Rattle.cd_elem.specs.declared.word.SourceWord.{SourceWord}
use Rattle.cd_elem.specs.declared.word.SinkWord.{SinkWord}
use Rattle.cd_elem.specs.declared.word.ByteMap.{ByteMap}
use Rattle.cd_elem.specs.declared.word.PieceMap.{PieceMap}
use Rattle.cd_elem.specs.declared.word.ClassName.{ClassName}
use Rattle.cd_meaning.specs.Places.{Place, Reads, ReadsInput, Writes, WritesOutput}
use Rattle.std.specs.Str.{chars}
use Rattle.cd_types.specs.declared.refusal.RefusalKind.{RefusalKind}
use Rattle.cd_types.specs.declared.refusal.RefusalKind.TheVariants.{KindMismatch, SeesChunks, NeedsElements, BoundTooLarge, OpenEnd}
use Rattle.cd_types.specs.Flows.{Flow, Kind, ResultKind, Unit, Num, Truth, Maybe, PartType, is_nothing, is_cut, is_pieces, is_bytes, is_chars, piece_bound, with_bound, larger, cut_into, flattened, value_in, list_in}

-- ---- what they give

abbrev elem_gives : ElemWord → Flow → Flow
elem_gives ElemWord.PassE f = f
elem_gives (ElemWord.TakeE n) f = f
elem_gives (ElemWord.TakeWhileE c) f = f
elem_gives (ElemWord.FilterE c) f = f
elem_gives (ElemWord.MapE m) f = f
elem_gives (ElemWord.RepeatE n) f = f
elem_gives _ f = None

-- a literal's length among the pieces of a flow: in characters among texts, else in bytes
abbrev pub length_in : Flow → List ℕ → ℕ
length_in (Some (Kind.Texts m)) literal = length (chars literal)
length_in _ literal = length literal

abbrev map_gives : PieceMap → Flow → Flow
map_gives (PieceMap.Prefix literal) f = with_bound f (piece_bound f + length_in f literal)
map_gives (PieceMap.Suffix literal) f = with_bound f (piece_bound f + length_in f literal)
map_gives PieceMap.Reverse f = f

abbrev piece_gives : PieceWord → Flow → Flow
piece_gives PieceWord.Pass f = f
piece_gives (PieceWord.Take n) f = f
piece_gives (PieceWord.TakeWhile t) f = f
piece_gives (PieceWord.Filter t) f = f
piece_gives (PieceWord.Repeat n) f = f
piece_gives (PieceWord.Map m) f = map_gives m f
piece_gives (PieceWord.Intersperse literal) f = with_bound f (larger (piece_bound f) (length_in f literal))
piece_gives _ f = None

abbrev split_gives : SplitWord → Flow → Flow
split_gives (SplitWord.Lines n) f = cut_into f n
split_gives (SplitWord.Split c n) f = cut_into f n
split_gives (SplitWord.Exact n) f = cut_into f n
split_gives (SplitWord.ChunksOf n) f = cut_into f n
split_gives SplitWord.Flat f = flattened f
split_gives SplitWord.Unlines f = flattened f

abbrev text_gives : TextWord → Flow
text_gives TextWord.Utf8 = Some Kind.Chars
text_gives TextWord.Utf8Lenient = Some Kind.Chars
text_gives TextWord.Utf8Encode = Some Kind.Bytes

-- the greatest of them, or 0
abbrev pub greatest : List ℕ → ℕ
greatest ns = fold larger 0 ns

abbrev source_gives : SourceWord → Flow
source_gives (SourceWord.SourceFile name) = Some Kind.Bytes
source_gives SourceWord.Stdin = Some Kind.Bytes
source_gives (SourceWord.Bytes literal) = Some Kind.Bytes
source_gives (SourceWord.Text literal) = Some Kind.Chars
source_gives (SourceWord.Blocks literals) = Some (Kind.Blocks (greatest (map length literals)))
source_gives (SourceWord.Texts literals) = Some (Kind.Texts (greatest (map (λ s. length (chars s)) literals)))
source_gives (SourceWord.Replicate n literal) = Some (Kind.Blocks (length literal))
source_gives (SourceWord.Range a b) = Some (Kind.Blocks 20)

abbrev pub word_gives : Word → Flow → Flow
word_gives (Word.Elem w) f = elem_gives w f
word_gives (Word.Piece w) f = piece_gives w f
word_gives (Word.Split w) f = split_gives w f
word_gives (Word.Text w) f = text_gives w
word_gives (Word.Base w) f = Some Kind.Bytes
word_gives (Word.Source w) f = source_gives w
word_gives (Word.Sink w) f = None

-- ---- what they result in

abbrev elem_result : ElemWord → Flow → ResultKind
elem_result ElemWord.HeadE f = Maybe (value_in f)
elem_result ElemWord.PeekE f = Maybe (value_in f)
elem_result ElemWord.LastE f = Maybe (value_in f)
elem_result ElemWord.LengthE f = Num
elem_result ElemWord.SumE f = Num
elem_result (ElemWord.AllE c) f = Truth
elem_result (ElemWord.AnyE c) f = Truth
elem_result ElemWord.NullE f = Truth
elem_result (ElemWord.CollectE n) f = list_in f
elem_result _ f = Unit

abbrev piece_result : PieceWord → Flow → ResultKind
piece_result PieceWord.Head f = Maybe (value_in f)
piece_result PieceWord.Peek f = Maybe (value_in f)
piece_result PieceWord.Last f = Maybe (value_in f)
piece_result PieceWord.Length f = Num
piece_result PieceWord.Null f = Truth
piece_result (PieceWord.Collect n) f = list_in f
piece_result _ f = Unit

abbrev pub word_result : Word → Flow → ResultKind
word_result (Word.Elem w) f = elem_result w f
word_result (Word.Piece w) f = piece_result w f
word_result _ f = Unit

-- ---- how much they may hold

abbrev elem_bound : ElemWord → ℕ
elem_bound ElemWord.LastE = 1
elem_bound (ElemWord.CollectE n) = n
elem_bound _ = 0

abbrev piece_word_bound : PieceWord → Flow → ℕ
piece_word_bound PieceWord.Last f = piece_bound f + 1
piece_word_bound (PieceWord.Collect n) f = n * (piece_bound f + 1)
piece_word_bound _ f = 0

abbrev split_bound : SplitWord → ℕ
split_bound (SplitWord.Lines n) = n
split_bound (SplitWord.Split c n) = n
split_bound (SplitWord.Exact n) = n
split_bound (SplitWord.ChunksOf n) = n
split_bound SplitWord.Flat = 0
split_bound SplitWord.Unlines = 0

abbrev text_bound : TextWord → ℕ
text_bound TextWord.Utf8 = 3
text_bound TextWord.Utf8Lenient = 3
text_bound TextWord.Utf8Encode = 0

abbrev base_bound : BaseWord → ℕ
base_bound BaseWord.HexEncode = 0
base_bound BaseWord.HexDecode = 1
base_bound BaseWord.Base64Encode = 2
base_bound BaseWord.Base64Decode = 3

abbrev pub word_bound : Word → Flow → ℕ
word_bound (Word.Elem w) f = elem_bound w
word_bound (Word.Piece w) f = piece_word_bound w f
word_bound (Word.Split w) f = split_bound w
word_bound (Word.Text w) f = text_bound w
word_bound (Word.Base w) f = base_bound w
word_bound (Word.Source w) f = 0
word_bound (Word.Sink w) f = 0

-- ---- what sort of word it is

abbrev pub is_source : Word → Bool
is_source (Word.Source w) = true
is_source _ = false

abbrev pub word_type : Word → Flow → PartType
word_type w f = record { from = f; to = word_gives w f; result = word_result w f; exact = true; idle = is_source w; bound = word_bound w f }

-- a word for Bytes
abbrev text_for_bytes : TextWord → Bool
text_for_bytes TextWord.Utf8 = true
text_for_bytes TextWord.Utf8Lenient = true
text_for_bytes TextWord.Utf8Encode = false

abbrev pub is_for_bytes : Word → Bool
is_for_bytes (Word.Text w) = text_for_bytes w
is_for_bytes (Word.Base w) = true
is_for_bytes (Word.Sink w) = true
is_for_bytes _ = false

-- a word for Chars
abbrev pub is_for_chars : Word → Bool
is_for_chars (Word.Text TextWord.Utf8Encode) = true
is_for_chars _ = false

-- `xor`, `add` and `sumE`, which count with bytes
abbrev elem_counts : ElemWord → Bool
elem_counts ElemWord.SumE = true
elem_counts (ElemWord.MapE (ByteMap.Xor k)) = true
elem_counts (ElemWord.MapE (ByteMap.Add k)) = true
elem_counts _ = false

abbrev pub counts_with_bytes : Word → Bool
counts_with_bytes (Word.Elem w) = elem_counts w
counts_with_bytes _ = false

-- a character past 127 in a word's argument
abbrev pub class_past_ascii : ClassName → Bool
class_past_ascii (ClassName.Is c) = nat_lt 127 c
class_past_ascii _ = false

abbrev elem_past_ascii : ElemWord → Bool
elem_past_ascii (ElemWord.TakeWhileE c) = class_past_ascii c.what
elem_past_ascii (ElemWord.FilterE c) = class_past_ascii c.what
elem_past_ascii (ElemWord.DropWhileE c) = class_past_ascii c.what
elem_past_ascii (ElemWord.AllE c) = class_past_ascii c.what
elem_past_ascii (ElemWord.AnyE c) = class_past_ascii c.what
elem_past_ascii _ = false

abbrev split_past_ascii : SplitWord → Bool
split_past_ascii (SplitWord.Split c n) = nat_lt 127 c
split_past_ascii _ = false

abbrev pub is_past_ascii : Word → Bool
is_past_ascii (Word.Elem w) = elem_past_ascii w
is_past_ascii (Word.Split w) = split_past_ascii w
is_past_ascii _ = false

-- a word that reads pieces, and one that reads elements
abbrev split_on_pieces : SplitWord → Bool
split_on_pieces SplitWord.Flat = true
split_on_pieces SplitWord.Unlines = true
split_on_pieces _ = false

abbrev pub reads_pieces : Word → Bool
reads_pieces (Word.Piece w) = true
reads_pieces (Word.Split w) = split_on_pieces w
reads_pieces _ = false

abbrev elem_alone : ElemWord → Bool
elem_alone ElemWord.SinkNull = false
elem_alone _ = true

abbrev pub reads_elements : Word → Bool
reads_elements (Word.Elem w) = elem_alone w
reads_elements (Word.Piece w) = false
reads_elements (Word.Split w) = not (split_on_pieces w)
reads_elements (Word.Text w) = true
reads_elements (Word.Base w) = true
reads_elements (Word.Source w) = false
reads_elements (Word.Sink w) = true

-- ---- what is refused at a word, but for what its site refuses

abbrev pub word_fails : Word → Flow → RefusalKind → Bool
word_fails w f KindMismatch = (is_for_bytes w && is_chars f) || (is_for_chars w && is_bytes f) || (counts_with_bytes w && is_chars f) || (is_past_ascii w && is_bytes f)
word_fails w f SeesChunks = reads_pieces w && is_cut f
word_fails w f NeedsElements = reads_elements w && is_pieces f
word_fails w f BoundTooLarge = nat_lt piece_limit (piece_bound (word_gives w f))
word_fails w f OpenEnd = not (is_source w) && is_nothing f
word_fails w f _ = false

-- what a word does outside
abbrev source_site : SourceWord → Option Place
source_site (SourceWord.SourceFile name) = Some (Reads name)
source_site SourceWord.Stdin = Some ReadsInput
source_site _ = None

abbrev sink_site : SinkWord → Option Place
sink_site (SinkWord.SinkFile name) = Some (Writes name)
sink_site SinkWord.Stdout = Some WritesOutput

abbrev pub word_site : Word → Option Place
word_site (Word.Source w) = source_site w
word_site (Word.Sink w) = sink_site w
word_site _ = None

-- a word whose fault or order of reads would show how its input was cut
abbrev pub shows_cuts : Word → Bool
shows_cuts (Word.Text TextWord.Utf8) = true
shows_cuts (Word.Base BaseWord.HexDecode) = true
shows_cuts (Word.Base BaseWord.Base64Decode) = true
shows_cuts (Word.Source (SourceWord.SourceFile name)) = true
shows_cuts (Word.Source SourceWord.Stdin) = true
shows_cuts _ = false
