-- What each word of the language means: what it gives, and its run by the sort of what it takes.
use Rattle.std.specs.Prelude.{replicate, option_map}
use Rattle.cd_elem.specs.declared.word.Word.{Word}
use Rattle.cd_elem.specs.declared.word.ElemWord.{ElemWord}
use Rattle.cd_elem.specs.declared.word.PieceWord.{PieceWord}
use Rattle.cd_elem.specs.declared.word.SplitWord.{SplitWord}
use Rattle.cd_elem.specs.declared.word.TextWord.{TextWord}
use Rattle.cd_elem.specs.declared.word.BaseWord.{BaseWord}
use Rattle.cd_elem.specs.declared.word.SourceWord.{SourceWord}
use Rattle.cd_elem.specs.declared.word.SinkWord.{SinkWord}
use Rattle.cd_meaning.specs.Stream.{Sort}
use Rattle.cd_meaning.specs.Classes.{of_class, of_element, of_test, of_piece}
use Rattle.cd_meaning.specs.Sorts.{pieces_of, elements_of, value_of, list_of, elements_at, piece_at, pieces_at}
use Rattle.cd_meaning.specs.ElementWords.{passed, taken, taken_while, filtered, mapped, repeated, dropped, dropped_while, head, peek, latest, counted, summed, all, any, none, collected, ignored}
use Rattle.cd_meaning.specs.PieceWords.{interspersed}
use Rattle.cd_meaning.specs.Splitters.{split, lines, exact, chunks_of, flat, unlines}
use Rattle.cd_meaning.specs.Text.{utf8, utf8_lenient, utf8_encode}
use Rattle.cd_meaning.specs.Base.{hex_encode, hex_decode, base64_encode, base64_decode}
use Rattle.cd_meaning.specs.Sources.{source_file, stdin, given, decimals, stdout, sink_file}
use Rattle.cd_meaning.specs.Places.{Reads, ReadsInput, Writes, WritesOutput}
use Rattle.cd_meaning.specs.Meaning.{Meaning, plain, at_site, same, nothing, always}

-- words on elements
abbrev pub element_word : ElemWord → Meaning
element_word ElemWord.PassE = plain same (λ k. passed)
element_word (ElemWord.TakeE n) = plain same (λ k. taken n)
element_word (ElemWord.TakeWhileE p) = plain same (λ k. taken_while (of_class p))
element_word (ElemWord.FilterE p) = plain same (λ k. filtered (of_class p))
element_word (ElemWord.MapE f) = plain same (λ k. mapped (of_element f))
element_word (ElemWord.RepeatE n) = plain same (λ k. repeated n)
element_word (ElemWord.DropE n) = plain nothing (λ k. dropped n)
element_word (ElemWord.DropWhileE p) = plain nothing (λ k. dropped_while (of_class p))
element_word ElemWord.HeadE = plain nothing (λ k. head (value_of k))
element_word ElemWord.PeekE = plain nothing (λ k. peek (value_of k))
element_word ElemWord.LastE = plain nothing (λ k. latest (value_of k))
element_word ElemWord.LengthE = plain nothing (λ k. counted)
element_word ElemWord.SumE = plain nothing (λ k. summed)
element_word (ElemWord.AllE p) = plain nothing (λ k. all (of_class p))
element_word (ElemWord.AnyE p) = plain nothing (λ k. any (of_class p))
element_word ElemWord.NullE = plain nothing (λ k. none)
element_word (ElemWord.CollectE n) = plain nothing (λ k. collected (list_of k) n)
element_word ElemWord.SinkNull = plain nothing (λ k. ignored)

-- words on pieces
abbrev pub piece_word : PieceWord → Meaning
piece_word PieceWord.Pass = plain same (λ k. passed)
piece_word (PieceWord.Take n) = plain same (λ k. taken n)
piece_word (PieceWord.TakeWhile p) = plain same (λ k. taken_while (of_test p k))
piece_word (PieceWord.Filter p) = plain same (λ k. filtered (of_test p k))
piece_word (PieceWord.Repeat n) = plain same (λ k. repeated n)
piece_word (PieceWord.Map f) = plain same (λ k. mapped (of_piece f k))
piece_word (PieceWord.Intersperse literal) = plain same (λ k. interspersed (piece_at k literal))
piece_word (PieceWord.Drop n) = plain nothing (λ k. dropped n)
piece_word (PieceWord.DropWhile p) = plain nothing (λ k. dropped_while (of_test p k))
piece_word PieceWord.Head = plain nothing (λ k. head (value_of k))
piece_word PieceWord.Peek = plain nothing (λ k. peek (value_of k))
piece_word PieceWord.Last = plain nothing (λ k. latest (value_of k))
piece_word PieceWord.Length = plain nothing (λ k. counted)
piece_word PieceWord.Null = plain nothing (λ k. none)
piece_word (PieceWord.Collect n) = plain nothing (λ k. collected (list_of k) n)

-- words between elements and pieces
abbrev pub split_word : SplitWord → Meaning
split_word (SplitWord.Lines n) = plain (option_map pieces_of) (λ k. lines n)
split_word (SplitWord.Split separator n) = plain (option_map pieces_of) (λ k. split separator n)
split_word (SplitWord.Exact n) = plain (option_map pieces_of) (λ k. exact n)
split_word (SplitWord.ChunksOf n) = plain (option_map pieces_of) (λ k. chunks_of n)
split_word SplitWord.Flat = plain (option_map elements_of) (λ k. flat)
split_word SplitWord.Unlines = plain (option_map elements_of) (λ k. unlines)

-- words between bytes and characters
abbrev pub text_word : TextWord → Meaning
text_word TextWord.Utf8 = plain (always Sort.Chars) (λ k. utf8)
text_word TextWord.Utf8Lenient = plain (always Sort.Chars) (λ k. utf8_lenient)
text_word TextWord.Utf8Encode = plain (always Sort.Bytes) (λ k. utf8_encode)

-- base16 and base64
abbrev pub base_word : BaseWord → Meaning
base_word BaseWord.HexEncode = plain (always Sort.Bytes) (λ k. hex_encode)
base_word BaseWord.HexDecode = plain (always Sort.Bytes) (λ k. hex_decode)
base_word BaseWord.Base64Encode = plain (always Sort.Bytes) (λ k. base64_encode)
base_word BaseWord.Base64Decode = plain (always Sort.Bytes) (λ k. base64_decode)

-- sources; a literal is the bytes of its text
abbrev pub source_word : SourceWord → Meaning
source_word (SourceWord.SourceFile name) = at_site (Reads name) (always Sort.Bytes) (λ s seen. source_file s (seen s))
source_word SourceWord.Stdin = at_site ReadsInput (always Sort.Bytes) (λ s seen. stdin s (seen s))
source_word (SourceWord.Bytes literal) = plain (always Sort.Bytes) (λ k. given (elements_at Sort.Bytes literal))
source_word (SourceWord.Text literal) = plain (always Sort.Chars) (λ k. given (elements_at Sort.Chars literal))
source_word (SourceWord.Blocks literals) = plain (always Sort.Block) (λ k. given (pieces_at Sort.Block literals))
source_word (SourceWord.Texts literals) = plain (always Sort.Text) (λ k. given (pieces_at Sort.Text literals))
source_word (SourceWord.Replicate n literal) = plain (always Sort.Block) (λ k. given (replicate n (piece_at Sort.Block literal)))
source_word (SourceWord.Range a b) = plain (always Sort.Block) (λ k. given (decimals a b))

-- sinks
abbrev pub sink_word : SinkWord → Meaning
sink_word (SinkWord.SinkFile name) = at_site (Writes name) nothing (λ s seen. sink_file s)
sink_word SinkWord.Stdout = at_site WritesOutput nothing (λ s seen. stdout s)

abbrev pub word_meaning : Word → Meaning
word_meaning (Word.Elem w) = element_word w
word_meaning (Word.Piece w) = piece_word w
word_meaning (Word.Split w) = split_word w
word_meaning (Word.Text w) = text_word w
word_meaning (Word.Base w) = base_word w
word_meaning (Word.Source w) = source_word w
word_meaning (Word.Sink w) = sink_word w
