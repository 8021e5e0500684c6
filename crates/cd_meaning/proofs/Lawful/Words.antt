-- Each word is lawful. Those on elements and on pieces with something behind them are named; the wildcard stands for each plain one, whose run is proved in `plain_runs`.
use Rattle.std.proofs.Common.{replicate, refl, ap}
use Rattle.cd_elem.specs.declared.word.Word.{Word}
use Rattle.cd_elem.specs.declared.word.ElemWord.{ElemWord}
use Rattle.cd_elem.specs.declared.word.PieceWord.{PieceWord}
use Rattle.cd_elem.specs.declared.word.SplitWord.{SplitWord}
use Rattle.cd_elem.specs.declared.word.TextWord.{TextWord}
use Rattle.cd_elem.specs.declared.word.BaseWord.{BaseWord}
use Rattle.cd_elem.specs.declared.word.SourceWord.{SourceWord}
use Rattle.cd_elem.specs.declared.word.SinkWord.{SinkWord}
use Rattle.cd_meaning.specs.Stream.{Sort}
use Rattle.cd_meaning.specs.Classes.{of_class, of_element, of_test, of_piece}
use Rattle.cd_meaning.specs.Sorts.{sort_of, list_of, elements_at, piece_at, pieces_at}
use Rattle.cd_meaning.specs.Sources.{source_file, stdin, decimals, sink_file, stdout}
use Rattle.cd_meaning.specs.WordMeanings.{element_word, piece_word, split_word, text_word, base_word, source_word, sink_word, word_meaning}
use Rattle.cd_meaning.specs.Lawful.{IsLawful}
use Rattle.cd_meaning.proofs.Runs.Elements.{filtered_is_run, mapped_is_run, repeated_is_run, taken_is_run, dropped_is_run, collected_is_run, taken_while_is_run, dropped_while_is_run, all_is_run, any_is_run, plain_runs}
use Rattle.cd_meaning.proofs.Runs.Pieces.{interspersed_is_run}
use Rattle.cd_meaning.proofs.Runs.Splitters.{exact_is_run, chunks_of_is_run, split_is_run, lines_is_run, flat_is_run, unlines_is_run}
use Rattle.cd_meaning.proofs.Runs.Texts.{utf8_is_run, utf8_lenient_is_run, utf8_encode_is_run}
use Rattle.cd_meaning.proofs.Runs.Bases.{hex_encode_is_run, hex_decode_is_run, base64_encode_is_run, base64_decode_is_run}
use Rattle.cd_meaning.proofs.Runs.Sources.{source_file_is_run, stdin_is_run, given_is_run, stdout_is_run, sink_file_is_run}
use Rattle.cd_meaning.proofs.Begins.Laws.{goes_on_refl, source_file_goes_on, stdin_goes_on}
use Rattle.cd_meaning.proofs.Lawful.Forms.{plain_is_lawful, at_site_is_lawful}

element_word_is_lawful : (w : ElemWord) → IsLawful (element_word w)
element_word_is_lawful (ElemWord.TakeE n) = plain_is_lawful _ _ (λ f. taken_is_run n)
element_word_is_lawful (ElemWord.TakeWhileE p) = plain_is_lawful _ _ (λ f. taken_while_is_run (of_class p))
element_word_is_lawful (ElemWord.FilterE p) = plain_is_lawful _ _ (λ f. filtered_is_run (of_class p))
element_word_is_lawful (ElemWord.MapE m) = plain_is_lawful _ _ (λ f. mapped_is_run (of_element m))
element_word_is_lawful (ElemWord.RepeatE n) = plain_is_lawful _ _ (λ f. repeated_is_run n)
element_word_is_lawful (ElemWord.DropE n) = plain_is_lawful _ _ (λ f. dropped_is_run n)
element_word_is_lawful (ElemWord.DropWhileE p) = plain_is_lawful _ _ (λ f. dropped_while_is_run (of_class p))
element_word_is_lawful (ElemWord.AllE p) = plain_is_lawful _ _ (λ f. all_is_run (of_class p))
element_word_is_lawful (ElemWord.AnyE p) = plain_is_lawful _ _ (λ f. any_is_run (of_class p))
element_word_is_lawful (ElemWord.CollectE n) = plain_is_lawful _ _ (λ f. collected_is_run (list_of (sort_of f)) n)
element_word_is_lawful _ = plain_is_lawful _ _ (λ f. search plain_runs)

piece_word_is_lawful : (w : PieceWord) → IsLawful (piece_word w)
piece_word_is_lawful (PieceWord.Take n) = plain_is_lawful _ _ (λ f. taken_is_run n)
piece_word_is_lawful (PieceWord.TakeWhile p) = plain_is_lawful _ _ (λ f. taken_while_is_run (of_test p (sort_of f)))
piece_word_is_lawful (PieceWord.Filter p) = plain_is_lawful _ _ (λ f. filtered_is_run (of_test p (sort_of f)))
piece_word_is_lawful (PieceWord.Repeat n) = plain_is_lawful _ _ (λ f. repeated_is_run n)
piece_word_is_lawful (PieceWord.Map m) = plain_is_lawful _ _ (λ f. mapped_is_run (of_piece m (sort_of f)))
piece_word_is_lawful (PieceWord.Intersperse literal) = plain_is_lawful _ _ (λ f. interspersed_is_run (piece_at (sort_of f) literal))
piece_word_is_lawful (PieceWord.Drop n) = plain_is_lawful _ _ (λ f. dropped_is_run n)
piece_word_is_lawful (PieceWord.DropWhile p) = plain_is_lawful _ _ (λ f. dropped_while_is_run (of_test p (sort_of f)))
piece_word_is_lawful (PieceWord.Collect n) = plain_is_lawful _ _ (λ f. collected_is_run (list_of (sort_of f)) n)
piece_word_is_lawful _ = plain_is_lawful _ _ (λ f. search plain_runs)

split_word_is_lawful : (w : SplitWord) → IsLawful (split_word w)
split_word_is_lawful (SplitWord.Lines n) = plain_is_lawful _ _ (λ k. lines_is_run n)
split_word_is_lawful (SplitWord.Split separator n) = plain_is_lawful _ _ (λ k. split_is_run separator n)
split_word_is_lawful (SplitWord.Exact n) = plain_is_lawful _ _ (λ k. exact_is_run n)
split_word_is_lawful (SplitWord.ChunksOf n) = plain_is_lawful _ _ (λ k. chunks_of_is_run n)
split_word_is_lawful SplitWord.Flat = plain_is_lawful _ _ (λ k. flat_is_run)
split_word_is_lawful SplitWord.Unlines = plain_is_lawful _ _ (λ k. unlines_is_run)

text_word_is_lawful : (w : TextWord) → IsLawful (text_word w)
text_word_is_lawful TextWord.Utf8 = plain_is_lawful _ _ (λ k. utf8_is_run)
text_word_is_lawful TextWord.Utf8Lenient = plain_is_lawful _ _ (λ k. utf8_lenient_is_run)
text_word_is_lawful TextWord.Utf8Encode = plain_is_lawful _ _ (λ k. utf8_encode_is_run)

base_word_is_lawful : (w : BaseWord) → IsLawful (base_word w)
base_word_is_lawful BaseWord.HexEncode = plain_is_lawful _ _ (λ k. hex_encode_is_run)
base_word_is_lawful BaseWord.HexDecode = plain_is_lawful _ _ (λ k. hex_decode_is_run)
base_word_is_lawful BaseWord.Base64Encode = plain_is_lawful _ _ (λ k. base64_encode_is_run)
base_word_is_lawful BaseWord.Base64Decode = plain_is_lawful _ _ (λ k. base64_decode_is_run)

source_word_is_lawful : (w : SourceWord) → IsLawful (source_word w)
source_word_is_lawful (SourceWord.SourceFile name) = at_site_is_lawful _ _ _ (λ s seen. source_file_is_run s (seen s)) (λ s seen seen' e. ap (source_file s) e) source_file_goes_on
source_word_is_lawful SourceWord.Stdin = at_site_is_lawful _ _ _ (λ s seen. stdin_is_run s (seen s)) (λ s seen seen' e. ap (stdin s) e) stdin_goes_on
source_word_is_lawful (SourceWord.Bytes literal) = plain_is_lawful _ _ (λ k. given_is_run (elements_at Sort.Bytes literal))
source_word_is_lawful (SourceWord.Text literal) = plain_is_lawful _ _ (λ k. given_is_run (elements_at Sort.Chars literal))
source_word_is_lawful (SourceWord.Blocks literals) = plain_is_lawful _ _ (λ k. given_is_run (pieces_at Sort.Block literals))
source_word_is_lawful (SourceWord.Texts literals) = plain_is_lawful _ _ (λ k. given_is_run (pieces_at Sort.Text literals))
source_word_is_lawful (SourceWord.Replicate n literal) = plain_is_lawful _ _ (λ k. given_is_run (replicate n (piece_at Sort.Block literal)))
source_word_is_lawful (SourceWord.Range a b) = plain_is_lawful _ _ (λ k. given_is_run (decimals a b))

sink_word_is_lawful : (w : SinkWord) → IsLawful (sink_word w)
sink_word_is_lawful (SinkWord.SinkFile name) = at_site_is_lawful _ _ _ (λ s seen. sink_file_is_run s) (λ s seen seen' e. refl) (λ sites s seen seen' w. goes_on_refl sites (sink_file s))
sink_word_is_lawful SinkWord.Stdout = at_site_is_lawful _ _ _ (λ s seen. stdout_is_run s) (λ s seen seen' e. refl) (λ sites s seen seen' w. goes_on_refl sites (stdout s))

pub word_is_lawful : (w : Word) → IsLawful (word_meaning w)
word_is_lawful (Word.Elem w) = element_word_is_lawful w
word_is_lawful (Word.Piece w) = piece_word_is_lawful w
word_is_lawful (Word.Split w) = split_word_is_lawful w
word_is_lawful (Word.Text w) = text_word_is_lawful w
word_is_lawful (Word.Base w) = base_word_is_lawful w
word_is_lawful (Word.Source w) = source_word_is_lawful w
word_is_lawful (Word.Sink w) = sink_word_is_lawful w
