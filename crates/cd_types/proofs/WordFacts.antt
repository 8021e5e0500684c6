-- A word has the site of its meaning, and gives what its meaning gives where nothing fails at it.
use Rattle.std.proofs.Common.{◌≡◌, ℕ, false, [], Some, None, refl}
use Rattle.std.specs.Prelude.{option_map}
use Rattle.cd_elem.specs.declared.kind.Kind.{Kind}
use Rattle.cd_elem.specs.declared.word.Word.{Word}
use Rattle.cd_elem.specs.declared.word.ElemWord.{ElemWord}
use Rattle.cd_elem.specs.declared.word.PieceWord.{PieceWord}
use Rattle.cd_elem.specs.declared.word.PieceMap.{PieceMap}
use Rattle.cd_elem.specs.declared.word.SplitWord.{SplitWord}
use Rattle.cd_elem.specs.declared.word.TextWord.{TextWord}
use Rattle.cd_elem.specs.declared.word.BaseWord.{BaseWord}
use Rattle.cd_elem.specs.declared.word.SourceWord.{SourceWord}
use Rattle.cd_elem.specs.declared.word.SinkWord.{SinkWord}
use Rattle.cd_meaning.specs.Sorts.{pieces_of, elements_of}
use Rattle.cd_meaning.specs.WordMeanings.{element_word, piece_word, split_word, text_word, base_word, source_word, sink_word, word_meaning}
use Rattle.cd_types.specs.declared.refusal.RefusalKind.{RefusalKind}
use Rattle.cd_types.specs.declared.refusal.RefusalKind.TheVariants.{SeesChunks, NeedsElements}
use Rattle.cd_types.specs.Flows.{Flow, sort_in, with_bound, cut_into, flattened, is_cut, is_pieces}
use Rattle.cd_types.specs.WordTypes.{word_gives, word_site, word_fails}
use Rattle.cd_types.proofs.Sums.{site_list}

-- ---- sites

elem_site : (w : ElemWord) → [] ≡ (element_word w).places
elem_site ElemWord.PassE = refl
elem_site _ = refl

piece_site : (w : PieceWord) → [] ≡ (piece_word w).places
piece_site PieceWord.Pass = refl
piece_site _ = refl

split_site : (w : SplitWord) → [] ≡ (split_word w).places
split_site SplitWord.Flat = refl
split_site _ = refl

text_site : (w : TextWord) → [] ≡ (text_word w).places
text_site TextWord.Utf8 = refl
text_site _ = refl

base_site : (w : BaseWord) → [] ≡ (base_word w).places
base_site BaseWord.HexEncode = refl
base_site _ = refl

source_site : (w : SourceWord) → site_list (word_site (Word.Source w)) ≡ (source_word w).places
source_site SourceWord.Stdin = refl
source_site _ = refl

sink_site : (w : SinkWord) → site_list (word_site (Word.Sink w)) ≡ (sink_word w).places
sink_site SinkWord.Stdout = refl
sink_site _ = refl

pub word_place : (w : Word) → site_list (word_site w) ≡ (word_meaning w).places
word_place (Word.Elem w) = elem_site w
word_place (Word.Piece w) = piece_site w
word_place (Word.Split w) = split_site w
word_place (Word.Text w) = text_site w
word_place (Word.Base w) = base_site w
word_place (Word.Source w) = source_site w
word_place (Word.Sink w) = sink_site w

-- ---- what is given

pub keeps_sort : (f : Flow) (n : ℕ) → sort_in f ≡ sort_in (with_bound f n)
keeps_sort None n = refl
keeps_sort (Some Kind.Bytes) n = refl
keeps_sort (Some Kind.Chars) n = refl
keeps_sort (Some (Kind.Blocks m)) n = refl
keeps_sort (Some (Kind.Texts m)) n = refl

elem_out : (w : ElemWord) (f : Flow) → (element_word w).gives (sort_in f) ≡ sort_in (word_gives (Word.Elem w) f)
elem_out ElemWord.PassE f = refl
elem_out _ f = refl

map_out : (m : PieceMap) (f : Flow) → sort_in f ≡ sort_in (word_gives (Word.Piece (PieceWord.Map m)) f)
map_out PieceMap.Reverse f = refl
map_out (PieceMap.Prefix literal) f = keeps_sort f _
map_out (PieceMap.Suffix literal) f = keeps_sort f _

piece_out : (w : PieceWord) (f : Flow) → (piece_word w).gives (sort_in f) ≡ sort_in (word_gives (Word.Piece w) f)
piece_out (PieceWord.Map m) f = map_out m f
piece_out (PieceWord.Intersperse literal) f = keeps_sort f _
piece_out _ f = refl

cut_out : (f : Flow) (n : ℕ) → is_pieces f ≡ false → option_map pieces_of (sort_in f) ≡ sort_in (cut_into f n)
cut_out None n e = refl
cut_out (Some Kind.Bytes) n e = refl
cut_out (Some Kind.Chars) n e = refl
cut_out (Some (Kind.Blocks m)) n e = let f : ⊥ = cc in absurd f
cut_out (Some (Kind.Texts m)) n e = let f : ⊥ = cc in absurd f

flat_out : (f : Flow) → is_cut f ≡ false → option_map elements_of (sort_in f) ≡ sort_in (flattened f)
flat_out None e = refl
flat_out (Some Kind.Bytes) e = let f : ⊥ = cc in absurd f
flat_out (Some Kind.Chars) e = let f : ⊥ = cc in absurd f
flat_out (Some (Kind.Blocks m)) e = refl
flat_out (Some (Kind.Texts m)) e = refl

split_out : (w : SplitWord) (f : Flow) → word_fails (Word.Split w) f NeedsElements ≡ false → word_fails (Word.Split w) f SeesChunks ≡ false
    → (split_word w).gives (sort_in f) ≡ sort_in (word_gives (Word.Split w) f)
split_out (SplitWord.Lines n) f e k = cut_out f n e
split_out (SplitWord.Split c n) f e k = cut_out f n e
split_out (SplitWord.Exact n) f e k = cut_out f n e
split_out (SplitWord.ChunksOf n) f e k = cut_out f n e
split_out SplitWord.Flat f e k = flat_out f k
split_out SplitWord.Unlines f e k = flat_out f k

text_out : (w : TextWord) (f : Flow) → (text_word w).gives (sort_in f) ≡ sort_in (word_gives (Word.Text w) f)
text_out TextWord.Utf8 f = refl
text_out _ f = refl

base_out : (w : BaseWord) (f : Flow) → (base_word w).gives (sort_in f) ≡ sort_in (word_gives (Word.Base w) f)
base_out BaseWord.HexEncode f = refl
base_out _ f = refl

source_out : (w : SourceWord) (f : Flow) → (source_word w).gives (sort_in f) ≡ sort_in (word_gives (Word.Source w) f)
source_out SourceWord.Stdin f = refl
source_out _ f = refl

sink_out : (w : SinkWord) (f : Flow) → (sink_word w).gives (sort_in f) ≡ sort_in (word_gives (Word.Sink w) f)
sink_out SinkWord.Stdout f = refl
sink_out _ f = refl

pub word_output : (w : Word) (f : Flow) → ((k : RefusalKind) → word_fails w f k ≡ false) → (word_meaning w).gives (sort_in f) ≡ sort_in (word_gives w f)
word_output (Word.Elem w) f h = elem_out w f
word_output (Word.Piece w) f h = piece_out w f
word_output (Word.Split w) f h = split_out w f (h NeedsElements) (h SeesChunks)
word_output (Word.Text w) f h = text_out w f
word_output (Word.Base w) f h = base_out w f
word_output (Word.Source w) f h = source_out w f
word_output (Word.Sink w) f h = sink_out w f
