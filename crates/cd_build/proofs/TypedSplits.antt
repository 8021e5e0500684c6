-- What the typing of a splitter says to those who make its node.
use Rattle.std.proofs.Common.{◌≡◌, ℕ, nat_lt, nat_le, true, false, ◌&&◌, IsTrue, Some, refl}
use Rattle.std.proofs.lemmas.Bool.{ltb-true, ltb-false, leb-true}
use Rattle.cd_elem.specs.Limits.{chunk_limit}
use Rattle.cd_elem.specs.declared.kind.Kind.{Kind}
use Rattle.cd_elem.specs.declared.word.Word.{Word}
use Rattle.cd_elem.specs.declared.word.SplitWord.{SplitWord}
use Rattle.cd_split.specs.Cutting.{SeparatorFits, pieces_to}
use Rattle.cd_split.specs.Joining.{flattened as flattened_kind}
use Rattle.cd_split.specs.Splitting.{HasType, IsLength, bound_of, gives_of}
use Rattle.cd_step.specs.Parts.{pieces_at, sort_at}
use Rattle.cd_types.specs.declared.refusal.RefusalKind.TheVariants.{KindMismatch, SeesChunks, NeedsElements}
use Rattle.cd_types.specs.Flows.{Flow, cut_into, flattened, is_bytes, is_pieces}
use Rattle.cd_types.specs.WordTypes.{word_bound, word_gives}
use Rattle.cd_build.specs.Built.{is_length, is_split_in_range}
use Rattle.cd_build.specs.Builds.{IsPassed}
use Rattle.cd_build.proofs.Trees.{both}
use Rattle.cd_build.proofs.TypedPieces.{not_cut}
use Rattle.cd_build.proofs.TypedWords.{of_and}

not_pieces : (k : Kind) → is_pieces (Some k) ≡ false → pieces_at k ≡ false
not_pieces Kind.Bytes e = refl
not_pieces Kind.Chars e = refl
not_pieces (Kind.Blocks m) e = e
not_pieces (Kind.Texts m) e = e

in_range : (n : ℕ) → IsTrue (is_length n) → IsLength n
in_range n r = let b = both (nat_lt 0 n) (nat_le n chunk_limit) r in (ltb-true 0 n b.0, leb-true n chunk_limit b.1)

-- a separator of bytes is one of ASCII
separator_fits : (separator : ℕ) (k : Kind) → (nat_lt 127 separator && is_bytes (Some k)) ≡ false → SeparatorFits (Some separator) (sort_at k)
separator_fits separator Kind.Bytes e = λ s. ltb-false 127 separator (of_and (nat_lt 127 separator) e)
separator_fits separator Kind.Chars e = λ s. let no : ⊥ = cc in absurd no
separator_fits separator (Kind.Blocks m) e = λ s. let no : ⊥ = cc in absurd no
separator_fits separator (Kind.Texts m) e = λ s. let no : ⊥ = cc in absurd no

pub split_has_type : (w : SplitWord) (k : Kind) → IsPassed (Word.Split w) (Some k) → IsTrue (is_split_in_range w) → HasType w k
split_has_type (SplitWord.Lines n) k h r = (not_pieces k (h NeedsElements), in_range n r)
split_has_type (SplitWord.Split separator n) k h r = (not_pieces k (h NeedsElements), in_range n r, separator_fits separator k (h KindMismatch))
split_has_type (SplitWord.Exact n) k h r = (not_pieces k (h NeedsElements), in_range n r)
split_has_type (SplitWord.ChunksOf n) k h r = (not_pieces k (h NeedsElements), in_range n r)
split_has_type SplitWord.Flat k h r = not_cut k (h SeesChunks)
split_has_type SplitWord.Unlines k h r = not_cut k (h SeesChunks)

cut_so : (n : ℕ) (k : Kind) → pieces_at k ≡ false → Some (pieces_to n k) ≡ cut_into (Some k) n
cut_so n Kind.Bytes e = refl
cut_so n Kind.Chars e = refl
cut_so n (Kind.Blocks m) e = let no : ⊥ = cc in absurd no
cut_so n (Kind.Texts m) e = let no : ⊥ = cc in absurd no

flat_so : (k : Kind) → pieces_at k ≡ true → Some (flattened_kind k) ≡ flattened (Some k)
flat_so Kind.Bytes e = let no : ⊥ = cc in absurd no
flat_so Kind.Chars e = let no : ⊥ = cc in absurd no
flat_so (Kind.Blocks m) e = refl
flat_so (Kind.Texts m) e = refl

pub split_gives : (w : SplitWord) (k : Kind) → HasType w k → Some (gives_of w k) ≡ word_gives (Word.Split w) (Some k)
split_gives (SplitWord.Lines n) k t = cut_so n k t.0
split_gives (SplitWord.Split separator n) k t = cut_so n k t.0
split_gives (SplitWord.Exact n) k t = cut_so n k t.0
split_gives (SplitWord.ChunksOf n) k t = cut_so n k t.0
split_gives SplitWord.Flat k t = flat_so k t
split_gives SplitWord.Unlines k t = flat_so k t

pub split_bound : (w : SplitWord) (f : Flow) → bound_of w ≡ word_bound (Word.Split w) f
split_bound SplitWord.Flat f = refl
split_bound _ f = refl
