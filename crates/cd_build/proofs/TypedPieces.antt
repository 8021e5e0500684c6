-- What the typing of a piece word and of a literal says to those who make its node.
use Rattle.std.proofs.Common.{◌≡◌, ◌≢◌, ℕ, ◌+◌, ◌*◌, ◌≤◌, max, nat_lt, true, false, IsTrue, List, length, Some, None, refl, ap, sym, subst}
use Rattle.std.proofs.lemmas.Bool.{ltb-false, leb-true}
use Rattle.std.specs.Str.{chars}
use Rattle.cd_elem.specs.Limits.{piece_limit, repeat_limit, collect_limit}
use Rattle.cd_elem.specs.declared.kind.Kind.{Kind}
use Rattle.cd_elem.specs.declared.word.Word.{Word}
use Rattle.cd_elem.specs.declared.word.PieceWord.{PieceWord}
use Rattle.cd_elem.specs.declared.word.PieceMap.{PieceMap}
use Rattle.cd_elem.specs.declared.word.SourceWord.{SourceWord}
use Rattle.cd_meaning.specs.Sorts.{literal_at}
use Rattle.cd_pieces.specs.Carried as pieces
use Rattle.cd_pieces.specs.Literals as literals
use Rattle.cd_step.specs.Parts.{bound_at, pieces_at, sort_at}
use Rattle.cd_types.specs.declared.refusal.RefusalKind.TheVariants.{SeesChunks, BoundTooLarge}
use Rattle.cd_types.specs.Flows.{Flow, is_cut, kind_bound, kind_with, larger, piece_bound, sort_in}
use Rattle.cd_types.specs.WordTypes.{length_in, word_bound, word_gives}
use Rattle.cd_build.specs.Built.{is_piece_in_range}
use Rattle.cd_build.specs.Builds.{IsPassed}
use Rattle.cd_build.proofs.Outputs.{larger_is}

-- ---- kinds

pub sort_is : (k : Kind) → sort_in (Some k) ≡ Some (sort_at k)
sort_is Kind.Bytes = refl
sort_is Kind.Chars = refl
sort_is (Kind.Blocks m) = refl
sort_is (Kind.Texts m) = refl

same_bound : (k : Kind) → kind_bound k ≡ bound_at k
same_bound Kind.Bytes = refl
same_bound Kind.Chars = refl
same_bound (Kind.Blocks m) = refl
same_bound (Kind.Texts m) = refl

pub not_cut : (k : Kind) → is_cut (Some k) ≡ false → pieces_at k ≡ true
not_cut Kind.Bytes e = let no : ⊥ = cc in absurd no
not_cut Kind.Chars e = let no : ⊥ = cc in absurd no
not_cut (Kind.Blocks m) e = refl
not_cut (Kind.Texts m) e = refl

-- ---- piece words

prefixed : (l : List ℕ) (k : Kind) → pieces.map_gives (PieceMap.Prefix l) k ≡ kind_with k (kind_bound k + length_in (Some k) l)
prefixed l Kind.Bytes = refl
prefixed l Kind.Chars = refl
prefixed l (Kind.Blocks m) = refl
prefixed l (Kind.Texts m) = refl

interspersed : (l : List ℕ) (k : Kind) → pieces.widened k (max (bound_at k) (length (literal_at (sort_at k) l))) ≡ kind_with k (larger (kind_bound k) (length_in (Some k) l))
interspersed l Kind.Bytes = refl
interspersed l Kind.Chars = refl
interspersed l (Kind.Blocks m) = ap (λ (n : ℕ). Kind.Blocks n) (sym (larger_is m (length l)))
interspersed l (Kind.Texts m) = ap (λ (n : ℕ). Kind.Texts n) (sym (larger_is m (length (chars l))))

pub piece_gives : (w : PieceWord) (k : Kind) → pieces.word_gives w k ≡ word_gives (Word.Piece w) (Some k)
piece_gives PieceWord.Pass k = refl
piece_gives (PieceWord.Take n) k = refl
piece_gives (PieceWord.TakeWhile t) k = refl
piece_gives (PieceWord.Filter t) k = refl
piece_gives (PieceWord.Repeat n) k = refl
piece_gives (PieceWord.Map (PieceMap.Prefix l)) k = ap (λ (j : Kind). Some j) (prefixed l k)
piece_gives (PieceWord.Map (PieceMap.Suffix l)) k = ap (λ (j : Kind). Some j) (prefixed l k)
piece_gives (PieceWord.Map PieceMap.Reverse) k = refl
piece_gives (PieceWord.Intersperse l) k = ap (λ (j : Kind). Some j) (interspersed l k)
piece_gives _ k = refl

pub piece_bound_is : (w : PieceWord) (k : Kind) → pieces.bound_of w k ≡ word_bound (Word.Piece w) (Some k)
piece_bound_is PieceWord.Last k = ap (λ (n : ℕ). n + 1) (sym (same_bound k))
piece_bound_is (PieceWord.Collect n) k = ap (λ (m : ℕ). n * (m + 1)) (sym (same_bound k))
piece_bound_is _ k = refl

in_range : (w : PieceWord) → IsTrue (is_piece_in_range w) → pieces.IsInRange w
in_range (PieceWord.Repeat n) r = leb-true n repeat_limit r
in_range (PieceWord.Collect n) r = leb-true n collect_limit r
in_range _ r = tt

may_flow : (f : Flow) → nat_lt piece_limit (piece_bound f) ≡ false → pieces.MayFlow f
may_flow None e = tt
may_flow (Some k) e = subst (λ (n : ℕ). n ≤ piece_limit) (same_bound k) (ltb-false piece_limit (kind_bound k) e)

pub piece_has_type : (w : PieceWord) (k : Kind) → IsPassed (Word.Piece w) (Some k) → IsTrue (is_piece_in_range w) → pieces.HasType w k
piece_has_type w k h r =
    (not_cut k (h SeesChunks), in_range w r, subst pieces.MayFlow (sym (piece_gives w k)) (may_flow (word_gives (Word.Piece w) (Some k)) (h BoundTooLarge)))

-- ---- literals

pub literal_gives : (w : SourceWord) (f : Flow) → Some (literals.literal_kind w) ≡ word_gives (Word.Source w) f
literal_gives SourceWord.Stdin f = refl
literal_gives _ f = refl

-- the word is no site
pub literal_has_type : (w : SourceWord) (f : Flow) → ((name : List ℕ) → w ≢ SourceWord.SourceFile name) → w ≢ SourceWord.Stdin → IsPassed (Word.Source w) f → literals.HasType w
literal_has_type w f file stdin h = by w file stdin (may_flow (Some (literals.literal_kind w)) (subst (λ (g : Flow). nat_lt piece_limit (piece_bound g) ≡ false) (sym (literal_gives w f)) (h BoundTooLarge))) where
  by : (w : SourceWord) → ((name : List ℕ) → w ≢ SourceWord.SourceFile name) → w ≢ SourceWord.Stdin → bound_at (literals.literal_kind w) ≤ piece_limit → literals.HasType w
  by (SourceWord.SourceFile name) file stdin l = absurd (file name refl)
  by SourceWord.Stdin file stdin l = absurd (stdin refl)
  by _ file stdin l = l
