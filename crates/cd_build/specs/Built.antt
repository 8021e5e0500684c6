-- Which pipes are built: those of all words but the ones between bytes and characters and the base words, `mark`, chains by `|`, and sequences.
use Rattle.std.specs.Prelude.{◌≡◌, ℕ, nat_le, nat_lt, Bool, true, false, ◌&&◌, IsTrue, List, [], ◌∷◌, map}
use Rattle.std.proofs.Common.{◌∙◌, ap, sym}
use Rattle.cd_elem.specs.Limits.{chunk_limit, repeat_limit, collect_limit}
use Rattle.cd_elem.specs.declared.word.Word.{Word}
use Rattle.cd_elem.specs.declared.word.ElemWord.{ElemWord}
use Rattle.cd_elem.specs.declared.word.PieceWord.{PieceWord}
use Rattle.cd_elem.specs.declared.word.SplitWord.{SplitWord}
use Rattle.cd_elem.specs.declared.script.Join.{Join}
use Rattle.cd_elem.specs.declared.script.Pipe.{Pipe}
use Rattle.cd_elem.specs.declared.script.Pipe.TheVariants as pipe
use Rattle.cd_elem.specs.declared.script.Pipe.TheOpen.{Pipe-F}
use Rattle.cd_elem.specs.declared.script.Pipe.TheFolds.{fold-Pipe, fold-roll-Pipe}

-- ---- words whose numbers are in their ranges

abbrev pub is_in_range : ElemWord → Bool
is_in_range (ElemWord.RepeatE n) = nat_le n repeat_limit
is_in_range (ElemWord.CollectE n) = nat_le n collect_limit
is_in_range _ = true

abbrev pub is_piece_in_range : PieceWord → Bool
is_piece_in_range (PieceWord.Repeat n) = nat_le n repeat_limit
is_piece_in_range (PieceWord.Collect n) = nat_le n collect_limit
is_piece_in_range _ = true

-- the greatest length of a piece that elements are cut into
abbrev pub is_length : ℕ → Bool
is_length n = nat_lt 0 n && nat_le n chunk_limit

abbrev pub is_split_in_range : SplitWord → Bool
is_split_in_range (SplitWord.Lines n) = is_length n
is_split_in_range (SplitWord.Split separator n) = is_length n
is_split_in_range (SplitWord.Exact n) = is_length n
is_split_in_range (SplitWord.ChunksOf n) = is_length n
is_split_in_range SplitWord.Flat = true
is_split_in_range SplitWord.Unlines = true

-- ---- pipes

abbrev pub is_built_word : Word → Bool
is_built_word (Word.Elem w) = is_in_range w
is_built_word (Word.Piece w) = is_piece_in_range w
is_built_word (Word.Split w) = is_split_in_range w
is_built_word (Word.Source w) = true
is_built_word (Word.Sink w) = true
is_built_word _ = false

abbrev pub is_plain : Join → Bool
is_plain Join.Plain = true
is_plain _ = false

abbrev pub all_true : List Bool → Bool
all_true [] = true
all_true (b ∷ more) = b && all_true more

-- there is a member, and each is built
abbrev pub are_built : List Bool → Bool
are_built [] = false
are_built (b ∷ more) = b && all_true more

abbrev pub built_step : Pipe-F Bool → Bool
built_step (Pipe-F.Word w) = is_built_word w
built_step (Pipe-F.Chain join parts) = is_plain join && are_built parts
built_step (Pipe-F.Sequence parts) = are_built parts
built_step (Pipe-F.Mark name body) = body
built_step _ = false

abbrev pub is_built : Pipe → Bool
is_built = fold-Pipe Bool built_step

abbrev pub IsBuilt : Pipe → Type 0
IsBuilt p = IsTrue (is_built p)

-- ---- the fold at each node

pub word_is : (w : Word) → is_built (pipe.Word w) ≡ is_built_word w
word_is w = ap is_built (sym (pipe.rolls-Word w)) ∙ fold-roll-Pipe Bool built_step _

pub chain_is : (join : Join) (parts : List Pipe) → is_built (pipe.Chain join parts) ≡ (is_plain join && are_built (map is_built parts))
chain_is join parts = ap is_built (sym (pipe.rolls-Chain join parts)) ∙ fold-roll-Pipe Bool built_step _

pub sequence_is : (parts : List Pipe) → is_built (pipe.Sequence parts) ≡ are_built (map is_built parts)
sequence_is parts = ap is_built (sym (pipe.rolls-Sequence parts)) ∙ fold-roll-Pipe Bool built_step _

pub mark_is : (name : List ℕ) (p : Pipe) → is_built (pipe.Mark name p) ≡ is_built p
mark_is name p = ap is_built (sym (pipe.rolls-Mark name p)) ∙ fold-roll-Pipe Bool built_step _
