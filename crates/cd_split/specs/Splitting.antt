-- The splitters as one stage, and what the typing asks of them.
use Rattle.std.specs.Prelude.{◌≡◌, ℕ, ◌<◌, ◌≤◌, true, false, [], Some, None}
use Rattle.cd_elem.specs.Limits.{chunk_limit}
use Rattle.cd_elem.specs.declared.kind.Kind.{Kind}
use Rattle.cd_elem.specs.declared.word.SplitWord.{SplitWord}
use Rattle.cd_step.specs.CutChunks.{kind_of}
use Rattle.cd_step.specs.Parts.{Part, pieces_at, sort_at}
use Rattle.cd_step.specs.declared.protocol.Stand.TheVariants as stand
use Rattle.cd_split.specs.declared.rule.CutRule.{CutRule}
use Rattle.cd_split.specs.declared.stage.SplitStage.{SplitStage}
use Rattle.cd_split.specs.declared.stage.SplitStage.TheVariants.{Cut, Join}
use Rattle.cd_split.specs.Cutting.{SeparatorFits, line, pieces_to, sort_of, seen_cutter, cutter_fits, cutter_most, cutter_one}
use Rattle.cd_split.specs.Joining.{flattened, seen_joiner, joiner_fits, joiner_most, joiner_one}

-- the greatest length of a piece is in its range
abbrev pub IsLength : ℕ → Type 0
IsLength n = (0 < n) × (n ≤ chunk_limit)

-- the word has a type on a stream of this kind, and its number is in its range
abbrev pub HasType : SplitWord → Kind → Type 0
HasType (SplitWord.Lines n) k = (pieces_at k ≡ false) × IsLength n
HasType (SplitWord.Split separator n) k = (pieces_at k ≡ false) × IsLength n × SeparatorFits (Some separator) (sort_at k)
HasType (SplitWord.Exact n) k = (pieces_at k ≡ false) × IsLength n
HasType (SplitWord.ChunksOf n) k = (pieces_at k ≡ false) × IsLength n
HasType SplitWord.Flat k = pieces_at k ≡ true
HasType SplitWord.Unlines k = pieces_at k ≡ true

-- the bound of the word
abbrev pub bound_of : SplitWord → ℕ
bound_of (SplitWord.Lines n) = n
bound_of (SplitWord.Split separator n) = n
bound_of (SplitWord.Exact n) = n
bound_of (SplitWord.ChunksOf n) = n
bound_of SplitWord.Flat = 0
bound_of SplitWord.Unlines = 0

-- what it gives where this kind comes to it
abbrev pub gives_of : SplitWord → Kind → Kind
gives_of (SplitWord.Lines n) k = pieces_to n k
gives_of (SplitWord.Split separator n) k = pieces_to n k
gives_of (SplitWord.Exact n) k = pieces_to n k
gives_of (SplitWord.ChunksOf n) k = pieces_to n k
gives_of SplitWord.Flat k = flattened k
gives_of SplitWord.Unlines k = flattened k

-- ---- the stage

abbrev pub seen_stage : SplitStage → Part
seen_stage (Cut cutter) = seen_cutter cutter
seen_stage (Join joiner) = seen_joiner joiner

abbrev pub stage_fits : SplitStage → Type 0
stage_fits (Cut cutter) = cutter_fits cutter
stage_fits (Join joiner) = joiner_fits joiner

abbrev pub stage_most : SplitStage → ℕ
stage_most (Cut cutter) = cutter_most cutter
stage_most (Join joiner) = joiner_most joiner

abbrev pub stage_one : SplitStage → ℕ
stage_one (Cut cutter) = cutter_one cutter
stage_one (Join joiner) = joiner_one joiner

-- it cuts by this rule and has not begun
abbrev pub IsFirstCut : CutRule → Kind → SplitStage → Type 0
IsFirstCut r k (Cut e) = cutter_fits e × (e.stand ≡ stand.Fresh) × (e.told ≡ false) × (e.rule ≡ r) × (line e ≡ (true, [])) × (kind_of (sort_of e.piece) ≡ k) × (e.keep ≡ None)
IsFirstCut r k (Join e) = ⊥
