-- A splitter of bytes, words that pass pieces on or drop them, and a word that takes the pieces, as words of a script.
use Rattle.std.specs.Prelude.{◌≡◌, ◌<◌, ◌≤◌, ℕ, true, false, List, [], ◌∷◌, ◌++◌, map, Some, None}
use Rattle.cd_elem.specs.Ascii.{newline}
use Rattle.cd_elem.specs.Limits.{chunk_limit}
use Rattle.cd_elem.specs.declared.word.Word.{Word}
use Rattle.cd_elem.specs.declared.word.PieceWord.{PieceWord}
use Rattle.cd_elem.specs.declared.word.SplitWord.{SplitWord}
use Rattle.cd_meaning.specs.Meaning.{Meaning, piped}
use Rattle.cd_meaning.specs.Pipes.{all_of}
use Rattle.cd_meaning.specs.WordMeanings.{word_meaning}
use Rattle.cd_split.specs.declared.rule.CutRule.{CutRule}
use Rattle.cd_slices.specs.declared.sieve.Sieve.{Sieve}
use Rattle.cd_slices.specs.declared.sieve.Sieve.TheVariants as sieve
use Rattle.cd_slices.specs.declared.tail.SliceEnd.{SliceEnd}
use Rattle.cd_slices.specs.declared.tail.SliceEnd.TheVariants as last

-- ---- words

-- the word of a sieve that has met no piece
abbrev pub sieve_word : Sieve → Word
sieve_word sieve.Pass = Word.Piece PieceWord.Pass
sieve_word (sieve.Take n) = Word.Piece (PieceWord.Take n)
sieve_word (sieve.TakeWhile t) = Word.Piece (PieceWord.TakeWhile t)
sieve_word (sieve.Filter t) = Word.Piece (PieceWord.Filter t)

-- of what takes the pieces, where none has come
abbrev pub end_word : SliceEnd → Word
end_word (last.Count n) = Word.Piece PieceWord.Length
end_word (last.Join false) = Word.Split SplitWord.Flat
end_word (last.Join true) = Word.Split SplitWord.Unlines

-- no piece has come
abbrev pub IsFirst : SliceEnd → Type 0
IsFirst (last.Count n) = n ≡ 0
IsFirst (last.Join lines) = Unit {0}

-- it cuts elements into pieces
abbrev pub IsCutter : SplitWord → Type 0
IsCutter SplitWord.Flat = ⊥
IsCutter SplitWord.Unlines = ⊥
IsCutter _ = Unit {0}

-- the greatest length of a piece, which is the bound of the word
abbrev pub bound_of : SplitWord → ℕ
bound_of (SplitWord.Lines n) = n
bound_of (SplitWord.Split separator n) = n
bound_of (SplitWord.Exact n) = n
bound_of (SplitWord.ChunksOf n) = n
bound_of SplitWord.Flat = 0
bound_of SplitWord.Unlines = 0

-- it ends lines of bytes at a character of ASCII
abbrev pub IsAscii : SplitWord → Type 0
IsAscii (SplitWord.Split separator n) = separator ≤ 127
IsAscii _ = Unit {0}

-- its number and its separator are in their ranges
abbrev pub HasRange : SplitWord → Type 0
HasRange w = (0 < bound_of w) × (bound_of w ≤ chunk_limit) × IsAscii w

-- by what it cuts
abbrev pub rule_of : SplitWord → CutRule
rule_of (SplitWord.Lines n) = record { separator = Some newline; short = true; most = n }
rule_of (SplitWord.Split separator n) = record { separator = Some separator; short = true; most = n }
rule_of (SplitWord.Exact n) = record { separator = None; short = false; most = n }
rule_of (SplitWord.ChunksOf n) = record { separator = None; short = true; most = n }
rule_of SplitWord.Flat = record { separator = None; short = false; most = 0 }
rule_of SplitWord.Unlines = record { separator = None; short = false; most = 0 }

-- ---- the chain

abbrev pub words_of : SplitWord → List Sieve → SliceEnd → List Word
words_of cut ws k = Word.Split cut ∷ (map sieve_word ws ++ end_word k ∷ [])

abbrev pub chain_meaning : SplitWord → List Sieve → SliceEnd → Meaning
chain_meaning cut ws k = all_of piped (map word_meaning (words_of cut ws k))
