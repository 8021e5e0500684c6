-- The words that give what stands in the script: which have a type, what they give, and of which kind.
use Rattle.std.specs.Prelude.{ℕ, ◌≤◌, nat_lt, if◌then◌else◌, List, [], ◌∷◌, length, map, replicate}
use Rattle.std.specs.List.{fold}
use Rattle.std.specs.Str.{chars}
use Rattle.cd_elem.specs.Limits.{piece_limit}
use Rattle.cd_elem.specs.declared.kind.Kind.{Kind}
use Rattle.cd_elem.specs.declared.kind.Kind.TheVariants.{Bytes, Chars, Blocks, Texts}
use Rattle.cd_elem.specs.declared.word.SourceWord.{SourceWord}
use Rattle.cd_meaning.specs.Stream.{Sort, Item}
use Rattle.cd_meaning.specs.Sorts.{elements_at, piece_at, pieces_at}
use Rattle.cd_meaning.specs.Sources.{decimals}
use Rattle.cd_step.specs.Parts.{Chunk, IsChunk, bound_at}

-- ---- chunks

-- a literal as one piece
abbrev pub block_of : List ℕ → Chunk
block_of literal = (Sort.Block, literal)

abbrev pub text_of : List ℕ → Chunk
text_of literal = (Sort.Text, chars literal)

-- each is a chunk of this kind
abbrev pub AreChunks : Kind → List Chunk → Type 0
AreChunks k [] = Unit {0}
AreChunks k (c ∷ cs) = IsChunk k c × AreChunks k cs

-- ---- words

abbrev pub larger : ℕ → ℕ → ℕ
larger m n = if nat_lt m n then n else m

-- the greatest of them, or 0
abbrev pub greatest : List ℕ → ℕ
greatest ns = fold larger 0 ns

-- the greatest number of digits of a number of 64 bits
abbrev pub digit_limit : ℕ
digit_limit = 20

-- of what it gives
abbrev pub literal_kind : SourceWord → Kind
literal_kind (SourceWord.SourceFile name) = Bytes
literal_kind SourceWord.Stdin = Bytes
literal_kind (SourceWord.Bytes literal) = Bytes
literal_kind (SourceWord.Text literal) = Chars
literal_kind (SourceWord.Blocks literals) = Blocks (greatest (map length literals))
literal_kind (SourceWord.Texts literals) = Texts (greatest (map (λ l. length (chars l)) literals))
literal_kind (SourceWord.Replicate n literal) = Blocks (length literal)
literal_kind (SourceWord.Range a b) = Blocks digit_limit

-- it reads no site, and its pieces are no longer than a piece may be
abbrev pub HasType : SourceWord → Type 0
HasType (SourceWord.SourceFile name) = ⊥
HasType SourceWord.Stdin = ⊥
HasType w = bound_at (literal_kind w) ≤ piece_limit

-- all that it gives
abbrev pub literal_items : SourceWord → List Item
literal_items (SourceWord.SourceFile name) = []
literal_items SourceWord.Stdin = []
literal_items (SourceWord.Bytes literal) = elements_at Sort.Bytes literal
literal_items (SourceWord.Text literal) = elements_at Sort.Chars literal
literal_items (SourceWord.Blocks literals) = pieces_at Sort.Block literals
literal_items (SourceWord.Texts literals) = pieces_at Sort.Text literals
literal_items (SourceWord.Replicate n literal) = replicate n (piece_at Sort.Block literal)
literal_items (SourceWord.Range a b) = decimals a b
