-- What a chunk may be: a sort, and beside it the numbers of its elements.
use Rattle.std.specs.Prelude.{ℕ, Bool, true, false, List, length, ◌-◌, ◌<◌, ◌≤◌, IsTrue}
use Rattle.cd_elem.specs.declared.kind.Sort.{Sort}
use Rattle.cd_elem.specs.declared.kind.Sort.TheVariants as sort
use Rattle.cd_elem.specs.declared.chunk.Elements.{Elements}
use Rattle.cd_elem.specs.declared.chunk.Elements.TheVariants as elements
use Rattle.cd_elem.specs.Limits.{chunk_limit, piece_limit}

-- a cut stream's elements, and no piece
abbrev pub is_cut : Sort → Bool
is_cut sort.Bytes = true
is_cut sort.Chars = true
is_cut sort.Block = false
is_cut sort.Text = false

-- the elements are characters, and no bytes
abbrev pub has_chars : Sort → Bool
has_chars sort.Bytes = false
has_chars sort.Chars = true
has_chars sort.Block = false
has_chars sort.Text = true

-- how many elements a chunk of this sort may have
pub record HasSize (of : Sort) (count : ℕ) : Type 0 where
  pub some : IsTrue (is_cut of) → 0 < count
  pub cut : IsTrue (is_cut of) → count ≤ chunk_limit
  pub piece : count ≤ piece_limit

abbrev pub sort_of : Elements → Sort
sort_of (elements.Bytes items) = sort.Bytes
sort_of (elements.Chars items) = sort.Chars
sort_of (elements.Block items) = sort.Block
sort_of (elements.Text items) = sort.Text

abbrev pub numbers_of : Elements → List ℕ
numbers_of (elements.Bytes items) = items
numbers_of (elements.Chars items) = items
numbers_of (elements.Block items) = items
numbers_of (elements.Text items) = items

-- where the skipped elements end, and how many stand behind them
abbrev pub StandsAt : ℕ → Elements → Type 0
StandsAt start held = (start ≤ length (numbers_of held)) × (length (numbers_of held) ≤ piece_limit) × HasSize (sort_of held) (length (numbers_of held) - start)
