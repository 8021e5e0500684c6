-- The kinds of streams by the sorts of their chunks, and chunks of cut streams.
use Rattle.std.specs.Prelude.{◌≡◌, ℕ, ◌<◌, ◌≤◌, List, [], length, map, Option, Some, None}
use Rattle.cd_elem.specs.Limits.{chunk_limit, piece_limit}
use Rattle.cd_elem.specs.declared.kind.Kind.{Kind}
use Rattle.cd_elem.specs.declared.kind.Kind.TheVariants.{Bytes, Chars, Blocks, Texts}
use Rattle.cd_meaning.specs.Stream.{Sort, Item, Elem}
use Rattle.cd_step.specs.Parts.{Chunk}

-- The kind of a stream by the sort of its chunks. Of pieces it is the widest, since a word that takes pieces takes each.
abbrev pub kind_of : Sort → Kind
kind_of Sort.Bytes = Bytes
kind_of Sort.Chars = Chars
kind_of Sort.Block = Blocks piece_limit
kind_of Sort.Text = Texts piece_limit

-- a chunk of these, None where there are none
abbrev pub IsChunkOf : Sort → List ℕ → Option Chunk → Type 0
IsChunkOf k numbers None = numbers ≡ []
IsChunkOf k numbers (Some c) = (c ≡ (k, numbers)) × (0 < length numbers) × (length numbers ≤ chunk_limit)

-- numbers as the values of a cut stream
abbrev pub elems : List ℕ → List Item
elems numbers = map Elem numbers
