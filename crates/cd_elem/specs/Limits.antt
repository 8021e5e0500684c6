-- The limits of what flows, and those of the numbers of words that act on it.
use Rattle.std.specs.Prelude.{ℕ}

-- elements in a chunk of a cut stream
abbrev pub chunk_limit : ℕ
chunk_limit = 65536

-- elements in a piece
abbrev pub piece_limit : ℕ
piece_limit = 1048576

-- times that something is repeated
abbrev pub repeat_limit : ℕ
repeat_limit = 4096

-- elements or pieces that are collected
abbrev pub collect_limit : ℕ
collect_limit = 16777216
