-- The splitters as the rules say them: a whole list is cut into lines, and a line, or the list, into pieces of n. `Splitters` has them in the form that proofs use.
use Rattle.std.specs.Prelude.{ℕ, ◌+◌, ◌*◌, ◌/◌, ◌==◌, List, [], ◌∷◌, ◌++◌, length, map, take, drop}
use Rattle.std.specs.List.{range_with_len, slice_split}
use Rattle.cd_meaning.specs.Stream.{Item, Value, End, Ended, Halted, Out}
use Rattle.cd_meaning.specs.Run.{Run, Then, Component, at_need, past}
use Rattle.cd_meaning.specs.RunShapes.{number, piece}
use Rattle.cd_meaning.specs.Laws.{cut}

-- A piece, and the number of the element at which it comes. The end of the list counts as one element more.
pub record PieceAt : Type 0 where
  pub at : ℕ
  pub held : List Item

abbrev pub comes_at : ℕ → List Item → PieceAt
comes_at at held = record { at = at; held = held }

-- The whole pieces of a list before which so many elements stand, each at its last element: the k-th is n elements from k * n on. Of 0 elements, which no script asks for, there is none.
abbrev pub whole_pieces : ℕ → ℕ → List Item → List PieceAt
whole_pieces n before xs = map (λ k. comes_at (before + (k + 1) * n) (take n (drop (k * n) xs))) (range_with_len 0 (length xs / n))

-- what stands behind them, which is shorter
abbrev pub short_rest : ℕ → List Item → List Item
short_rest n xs = drop (length xs / n * n) xs

-- elements that are a piece where there are any
abbrev pub rest_piece : ℕ → List Item → List PieceAt
rest_piece at [] = []
rest_piece at (x ∷ xs) = comes_at at (x ∷ xs) ∷ []

-- the whole pieces, and the rest at the element behind the list
abbrev pub all_pieces : ℕ → ℕ → List Item → List PieceAt
all_pieces n before xs = whole_pieces n before xs ++ rest_piece (before + length xs + 1) (short_rest n xs)

-- of a line that a separator ends: where it is empty, it is one empty piece
abbrev pub line_pieces : ℕ → ℕ → List Item → List PieceAt
line_pieces n before [] = comes_at (before + 1) [] ∷ []
line_pieces n before (x ∷ xs) = all_pieces n before (x ∷ xs)

-- of what stands between separators, which is one part at least; what stands behind the last one is a line only where it is not empty
abbrev pub pieces_of_lines : ℕ → ℕ → List (List Item) → List PieceAt
pieces_of_lines n before [] = []
pieces_of_lines n before (last ∷ []) = all_pieces n before last
pieces_of_lines n before (line ∷ next ∷ more) = line_pieces n before line ++ pieces_of_lines n (before + length line + 1) (next ∷ more)

-- ---- their runs

-- pieces of a list of n elements, and what comes behind them
abbrev pub pieces_out : ℕ → List PieceAt → Run → Run
pieces_out n [] r = r
pieces_out n (p ∷ ps) r = Then (at_need n p.at) (Out (piece p.held)) (pieces_out n ps r)

-- of the run on n values that end, what is known where they end so
abbrev pub known_of : ℕ → End → Run → Run
known_of n Ended r = r
known_of n (Halted h) r = cut n h r

-- a word that gives these pieces of its input, and ends at the end
abbrev pub gives_pieces : (List Item → List PieceAt) → Component
gives_pieces pieces xs e = known_of (length xs) e (pieces_out (length xs) (pieces xs) (past (length xs) Ended Value.Unit))

abbrev pub plain_exact : ℕ → Component
plain_exact n = gives_pieces (whole_pieces n 0)

abbrev pub plain_chunks_of : ℕ → Component
plain_chunks_of n = gives_pieces (all_pieces n 0)

abbrev pub plain_split : ℕ → ℕ → Component
plain_split separator n = gives_pieces (λ xs. pieces_of_lines n 0 (slice_split (λ x. number x == separator) xs))
